use Rattle.std.proofs.Common.{◌∷◌, [], List, ℕ, ap, ◌∙◌}
use Rattle.event_payloads.proofs.DnsTaken.{rebuilt_same}
use Rattle.event_payloads.proofs.dns.put_reply.Goals as goal

pub returns-in-None : goal.returns-in-None
returns-in-None c =
    rw c.in-None.is
    (c.put_renamed.ensures
    ∙ ap (λ (x : List ℕ). x ∷ [])
    (rebuilt_same c.args.octets.now c.args.source.0 c.args.destination.0 c.requires.can c.requires.protocol c.type_inv.octets))
