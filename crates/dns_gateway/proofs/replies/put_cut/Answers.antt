use Rattle.std.proofs.Common.{◌≡◌, ◌∙◌, ℕ, ◌≤◌, List, length, ap, sym, subst}
use Rattle.dns_messages.specs.Writing.{spelling}
use Rattle.dns_gateway.specs.Replies.{cut}
use Rattle.dns_gateway.proofs.Cutting.{cut-short}
use Rattle.dns_gateway.proofs.replies.put_cut.Goals as goal

pub returns-in-Ok-clause-short : goal.returns-in-Ok-clause-short
returns-in-Ok-clause-short c =
    let text : c.in-Ok.octets.items ≡ spelling (cut c.args.message.now) = c.in-Ok.ensures.written ∙ ap spelling c.in_ok-short.ensures.is in
    subst (λ (o : List ℕ). length o ≤ 512) (sym text) (cut-short c.args.message.now c.in_ok-short.ensures.name)
