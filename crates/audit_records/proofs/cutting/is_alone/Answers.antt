use Rattle.std.proofs.Common.{◌∙◌, ◌==◌, ◌&&◌, ℕ, Bool, List, ap}
use Rattle.tcp_segments.specs.declared.flags.Flags.{Flags}
use Rattle.gate_model.specs.Prelude.{sent_as}
use Rattle.audit_records.specs.Inside.Records.{holds}
use Rattle.audit_records.proofs.cutting.is_alone.Goals as goal

pub returns-clause-answer : goal.returns-clause-answer
returns-clause-answer c =
    let p = c.args.pieces.now in
    let R : ℕ → Flags → List ℕ → Bool =
    λ n f o. holds c.args.came.now
    (sent_as p.datagram p.source p.destination (record { sequence = n; acknowledgement = p.sent.acknowledgement; flags = f; octets = o })) in
    c.is_both.ensures
    ∙ ap (λ (b : Bool). (c.args.count == 0) && b)
    (c.is_segment-same.ensures.answer
    ∙ ap (λ (n : ℕ). R n c.flags.result c.octets.result.now) c.sequence.ensures
    ∙ ap (λ (f : Flags). R p.sent.sequence f c.octets.result.now) c.flags.ensures.is
    ∙ ap (R p.sent.sequence p.sent.flags) c.octets.ensures)
