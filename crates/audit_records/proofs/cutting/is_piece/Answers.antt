use Rattle.std.proofs.Common.{◌∙◌, ◌+◌, ◌%◌, ◌^◌, ◌==◌, ◌&&◌, ℕ, Bool, List, length, take, drop, ap}
use Rattle.tcp_segments.specs.declared.flags.Flags.{Flags}
use Rattle.gate_model.specs.Prelude.{sent_as}
use Rattle.audit_records.specs.Inside.Records.{holds}
use Rattle.audit_records.proofs.cutting.is_piece.Goals as goal

pub returns-clause-answer : goal.returns-clause-answer
returns-clause-answer c =
    let p = c.args.pieces.now in
    let s = p.sent in
    let carried = c.args.carried in
    let size = c.args.size in
    let R : ℕ → Flags → List ℕ → Bool =
    λ n f o. holds c.args.came.now
    (sent_as p.datagram p.source p.destination (record { sequence = n; acknowledgement = s.acknowledgement; flags = f; octets = o })) in
    let W : Flags → ℕ → Flags = λ f n. record f { fin = (carried + size == n) && f.fin; push = c.args.push } in
    let all = c.octets-all.result.now in
    c.is_segment.ensures.answer
    ∙ ap (λ (n : ℕ). R n c.flags_with.result c.cut.result.now) (c.number_behind.ensures ∙ ap (λ (n : ℕ). (n + carried) % 2 ^ 32) c.sequence.ensures)
    ∙ ap (λ (f : Flags). R ((s.sequence + carried) % 2 ^ 32) f c.cut.result.now)
    (c.flags_with.ensures.is ∙ ap (λ (f : Flags). W f (length all)) c.flags.ensures.is)
    ∙ ap (R ((s.sequence + carried) % 2 ^ 32) (W s.flags (length all))) c.cut.ensures
    ∙ ap (λ (o : List ℕ). R ((s.sequence + carried) % 2 ^ 32) (W s.flags (length o)) (take size (drop carried o))) c.octets-all.ensures
