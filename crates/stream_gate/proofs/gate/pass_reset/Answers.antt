use Rattle.std.proofs.Common.{◌≡◌, ◌-◌, ℕ, List, length, map, min, max, sym, ◌∙◌, ap}
use Rattle.stream_model.specs.Prelude.{Segment, Sent, segment_in, in_pieces, reset_sent, limit_of}
use Rattle.compact_stream.specs.Prelude.{CompactSender, standing_kept}
use Rattle.stream_gate.specs.Prelude.{datagram}
use Rattle.stream_gate.specs.Gates.{headers_of}
use Rattle.stream_gate.proofs.gate.pass_reset.Goals as goal

pub returns-clause-out : goal.returns-clause-out
returns-clause-out g c =
    let s : Segment = segment_in c.args.passing.segment.now in
    let own : CompactSender = c.args.own.now.kept in
    let other : CompactSender = c.args.other.now.kept in
    let limit : c.limit_of-limit.result ≡ limit_of other.mss s =
    c.limit_of-limit.ensures
    ∙ ap (λ (n : ℕ). min (max n 88) 65495 - length c.options.result.now) c.mss.ensures
    ∙ ap (λ (xs : List ℕ). min (max other.mss 88) 65495 - length xs) c.options.ensures.octets in
    c.put.ensures
    ∙ ap (λ (x : Sent). map (datagram (headers_of c.args.passing.model.now c.args.passing.segment.now.header)) (in_pieces x))
    (sym c.going_reset-going.ensures.sent ∙ ap (reset_sent (standing_kept own) (standing_kept other) s) limit)
