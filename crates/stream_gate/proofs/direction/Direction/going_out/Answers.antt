use Rattle.std.proofs.Common.{◌≡◌, ◌≤◌, ◌∙◌, ◌⊎◌, ℕ, length, ap, sym, subst, arith}
use Rattle.stream_model.specs.Prelude.{Segment, segment_in, low, high}
use Rattle.compact_stream.specs.Prelude.{CompactSender, standing_kept}
use Rattle.stream_gate.specs.Prelude.{DirectionKept, kept_by, CanCopy}
use Rattle.stream_gate.proofs.Parts.{can_copy}
use Rattle.stream_gate.proofs.direction.Direction.going_out.Goals as goal

pub returns-clause-copies : goal.returns-clause-copies
returns-clause-copies g c = λ less.
    let m = g.D.Dialogue.meaning c.self.inside.dialogue in
    let h : CompactSender =
    kept_by c.self.inside.mss c.self.inside.initial c.self.inside.ended c.self.inside.acked c.self.inside.held c.self.inside.released
    c.self.inside.ledger c.self.inside.recent in
    let s : Segment = segment_in c.args.segment.now in
    let K = ap (λ (d : DirectionKept _). d.kept) c.self.view_is in
    let acked : (h.acked ≤ c.args.old.due) ⊎ (h.ledger.octets_out ≤ c.args.old.due) =
    subst (λ (x : CompactSender). (x.acked ≤ c.args.old.due) ⊎ (x.ledger.octets_out ≤ c.args.old.due)) (sym K) c.requires.acked in
    let first : c.going_out.result.first ≡ low c.args.old (standing_kept h) c.args.start =
    c.going_out.ensures.first ∙ ap (λ (x : CompactSender). low c.args.old (standing_kept x) c.args.start) (sym K) in
    let past : c.going_out.result.past ≡ high c.args.old (standing_kept h) c.args.start (length s.octets) s.flags.fin =
    c.going_out.ensures.past
    ∙ ap (λ (x : CompactSender). high c.args.old (standing_kept x) c.args.start (length s.octets) s.flags.fin) (sym K) in
    subst (λ (x : CompactSender). CanCopy x c.going_out.result.first c.going_out.result.past) K
    (subst (λ (n : ℕ). CanCopy h n c.going_out.result.past) (sym first)
    (subst (λ (n : ℕ). CanCopy h (low c.args.old (standing_kept h) c.args.start) n) (sym past)
    (can_copy m (g.met.D.Dialogue.lawful c.self.inside.dialogue) c.args.old h c.self.invariant.1.octets c.args.start (length s.octets) s.flags.fin
    c.self.invariant.1.keeps c.self.invariant.1.range acked (omega (arith, less, first, past)))))
