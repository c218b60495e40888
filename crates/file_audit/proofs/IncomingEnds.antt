-- What is read of the given files leaves the incoming captures as they are.
use Rattle.std.proofs.Common.{◌≡◌, ℕ, List, Some, None, IfSome, refl, sym, subst}
use Rattle.gate_base.specs.declared.side.Side.TheVariants.{Left, Right}
use Rattle.gate_desk.specs.declared.slot.Slot.TheVariants.{LeftIn, RightIn, LeftGiven, RightGiven, ReportGiven}
use Rattle.gate_desk.specs.Outside.{Outside, Trace, took, told_at}
use Rattle.pcap_merge.specs.Prelude.{Merging, AtEnds, is_unread, IsSpent}

-- each side of the merge that was read to its end has nothing left
spent_kept : (P Q : List ℕ → Type 0) (m n k : ℕ) (t : Trace) → IfSome t (λ all. P all.left_in × Q all.right_in)
    → IfSome (took ReportGiven k (took RightGiven n (took LeftGiven m t))) (λ all. P all.left_in × Q all.right_in)
unfolding took
spent_kept P Q m n k None h = tt
spent_kept P Q m n k (Some p) h = h

pub ends_kept : (merge : Merging) (m n k : ℕ) (a b : Outside) → b.left ≡ took ReportGiven k (took RightGiven n (took LeftGiven m a.left))
    → AtEnds merge a → AtEnds merge b
ends_kept merge m n k a b e h =
    let spent_left : List ℕ → Type 0 = λ octets. IsSpent (is_unread Left merge.last) merge.left.packet octets in
    let spent_right : List ℕ → Type 0 = λ octets. IsSpent (is_unread Right merge.last) merge.right.packet octets in
    subst (λ (t : Trace). IfSome t (λ all. spent_left all.left_in × spent_right all.right_in)) (sym e)
    (spent_kept spent_left spent_right m n k a.left h)

pub left_kept : (m n k : ℕ) (t : Trace) → told_at (took ReportGiven k (took RightGiven n (took LeftGiven m t))) LeftIn ≡ told_at t LeftIn
unfolding told_at took
left_kept m n k None = refl
left_kept m n k (Some p) = refl

pub right_kept : (m n k : ℕ) (t : Trace) → told_at (took ReportGiven k (took RightGiven n (took LeftGiven m t))) RightIn ≡ told_at t RightIn
unfolding told_at took
right_kept m n k None = refl
right_kept m n k (Some p) = refl
