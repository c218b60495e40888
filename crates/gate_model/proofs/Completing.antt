-- The units that a segment completes, by the rest that is held before it.
use Rattle.std.proofs.Common.{◌≡◌, ℕ, Bool, true, false, cond, List, [], ◌∷◌, ◌++◌, length, drop, min, refl, sym, ◌∙◌, ap, inl, inr, not, ◌&&◌}
use Rattle.std.proofs.Math.Nat.{min_comm}
use Rattle.std.proofs.Math.Seq.{drop-append_seam, drop-length}
use Rattle.std.proofs.lemmas.Bool.{cases_Bool, cond-true, cond-false}
use Rattle.std.proofs.lemmas.List.{append-nil, drop_min}
use Rattle.gate_base.specs.declared.host.Host.{Host}
use Rattle.dialogue.specs.Prelude.{Entry, IsLawful, is_held, Cut, cut}
use Rattle.dialogue.proofs.CutLemmas.{IsRest-cut}
use Rattle.dialogue.proofs.FirstUnit.{cut-on, cut-rest}
use Rattle.dns_stream.specs.Prelude.{dns_units}
use Rattle.stream_model.specs.Prelude.{Sender, Segment, arrival, start_of, is_data, opened, taken}
use Rattle.stream_model.proofs.Lacking.{own_is}
use Rattle.stream_model.proofs.PassLemmas.{Passes, IsData, nothing_past}
use Rattle.gate_model.specs.Prelude.{completed}

-- a SYN or RST brings no octets
stays : (x y : Bool) (a : Sender) (g : Segment) → (not x && not y) ≡ false → (cond x (opened a g) (cond y a (taken a g))).octets ≡ a.octets
stays true y a g e = refl
stays false true a g e = refl
stays false false a g e = absurd (cc)

pub none_completed : (a : Sender) (g : Segment) → is_data (arrival g) ≡ false → completed a g ≡ []
none_completed a g e =
    ap (λ (s : List ℕ). drop (length (cut a.meaning a.octets).units) (cut a.meaning s).units) (stays g.flags.syn g.flags.reset a g e)
    ∙ drop-length (cut a.meaning a.octets).units

-- what goes on behind a rest completes what it completes behind all octets
pub rest_completed : (a : Sender) (g : Segment) → IsLawful a.meaning → IsData g
    → completed a g ≡ (cut a.meaning ((cut a.meaning a.octets).rest ++ drop (start_of a g).before g.octets)).units
rest_completed a g law d =
    let units : List (List ℕ) = (cut a.meaning a.octets).units in
    ap (λ (x : Sender). drop (length units) (cut a.meaning x.octets).units) (own_is a g d)
    ∙ ap (λ (c : Cut). drop (length units) c.units) (cut-on a.meaning law a.octets (drop (start_of a g).before g.octets))
    ∙ drop-append_seam units (cut a.meaning ((cut a.meaning a.octets).rest ++ drop (start_of a g).before g.octets)).units

-- and behind what is held of it, which is all of it until the stream ends
pub held_completed : (f : Host) (a b : Sender) (g : Segment) (held : List ℕ) → IsLawful a.meaning
    → held ≡ cond a.ended [] (cut a.meaning a.octets).rest → Passes f a b g → IsData g
    → (cut a.meaning (held ++ drop (start_of a g).before g.octets)).units ≡ completed a g
held_completed f a b g held law is p d =
    let new : List ℕ = drop (start_of a g).before g.octets in
    let rest : List ℕ = (cut a.meaning a.octets).rest in
    elim (cases_Bool a.ended) [
      | inl ended ↦
          let nothing : drop (start_of a g).before g.octets ≡ [] = nothing_past f a b g p d ended in
          ap (λ (r : List ℕ). (cut a.meaning (r ++ new)).units) (is ∙ cond-true a.ended [] rest ended)
          ∙ ap (λ (t : List ℕ). (cut a.meaning t).units) nothing
          ∙ sym (rest_completed a g law d ∙ ap (λ (t : List ℕ). (cut a.meaning (rest ++ t)).units) nothing
          ∙ ap (λ (t : List ℕ). (cut a.meaning t).units) (append-nil rest)
          ∙ ap (λ (c : Cut). c.units) (cut-rest a.meaning law rest (IsRest-cut a.meaning law a.octets)))
      | inr lasts ↦
          ap (λ (r : List ℕ). (cut a.meaning (r ++ new)).units) (is ∙ cond-false a.ended [] rest lasts)
          ∙ sym (rest_completed a g law d)
    ]

-- of DNS each rest is held
pub all_held : (es : List Entry) (r : List ℕ) → cond (is_held (dns_units es) r) r [] ≡ r
all_held es [] = refl
all_held es (x ∷ r) = refl

pub drop-min : {X : Type 0} (n : ℕ) (xs : List X) → drop (min (length xs) n) xs ≡ drop n xs
drop-min n xs = ap (λ (m : ℕ). drop m xs) (min_comm (length xs) n) ∙ drop_min n xs
