-- What goes out of a run is what goes out of its frames that pass, alone.
use Rattle.std.proofs.Common.{◌≡◌, ◌≤◌, ℕ, List, [], ◌∷◌, ◌++◌, map, Option, Some, None, refl, ◌∙◌, ap, arith}
use Rattle.gate_base.specs.Prelude.{Event}
use Rattle.verdicts.specs.Prelude.{first_that_holds}
use Rattle.verdicts.specs.declared.verdict.Verdict.{Verdict}
use Rattle.verdicts.specs.declared.verdict.Verdict.TheVariants.{Pass, Refused, Held}
use Rattle.verdicts.specs.declared.refusal.Refusal.{Refusal}
use Rattle.gate_model.specs.Prelude.{SessionRules, World, at_moment, next, out, out_by, verdict_of, tests}
use Rattle.gate_model.specs.Sifted.{Rise, if_passes, passing, all_out}
use Rattle.gate_model.specs.Verdict.{verdict}
use Rattle.gate_model.proofs.Traces.{no_trace}

not_held : (o : Option Refusal) → verdict_of o ≡ Held → ⊥
not_held None h = cc
not_held (Some r) h = cc

never_held : {S : Type 0} (rules : SessionRules S) (w : World S) (e : Event) → verdict rules w e ≡ Held → ⊥
unfolding verdict
never_held rules w e h = not_held (first_that_holds (tests rules (at_moment w e.moment) e)) h

pub sooner : (events : List Event) (m n : ℕ) → m ≤ n → Rise n events → Rise m events
sooner [] m n least rise = tt
sooner (e ∷ events) m n least rise = let more = rise.0 in (omega arith, rise.1)

passing_rise : {S : Type 0} (rules : SessionRules S) (events : List Event) (w : World S) (m : ℕ) → Rise m events → Rise m (passing rules w events)
passing_rise rules [] w m rise = tt
passing_rise {S = S} rules (e ∷ events) w m rise =
    by_verdict (verdict rules w e) (passing_rise rules events (next rules w e) e.moment rise.1)
  where
    by_verdict : (v : Verdict) → Rise e.moment (passing rules (next rules w e) events) → Rise m (if_passes v e (passing rules (next rules w e) events))
    by_verdict Pass more = (rise.0, more)
    by_verdict (Refused r) more = sooner (passing rules (next rules w e) events) m e.moment rise.0 more
    by_verdict Held more = sooner (passing rules (next rules w e) events) m e.moment rise.0 more

-- what goes out at an event, beside it
abbrev beside : Event → List (List ℕ) → List (Event × List ℕ)
beside e datagrams = map (λ octets. (e, octets)) datagrams

-- behind a frame that is refused, events give what they give without it
behind_refused : {S : Type 0} (rules : SessionRules S) (w : World S) (e : Event) (r : Refusal) (events : List Event) → verdict rules w e ≡ Refused r
    → Rise e.moment events → all_out rules (next rules w e) events ≡ all_out rules w events
behind_refused rules w e r [] refused rise = refl
behind_refused {S = S} rules w e r (x ∷ events) refused rise =
    let same = no_trace rules w e x r refused rise.0 in
    ap (λ (o : List (List ℕ)). beside x o ++ all_out rules (next rules (next rules w e) x) events) same.1
    ∙ ap (λ (v : World S). beside x (out rules w x) ++ all_out rules v events) same.2

pub sifted : {S : Type 0} (rules : SessionRules S) (events : List Event) (w : World S) (m : ℕ) → Rise m events
    → all_out rules w events ≡ all_out rules w (passing rules w events)
sifted rules [] w m rise = refl
sifted {S = S} rules (e ∷ events) w m rise =
    by_verdict (verdict rules w e) refl (sifted rules events (next rules w e) e.moment rise.1)
  where
    by_verdict : (v : Verdict) → verdict rules w e ≡ v
        → all_out rules (next rules w e) events ≡ all_out rules (next rules w e) (passing rules (next rules w e) events)
        → beside e (out rules w e) ++ all_out rules (next rules w e) events
        ≡ all_out rules w (if_passes v e (passing rules (next rules w e) events))
    by_verdict Pass is later = ap (λ (o : List (Event × List ℕ)). beside e (out rules w e) ++ o) later
    by_verdict (Refused r) is later =
        ap (λ (v : Verdict). beside e (out_by rules (at_moment w e.moment) e v) ++ all_out rules (next rules w e) events) is ∙ later
        ∙ behind_refused rules w e r (passing rules (next rules w e) events) is (passing_rise rules events (next rules w e) e.moment rise.1)
    by_verdict Held is later = absurd (never_held rules w e is)
