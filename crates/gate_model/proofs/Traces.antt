-- A frame that is refused leaves no trace.
use Rattle.std.proofs.Common.{◌≡◌, ◌≤◌, ℕ, Bool, true, false, nat_lt, cond, List, [], ◌∷◌, refl, sym, ◌∙◌, ap, arith, inl, inr}
use Rattle.std.specs.List.{filter}
use Rattle.std.proofs.lemmas.Bool.{or_cases, or_left, or_right, ltb-true, lt-ltb, true≢false}
use Rattle.gate_base.specs.Prelude.{Event}
use Rattle.verdicts.specs.Prelude.{first_that_holds}
use Rattle.verdicts.specs.declared.verdict.Verdict.TheVariants.{Refused}
use Rattle.verdicts.specs.declared.refusal.Refusal.{Refusal}
use Rattle.binding_table.specs.declared.binding.Binding.{Binding}
use Rattle.binding_table.specs.Prelude.{is_live}
use Rattle.tcp_tracker.specs.Prelude.{is_live as is_connected}
use Rattle.tcp_tracker.specs.declared.connection.Connection.{Connection}
use Rattle.gate_model.specs.Prelude.{SessionRules, Tracked, World, at_moment, tests, verdict_of, next_by, next, out_by, out}
use Rattle.gate_model.specs.Verdict.{verdict}

filter_twice : {A : Type 0} (p q : A → Bool) → ((x : A) → q x ≡ true → p x ≡ true) → (xs : List A) → filter q (filter p xs) ≡ filter q xs
filter_twice p q sooner [] = refl
filter_twice {A = A} p q sooner (x ∷ xs) = by_tests (p x) (q x) refl refl (filter_twice p q sooner xs)
  where
    by_tests : (a b : Bool) → p x ≡ a → q x ≡ b → filter q (filter p xs) ≡ filter q xs
        → filter q (cond a (x ∷ filter p xs) (filter p xs)) ≡ cond b (x ∷ filter q xs) (filter q xs)
    by_tests true true e f more = rw f (ap (λ (ys : List A). x ∷ ys) more)
    by_tests true false e f more = rw f more
    by_tests false true e f more = absurd (true≢false (sym (sooner x f) ∙ e))
    by_tests false false e f more = more

lives_sooner : (sooner later : ℕ) (b : Binding) → sooner ≤ later → is_live (record { 0 = later }) b ≡ true → is_live (record { 0 = sooner }) b ≡ true
lives_sooner sooner later b least h = elim (or_cases b.fixed (nat_lt later b.until.0) h) [
  | inl fixed ↦ or_left b.fixed (nat_lt sooner b.until.0) fixed
  | inr less ↦ let before = ltb-true later b.until.0 less in
      or_right b.fixed (nat_lt sooner b.until.0) (lt-ltb sooner b.until.0 (omega (arith, before, least)))
]

connected_sooner : {S : Type 0} (sooner later : ℕ) (c : Connection S) → sooner ≤ later → is_connected (record { 0 = later }) c ≡ true
    → is_connected (record { 0 = sooner }) c ≡ true
connected_sooner sooner later c least h = let before = ltb-true later c.until.0 h in lt-ltb sooner c.until.0 (omega (arith, before, least))

-- what lives at a later moment doesn't ask for an earlier one
pub moments_join : {S : Type 0} (w : World S) (sooner later : ℕ) → sooner ≤ later → at_moment (at_moment w sooner) later ≡ at_moment w later
moments_join {S = S} w sooner later least =
    let bindings = filter_twice (is_live (record { 0 = sooner })) (is_live (record { 0 = later }))
    (λ b. lives_sooner sooner later b least) w.table.entries in
    let connections = filter_twice (is_connected (record { 0 = sooner })) (is_connected (record { 0 = later }))
    (λ (c : Connection (Tracked S)). connected_sooner sooner later c least) w.connections in
    ap (λ (es : List Binding). let v : World S = record {
      clock = later;
      table = record w.table { entries = es };
      connections =
          filter (is_connected (record { 0 = later })) (filter (is_connected (record { 0 = sooner })) w.connections);
      pending = w.pending;
    } in
    v) bindings
    ∙ ap (λ (cs : List (Connection (Tracked S))). let v : World S =
    record {
      clock = later;
      table = record w.table { entries = filter (is_live (record { 0 = later })) w.table.entries };
      connections =
          cs;
      pending = w.pending;
    } in v) connections

pub no_trace : {S : Type 0} (rules : SessionRules S) (w : World S) (e x : Event) (r : Refusal) → verdict rules w e ≡ Refused r
    → e.moment ≤ x.moment → (verdict rules (next rules w e) x ≡ verdict rules w x) × (out rules (next rules w e) x ≡ out rules w x)
    × (next rules (next rules w e) x ≡ next rules w x)
unfolding verdict
no_trace {S = S} rules w e x r refused least =
    let stays : next rules w e ≡ at_moment w e.moment = ap (next_by rules (at_moment w e.moment) e) refused in
    let live : at_moment (next rules w e) x.moment ≡ at_moment w x.moment =
    ap (λ (v : World S). at_moment v x.moment) stays ∙ moments_join w e.moment x.moment least in (
      ap (λ (v : World S). verdict_of (first_that_holds (tests rules v x))) live,
      ap (λ (v : World S). out_by rules v x (verdict_of (first_that_holds (tests rules v x)))) live,
      ap (λ (v : World S). next_by rules v x (verdict_of (first_that_holds (tests rules v x)))) live,
    )
