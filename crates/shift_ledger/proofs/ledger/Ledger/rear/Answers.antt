use Rattle.std.proofs.Common.{◌≡◌, ◌+◌, ◌-◌, ℕ, true, false, length, drop, sym, ◌∙◌, ap, subst, arith, rules, Bool, nat_lt, nat_le, cond, filter, lt-ltb, le-ltb}
use Rattle.shift_ledger.specs.Prelude.{rear_walk, rear_by, Kept, KeptUnit, StandsFor, kept_of, unit_of}
use Rattle.shift_ledger.proofs.Order.{stops_at, stops_nowhere, entry_at, entry_none}
use Rattle.shift_ledger.proofs.RearWalk.{rear_walk-step, rear_walk-none, rear_walk-kept}
use Rattle.shift_ledger.proofs.ledger.Ledger.rear.Goals as goal

-- which unit answers
abbrev passes : ℕ → KeptUnit → Bool
passes e u = nat_le e (u.start + u.unit)

-- and what
abbrev answer : ℕ → KeptUnit → ℕ
answer e u = cond (nat_lt u.start e) (u.at + length u.image) (u.at - (u.start - e))

pub returns-in-Some : goal.returns-in-Some
returns-in-Some c =
    let l : Kept = kept_of c.self.inside in
    let xs = c.self.inside.changed.items in
    let from = subst (λ (m : Kept). drop c.ended_before.result m.changed ≡ filter (passes c.args.e) m.changed)
    (sym c.self.view_is) c.ended_before.ensures in
    let entry = entry_at xs c.ended_before.result c.in-Some.unit.now (search rules) c.in-Some.ensures.lookup in
    let exact =
    (let t : nat_lt c.in-Some.unit.now.start c.args.e ≡ true = lt-ltb c.in-Some.unit.now.start c.args.e c.if-unit-e.true in rw t
    (omega (arith, c.len.ensures)))
    ∙ sym (stops_at (λ us. rear_walk us l.octets_in l.octets_out c.args.e) (passes c.args.e) (answer c.args.e)
    (rear_walk-step l.octets_in l.octets_out c.args.e) l.changed _ (unit_of c.in-Some.unit.now) c.ended_before.result from entry)
    in record {
      exact = exact ∙ ap (λ (l : Kept). rear_by l c.args.e) c.self.view_is;
      stands = λ h k st from. exact ∙ rear_walk-kept l h k c.args.e (subst (λ (l : Kept). StandsFor l h k) (sym c.self.view_is) st) from;
    }

pub returns-in-Some-2 : goal.returns-in-Some-2
returns-in-Some-2 c =
    let l : Kept = kept_of c.self.inside in
    let xs = c.self.inside.changed.items in
    let from = subst (λ (m : Kept). drop c.ended_before.result m.changed ≡ filter (passes c.args.e) m.changed)
    (sym c.self.view_is) c.ended_before.ensures in
    let entry = entry_at xs c.ended_before.result c.in-Some.unit.now (search rules) c.in-Some.ensures.lookup in
    let exact =
    (let t : nat_lt c.in-Some.unit.now.start c.args.e ≡ false = le-ltb c.in-Some.unit.now.start c.args.e c.if-unit-e.false in rw t
    c.place_before.ensures)
    ∙ sym (stops_at (λ us. rear_walk us l.octets_in l.octets_out c.args.e) (passes c.args.e) (answer c.args.e)
    (rear_walk-step l.octets_in l.octets_out c.args.e) l.changed _ (unit_of c.in-Some.unit.now) c.ended_before.result from entry)
    in record {
      exact = exact ∙ ap (λ (l : Kept). rear_by l c.args.e) c.self.view_is;
      stands = λ h k st from. exact ∙ rear_walk-kept l h k c.args.e (subst (λ (l : Kept). StandsFor l h k) (sym c.self.view_is) st) from;
    }

pub returns-in-None : goal.returns-in-None
returns-in-None c =
    let l : Kept = kept_of c.self.inside in
    let xs = c.self.inside.changed.items in
    let from = subst (λ (m : Kept). drop c.ended_before.result m.changed ≡ filter (passes c.args.e) m.changed)
    (sym c.self.view_is) c.ended_before.ensures in
    let none = entry_none xs c.ended_before.result (search rules) in
    let exact =
    c.place_before-in-None.ensures
    ∙ sym (stops_nowhere (λ us. rear_walk us l.octets_in l.octets_out c.args.e) (passes c.args.e) (answer c.args.e)
    (rear_walk-step l.octets_in l.octets_out c.args.e) l.changed c.ended_before.result from none
    ∙ rear_walk-none l.octets_in l.octets_out c.args.e)
    in record {
      exact = exact ∙ ap (λ (l : Kept). rear_by l c.args.e) c.self.view_is;
      stands = λ h k st from. exact ∙ rear_walk-kept l h k c.args.e (subst (λ (l : Kept). StandsFor l h k) (sym c.self.view_is) st) from;
    }
