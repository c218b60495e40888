use Rattle.std.proofs.Common.{◌≡◌, ◌+◌, ◌-◌, ℕ, length, drop, sym, ◌∙◌, ap, subst, rules, Bool, nat_lt, filter}
use Rattle.shift_ledger.specs.Prelude.{back_walk, back_by, Kept, KeptUnit, StandsFor, kept_of, unit_of}
use Rattle.shift_ledger.proofs.Order.{stops_at, stops_nowhere, entry_at, entry_none}
use Rattle.shift_ledger.proofs.Walks.{back_walk-step, back_walk-none, back_walk-kept}
use Rattle.shift_ledger.proofs.ledger.Ledger.back.Goals as goal

-- which unit answers
abbrev passes : ℕ → KeptUnit → Bool
passes q u = nat_lt q (u.at + length u.image)

-- and what
abbrev answer : ℕ → KeptUnit → ℕ
answer q u = u.start - (u.at - q)

pub returns-in-Some : goal.returns-in-Some
returns-in-Some c =
    let l : Kept = kept_of c.self.inside in
    let xs = c.self.inside.changed.items in
    let from = subst (λ (m : Kept). drop c.whole_below.result m.changed ≡ filter (passes c.args.q) m.changed)
    (sym c.self.view_is) c.whole_below.ensures in
    let entry = entry_at xs c.whole_below.result c.in-Some.unit.now (search rules) c.in-Some.ensures.lookup in
    let exact =
    c.place_before.ensures
    ∙ sym (stops_at (λ us. back_walk us l.octets_in l.octets_out c.args.q) (passes c.args.q) (answer c.args.q)
    (back_walk-step l.octets_in l.octets_out c.args.q) l.changed _ (unit_of c.in-Some.unit.now) c.whole_below.result from entry)
    in record {
      exact = exact ∙ ap (λ (l : Kept). back_by l c.args.q) c.self.view_is;
      stands = λ h k st from up. exact ∙ back_walk-kept l h k c.args.q (subst (λ (l : Kept). StandsFor l h k) (sym c.self.view_is) st) from;
    }

pub returns-in-None : goal.returns-in-None
returns-in-None c =
    let l : Kept = kept_of c.self.inside in
    let xs = c.self.inside.changed.items in
    let from = subst (λ (m : Kept). drop c.whole_below.result m.changed ≡ filter (passes c.args.q) m.changed)
    (sym c.self.view_is) c.whole_below.ensures in
    let none = entry_none xs c.whole_below.result (search rules) in
    let exact =
    c.place_before-in-None.ensures
    ∙ sym (stops_nowhere (λ us. back_walk us l.octets_in l.octets_out c.args.q) (passes c.args.q) (answer c.args.q)
    (back_walk-step l.octets_in l.octets_out c.args.q) l.changed c.whole_below.result from none
    ∙ back_walk-none l.octets_in l.octets_out c.args.q)
    in record {
      exact = exact ∙ ap (λ (l : Kept). back_by l c.args.q) c.self.view_is;
      stands = λ h k st from up. exact ∙ back_walk-kept l h k c.args.q (subst (λ (l : Kept). StandsFor l h k) (sym c.self.view_is) st) from;
    }
