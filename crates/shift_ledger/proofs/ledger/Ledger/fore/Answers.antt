use Rattle.std.proofs.Common.{◌≡◌, ◌+◌, ◌-◌, ℕ, drop, sym, ◌∙◌, ap, subst, rules, Bool, nat_lt, filter}
use Rattle.shift_ledger.specs.Prelude.{fore_walk, fore_by, Kept, KeptUnit, StandsFor, kept_of, unit_of}
use Rattle.shift_ledger.proofs.Order.{stops_at, stops_nowhere, entry_at, entry_none}
use Rattle.shift_ledger.proofs.Walks.{fore_walk-step, fore_walk-none, fore_walk-kept}
use Rattle.shift_ledger.proofs.ledger.Ledger.fore.Goals as goal

-- which unit answers
abbrev passes : ℕ → KeptUnit → Bool
passes p u = nat_lt p (u.start + u.unit)

-- and what
abbrev answer : ℕ → KeptUnit → ℕ
answer p u = u.at - (u.start - p)

pub returns-in-Some : goal.returns-in-Some
returns-in-Some c =
    let l : Kept = kept_of c.self.inside in
    let xs = c.self.inside.changed.items in
    let from = subst (λ (m : Kept). drop c.ended_at.result m.changed ≡ filter (passes c.args.p) m.changed) (sym c.self.view_is) c.ended_at.ensures in
    let entry = entry_at xs c.ended_at.result c.in-Some.unit.now (search rules) c.in-Some.ensures.lookup in
    let exact =
    c.place_before.ensures
    ∙ sym (stops_at (λ us. fore_walk us l.octets_in l.octets_out c.args.p) (passes c.args.p) (answer c.args.p)
    (fore_walk-step l.octets_in l.octets_out c.args.p) l.changed _ (unit_of c.in-Some.unit.now) c.ended_at.result from entry)
    in record {
      exact = exact ∙ ap (λ (l : Kept). fore_by l c.args.p) c.self.view_is;
      stands = λ h k st from. exact ∙ fore_walk-kept l h k c.args.p (subst (λ (l : Kept). StandsFor l h k) (sym c.self.view_is) st) from;
    }

pub returns-in-None : goal.returns-in-None
returns-in-None c =
    let l : Kept = kept_of c.self.inside in
    let xs = c.self.inside.changed.items in
    let from = subst (λ (m : Kept). drop c.ended_at.result m.changed ≡ filter (passes c.args.p) m.changed) (sym c.self.view_is) c.ended_at.ensures in
    let none = entry_none xs c.ended_at.result (search rules) in
    let exact =
    c.place_before-in-None.ensures
    ∙ sym (stops_nowhere (λ us. fore_walk us l.octets_in l.octets_out c.args.p) (passes c.args.p) (answer c.args.p)
    (fore_walk-step l.octets_in l.octets_out c.args.p) l.changed c.ended_at.result from none ∙ fore_walk-none l.octets_in l.octets_out c.args.p)
    in record {
      exact = exact ∙ ap (λ (l : Kept). fore_by l c.args.p) c.self.view_is;
      stands = λ h k st from. exact ∙ fore_walk-kept l h k c.args.p (subst (λ (l : Kept). StandsFor l h k) (sym c.self.view_is) st) from;
    }
