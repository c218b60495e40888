use Rattle.std.proofs.Common.{◌≡◌, ◌+◌, ◌≤◌, ◌∙◌, ◌++◌, ◌∷◌, [], ℕ, List, Option, None, append_assoc, ap, arith, rules, sym}
use Rattle.dns_names.specs.declared.suffix.Suffix.{Suffix}
use Rattle.dns_names.specs.Inside.Targets.{AreBelow, Rises, one_at_most}
use Rattle.dns_names.proofs.Placing.{below-later, below-push, enters-behind, enters-here, enters-tree, rises-push}
use Rattle.dns_names.proofs.targets.Targets.insert.Goals as goal

pub invariant_of-self-then-self-behind : goal.invariant_of-self-then-self-behind
invariant_of-self-then-self-behind c =
    let is = c.self.invariant in
    let items = c.self.inside.rising.items in
    let entry : Suffix × ℕ = (c.args.suffix, c.args.place) in
    let le : c.self.inside.next ≤ c.args.suffix.behind = search rules in
    let all = below-later items c.self.inside.next c.args.suffix.behind is.1 le in
    let on : Rises (items ++ entry ∷ []) × AreBelow (c.args.suffix.behind + 1) (items ++ entry ∷ []) =
    (rises-push items entry is.0 all, below-push items entry c.args.suffix.behind all (omega arith)) in
    rw c.in_ok-push.ensures.items on

pub returns-then-is_none-clause-enters : goal.returns-then-is_none-clause-enters
returns-then-is_none-clause-enters c =
    let none : c.self.inside.last ≡ None = search rules in
    let behind = c.self.inside.rising.items ++ c.self.inside.others.entries in
    let was : c.args.self.now ≡ behind = sym c.self.view_is ∙ ap (λ (o : Option (Suffix × ℕ)). one_at_most o ++ behind) none in
    rw was (enters-here c.args.suffix c.args.place behind)

pub returns-in_ok-push-clause-enters : goal.returns-in_ok-push-clause-enters
returns-in_ok-push-clause-enters c =
    let s = c.args.suffix in
    let items = c.self.inside.rising.items in
    let others = c.self.inside.others.entries in
    let put : c.push.new.self.items ++ others ≡ items ++ (s, c.args.place) ∷ others =
    ap (λ (es : List (Suffix × ℕ)). es ++ others) c.in_ok-push.ensures.items ∙ append_assoc items ((s, c.args.place) ∷ []) others in
    rw (← c.self.view_is, put) (enters-behind s c.args.place (one_at_most c.self.inside.last) (items ++ others) (items ++ (s, c.args.place) ∷ others)
    (enters-behind s c.args.place items others ((s, c.args.place) ∷ others) (enters-here s c.args.place others)))

pub returns-in_ok-insert-clause-enters : goal.returns-in_ok-insert-clause-enters
returns-in_ok-insert-clause-enters c =
    let s = c.args.suffix in
    let items = c.self.inside.rising.items in
    let old = c.self.inside.others in
    let new = c.insert.new.self in
    rw (← c.self.view_is) (enters-behind s c.args.place (one_at_most c.self.inside.last) (items ++ old.entries) (items ++ new.entries)
    (enters-behind s c.args.place items old.entries new.entries
    (enters-tree s c.args.place old new c.in_ok-insert.ensures.entries c.in_ok-insert.ensures.updates)))
