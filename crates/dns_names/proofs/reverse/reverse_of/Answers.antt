use Rattle.std.proofs.Common.{◌≡◌, ◌∙◌, ◌++◌, ℕ, List, sym, ap, subst, arith}
use Rattle.dns_names.specs.Prelude.{spelled, IsSpelled, numbers, full_reverse, with_address, behind}
use Rattle.dns_names.proofs.Reversing.{Names, renames}
use Rattle.dns_names.proofs.reverse.reverse_of.Goals as goal

renamed : (c : goal.In_ok-extend_from_slice) → Names c.args.address.0 (with_address c.args.address.0 c.args.old.now)
    c.extend_from_slice.new.self.items
renamed c =
    let zone : c.behind_label-zone.result.now ≡ behind (behind (behind (behind (spelled c.args.old.now)))) =
    c.behind_label-zone.ensures ∙ ap behind c.behind_label-3.ensures ∙ ap (λ (x : List ℕ). behind (behind x)) c.behind_label-2.ensures
    ∙ ap (λ (x : List ℕ). behind (behind (behind x))) c.behind_label.ensures
    ∙ ap (λ (x : List ℕ). behind (behind (behind (behind x)))) c.octets.ensures.octets_are in
    renames c.args.address.0 c.args.old.now c.extend_from_slice.new.self.items (omega arith) c.requires
    (c.in_ok-extend_from_slice.ensures.items ∙ ap (λ (x : List ℕ). x ++ c.behind_label-zone.result.now)
    (c.in_ok-put_numbers.ensures ∙ ap (λ (x : List ℕ). x ++ spelled (numbers c.args.address.0)) c.in_ok-octets.ensures.items)
    ∙ ap (λ (x : List ℕ). spelled (numbers c.args.address.0) ++ x) zone)

pub invariant_of-result : goal.invariant_of-result
invariant_of-result c = let r = renamed c in subst (λ (x : List (List ℕ)). IsSpelled c.extend_from_slice.new.self.items x)
    (sym r.labels_are) r.spelled_is

pub returns-clause-exact : goal.returns-clause-exact
returns-clause-exact c = (renamed c).labels_are

pub returns-clause-again : goal.returns-clause-again
returns-clause-again c = let r = renamed c in ap full_reverse r.labels_are ∙ r.again
