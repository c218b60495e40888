use Rattle.std.proofs.Common.{◌≡◌, ◌<◌, ◌++◌, suc, true, None, List, length, take, drop, sym, ◌∙◌, subst, rules, tests, nat_lt, slice_index_or}
use Rattle.std.proofs.lemmas.Bool.{ltb-true, not-false}
use Rattle.dialogue.specs.Prelude.{Entry}
use Rattle.dns_plans.specs.Prelude.{enter_one, entered_all}
use Rattle.dns_plans.proofs.EnteredLemmas.{full_with, drop-next}
use Rattle.dns_plans.proofs.entered.new_entries.Goals as goal

pub returns-then-not-enter_one-clause-few : goal.returns-then-not-enter_one-clause-few
returns-then-not-enter_one-clause-few g c =
    let es : List Entry = g.S.Session.rules.listed c.args.sender.now.host c.args.sender.now.session.now in
    let named : List Entry = c.args.named.now in
    let i = c.loop-one.one-index in
    let d : Entry = (record { 0 = 0 }, None) in
    let one : Entry = slice_index_or named i d in
    let within : i < length named = search (rules, tests) in
    let full : nat_lt 256 (length (enter_one (es ++ c.loop-one.new) one)) ≡ true =
    not-false _ (sym c.enter_one.ensures.room ∙ c.if-not-enter_one.true) in
    let grown : 256 < length (enter_one (entered_all es (take i named)) one) =
    subst (λ (xs : List Entry). 256 < length (enter_one xs one)) c.loop-one.invariant.0
    (ltb-true 256 (length (enter_one (es ++ c.loop-one.new) one)) full) in
    sym (full_with es named (drop (suc i) named) one i (drop-next named i d within) grown)
