use Rattle.std.proofs.Common.{◌≡◌, ◌<◌, ◌++◌, ◌∷◌, [], true, false, List, length, refl, sym, ◌∙◌, ap, arith, not, nat_lt, is_some, ◌||◌, le-ltb, lt-ltb, length-append}
use Rattle.dialogue.specs.Prelude.{Entry, is_listed}
use Rattle.dialogue.proofs.ListedImages.{image_of_listed}
use Rattle.dialogue.specs.declared.TheConstants.{MOST_ENTRIES}
use Rattle.dns_plans.proofs.EnteredLemmas.{enters_none, enters_new}
use Rattle.dns_plans.specs.Prelude.{enter_one}
use Rattle.dns_plans.proofs.entered.enter_one.Goals as goal
use Rattle.dns_plans.proofs.entered.enter_one.Goals.{then-knows-via-then-knows, then-knows-via-else-knows+then-is_some}

pub returns-then-knows-clause-entered : goal.returns-then-knows-clause-entered
returns-then-knows-clause-entered g c = λ _.
    let es : List Entry = g.S.Session.rules.listed c.args.sender.now.host c.args.sender.now.session.now in
    let new : List Entry = c.args.new.now in
    let address = c.args.one.0.0 in
    let known : (is_listed es address || is_listed new address) ≡ true =
    elim c.then-knows.branch [
      | then-knows-via-then-knows w ↦ ap (λ b. b || is_listed new address) (sym c.knows.ensures ∙ w.if-knows.true)
      | then-knows-via-else-knows+then-is_some w ↦
          ap (λ b. b || is_listed new address) (sym c.knows.ensures ∙ w.if-knows.false)
          ∙ sym (image_of_listed new address) ∙ ap is_some (sym w.image_of.ensures) ∙ sym w.is_some.ensures ∙ w.if-is_some.true
    ] in
    sym (enters_none es new c.args.one known)

pub returns-then-knows-clause-room : goal.returns-then-knows-clause-room
returns-then-knows-clause-room g c =
    let es : List Entry = g.S.Session.rules.listed c.args.sender.now.host c.args.sender.now.session.now in
    let new : List Entry = c.args.new.now in
    ap not (sym (le-ltb MOST_ENTRIES (length (es ++ new)) c.requires.few))
    ∙ ap (λ (xs : List Entry). not (nat_lt MOST_ENTRIES (length xs))) (returns-then-knows-clause-entered g c refl)

pub returns-then-listed-len-eq-MOST_ENTRIES-clause-room : goal.returns-then-listed-len-eq-MOST_ENTRIES-clause-room
returns-then-listed-len-eq-MOST_ENTRIES-clause-room g c =
    let es : List Entry = g.S.Session.rules.listed c.args.sender.now.host c.args.sender.now.session.now in
    let new : List Entry = c.args.new.now in
    let one : Entry = c.args.one in
    let unlisted : is_listed new one.0.0 ≡ false = sym (image_of_listed new one.0.0) ∙ ap is_some (sym c.image_of.ensures) ∙ sym c.is_some.ensures
    ∙ c.if-is_some.false in
    let unknown : (is_listed es one.0.0 || is_listed new one.0.0) ≡ false =
    ap (λ b. b || is_listed new one.0.0) (sym c.knows.ensures ∙ c.if-knows.false) ∙ unlisted in
    let many : MOST_ENTRIES < length (enter_one (es ++ new) one) =
    omega (
      arith,
      ap length (enters_new es new one unknown),
      length-append es (new ++ one ∷ []),
      length-append new (one ∷ []),
      c.listed.ensures.count,
      c.len.ensures.len,
      c.if-listed-len-eq-MOST_ENTRIES.true,
    ) in
    sym (ap not (lt-ltb MOST_ENTRIES (length (enter_one (es ++ new) one)) many))

pub learn-requires-clause-unknown : goal.learn-requires-clause-unknown
learn-requires-clause-unknown g c = sym (image_of_listed c.args.new.now c.args.one.0.0) ∙ ap is_some (sym c.image_of.ensures) ∙ sym c.is_some.ensures
    ∙ c.if-is_some.false

pub returns-clause-entered : goal.returns-clause-entered
returns-clause-entered g c = λ _.
    let es : List Entry = g.S.Session.rules.listed c.args.sender.now.host c.args.sender.now.session.now in
    let new : List Entry = c.args.new.now in
    let one : Entry = c.args.one in
    let unlisted : is_listed new one.0.0 ≡ false = sym (image_of_listed new one.0.0) ∙ ap is_some (sym c.image_of.ensures) ∙ sym c.is_some.ensures
    ∙ c.if-is_some.false in
    let unknown : (is_listed es one.0.0 || is_listed new one.0.0) ≡ false =
    ap (λ b. b || is_listed new one.0.0) (sym c.knows.ensures ∙ c.if-knows.false) ∙ unlisted in
    ap (λ (xs : List Entry). es ++ xs) c.learn.ensures ∙ sym (enters_new es new one unknown)
