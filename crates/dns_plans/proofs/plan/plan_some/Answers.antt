use Rattle.std.proofs.Common.{◌≡◌, ◌++◌, Bool, true, false, cond, List, length, sym, ◌∙◌, ap, subst, map, not, nat_lt, is_none, Option, Some, None, IfSome}
use Rattle.std.specs.List.{list_any}
use Rattle.std.proofs.lemmas.Bool.{not-false, not-true}
use Rattle.gate_base.specs.Prelude.{other}
use Rattle.verdicts.specs.Prelude.{first_that_holds}
use Rattle.gate_base.specs.declared.address.Addr.{Addr}
use Rattle.verdicts.specs.declared.refusal.Refusal.TheVariants.{UnitGrows}
use Rattle.binding_table.specs.Prelude.{AreUsesOf, Use, free, needed}
use Rattle.dialogue.specs.Prelude.{Entry, AreImages}
use Rattle.dns_stream.specs.Prelude.{dns_units}
use Rattle.gate_model.specs.Prelude.{grows_too_much, is_new_unbound}
use Rattle.dns_plans.specs.Prelude.{names_in, all_addresses, beside, called_after, AreBound, entered_all, image_unit, plan_tests, unit_of, whole_units}
use Rattle.dns_plans.proofs.PlannedLemmas.{used_bound}
use Rattle.dns_plans.proofs.ToldLemmas.{full_told, empty_told, last_told}
use Rattle.dns_plans.proofs.plan.plan_some.Given.{Over}
use Rattle.dns_plans.proofs.plan.plan_some.Goals as goal
use Rattle.dns_plans.proofs.plan.plan_some.Goals.{In_ok-images}

pub called_beside-requires : goal.called_beside-requires
called_beside-requires g c =
    let t = c.args.table.now in
    let ends = c.args.endpoints.now in
    let es : List Entry = g.S.Session.rules.listed c.args.sender.now.host c.args.sender.now.session.now in
    let names : List Addr = c.in-Ok.read.named.items in
    let new : list_any (is_new_unbound t ends.side es) names ≡ false = ap (list_any (is_new_unbound t ends.side es)) (sym c.deref.ensures.value)
    ∙ sym c.has_new_unbound.ensures ∙ c.if-has_new_unbound.false in
    record {
      bound =
          subst (λ (xs : List Addr). AreBound t ends.side (all_addresses ends xs)) (sym c.deref-2.ensures.value)
          (used_bound t ends es names c.requires.header c.requires.listed new);
    }

pub returns-in_default-clause-stopped : goal.returns-in_default-clause-stopped
returns-in_default-clause-stopped g c = λ uses u.
    let t = c.args.table.now in
    let ends = c.args.endpoints.now in
    let es : List Entry = g.S.Session.rules.listed c.args.sender.now.host c.args.sender.now.session.now in
    let octets = c.args.octets.now in
    let called : List Entry = c.in_ok-entries.entries.items in
    let new : list_any (is_new_unbound t ends.side es) (names_in octets) ≡ false =
    ap (list_any (is_new_unbound t ends.side es)) (sym (c.deref.ensures.value ∙ c.in-Ok.ensures.named)) ∙ sym c.has_new_unbound.ensures
    ∙ c.if-has_new_unbound.false in
    let are : map (λ (entry : Entry). entry.0) called ≡ names_in octets = c.in_ok-entries.ensures.named ∙ c.deref-2.ensures.value
    ∙ c.in-Ok.ensures.named in
    let full : nat_lt 256 (length (entered_all es called)) ≡ true =
    ap (λ (xs : List Entry). nat_lt 256 (length (entered_all es xs))) (sym c.deref-3.ensures.value) ∙ sym c.in_ok-new.ensures.few
    ∙ ap is_none c.in_default.is in
    full_told t (called_after t uses ends.side) ends es called octets c.in-Ok.ensures.good new are full

pub returns-then-not-room-clause-stopped : goal.returns-then-not-room-clause-stopped
returns-then-not-room-clause-stopped g c = λ uses u.
    let t = c.args.table.now in
    let ends = c.args.endpoints.now in
    let es : List Entry = g.S.Session.rules.listed c.args.sender.now.host c.args.sender.now.session.now in
    let octets = c.args.octets.now in
    let called : List Entry = c.in_ok-entries.entries.items in
    let new : list_any (is_new_unbound t ends.side es) (names_in octets) ≡ false =
    ap (list_any (is_new_unbound t ends.side es)) (sym (c.deref.ensures.value ∙ c.in-Ok.ensures.named)) ∙ sym c.has_new_unbound.ensures
    ∙ c.if-has_new_unbound.false in
    let names : c.deref-2.result.now ≡ names_in octets = c.deref-2.ensures.value ∙ c.in-Ok.ensures.named in
    let few : nat_lt 256 (length (entered_all es called)) ≡ false =
    ap (λ (xs : List Entry). nat_lt 256 (length (entered_all es xs))) (sym c.deref-3.ensures.value) ∙ sym c.in_ok-new.ensures.few
    ∙ ap is_none c.in-Some.is in
    let room : not (nat_lt (free t (other ends.side)) (needed t ends.side (all_addresses ends (names_in octets)))) ≡ false =
    ap (λ (xs : List Addr). not (nat_lt (free t (other ends.side)) (needed t ends.side (all_addresses ends xs)))) (sym names)
    ∙ sym c.in_ok-entries.ensures.room ∙ c.if-not-room.true in
    empty_told t (called_after t uses ends.side) ends es called octets c.in-Ok.ensures.good new (c.in_ok-entries.ensures.named ∙ names) few
    (not-false _ room)

-- no test before the last one holds, which is whether an image grows too much
module _ (g : Over) (c : In_ok-images g) (uses : List Use)
    (u : AreUsesOf c.args.endpoints.now.side (all_addresses c.args.endpoints.now (names_in c.args.octets.now)) uses) where
  beside_is : c.in_ok-entries.entries.items
      ≡ beside (called_after c.args.table.now uses c.args.endpoints.now.side) (names_in c.args.octets.now)
  beside_is =
      let ends = c.args.endpoints.now in
      let names : c.deref-2.result.now ≡ names_in c.args.octets.now = c.deref-2.ensures.value ∙ c.in-Ok.ensures.named in
      c.in_ok-entries.ensures.images uses
      (subst (λ (xs : List Addr). AreUsesOf ends.side (all_addresses ends xs) uses) (sym names) u) c.if-not-room.false
      ∙ ap (beside (called_after c.args.table.now uses ends.side)) names

  told : (grows : Bool)
      → list_any (grows_too_much (g.S.Session.rules.listed c.args.sender.now.host c.args.sender.now.session.now ++ c.in-Some.new))
      (map unit_of c.in-Ok.read.units.items) ≡ grows
      → first_that_holds
      (plan_tests c.args.table.now (called_after c.args.table.now uses c.args.endpoints.now.side) c.args.endpoints.now
      (g.S.Session.rules.listed c.args.sender.now.host c.args.sender.now.session.now) c.args.octets.now) ≡ cond grows (Some UnitGrows) None
  told grows long =
      let t = c.args.table.now in
      let ends = c.args.endpoints.now in
      let es : List Entry = g.S.Session.rules.listed c.args.sender.now.host c.args.sender.now.session.now in
      let octets = c.args.octets.now in
      let called : List Entry = c.in_ok-entries.entries.items in
      let new : list_any (is_new_unbound t ends.side es) (names_in octets) ≡ false =
      ap (list_any (is_new_unbound t ends.side es)) (sym (c.deref.ensures.value ∙ c.in-Ok.ensures.named)) ∙ sym c.has_new_unbound.ensures
      ∙ c.if-has_new_unbound.false in
      let names : c.deref-2.result.now ≡ names_in octets = c.deref-2.ensures.value ∙ c.in-Ok.ensures.named in
      let few : nat_lt 256 (length (entered_all es called)) ≡ false =
      ap (λ (xs : List Entry). nat_lt 256 (length (entered_all es xs))) (sym c.deref-3.ensures.value) ∙ sym c.in_ok-new.ensures.few
      ∙ ap is_none c.in-Some.is in
      let enough : not (nat_lt (free t (other ends.side)) (needed t ends.side (all_addresses ends (names_in octets)))) ≡ true =
      ap (λ (xs : List Addr). not (nat_lt (free t (other ends.side)) (needed t ends.side (all_addresses ends xs)))) (sym names)
      ∙ sym c.in_ok-entries.ensures.room ∙ c.if-not-room.false in
      let after : es ++ c.in-Some.new ≡ entered_all es called =
      subst (λ (o : Option (List Entry)). IfSome o (λ list. es ++ list ≡ entered_all es c.deref-3.result.now)) c.in-Some.is
      c.in_ok-new.ensures.list ∙ ap (entered_all es) c.deref-3.ensures.value in
      last_told t (called_after t uses ends.side) ends es called octets grows c.in-Ok.ensures.good new beside_is few (not-true _ enough)
      (ap (λ (xs : List Entry). list_any (grows_too_much xs) (whole_units octets)) (sym after)
      ∙ ap (list_any (grows_too_much (es ++ c.in-Some.new))) (sym c.in-Ok.ensures.units) ∙ long)

pub returns-in_default-2-clause-stopped : goal.returns-in_default-2-clause-stopped
returns-in_default-2-clause-stopped g c =
    λ uses u. told g (goal.at.returns-in_default-2-clause-stopped g c).In_ok-images uses u true
    (sym c.in_ok-images.ensures.grows ∙ ap is_none c.in_default-2.is)

pub returns-clause-planned : goal.returns-clause-planned
returns-clause-planned g c =
    let es : List Entry = g.S.Session.rules.listed c.args.sender.now.host c.args.sender.now.session.now in
    let after : es ++ c.in-Some.new ≡ entered_all es c.in_ok-entries.entries.items =
    subst (λ (o : Option (List Entry)). IfSome o (λ list. es ++ list ≡ entered_all es c.deref-3.result.now)) c.in-Some.is c.in_ok-new.ensures.list
    ∙ ap (entered_all es) c.deref-3.ensures.value in
    let right =
    subst (λ o. IfSome o (λ these. AreImages (dns_units (es ++ c.in-Some.new)) these.items)) c.in-Some-2.is c.in_ok-images.ensures.images in
    record {
      passes = λ uses u. told g (goal.at.returns-clause-planned g c).In_ok-images uses u false
          (sym c.in_ok-images.ensures.grows ∙ ap is_none c.in-Some-2.is);
      named = c.in-Ok.ensures.named;
      entries = λ uses u. beside_is g (goal.at.returns-clause-planned g c).In_ok-images uses u;
      units = subst (λ o. IfSome o (λ these. map image_unit these.items ≡ map unit_of c.in-Ok.read.units.items)) c.in-Some-2.is
          c.in_ok-images.ensures.units ∙ c.in-Ok.ensures.units;
      images = subst (λ (xs : List Entry). AreImages (dns_units xs) c.in-Some-2.images.items) after right;
    }
