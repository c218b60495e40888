use Rattle.std.proofs.Common.{sym, ap, subst, ◌∙◌, ◌++◌, List, ℕ, Option, option_map, option_to_list, is_some}
use Rattle.snmp_gateway.specs.Message.{message, places_ahead}
use Rattle.snmp_gateway.proofs.Whole.{no_message, renamed_message}
use Rattle.snmp_gateway.proofs.Walk.{Renames, renames_first, renames_next, renames_last}
use Rattle.snmp_gateway.proofs.rename.rename_in_place.Goals as goal

pub returns-in_default-clause-renamed : goal.returns-in_default-clause-renamed
returns-in_default-clause-renamed g c = absurd (no_message c.args.octets.now (sym c.outline_of.ensures ∙ c.in_default.is) c.requires)

pub loop-place-init : goal.loop-place-init
loop-place-init g c = renames_first (g.L.Lookup.image_of c.args.lookup.now) c.args.octets.now c.in-Some.ahead
    (sym c.outline_of.ensures ∙ c.in-Some.is) c.requires

pub loop-place-preserved : goal.loop-place-preserved
loop-place-preserved g c =
    let image = g.L.Lookup.image_of c.args.lookup.now in
    subst (λ (now : List ℕ). Renames image c.args.octets.now now c.next_place.new.self) (sym c.rename.ensures) (
    renames_next image c.args.octets.now c.loop-place.octets c.loop-place.ahead c.next_place.new.self c.in-Some-next_place.place
    c.loop-place.invariant
    (c.next_place.ensures.ahead
    ∙ ap (λ (o : Option ℕ). option_map (λ more. option_to_list o ++ more) (places_ahead c.loop-place.octets c.next_place.new.self))
    c.in-Some-next_place.is)
    c.next_place.ensures.stands (c.next_place.ensures.passes _ c.in-Some-next_place.is)
    )

pub returns-clause-renamed : goal.returns-clause-renamed
returns-clause-renamed g c =
    renames_last (g.L.Lookup.image_of c.args.lookup.now) c.args.octets.now c.loop-place.octets c.loop-place.ahead c.next_place.new.self
    c.loop-place.invariant
    (c.next_place.ensures.ahead
    ∙ ap (λ (o : Option ℕ). option_map (λ more. option_to_list o ++ more) (places_ahead c.loop-place.octets c.next_place.new.self))
    c.in_default-next_place.is)
    (c.next_place.ensures.stops (ap is_some c.in_default-next_place.is))

pub returns-clause-same : goal.returns-clause-same
returns-clause-same g c =
    ap message (returns-clause-renamed g c) ∙ renamed_message (g.L.Lookup.image_of c.args.lookup.now) c.args.octets.now c.requires
