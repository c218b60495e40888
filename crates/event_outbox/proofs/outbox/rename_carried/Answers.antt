use Rattle.std.proofs.Common.{Fits, w8, get_or, ◌≡◌, ◌-◌, List, ℕ, length, take, drop, IsSome, ap, sym, subst, ◌∙◌}
use Rattle.std.proofs.lemmas.List.{take_rest}
use Rattle.snmp_gateway.specs.Message.{message, places_of}
use Rattle.snmp_gateway.specs.Renaming.{renamed as renamed_message}
use Rattle.twice_translate.specs.Renamed.{CanTranslate, datagram_of, with_payload}
use Rattle.twice_translate.proofs.Whole.{can_translate}
use Rattle.event_outbox.proofs.Changed.{behind, changes, udp_changes, udp_long, last_part}
use Rattle.event_outbox.proofs.outbox.rename_carried.Goals as goal

pub slice_bounds-rename_in_place-count : goal.slice_bounds-rename_in_place-count
slice_bounds-rename_in_place-count g c = udp_long c.args.datagram.now c.requires.can c.requires.protocol

pub slice_bounds-rename_in_place-start : goal.slice_bounds-rename_in_place-start
slice_bounds-rename_in_place-start g c = udp_long c.args.datagram.now c.requires.can c.requires.protocol

pub rename_in_place-requires : goal.rename_in_place-requires
rename_in_place-requires g c =
    let octets = c.args.datagram.now in
    subst (λ (xs : List ℕ). IsSome (message xs)) (behind octets (can_translate octets c.requires.can) ∙ sym (take_rest octets 28)) c.requires.message

pub returns-clause-can : goal.returns-clause-can
returns-clause-can g c =
    let octets = c.args.datagram.now in
    let new = c.rename_in_place.new.octets in
    let long = udp_long octets c.requires.can c.requires.protocol in
    subst CanTranslate (sym (last_part 28 octets new long))
    (changes octets new (can_translate octets c.requires.can) long (c.rename_in_place.auto.octets ∙ ap length (take_rest octets 28))).can

pub returns-clause-payload : goal.returns-clause-payload
returns-clause-payload g c =
    let octets = c.args.datagram.now in
    let new = c.rename_in_place.new.octets in
    let long = udp_long octets c.requires.can c.requires.protocol in
    let d = datagram_of octets in
    let rest : take (length octets - 28) (drop 28 octets) ≡ drop 8 d.payload = take_rest octets 28
    ∙ sym (behind octets (can_translate octets c.requires.can)) in
    let image = g.L.Lookup.image_of c.args.lookup.now in
    let part = last_part 28 octets new long in
    let fits = subst (λ (xs : List ℕ). (k : ℕ) → Fits w8 (get_or xs k 0)) part c.type_inv.datagram in
    ap datagram_of part
    ∙ udp_changes octets new c.requires.can c.requires.protocol (c.rename_in_place.auto.octets ∙ ap length (take_rest octets 28)) fits
    ∙ ap (with_payload d) (c.rename_in_place.ensures.renamed ∙ ap (λ (xs : List ℕ). renamed_message image (places_of xs) xs) rest)
