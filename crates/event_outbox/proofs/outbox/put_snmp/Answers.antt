use Rattle.std.proofs.Common.{◌≡◌, sym, ap, subst, ◌∙◌, arith, List, ℕ, IsSome}
use Rattle.snmp_gateway.specs.Message.{message, places_of}
use Rattle.snmp_gateway.specs.Renaming.{renamed as renamed_message}
use Rattle.gate_model.specs.Prelude.{carried}
use Rattle.ipv4_frames.specs.Ipv4.{Datagram}
use Rattle.twice_translate.specs.Renamed.{CanGoOn, CanTranslate, datagram_of, renamed, with_payload}
use Rattle.resegment.proofs.Boxes.{no_ends, no_octets}
use Rattle.event_outbox.proofs.Boxes.{one_box, one_view, written}
use Rattle.event_outbox.proofs.outbox.put_snmp.Goals as goal

pub copy_to-requires-clause-empty : goal.copy_to-requires-clause-empty
copy_to-requires-clause-empty g c =
    no_octets c.outbox.inside.octets.items c.outbox.inside.ends.items c.outbox.invariant.bounds (c.outbox.view_is ∙ c.requires.empty)

pub rename_carried-requires : goal.rename_carried-requires
rename_carried-requires g c =
    let same = sym (c.deref_mut.ensures.value ∙ c.copy_to.ensures.octets) in
    record {
      can = subst CanGoOn same c.requires.can;
      protocol = subst (λ (xs : List ℕ). (datagram_of xs).protocol ≡ 17) same c.requires.protocol;
      message = subst (λ (xs : List ℕ). IsSome (message (carried (datagram_of xs)))) same c.requires.message;
    }

pub translate-requires : goal.translate-requires
translate-requires g c =
    let same = c.deref_mut-2.ensures.value
    ∙ written c.rename_carried.new.datagram c.copy_to.new.target.items c.copy_to.new.target.len
    (c.rename_carried.auto.datagram ∙ c.deref_mut.ensures.len) in
    subst CanTranslate (sym same) c.rename_carried.ensures.can

pub end-requires-clause-none : goal.end-requires-clause-none
end-requires-clause-none g c = no_ends c.outbox.inside.octets.items c.outbox.inside.ends.items (c.outbox.view_is ∙ c.requires.empty)

pub invariant_of-outbox : goal.invariant_of-outbox
invariant_of-outbox g c =
    one_box _ _ _ _ _ c.deref.ensures.value c.end.ensures.one (omega (arith, c.outbox.invariant.room, c.copy_to.ensures.room)) c.end.ensures.places

pub returns : goal.returns
returns g c =
    let new = c.translate.new.datagram in
    let source = c.args.source.0 in
    let destination = c.args.destination.0 in
    let first : c.deref_mut.result.now ≡ c.args.octets.now = c.deref_mut.ensures.value ∙ c.copy_to.ensures.octets in
    let second : c.deref_mut-2.result.now ≡ c.rename_carried.new.datagram = c.deref_mut-2.ensures.value
    ∙ written c.rename_carried.new.datagram c.copy_to.new.target.items c.copy_to.new.target.len
    (c.rename_carried.auto.datagram ∙ c.deref_mut.ensures.len) in
    one_view _ _ _ _ c.deref.ensures.value c.end.ensures.one
    (written new _ c.copy_to.new.target.len (c.translate.auto.datagram ∙ c.deref_mut-2.ensures.len)
    ∙ c.translate.ensures
    ∙ ap (λ (xs : List ℕ). renamed (datagram_of xs) source destination) second
    ∙ ap (λ (d : Datagram). renamed d source destination) c.rename_carried.ensures.payload
    ∙ ap (λ (xs : List ℕ). renamed
    (with_payload (datagram_of xs)
    (renamed_message (g.L.Lookup.image_of c.args.lookup.now) (places_of (carried (datagram_of xs))) (carried (datagram_of xs)))) source
    destination) first)
