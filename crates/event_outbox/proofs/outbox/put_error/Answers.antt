use Rattle.std.proofs.Common.{◌≡◌, sym, ap, subst, ◌∙◌, arith, List, ℕ, IsTrue}
use Rattle.icmp_errors.specs.Inner.{is_inner, inner_with}
use Rattle.gate_model.specs.Prelude.{inside, with_inside}
use Rattle.ipv4_frames.specs.Ipv4.{Datagram}
use Rattle.twice_translate.specs.Renamed.{CanGoOn, CanTranslate, datagram_of, renamed}
use Rattle.resegment.proofs.Boxes.{no_ends, no_octets}
use Rattle.event_outbox.proofs.Boxes.{one_box, one_view, written}
use Rattle.event_outbox.proofs.outbox.put_error.Goals as goal

pub copy_to-requires-clause-empty : goal.copy_to-requires-clause-empty
copy_to-requires-clause-empty c =
    no_octets c.outbox.inside.octets.items c.outbox.inside.ends.items c.outbox.invariant.bounds (c.outbox.view_is ∙ c.requires.empty)

pub rename_inside-requires : goal.rename_inside-requires
rename_inside-requires c =
    let same = sym (c.deref_mut.ensures.value ∙ c.copy_to.ensures.octets) in
    record {
      can = subst CanGoOn same c.requires.can;
      inside = subst (λ (xs : List ℕ). IsTrue (is_inner (inside (datagram_of xs)))) same c.requires.inside;
    }

pub translate-requires : goal.translate-requires
translate-requires c =
    let same = c.deref_mut-2.ensures.value
    ∙ written c.rename_inside.new.datagram c.copy_to.new.target.items c.copy_to.new.target.len
    (c.rename_inside.auto.datagram ∙ c.deref_mut.ensures.len) in
    subst CanTranslate (sym same) c.rename_inside.ensures.can

pub end-requires-clause-none : goal.end-requires-clause-none
end-requires-clause-none c = no_ends c.outbox.inside.octets.items c.outbox.inside.ends.items (c.outbox.view_is ∙ c.requires.empty)

pub invariant_of-outbox : goal.invariant_of-outbox
invariant_of-outbox c =
    one_box _ _ _ _ _ c.deref.ensures.value c.end.ensures.one (omega (arith, c.outbox.invariant.room, c.copy_to.ensures.room)) c.end.ensures.places

pub returns : goal.returns
returns c =
    let new = c.translate.new.datagram in
    let source = c.args.source.0 in
    let destination = c.args.destination.0 in
    let first : c.deref_mut.result.now ≡ c.args.octets.now = c.deref_mut.ensures.value ∙ c.copy_to.ensures.octets in
    let second : c.deref_mut-2.result.now ≡ c.rename_inside.new.datagram = c.deref_mut-2.ensures.value
    ∙ written c.rename_inside.new.datagram c.copy_to.new.target.items c.copy_to.new.target.len
    (c.rename_inside.auto.datagram ∙ c.deref_mut.ensures.len) in
    one_view _ _ _ _ c.deref.ensures.value c.end.ensures.one
    (written new _ c.copy_to.new.target.len (c.translate.auto.datagram ∙ c.deref_mut-2.ensures.len)
    ∙ c.translate.ensures
    ∙ ap (λ (xs : List ℕ). renamed (datagram_of xs) source destination) second
    ∙ ap (λ (d : Datagram). renamed d source destination) c.rename_inside.ensures.payload
    ∙ ap (λ (xs : List ℕ). renamed
    (with_inside (datagram_of xs) (inner_with (inside (datagram_of xs)) c.args.inner_source.0 c.args.inner_destination.0 c.args.sequence)) source
    destination) first)
