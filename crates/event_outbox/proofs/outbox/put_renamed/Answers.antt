use Rattle.std.proofs.Common.{sym, ap, subst, ◌∙◌, arith, List, ℕ}
use Rattle.twice_translate.specs.Renamed.{CanGoOn, datagram_of, renamed}
use Rattle.resegment.proofs.Boxes.{no_ends, no_octets}
use Rattle.event_outbox.proofs.Boxes.{one_box, one_view, written}
use Rattle.event_outbox.proofs.outbox.put_renamed.Goals as goal

pub copy_to-requires-clause-empty : goal.copy_to-requires-clause-empty
copy_to-requires-clause-empty c =
    no_octets c.outbox.inside.octets.items c.outbox.inside.ends.items c.outbox.invariant.bounds (c.outbox.view_is ∙ c.requires.empty)

pub translate_accepted-requires : goal.translate_accepted-requires
translate_accepted-requires c = subst CanGoOn (sym (c.deref_mut.ensures.value ∙ c.copy_to.ensures.octets)) c.requires.can

pub end-requires-clause-none : goal.end-requires-clause-none
end-requires-clause-none c = no_ends c.outbox.inside.octets.items c.outbox.inside.ends.items (c.outbox.view_is ∙ c.requires.empty)

pub invariant_of-outbox : goal.invariant_of-outbox
invariant_of-outbox c =
    one_box _ _ _ _ _ c.deref.ensures.value c.end.ensures.one (omega (arith, c.outbox.invariant.room, c.copy_to.ensures.room)) c.end.ensures.places

pub returns : goal.returns
returns c =
    let new = c.translate_accepted.new.datagram in
    one_view _ _ _ _ c.deref.ensures.value c.end.ensures.one
    (written new c.copy_to.new.target.items c.copy_to.new.target.len (c.translate_accepted.auto.datagram ∙ c.deref_mut.ensures.len)
    ∙ c.translate_accepted.ensures
    ∙ ap (λ (x : List ℕ). renamed (datagram_of x) c.args.source.0 c.args.destination.0) (c.deref_mut.ensures.value ∙ c.copy_to.ensures.octets))
