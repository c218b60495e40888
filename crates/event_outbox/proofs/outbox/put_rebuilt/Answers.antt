use Rattle.std.proofs.Common.{◌≡◌, ◌∙◌, arith, ℕ, Result, Ok, Err, IsOk, is_ok, if◌then◌else◌}
use Rattle.resegment.proofs.Boxes.{no_ends}
use Rattle.event_outbox.proofs.Boxes.{one_box, one_view, written}
use Rattle.event_outbox.proofs.outbox.put_rebuilt.Goals as goal

-- a vector that was resized
filled : {T E : Type 0} → (r : Result T E) (len count old : ℕ) → IsOk r → len ≡ (if is_ok r then count else old) → len ≡ count
filled (Ok x) len count old ok e = e
filled (Err x) len count old ok e = absurd (cc)

pub end-requires-clause-none : goal.end-requires-clause-none
end-requires-clause-none c = no_ends c.outbox.inside.octets.items c.outbox.inside.ends.items (c.outbox.view_is ∙ c.requires.empty)

pub invariant_of-outbox : goal.invariant_of-outbox
invariant_of-outbox c =
    one_box _ _ _ _ _ c.deref.ensures.value c.end.ensures.one
    (omega (arith, c.outbox.invariant.room, c.resize-fits.ensures.capacity)) c.end.ensures.places

pub returns : goal.returns
returns c =
    one_view _ _ _ _ c.deref.ensures.value c.end.ensures.one
    (written c.rebuild.new.target c.resize-fits.new.self.items c.resize-fits.new.self.len (c.rebuild.auto.target ∙ c.deref_mut.ensures.len)
    ∙ c.rebuild.ensures)
