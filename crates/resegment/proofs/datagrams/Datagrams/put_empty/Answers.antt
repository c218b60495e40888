use Rattle.std.proofs.Common.{◌≡◌, ◌≤◌, [], ◌∷◌, length, arith, ap, ◌∙◌}
use Rattle.resegment.proofs.Boxes.{no_ends, no_octets, behind_none, one_put}
use Rattle.resegment.proofs.datagrams.Datagrams.put_empty.Goals as goal

pub append_empty-requires-clause-room : goal.append_empty-requires-clause-room
append_empty-requires-clause-room c =
    let none : c.self.inside.octets.items ≡ [] =
    no_octets c.self.inside.octets.items c.self.inside.ends.items c.self.invariant.bounds (c.self.view_is ∙ c.requires.none) in
    omega (arith, ap length none, c.requires.can.fits, c.self.invariant.room)

pub append_empty-requires-clause-below : goal.append_empty-requires-clause-below
append_empty-requires-clause-below c =
    let none : c.self.inside.octets.items ≡ [] =
    no_octets c.self.inside.octets.items c.self.inside.ends.items c.self.invariant.bounds (c.self.view_is ∙ c.requires.none) in
    omega (arith, ap length none, c.requires.can.fits)

pub append_empty-requires-clause-ends : goal.append_empty-requires-clause-ends
append_empty-requires-clause-ends c =
    let no_end : c.self.inside.ends.items ≡ [] = no_ends c.self.inside.octets.items c.self.inside.ends.items (c.self.view_is ∙ c.requires.none) in
    omega (arith, ap length no_end, c.self.invariant.places)

pub invariant_of-self : goal.invariant_of-self
invariant_of-self c =
    let m = c.args.model.now in
    let none : c.self.inside.octets.items ≡ [] =
    no_octets c.self.inside.octets.items c.self.inside.ends.items c.self.invariant.bounds (c.self.view_is ∙ c.requires.none) in
    let no_end : c.self.inside.ends.items ≡ [] = no_ends c.self.inside.octets.items c.self.inside.ends.items (c.self.view_is ∙ c.requires.none) in
    let ends_are : c.append_empty.new.ends.items ≡ length c.append_empty.new.outbox.items ∷ [] =
    behind_none c.self.inside.ends.items c.append_empty.new.ends.items
    (length c.append_empty.new.outbox.items ∷ []) no_end c.append_empty.ensures.ends in
    let one =
    one_put c.append_empty.new.outbox.items c.append_empty.new.ends.items _
    (behind_none c.self.inside.octets.items c.append_empty.new.outbox.items _ none c.append_empty.ensures.octets) ends_are
    (omega (arith, c.append_empty.ensures.len, ap length none, c.requires.can.fits)) in
    record {
      bounds = one.0;
      few = omega (arith, ap length ends_are);
      short = omega (arith, c.append_empty.ensures.len, ap length none, c.requires.can.fits);
      room = omega (arith, c.append_empty.ensures.room, c.self.invariant.room);
      places = omega (arith, c.append_empty.ensures.more, c.self.invariant.places);
    }

pub returns : goal.returns
returns c =
    let none : c.self.inside.octets.items ≡ [] =
    no_octets c.self.inside.octets.items c.self.inside.ends.items c.self.invariant.bounds (c.self.view_is ∙ c.requires.none) in
    let no_end : c.self.inside.ends.items ≡ [] = no_ends c.self.inside.octets.items c.self.inside.ends.items (c.self.view_is ∙ c.requires.none) in
    let ends_are : c.append_empty.new.ends.items ≡ length c.append_empty.new.outbox.items ∷ [] =
    behind_none c.self.inside.ends.items c.append_empty.new.ends.items
    (length c.append_empty.new.outbox.items ∷ []) no_end c.append_empty.ensures.ends in
    let one =
    one_put c.append_empty.new.outbox.items c.append_empty.new.ends.items _
    (behind_none c.self.inside.octets.items c.append_empty.new.outbox.items _ none c.append_empty.ensures.octets) ends_are
    (omega (arith, c.append_empty.ensures.len, ap length none, c.requires.can.fits)) in
    one.1
