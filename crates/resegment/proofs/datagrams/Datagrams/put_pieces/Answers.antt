use Rattle.std.proofs.Common.{◌≡◌, ℕ, List, [], length, arith, ap, ◌∙◌, flat_map}
use Rattle.resegment.specs.Datagrams.{datagrams, ends_from}
use Rattle.resegment.proofs.Boxes.{no_ends, no_octets, behind_none, all_short, joined_bounds, joined_view}
use Rattle.resegment.proofs.datagrams.Datagrams.put_pieces.Goals as goal

pub append_pieces-requires : goal.append_pieces-requires
append_pieces-requires c =
    let none : c.self.inside.octets.items ≡ [] =
    no_octets c.self.inside.octets.items c.self.inside.ends.items c.self.invariant.bounds (c.self.view_is ∙ c.requires.none) in
    let no_end : c.self.inside.ends.items ≡ [] = no_ends c.self.inside.octets.items c.self.inside.ends.items (c.self.view_is ∙ c.requires.none) in
    record {
      some = c.requires.can.some;
      fits = c.requires.can.fits;
      ip = c.requires.can.ip;
      tcp = c.requires.can.tcp;
      ecn = c.requires.can.ecn;
      room = omega (arith, ap length none, c.requires.few.octets, c.self.invariant.room);
      below = omega (arith, ap length none, c.requires.few.octets);
      ends = omega (arith, ap length no_end, c.requires.few.pieces, c.self.invariant.places);
    }

pub invariant_of-self : goal.invariant_of-self
invariant_of-self c =
    let m = c.args.model.now in
    let none : c.self.inside.octets.items ≡ [] =
    no_octets c.self.inside.octets.items c.self.inside.ends.items c.self.invariant.bounds (c.self.view_is ∙ c.requires.none) in
    let no_end : c.self.inside.ends.items ≡ [] = no_ends c.self.inside.octets.items c.self.inside.ends.items (c.self.view_is ∙ c.requires.none) in
    let ds = datagrams m c.args.octets.now c.args.limit in
    record {
      bounds = joined_bounds c.append_pieces.new.outbox.items c.append_pieces.new.ends.items ds
          (behind_none c.self.inside.octets.items c.append_pieces.new.outbox.items (flat_map (λ d. d) ds) none c.append_pieces.ensures.octets)
          (behind_none c.self.inside.ends.items c.append_pieces.new.ends.items
          (ends_from (length c.self.inside.octets.items) ds) no_end c.append_pieces.ensures.ends
          ∙ ap (λ (xs : List ℕ). ends_from (length xs) ds) none)
          (all_short m c.args.octets.now c.args.limit c.requires.can);
      few = omega (arith, c.append_pieces.ensures.count, ap length no_end, c.requires.few.pieces);
      short = omega (arith, c.append_pieces.ensures.few, ap length none, c.requires.few.octets);
      room = omega (arith, c.append_pieces.ensures.room, c.self.invariant.room);
      places = omega (arith, c.append_pieces.ensures.more, c.self.invariant.places);
    }

pub returns : goal.returns
returns c =
    let m = c.args.model.now in
    let none : c.self.inside.octets.items ≡ [] =
    no_octets c.self.inside.octets.items c.self.inside.ends.items c.self.invariant.bounds (c.self.view_is ∙ c.requires.none) in
    let no_end : c.self.inside.ends.items ≡ [] = no_ends c.self.inside.octets.items c.self.inside.ends.items (c.self.view_is ∙ c.requires.none) in
    let ds = datagrams m c.args.octets.now c.args.limit in
    joined_view c.append_pieces.new.outbox.items c.append_pieces.new.ends.items ds
    (behind_none c.self.inside.octets.items c.append_pieces.new.outbox.items (flat_map (λ d. d) ds) none c.append_pieces.ensures.octets)
    (behind_none c.self.inside.ends.items c.append_pieces.new.ends.items
    (ends_from (length c.self.inside.octets.items) ds) no_end c.append_pieces.ensures.ends ∙ ap (λ (xs : List ℕ). ends_from (length xs) ds) none)
