use Rattle.std.proofs.Common.{◌≡◌, ◌+◌, ◌≤◌, [], ◌∷◌, ◌++◌, length, refl, arith, rules, length-append}
use Rattle.memory_desks.specs.declared.log.Entry.{Entry}
use Rattle.memory_desks.proofs.LogLaws.{names_size-starts_in, total_len-append, starts_in-push}
use Rattle.memory_desks.proofs.log.StartLog.push.Goals as goal

pub unreachable-requires-then-is_err-2 : goal.unreachable-requires-then-is_err-2
unreachable-requires-then-is_err-2 c =
    let size = names_size-starts_in c.self.inside.entries.items c.self.inside.names.items (omega (arith, c.self.invariant.whole)) in
    let room = rw (← c.self.view_is) at c.requires in
    let fits : c.self.inside.names.len + length c.args.name.now ≤ c.self.inside.names.cap =
    omega (arith, size, room, c.self.invariant.names, c.self.inside.names.ok.0, c.self.invariant.whole) in
    let ok = c.extend_from_slice.ensures.succeeds fits in
    search rules

pub invariant_of-self : goal.invariant_of-self
invariant_of-self c =
    let e : Entry = record { slot = c.args.slot; access = c.args.access; len = length c.args.name.now } in
    let es : c.push.new.self.items ≡ c.self.inside.entries.items ++ e ∷ [] = search rules in
    let ns : c.extend_from_slice.new.self.items ≡ c.self.inside.names.items ++ c.args.name.now = search rules in
    let size = names_size-starts_in c.self.inside.entries.items c.self.inside.names.items (omega (arith, c.self.invariant.whole)) in
    let room = rw (← c.self.view_is) at c.requires in
    record {
      whole = rw (es, ns, total_len-append) (omega (arith, c.self.invariant.whole, length-append c.self.inside.names.items c.args.name.now));
      small = rw (es, ns)
          (omega (
            arith,
            size,
            room,
            c.self.invariant.whole,
            length-append c.self.inside.names.items c.args.name.now,
            length-append c.self.inside.entries.items (e ∷ []),
          ));
      entries = omega (arith, c.push.ensures.capacity, c.self.invariant.entries);
      names = omega (arith, c.extend_from_slice.ensures.capacity, c.self.invariant.names);
    }

pub returns : goal.returns
returns c =
    let e : Entry = record { slot = c.args.slot; access = c.args.access; len = length c.args.name.now } in
    let es : c.push.new.self.items ≡ c.self.inside.entries.items ++ e ∷ [] = search rules in
    let ns : c.extend_from_slice.new.self.items ≡ c.self.inside.names.items ++ c.args.name.now = search rules in
    rw (← c.self.view_is, es, ns) (starts_in-push c.self.inside.entries.items c.self.inside.names.items e c.args.name.now c.self.invariant.whole refl)
