use Rattle.std.proofs.Common.{refl, ◌≡◌, ◌+◌, ◌*◌, [], ◌∷◌, ◌++◌, length, sym, ◌∙◌, ap, arith, rules, ◌<◌, ◌^◌, nat_lt, flat_map, length-append}
use Rattle.resegment.specs.Datagrams.{datagrams_below, ends_from, piece_flags}
use Rattle.resegment.proofs.PieceLemmas.{room_here, piece_is, piece_long, appended, datagrams_joined-more, ends-more}
use Rattle.resegment.proofs.put.append_pieces.Goals as goal

pub put_datagram-requires-clause-room : goal.put_datagram-requires-clause-room
put_datagram-requires-clause-room c =
    omega (
      arith,
      room_here c.args.model.now c.args.octets.now c.args.limit c.loop-index.index c.piece-start.result.0 c.piece-start.result.1
          (length c.loop-index.outbox.items) (length c.args.outbox.now.items) (omega (arith, c.loop-index-test.true, c.pieces-count.ensures))
          c.piece-start.ensures.start c.piece-start.ensures.order c.piece-start.ensures.within c.loop-index.invariant.len,
      c.requires.room,
      c.loop-index.invariant.room,
    )

pub overflow_cast-len : goal.overflow_cast-len
overflow_cast-len c =
    let len : c.len.result ≡ length c.put_datagram.new.outbox.items = search rules in
    let room = room_here c.args.model.now c.args.octets.now c.args.limit c.loop-index.index c.piece-start.result.0 c.piece-start.result.1
    (length c.loop-index.outbox.items) (length c.args.outbox.now.items) (omega (arith, c.loop-index-test.true, c.pieces-count.ensures))
    c.piece-start.ensures.start c.piece-start.ensures.order c.piece-start.ensures.within c.loop-index.invariant.len in
    let fits : c.len.result < 2 ^ 32 = omega (arith, len, room, c.put_datagram.ensures.len, c.requires.below) in
    search (rules, fits)

pub loop-index-preserved : goal.loop-index-preserved
loop-index-preserved c =
    let m = c.args.model.now in
    let octets = c.args.octets.now in
    let limit = c.args.limit in
    let index = c.loop-index.index in
    let start = c.piece-start.result.0 in
    let end = c.piece-start.result.1 in
    let i = c.loop-index.invariant in
    let next = flat_map (λ d. d) (datagrams_below m octets limit (index + 1)) in
    let long = piece_long octets start end c.piece-start.ensures.order c.piece-start.ensures.within in
    let items : c.put_datagram.new.outbox.items ≡ c.args.outbox.now.items ++ next =
    appended c.args.outbox.now.items
    (flat_map (λ d. d) (datagrams_below m octets limit index)) c.loop-index.outbox.items _ c.put_datagram.new.outbox.items next i.octets
    (c.put_datagram.ensures.octets ∙ ap (λ xs. c.loop-index.outbox.items ++ xs)
    (piece_is m octets limit index start end _ c.piece_flags-flags.result c.piece-start.ensures.start c.piece-start.ensures.end refl
    (c.piece_flags-flags.ensures ∙ ap (λ n. piece_flags m.flags (nat_lt (index + 1) n)) c.pieces-count.ensures)))
    (sym (datagrams_joined-more m octets limit index)) in
    let len : c.len.result ≡ length c.put_datagram.new.outbox.items = search rules in
    let last : c.len.result ≡ length c.args.outbox.now.items + length next =
    omega (arith, len, ap length items, length-append c.args.outbox.now.items next) in
    let times : (index + 1) * (20 + length m.tcp.now) ≡ index * (20 + length m.tcp.now) + (20 + length m.tcp.now) = grind arith in
    record {
      octets = items;
      ends = appended c.args.ends.now.items
          (ends_from (length c.args.outbox.now.items) (datagrams_below m octets limit index)) c.loop-index.ends.items
          (c.len.result ∷ []) c.push_reserved.new.self.items _ i.ends c.push_reserved.ensures.items
          (ap (λ n. ends_from (length c.args.outbox.now.items) (datagrams_below m octets limit index) ++ n ∷ []) last
          ∙ sym (ends-more m octets limit index (length c.args.outbox.now.items)));
      len = omega (arith, i.len, c.put_datagram.ensures.len, long, c.piece-start.ensures.start, c.piece-start.ensures.end, times);
      many = omega (arith, i.many, ap length c.push_reserved.ensures.items, length-append c.loop-index.ends.items (c.len.result ∷ []));
      room = omega (arith, i.room, c.put_datagram.ensures.room);
      more = omega (arith, i.more, c.push_reserved.ensures.capacity);
    }
