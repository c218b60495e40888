use Rattle.std.proofs.Common.{◌≡◌, ◌≤◌, ◌<◌, ◌+◌, ◌-◌, ◌*◌, ℕ, List, length, map, arith, refl, sym, ◌∙◌, ap}
use Rattle.std.proofs.lemmas.List.FromFn.{length-map-range_with_len}
use Rattle.std.proofs.lemmas.Bool.{cond-true, cond-false, le-ltb, lt-ltb}
use Rattle.shift_ledger.specs.Prelude.{octet_walk, copied_by}
use Rattle.resegment.specs.Pieces.{piece_count}
use Rattle.resegment.specs.declared.put.SegmentModel.{SegmentModel}
use Rattle.stream_model.specs.Prelude.{Sent, in_pieces}
use Rattle.stream_model.specs.Goings.{sent_with}
use Rattle.compact_stream.specs.Prelude.{CompactSender, recent_start, standing_kept}
use Rattle.stream_gate.specs.Prelude.{datagram}
use Rattle.stream_gate.specs.Inside.Gates.{CanCut}
use Rattle.stream_gate.specs.Gates.{headers_of}
use Rattle.stream_gate.proofs.GateLemmas.{few_pieces, few_octets}
use Rattle.stream_gate.proofs.Sending.{pieces_sent, bare_sent}
use Rattle.stream_gate.proofs.gate.put.Given.{Over}
use Rattle.stream_gate.proofs.gate.put.Goals as goal
use Rattle.stream_gate.proofs.gate.put.Goals.{After-copy_image}

module _ (g : Over) (c : After-copy_image g) where
  abbrev h : CompactSender
  h = c.args.own.now.kept

  octets : c.copy_image.new.scratch.items ≡ copied_by h.ledger c.args.going.first c.args.going.past (recent_start h) h.recent
  octets = c.copy_image.ensures.copied

  len : length c.copy_image.new.scratch.items ≡ c.args.going.past - c.args.going.first
  len =
      ap length octets
      ∙ length-map-range_with_len (octet_walk h.ledger.changed h.ledger.octets_in h.ledger.octets_out (recent_start h) h.recent) c.args.going.first
      (c.args.going.past - c.args.going.first)

pub put_pieces-requires : goal.put_pieces-requires
put_pieces-requires g c =
    let a = (goal.at.put_pieces-requires g c).After-copy_image in
    let cut : CanCut c.args.own.now.kept c.args.passing.segment.now.header c.args.going = c.requires.pieces (omega (arith, c.if-going.true)) in
    let count : ℕ = length c.deref.result.now in
    let same : length c.deref.result.now ≡ c.args.going.past - c.args.going.first = ap length c.deref.ensures.value ∙ len g a in
    let most : length c.deref.result.now ≤ 98304 = omega (arith, same, cut.copies.few) in
    let few : piece_count (length c.deref.result.now) c.args.going.limit ≤ 2049 =
    few_pieces (length c.deref.result.now) c.args.going.limit most cut.some in
    let all : piece_count (length c.deref.result.now) c.args.going.limit * (20 + length c.header.result.now) ≤ 163920 =
    few_octets (piece_count (length c.deref.result.now) c.args.going.limit) (length c.header.result.now) few c.header.ensures.few in
    record {
      none = c.requires.none;
      can =
          record {
            ip = c.requires.ip;
            tcp = c.header.ensures.right;
            ecn = c.requires.ecn;
            some = omega (arith, cut.some);
            fits = omega (arith, cut.fits, ap length c.header.ensures.octets);
          };
      few = record { pieces = omega (arith, few); octets = omega (arith, most, all) };
    }

pub returns-then-going : goal.returns-then-going
returns-then-going g c =
    let a = (goal.at.returns-then-going g c).After-copy_image in
    let s : Sent = sent_with (standing_kept c.args.own.now.kept) c.args.going in
    let m : SegmentModel =
    record {
      ip = c.args.passing.model.now.ip;
      tcp = c.header.result;
      source = c.args.passing.model.now.source;
      destination = c.args.passing.model.now.destination;
      lifetime = c.args.passing.model.now.lifetime;
      sequence = c.args.going.sequence;
      acknowledgement = c.args.going.acknowledgement;
      flags = c.args.going.flags;
    } in
    let less : c.args.going.first < c.args.going.past = omega (arith, c.if-going.true) in
    let all : s.octets ≡ c.deref.result.now =
    cond-true _ _ _ (lt-ltb c.args.going.first c.args.going.past less) ∙ sym (c.deref.ensures.value ∙ octets g a) in
    c.put_pieces.ensures
    ∙ pieces_sent m s c.deref.result.now refl refl refl all (omega (arith, less, ap length c.deref.ensures.value, len g a))
    ∙ ap (λ (tcp : List ℕ). map (datagram (headers_of c.args.passing.model.now tcp)) (in_pieces s)) c.header.ensures.octets

pub returns-else-going : goal.returns-else-going
returns-else-going g c =
    let s : Sent = sent_with (standing_kept c.args.own.now.kept) c.args.going in
    c.put_empty.ensures
    ∙ sym (bare_sent (headers_of c.args.passing.model.now c.header.result.now) s (cond-false _ _ _ (le-ltb c.args.going.first c.args.going.past (omega (arith, c.if-going.false)))))
    ∙ ap (λ (tcp : List ℕ). map (datagram (headers_of c.args.passing.model.now tcp)) (in_pieces s)) c.header.ensures.octets
