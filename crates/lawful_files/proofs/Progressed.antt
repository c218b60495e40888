-- Records taken one by one are right exactly as long as they are the front of a lawful list's.
use Rattle.std.proofs.Common.{◌≡◌, ◌≤◌, ◌<◌, ◌+◌, ◌-◌, ℕ, Bool, true, false, cond, ◌&&◌, ◌==◌, List, [], ◌∷◌, ◌++◌, length, take, drop, refl, sym, ◌∙◌, ap, subst, arith, inl, inr, length-append, length-drop, ◌||◌, map, nat_lt, nat_le, slice_index_or, fold, bytes_eq}
use Rattle.std.proofs.lemmas.Bool.{cases_Bool, and_parts, and_from, and_left, eqb-true, eq-eqb, true≢false, false≢true, or_cases, or_right}
use Rattle.std.proofs.lemmas.Bool.Decides.{nat_tests}
use Rattle.std.proofs.lemmas.List.{take_at, drop_at, drop_all, drop_more, drop-drop, take-append-drop, length-take-le, map-append, append-nil, length-map, nil_from_length}
use Rattle.std.proofs.lemmas.List.Sums.{fold-append}
use Rattle.std.proofs.lemmas.Slice.Eq.{bytes_eq-Decides}
use Rattle.gate_base.specs.declared.side.Side.{Side}
use Rattle.gate_settings.specs.Prelude.{HasMacAddresses, side_settings}
use Rattle.gate_settings.specs.declared.settings.Settings.{Settings}
use Rattle.ipv4_frames.specs.Ipv4.{Datagram}
use Rattle.pcap_files.specs.Prelude.{Packet}
use Rattle.stream_model.specs.Prelude.{Outgoing, Piece, pieces, Sent, ArePieces, segment_with, alone, MaySend}
use Rattle.gate_model.specs.Prelude.{sent_as}
use Rattle.stream_model.specs.Cuts.{IsPiece}
use Rattle.lawful_files.specs.Wanted.{Wanted, Exactly, Cut}
use Rattle.lawful_files.specs.Files.{record_of}
use Rattle.lawful_files.specs.Progress.{Progress, HasHeads, IsSound, begun, before_octets, is_record, piece_behind, carries_piece, is_next_piece, is_alone, is_right, behind, is_closed, AreLawful, behind_all, AreFront}
use Rattle.lawful_files.proofs.Lengths.{sent_long, framed_long}
use Rattle.stream_model.proofs.Ways.{cut_lawful}

-- ## Equal records

packet_same : (p w : Packet) → p.stamp ≡ w.stamp → p.whole ≡ w.whole → p.octets ≡ w.octets → p ≡ w
packet_same p w e f g =
    ap (λ (n : ℕ). let x : Packet = record { stamp = n; whole = p.whole; octets = p.octets } in x) e
    ∙ ap (λ (b : Bool). let x : Packet = record { stamp = w.stamp; whole = b; octets = p.octets } in x) f
    ∙ ap (λ (xs : List ℕ). let x : Packet = record { stamp = w.stamp; whole = w.whole; octets = xs } in x) g

record_same : (w p : Packet) → w.whole ≡ true → is_record w p ≡ true → p ≡ w
record_same w p whole h =
    let parts = and_parts p.whole (p.stamp == w.stamp && bytes_eq p.octets w.octets) h in
    let more = and_parts (p.stamp == w.stamp) (bytes_eq p.octets w.octets) parts.1 in
    packet_same p w (eqb-true p.stamp w.stamp more.0) (parts.0 ∙ sym whole) ((bytes_eq-Decides p.octets w.octets).0 more.1)

record_holds : (w p : Packet) → w.whole ≡ true → p ≡ w → is_record w p ≡ true
record_holds w p whole e =
    and_from p.whole (p.stamp == w.stamp && bytes_eq p.octets w.octets) (ap (λ (x : Packet). x.whole) e ∙ whole)
    (and_from (p.stamp == w.stamp) (bytes_eq p.octets w.octets) (eq-eqb p.stamp w.stamp (ap (λ (x : Packet). x.stamp) e))
    ((bytes_eq-Decides p.octets w.octets).1 (ap (λ (x : Packet). x.octets) e)))

-- ## Wrong stays wrong

module _ (settings : Settings) (side : Side) (moment : ℕ) where
  abbrev pub packet : List ℕ → Packet
  packet d = record_of settings side moment d

  abbrev pub step : Wanted → Progress → Packet → Progress
  step = behind settings side moment

  abbrev pub accepts : Wanted → Progress → Packet → Bool
  accepts = is_right settings side moment

  abbrev pub after_all : Wanted → Progress → List Packet → Progress
  after_all wanted k ps = fold (step wanted) k ps

  wrong_stays : (wanted : Wanted) (ps : List Packet) (k : Progress) → k.right ≡ false → (after_all wanted k ps).right ≡ false
  wrong_stays wanted [] k e = e
  wrong_stays wanted (p ∷ ps) k e = wrong_stays wanted ps (step wanted k p) (and_left k.right (accepts wanted k p) e)

  -- where all are right behind one more, that one is right
  one_right : (wanted : Wanted) (p : Packet) (ps : List Packet) (k : Progress) → (after_all wanted k (p ∷ ps)).right ≡ true
      → (k.right && accepts wanted k p) ≡ true
  one_right wanted p ps k h =
      elim (cases_Bool (k.right && accepts wanted k p)) [
        | inl e ↦ e
        | inr e ↦ absurd (false≢true (sym (wrong_stays wanted ps (step wanted k p) e) ∙ h))
      ]

  -- the front of right records is right
  pub front_right : (wanted : Wanted) (ps qs : List Packet) (k : Progress) → (after_all wanted k (ps ++ qs)).right ≡ true
      → (after_all wanted k ps).right ≡ true
  front_right wanted ps qs k h =
      let last = after_all wanted k ps in
      elim (cases_Bool last.right) [
        | inl e ↦ e
        | inr e ↦ absurd
            (false≢true (sym (wrong_stays wanted qs last e) ∙ sym (ap (λ (x : Progress). x.right) (fold-append (step wanted) k ps qs)) ∙ h))
      ]

  pub count_is : (wanted : Wanted) (ps : List Packet) (k : Progress) → (after_all wanted k ps).count ≡ k.count + length ps
  count_is wanted [] k = omega arith
  count_is wanted (p ∷ ps) k = count_is wanted ps (step wanted k p) ∙ omega arith

  -- ## Datagrams that are told

  record ExactFront (datagrams : List (List ℕ)) (k : Progress) (ps : List Packet) : Type 0 where
    others : List Packet
    joined : map packet (drop k.count datagrams) ≡ ps ++ others
    few : k.count + length ps ≤ length datagrams

  exact_right : (datagrams : List (List ℕ)) (ps : List Packet) (k : Progress) → k.count ≤ length datagrams
      → (after_all (Exactly datagrams) k ps).right ≡ true → ExactFront datagrams k ps
  exact_right datagrams [] k few h = record { others = map packet (drop k.count datagrams); joined = refl; few = omega (arith, few) }
  exact_right datagrams (p ∷ ps) k few h =
      let one = (and_parts k.right (accepts (Exactly datagrams) k p) (one_right (Exactly datagrams) p ps k h)).1 in
      let parts = and_parts (nat_lt k.count (length datagrams)) (is_record (packet (slice_index_or datagrams k.count [])) p) one in
      let less : k.count < length datagrams = let t = parts.0 in grind (arith, nat_tests) in
      let same : p ≡ packet (slice_index_or datagrams k.count []) = record_same (packet (slice_index_or datagrams k.count [])) p refl parts.1 in
      let rest = exact_right datagrams ps (step (Exactly datagrams) k p) (omega (arith, less)) h in
      record {
        others = rest.others;
        joined =
            ap (map packet) (drop_more datagrams k.count [] less)
            ∙ ap (λ (ws : List Packet). packet (slice_index_or datagrams k.count []) ∷ ws) rest.joined
            ∙ ap (λ (w : Packet). w ∷ (ps ++ rest.others)) (sym same);
        few = omega (arith, rest.few);
      }

  exact_whole : (datagrams ds : List (List ℕ)) (k : Progress) → drop k.count datagrams ≡ ds → k.right ≡ true
      → (after_all (Exactly datagrams) k (map packet ds)).right ≡ true
  exact_whole datagrams [] k e right = right
  exact_whole datagrams (d ∷ ds) k e right =
      let long : 1 ≤ length (drop k.count datagrams) = omega (arith, ap length e) in
      let less : k.count < length datagrams = omega (arith, long, length-drop k.count datagrams) in
      let split : slice_index_or datagrams k.count [] ∷ drop (k.count + 1) datagrams ≡ d ∷ ds = sym (drop_more datagrams k.count [] less) ∙ e in
      let first : slice_index_or datagrams k.count [] ≡ d = cc in
      let others : drop (k.count + 1) datagrams ≡ ds = cc in
      let is_less : nat_lt k.count (length datagrams) ≡ true = grind (arith, nat_tests) in
      exact_whole datagrams ds (step (Exactly datagrams) k (packet d)) others
      (and_from k.right (accepts (Exactly datagrams) k (packet d)) right
      (and_from (nat_lt k.count (length datagrams)) (is_record (packet (slice_index_or datagrams k.count [])) (packet d)) is_less
      (record_holds (packet (slice_index_or datagrams k.count [])) (packet d) refl (ap packet (sym first)))))

  -- ## Octets that may be cut

  module _ (d : Datagram) (source destination : ℕ) (s : Sent) where
    abbrev pub cut : Wanted
    cut = Cut d source destination s

    abbrev pub head_size : ℕ
    head_size = before_octets settings side d

    abbrev pub carries : ℕ → Packet → ℕ → Bool → Bool
    carries = carries_piece settings side moment d source destination s

    abbrev pub follows : ℕ → Packet → ℕ → Bool
    follows = is_next_piece settings side moment d source destination s

    abbrev pub stands_alone : ℕ → Packet → Bool
    stands_alone = is_alone settings side moment d source destination s

    abbrev piece_packet : Piece → Packet
    piece_packet q = packet (sent_as d source destination (segment_with s q))

    -- pieces of the front of octets that stand at a place, behind which these are left
    abbrev ArePart : ℕ → List ℕ → List Piece → List ℕ → Type 0
    ArePart place all [] left = all ≡ left
    ArePart place all (q ∷ qs) left = (next : List ℕ) × IsPiece s place all next q × ArePart (place + length q.octets) next qs left

    end_of : ℕ → List Piece → ℕ
    end_of place [] = place
    end_of place (q ∷ qs) = end_of (place + length q.octets) qs

    -- where they end, and what is left is cut there, all is cut
    part_whole : (place : ℕ) (all : List ℕ) (qs more : List Piece) (left : List ℕ) → ArePart place all qs left
        → ArePieces s (end_of place qs) left more → ArePieces s place all (qs ++ more)
    unfolding end_of
    part_whole place all [] more left h k = subst (λ (xs : List ℕ). ArePieces s place xs more) (sym h) k
    part_whole place all (q ∷ qs) more left h k = (h.0, h.1, part_whole (place + length q.octets) h.0 qs more left h.2 k)

    module _ (heads : HasHeads d) (addresses : HasMacAddresses (side_settings settings side)) (some : (length s.octets == 0) ≡ false) where
      size_of : Packet → ℕ
      size_of p = length p.octets - head_size

      piece_long : (q : Piece) → length (piece_packet q).octets ≡ head_size + length q.octets
      piece_long q =
          omega (
            arith,
            framed_long (side_settings settings side).link (side_settings settings side) (sent_as d source destination (segment_with s q)) addresses,
            sent_long d source destination (segment_with s q) heads,
          )

      -- a record that is right carries a piece
      record NextPiece (k : Progress) (p : Packet) : Type 0 where
        piece : Piece
        same : p ≡ piece_packet piece
        is : IsPiece s k.carried (drop k.carried s.octets) (drop (k.carried + (length p.octets - head_size)) s.octets) piece
        long : length piece.octets ≡ length p.octets - head_size
        within : k.carried + (length p.octets - head_size) ≤ length s.octets

      last_is : (carried size : ℕ) → carried + size ≤ length s.octets
          → (carried + size == length s.octets) ≡ (length (drop (carried + size) s.octets) == 0)
      last_is carried size within = let long = length-drop (carried + size) s.octets in grind (arith, nat_tests)

      is_piece : (k : Progress) (size : ℕ) (push : Bool) → 1 ≤ size → size ≤ s.limit → k.carried + size ≤ length s.octets
          → (push ≡ true → s.flags.push ≡ true)
          → IsPiece s k.carried (drop k.carried s.octets) (drop (k.carried + size) s.octets) (piece_behind s k.carried size push)
      is_piece k size push few most within may =
          let long : length (take size (drop k.carried s.octets)) ≡ size =
          length-take-le size (drop k.carried s.octets) (omega (arith, within, length-drop k.carried s.octets)) in
          record {
            joined = sym (take-append-drop size (drop k.carried s.octets))
                ∙ ap (λ (xs : List ℕ). take size (drop k.carried s.octets) ++ xs) (drop-drop size k.carried s.octets);
            stands = refl;
            some = omega (arith, long, few);
            few = omega (arith, long, most);
            ends = ap (λ (b : Bool). b && s.flags.fin) (last_is k.carried size within);
            pushes = may;
          }

      next_piece : (k : Progress) (p : Packet) → follows k.carried p (length p.octets - head_size) ≡ true → NextPiece k p
      next_piece k p h =
          let size = length p.octets - head_size in
          let parts =
          and_parts (nat_lt 0 size && (nat_le size s.limit && nat_le (k.carried + size) (length s.octets)))
          (carries k.carried p size false || (s.flags.push && carries k.carried p size true)) h in
          let sizes = and_parts (nat_lt 0 size) (nat_le size s.limit && nat_le (k.carried + size) (length s.octets)) parts.0 in
          let bounds = and_parts (nat_le size s.limit) (nat_le (k.carried + size) (length s.octets)) sizes.1 in
          let few : 1 ≤ size = let t = sizes.0 in grind (arith, nat_tests) in
          let most : size ≤ s.limit = let t = bounds.0 in grind (arith, nat_tests) in
          let within : k.carried + size ≤ length s.octets = let t = bounds.1 in grind (arith, nat_tests) in
          let long : length (take size (drop k.carried s.octets)) ≡ size =
          length-take-le size (drop k.carried s.octets) (omega (arith, within, length-drop k.carried s.octets)) in
          elim (or_cases (carries k.carried p size false) (s.flags.push && carries k.carried p size true) parts.1) [
            | inl e ↦ record {
              piece = piece_behind s k.carried size false;
              same = record_same (piece_packet (piece_behind s k.carried size false)) p refl e;
              is = is_piece k size false few most within (λ x. absurd (false≢true x));
              long = long;
              within = within;
            }
            | inr e ↦ (
                let both = and_parts s.flags.push (carries k.carried p size true) e in
                record {
                  piece = piece_behind s k.carried size true;
                  same = record_same (piece_packet (piece_behind s k.carried size true)) p refl both.1;
                  is = is_piece k size true few most within (λ x. both.0);
                  long = long;
                  within = within;
                })
          ]

      right_is : (k : Progress) (p : Packet) → accepts cut k p ≡ follows k.carried p (length p.octets - head_size)
      right_is k p = ap (λ (b : Bool). cond b (stands_alone k.count p) (follows k.carried p (length p.octets - head_size))) some

      -- right records are the front of the octets in pieces
      record CutFront (k : Progress) (ps : List Packet) : Type 0 where
        qs : List Piece
        left : List ℕ
        part : ArePart k.carried (drop k.carried s.octets) qs left
        same : ps ≡ map piece_packet qs
        left_is : left ≡ drop (after_all cut k ps).carried s.octets
        within : (after_all cut k ps).carried ≤ length s.octets

      cut_right : (ps : List Packet) (k : Progress) → k.carried ≤ length s.octets → (after_all cut k ps).right ≡ true → CutFront k ps
      cut_right [] k within h = record { qs = []; left = drop k.carried s.octets; part = refl; same = refl; left_is = refl; within = within }
      cut_right (p ∷ ps) k within h =
          let one = (and_parts k.right (accepts cut k p) (one_right cut p ps k h)).1 in
          let next = next_piece k p (sym (right_is k p) ∙ one) in
          let rest = cut_right ps (step cut k p) next.within h in
          record {
            qs = next.piece ∷ rest.qs;
            left = rest.left;
            part = (
              drop (k.carried + (length p.octets - head_size)) s.octets,
              next.is,
              subst (λ (n : ℕ). ArePart n (drop (k.carried + (length p.octets - head_size)) s.octets) rest.qs rest.left)
                  (ap (λ (n : ℕ). k.carried + n) (sym next.long)) rest.part,
            );
            same = ap (λ (x : Packet). x ∷ ps) next.same ∙ ap (λ (xs : List Packet). piece_packet next.piece ∷ xs) rest.same;
            left_is = rest.left_is;
            within = rest.within;
          }

      -- a piece is the one that stands behind what was carried
      piece_same : (k : Progress) (all next : List ℕ) (q : Piece) → all ≡ drop k.carried s.octets → k.carried ≤ length s.octets
          → IsPiece s k.carried all next q → piece_behind s k.carried (length q.octets) q.push ≡ q
      piece_same k all next q e within h =
          let joined : drop k.carried s.octets ≡ q.octets ++ next = sym e ∙ h.joined in
          let octets : take (length q.octets) (drop k.carried s.octets) ≡ q.octets = ap (take (length q.octets)) joined
          ∙ take_at q.octets next (length q.octets) refl in
          let count = ap length joined in
          let last : (k.carried + length q.octets == length s.octets) ≡ (length next == 0) = let a = length-drop k.carried s.octets in let b =
          length-append q.octets next in grind (arith, nat_tests) in
          ap (λ (n : ℕ). let x : Piece =
          record {
            offset = n;
            octets = take (length q.octets) (drop k.carried s.octets);
            fin =
                k.carried + length q.octets == length s.octets && s.flags.fin;
            push = q.push;
          } in x) (sym h.stands)
          ∙ ap (λ (xs : List ℕ). let x : Piece =
          record { offset = q.offset; octets = xs; fin = k.carried + length q.octets == length s.octets && s.flags.fin; push = q.push } in x) octets
          ∙ ap (λ (b : Bool). let x : Piece = record { offset = q.offset; octets = q.octets; fin = b; push = q.push } in x)
          (ap (λ (b : Bool). b && s.flags.fin) last ∙ sym h.ends)

      piece_right : (k : Progress) (all next : List ℕ) (q : Piece) → all ≡ drop k.carried s.octets → k.carried ≤ length s.octets
          → IsPiece s k.carried all next q → follows k.carried (piece_packet q) (length q.octets) ≡ true
      piece_right k all next q e within h =
          let size = length q.octets in
          let p = piece_packet q in
          let count = ap length (sym e ∙ h.joined) in
          let few : nat_lt 0 size ≡ true = let t = h.some in grind (arith, nat_tests) in
          let most : nat_le size s.limit ≡ true = let t = h.few in grind (arith, nat_tests) in
          let fits : nat_le (k.carried + size) (length s.octets) ≡ true = let a = length-drop k.carried s.octets in let b =
          length-append q.octets next in grind (arith, nat_tests) in
          and_from (nat_lt 0 size && (nat_le size s.limit && nat_le (k.carried + size) (length s.octets)))
          (carries k.carried p size false || (s.flags.push && carries k.carried p size true))
          (and_from (nat_lt 0 size) (nat_le size s.limit && nat_le (k.carried + size) (length s.octets)) few
          (and_from (nat_le size s.limit) (nat_le (k.carried + size) (length s.octets)) most fits))
          (by_push q.push refl)
        where
          by_push : (push : Bool) → q.push ≡ push
              → (carries k.carried (piece_packet q) (length q.octets) false ||
              (s.flags.push && carries k.carried (piece_packet q) (length q.octets) true)) ≡ true
          by_push false g =
              ap (λ (b : Bool). b || (s.flags.push && carries k.carried (piece_packet q) (length q.octets) true))
              (record_holds (piece_packet (piece_behind s k.carried (length q.octets) false)) (piece_packet q) refl
              (ap piece_packet (sym (piece_same k all next q e within h) ∙ ap (piece_behind s k.carried (length q.octets)) g)))
          by_push true g =
              or_right (carries k.carried (piece_packet q) (length q.octets) false)
              (s.flags.push && carries k.carried (piece_packet q) (length q.octets) true)
              (and_from s.flags.push (carries k.carried (piece_packet q) (length q.octets) true) (h.pushes g)
              (record_holds (piece_packet (piece_behind s k.carried (length q.octets) true)) (piece_packet q) refl
              (ap piece_packet (sym (piece_same k all next q e within h) ∙ ap (piece_behind s k.carried (length q.octets)) g))))

      record CutWhole (k : Progress) (qs : List Piece) : Type 0 where
        right : (after_all cut k (map piece_packet qs)).right ≡ true
        carried : (after_all cut k (map piece_packet qs)).carried ≡ length s.octets

      -- pieces of all octets are right
      cut_whole : (qs : List Piece) (k : Progress) (all : List ℕ) → all ≡ drop k.carried s.octets → k.right ≡ true → k.carried ≤ length s.octets
          → ArePieces s k.carried all qs → CutWhole k qs
      cut_whole [] k all e right within h =
          record { right = right; carried = omega (arith, ap length (sym e ∙ h), length-drop k.carried s.octets, within) }
      cut_whole (q ∷ qs) k all e right within h =
          let p = piece_packet q in
          let next = h.0 in
          let size : length p.octets - head_size ≡ length q.octets = omega (arith, piece_long q) in
          let joined : drop k.carried s.octets ≡ q.octets ++ next = sym e ∙ h.1.joined in
          let left : next ≡ drop (k.carried + length q.octets) s.octets = sym (drop_at q.octets next (length q.octets) refl)
          ∙ ap (drop (length q.octets)) (sym joined) ∙ drop-drop (length q.octets) k.carried s.octets in
          let new = step cut k p in
          let carried : new.carried ≡ k.carried + length q.octets = ap (λ (n : ℕ). k.carried + n) size in
          let one : accepts cut k p ≡ true = right_is k p ∙ ap (follows k.carried p) size ∙ piece_right k all next q e within h.1 in
          let rest = cut_whole qs new next (left ∙ ap (λ (n : ℕ). drop n s.octets) (sym carried)) (and_from k.right (accepts cut k p) right one)
          (omega (arith, carried, ap length joined, length-append q.octets next, length-drop k.carried s.octets, within))
          (subst (λ (n : ℕ). ArePieces s n next qs) (sym carried) h.2) in
          record { right = rest.right; carried = rest.carried }

      packets_map : (qs : List Piece) → map piece_packet qs ≡ map packet (map (sent_as d source destination) (map (segment_with s) qs))
      packets_map [] = refl
      packets_map (q ∷ qs) = ap (λ (ps : List Packet). piece_packet q ∷ ps) (packets_map qs)

      may_send : (octets : List ℕ) (qs : List Piece) → (length octets == 0) ≡ false → ArePieces s 0 octets qs
          → MaySend s octets (map (segment_with s) qs)
      may_send [] qs e h = absurd (true≢false e)
      may_send (x ∷ octets) qs e h = (qs, h, refl)

      pieces_of : (octets : List ℕ) (outs : List Outgoing) → (length octets == 0) ≡ false → MaySend s octets outs → (qs : List Piece)
          × ArePieces s 0 octets qs × (outs ≡ map (segment_with s) qs)
      pieces_of [] outs e h = absurd (true≢false e)
      pieces_of (x ∷ octets) outs e h = h

      lawful_by : (ps : List Packet) (qs : List Piece) → ArePieces s 0 s.octets qs → ps ≡ map piece_packet qs → AreLawful settings side moment cut ps
      lawful_by ps qs h e = (
        map (sent_as d source destination) (map (segment_with s) qs),
        (map (segment_with s) qs, may_send s.octets qs some h, refl),
        e
            ∙ packets_map qs,
      )

      -- the pieces of lawful records
      record PiecesBy (ps : List Packet) : Type 0 where
        qs : List Piece
        are : ArePieces s 0 s.octets qs
        same : ps ≡ map piece_packet qs

      pieces_by : (ps : List Packet) → AreLawful settings side moment cut ps → PiecesBy ps
      pieces_by ps h =
          let way = h.1 in
          let found = pieces_of s.octets way.0 some way.1 in
          record {
            qs = found.0;
            are = found.1;
            same = h.2 ∙ ap (map packet) (way.2 ∙ ap (map (sent_as d source destination)) found.2) ∙ sym (packets_map found.0);
          }

      rest_cut : (place : ℕ) (left : List ℕ) → 1 ≤ s.limit → (more : List Piece) × ArePieces s place left more
      rest_cut place [] few = ([], refl)
      rest_cut place (x ∷ left) few = (pieces s.limit place (x ∷ left) s.flags.fin s.flags.push, cut_lawful s place (x ∷ left) few (omega arith))

      cut_is_front : (ps : List Packet) → 1 ≤ s.limit → (behind_all settings side moment cut ps).right ≡ true → AreFront settings side moment cut ps
      cut_is_front ps few h =
          let front = cut_right ps begun (omega arith) h in
          let rest = rest_cut (end_of 0 front.qs) front.left few in (
            map piece_packet rest.0,
            lawful_by (ps ++ map piece_packet rest.0) (front.qs ++ rest.0) (part_whole 0 s.octets front.qs rest.0 front.left front.part rest.1)
                (ap (λ (xs : List Packet). xs ++ map piece_packet rest.0) front.same ∙ sym (map-append piece_packet front.qs rest.0)),
          )

      cut_is_right : (ps : List Packet) → AreFront settings side moment cut ps → (behind_all settings side moment cut ps).right ≡ true
      cut_is_right ps h =
          let found = pieces_by (ps ++ h.0) h.1 in
          let whole = cut_whole found.qs begun s.octets refl refl (omega arith) found.are in
          front_right cut ps h.0 begun (ap (λ (xs : List Packet). (behind_all settings side moment cut xs).right) found.same ∙ whole.right)

      closed_by : (k : Progress) → is_closed cut k ≡ (k.right && k.carried == length s.octets)
      closed_by k = ap (λ (b : Bool). k.right && cond b (k.count == 1) (k.carried == length s.octets)) some

      nothing_left : (left : List ℕ) (n : ℕ) → left ≡ drop n s.octets → n ≡ length s.octets → left ≡ []
      nothing_left left n e f = e ∙ drop_all n s.octets (omega (arith, f))

      cut_is_whole : (ps : List Packet) → is_closed cut (behind_all settings side moment cut ps) ≡ true → AreLawful settings side moment cut ps
      cut_is_whole ps h =
          let k = behind_all settings side moment cut ps in
          let parts = and_parts k.right (k.carried == length s.octets) (sym (closed_by k) ∙ h) in
          let front = cut_right ps begun (omega arith) parts.0 in
          let none = nothing_left front.left k.carried front.left_is (eqb-true k.carried (length s.octets) parts.1) in
          lawful_by ps (front.qs ++ []) (part_whole 0 s.octets front.qs [] front.left front.part none)
          (front.same ∙ ap (map piece_packet) (sym (append-nil front.qs)))

      whole_is_cut : (ps : List Packet) → AreLawful settings side moment cut ps → is_closed cut (behind_all settings side moment cut ps) ≡ true
      whole_is_cut ps h =
          let found = pieces_by ps h in
          let whole = cut_whole found.qs begun s.octets refl refl (omega arith) found.are in
          let k = behind_all settings side moment cut ps in
          let same = ap (behind_all settings side moment cut) found.same in
          closed_by k
          ∙ and_from k.right (k.carried == length s.octets) (ap (λ (x : Progress). x.right) same ∙ whole.right)
          (eq-eqb k.carried (length s.octets) (ap (λ (x : Progress). x.carried) same ∙ whole.carried))

    -- without octets
    module _ (none : s.octets ≡ []) where
      no_length : (length s.octets == 0) ≡ true
      no_length = ap (λ (xs : List ℕ). length xs == 0) none

      alone_right_is : (k : Progress) (p : Packet) → accepts cut k p ≡ stands_alone k.count p
      alone_right_is k p = ap (λ (b : Bool). cond b (stands_alone k.count p) (follows k.carried p (length p.octets - head_size))) no_length

      alone_closed_by : (k : Progress) → is_closed cut k ≡ (k.right && k.count == 1)
      alone_closed_by k = ap (λ (b : Bool). k.right && cond b (k.count == 1) (k.carried == length s.octets)) no_length

      alone_lawful : AreLawful settings side moment cut (packet (sent_as d source destination (alone s)) ∷ [])
      alone_lawful = (
        sent_as d source destination (alone s) ∷ [],
        (alone s ∷ [], subst (λ (xs : List ℕ). MaySend s xs (alone s ∷ [])) (sym none) refl, refl),
        refl,
      )

      lawful_alone : (ps : List Packet) → AreLawful settings side moment cut ps → ps ≡ packet (sent_as d source destination (alone s)) ∷ []
      lawful_alone ps h =
          let way = h.1 in
          let outs : way.0 ≡ alone s ∷ [] = subst (λ (xs : List ℕ). MaySend s xs way.0) none way.1 in
          h.2 ∙ ap (map packet) (way.2 ∙ ap (map (sent_as d source destination)) outs)

      -- one record behind another isn't right
      second_wrong : (k : Progress) (p : Packet) → 1 ≤ k.count → accepts cut k p ≡ false
      second_wrong k p some = alone_right_is k p
          ∙ and_left (k.count == 0) (is_record (packet (sent_as d source destination (alone s))) p) (grind (arith, nat_tests))

      alone_is : (p : Packet) → accepts cut begun p ≡ true → p ≡ packet (sent_as d source destination (alone s))
      alone_is p h =
          record_same (packet (sent_as d source destination (alone s))) p refl
          (and_parts true (is_record (packet (sent_as d source destination (alone s))) p) (sym (alone_right_is begun p) ∙ h)).1

      alone_right : accepts cut begun (packet (sent_as d source destination (alone s))) ≡ true
      alone_right = alone_right_is begun (packet (sent_as d source destination (alone s)))
          ∙ record_holds (packet (sent_as d source destination (alone s))) (packet (sent_as d source destination (alone s))) refl refl

      alone_is_front : (ps : List Packet) → (behind_all settings side moment cut ps).right ≡ true → AreFront settings side moment cut ps
      alone_is_front [] h = (packet (sent_as d source destination (alone s)) ∷ [], alone_lawful)
      alone_is_front (p ∷ []) h = ([], subst (λ (x : Packet). AreLawful settings side moment cut (x ∷ [])) (sym (alone_is p h)) alone_lawful)
      alone_is_front (p ∷ q ∷ ps) h =
          let k = step cut begun p in
          absurd (false≢true (sym (second_wrong k q (omega arith)) ∙ (and_parts k.right (accepts cut k q) (one_right cut q ps k h)).1))

      alone_is_right : (ps : List Packet) → AreFront settings side moment cut ps → (behind_all settings side moment cut ps).right ≡ true
      alone_is_right ps h =
          front_right cut ps h.0 begun
          (ap (λ (xs : List Packet). (behind_all settings side moment cut xs).right) (lawful_alone (ps ++ h.0) h.1) ∙ alone_right)

      alone_is_whole : (ps : List Packet) → is_closed cut (behind_all settings side moment cut ps) ≡ true → AreLawful settings side moment cut ps
      alone_is_whole ps h =
          let k = behind_all settings side moment cut ps in
          let parts = and_parts k.right (k.count == 1) (sym (alone_closed_by k) ∙ h) in
          let front = alone_is_front ps parts.0 in
          let same = lawful_alone (ps ++ front.0) front.1 in
          let count = count_is cut ps begun in
          let one = eqb-true k.count 1 parts.1 in
          let no_more : front.0 ≡ [] = nil_from_length front.0 (omega (arith, ap length same, length-append ps front.0, count, one)) in
          subst (AreLawful settings side moment cut) (ap (λ (xs : List Packet). ps ++ xs) no_more ∙ append-nil ps) front.1

      whole_is_alone : (ps : List Packet) → AreLawful settings side moment cut ps → is_closed cut (behind_all settings side moment cut ps) ≡ true
      whole_is_alone ps h =
          let k = behind_all settings side moment cut ps in
          let same = ap (behind_all settings side moment cut) (lawful_alone ps h) in
          alone_closed_by k
          ∙ and_from k.right (k.count == 1) (ap (λ (x : Progress). x.right) same ∙ alone_right)
          (eq-eqb k.count 1 (ap (λ (x : Progress). x.count) same))

  -- ## All that may be wanted

  exact_is_front : (datagrams : List (List ℕ)) (ps : List Packet) → (behind_all settings side moment (Exactly datagrams) ps).right ≡ true
      → AreFront settings side moment (Exactly datagrams) ps
  exact_is_front datagrams ps h = let front = exact_right datagrams ps begun (omega arith) h in (front.others, (datagrams, refl, sym front.joined))

  exact_is_right : (datagrams : List (List ℕ)) (ps : List Packet) → AreFront settings side moment (Exactly datagrams) ps
      → (behind_all settings side moment (Exactly datagrams) ps).right ≡ true
  exact_is_right datagrams ps h =
      front_right (Exactly datagrams) ps h.0 begun
      (ap (λ (xs : List Packet). (behind_all settings side moment (Exactly datagrams) xs).right) (h.1.2 ∙ ap (map packet) h.1.1)
      ∙ exact_whole datagrams datagrams begun refl refl)

  exact_is_whole : (datagrams : List (List ℕ)) (ps : List Packet)
      → is_closed (Exactly datagrams) (behind_all settings side moment (Exactly datagrams) ps) ≡ true
      → AreLawful settings side moment (Exactly datagrams) ps
  exact_is_whole datagrams ps h =
      let k = behind_all settings side moment (Exactly datagrams) ps in
      let parts = and_parts k.right (k.count == length datagrams) h in
      let front = exact_right datagrams ps begun (omega arith) parts.0 in
      let count = count_is (Exactly datagrams) ps begun in
      let all = eqb-true k.count (length datagrams) parts.1 in
      let no_more : front.others ≡ [] =
      nil_from_length front.others
      (omega (arith, ap length front.joined, length-append ps front.others, length-map datagrams packet, count, all)) in
      (datagrams, refl, sym (front.joined ∙ ap (λ (xs : List Packet). ps ++ xs) no_more ∙ append-nil ps))

  whole_is_exact : (datagrams : List (List ℕ)) (ps : List Packet) → AreLawful settings side moment (Exactly datagrams) ps
      → is_closed (Exactly datagrams) (behind_all settings side moment (Exactly datagrams) ps) ≡ true
  whole_is_exact datagrams ps h =
      let k = behind_all settings side moment (Exactly datagrams) ps in
      let same : ps ≡ map packet datagrams = h.2 ∙ ap (map packet) h.1 in
      and_from k.right (k.count == length datagrams)
      (ap (λ (xs : List Packet). (behind_all settings side moment (Exactly datagrams) xs).right) same
      ∙ exact_whole datagrams datagrams begun refl refl)
      (eq-eqb k.count (length datagrams) (count_is (Exactly datagrams) ps begun ∙ omega (arith, ap length same, length-map datagrams packet)))

  pub is_front : HasMacAddresses (side_settings settings side) → (wanted : Wanted) (ps : List Packet) → IsSound wanted
      → (behind_all settings side moment wanted ps).right ≡ true → AreFront settings side moment wanted ps
  is_front addresses (Exactly datagrams) ps sound h = exact_is_front datagrams ps h
  is_front addresses (Cut d source destination s) ps sound h =
      elim (cases_Bool (length s.octets == 0)) [
        | inl e ↦ alone_is_front d source destination s (nil_from_length s.octets (eqb-true (length s.octets) 0 e)) ps h
        | inr e ↦ cut_is_front d source destination s sound.0 addresses e ps sound.1 h
      ]

  pub is_right_front : HasMacAddresses (side_settings settings side) → (wanted : Wanted) (ps : List Packet) → IsSound wanted
      → AreFront settings side moment wanted ps → (behind_all settings side moment wanted ps).right ≡ true
  is_right_front addresses (Exactly datagrams) ps sound h = exact_is_right datagrams ps h
  is_right_front addresses (Cut d source destination s) ps sound h =
      elim (cases_Bool (length s.octets == 0)) [
        | inl e ↦ alone_is_right d source destination s (nil_from_length s.octets (eqb-true (length s.octets) 0 e)) ps h
        | inr e ↦ cut_is_right d source destination s sound.0 addresses e ps h
      ]

  pub is_whole : HasMacAddresses (side_settings settings side) → (wanted : Wanted) (ps : List Packet) → IsSound wanted
      → is_closed wanted (behind_all settings side moment wanted ps) ≡ true → AreLawful settings side moment wanted ps
  is_whole addresses (Exactly datagrams) ps sound h = exact_is_whole datagrams ps h
  is_whole addresses (Cut d source destination s) ps sound h =
      elim (cases_Bool (length s.octets == 0)) [
        | inl e ↦ alone_is_whole d source destination s (nil_from_length s.octets (eqb-true (length s.octets) 0 e)) ps h
        | inr e ↦ cut_is_whole d source destination s sound.0 addresses e ps h
      ]

  pub whole_is_closed : HasMacAddresses (side_settings settings side) → (wanted : Wanted) (ps : List Packet) → IsSound wanted
      → AreLawful settings side moment wanted ps → is_closed wanted (behind_all settings side moment wanted ps) ≡ true
  whole_is_closed addresses (Exactly datagrams) ps sound h = whole_is_exact datagrams ps h
  whole_is_closed addresses (Cut d source destination s) ps sound h =
      elim (cases_Bool (length s.octets == 0)) [
        | inl e ↦ whole_is_alone d source destination s (nil_from_length s.octets (eqb-true (length s.octets) 0 e)) ps h
        | inr e ↦ whole_is_cut d source destination s sound.0 addresses e ps h
      ]
