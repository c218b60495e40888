-- Datagrams one behind the other.
use Rattle.std.proofs.Common.{◌≡◌, ◌≤◌, ◌<◌, ◌+◌, ◌-◌, ◌*◌, ◌%◌, ◌^◌, ℕ, zero, suc, List, [], ◌∷◌, ◌++◌, length, get_or, take, drop, slice_range, refl, sym, ap, subst, ◌∙◌, arith, map, flat_map, take_at, drop_at, append_assoc, length-append, length-drop, length-take}
use Rattle.std.specs.List.{range_with_len}
use Rattle.std.proofs.lemmas.List.{get_or_read, take_all, length-take-le}
use Rattle.ipv4_frames.specs.Ipv4.{spelled_head}
use Rattle.ipv4_frames.proofs.Heads.{head_long}
use Rattle.tcp_segments.specs.declared.flags.Flags.{Flags}
use Rattle.tcp_segments.specs.Prelude.{flags_octet, spelled_segment}
use Rattle.tcp_segments.proofs.Written.{segment_long}
use Rattle.resegment.specs.declared.put.SegmentModel.{SegmentModel}
use Rattle.resegment.specs.Pieces.{piece_count, cut_at, more_follow, piece_octets}
use Rattle.resegment.specs.Datagrams.{piece_flags, piece_datagram, datagrams, ends_from, datagrams_from, AreEnds, CanPut}
use Rattle.resegment.proofs.PieceLemmas.{cut_is}

-- ## The datagram at a place

pub ends_count : (start : ℕ) (octets ends : List ℕ) → length (datagrams_from start octets ends) ≡ length ends
ends_count start octets [] = refl
ends_count start octets (end ∷ ends) = ap suc (ends_count end octets ends)

-- no place is behind the last one
ends_within : (start : ℕ) (ends : List ℕ) (count : ℕ) → AreEnds start ends count → start ≤ count
ends_within start [] count are = omega arith
ends_within start (end ∷ ends) count are = omega (arith, are.0, ends_within end ends count are.2)

-- where the datagram at a place begins and ends
pub record Bounds (low high count : ℕ) : Type 0 where
  pub ordered : low ≤ high
  pub short : high ≤ low + 65535
  pub within : high ≤ count

pub bounds : (start : ℕ) (ends : List ℕ) (count place : ℕ) → AreEnds start ends count → place < length ends
    → Bounds (get_or (start ∷ ends) place 0) (get_or ends place 0) count
bounds start [] count place are less = absurd (omega arith)
bounds start (end ∷ ends) count zero are less = record { ordered = are.0; short = are.1; within = ends_within end ends count are.2 }
bounds start (end ∷ ends) count (suc place) are less = bounds end ends count place are.2 (omega arith)

pub datagram_at : (start : ℕ) (octets ends : List ℕ) (place : ℕ) → place < length ends
    → get_or (datagrams_from start octets ends) place [] ≡ slice_range octets (get_or (start ∷ ends) place 0) (get_or ends place 0)
datagram_at start octets [] place less = absurd (omega arith)
datagram_at start octets (end ∷ ends) zero less = refl
datagram_at start octets (end ∷ ends) (suc place) less = datagram_at end octets ends place (omega arith)

-- the places that are read for the datagram at one
pub record IsFound (octets ends : List ℕ) (place low high : ℕ) : Type 0 where
  pub within : place < length ends
  pub low_is : low ≡ get_or (0 ∷ ends) place 0
  pub high_is : high ≡ get_or ends place 0
  pub bounds_are : Bounds low high (length octets)

pub found : (octets ends read : List ℕ) (all : List (List ℕ)) (place low high : ℕ) → AreEnds 0 ends (length octets)
    → datagrams_from 0 octets ends ≡ all → place < length all → read ≡ ends → low ≡ get_or (0 ∷ read) place 0 → high ≡ get_or ends place high
    → IsFound octets ends place low high
found octets ends read all place low high are view less same first last =
    let within : place < length ends = omega (arith, ap length view, ends_count 0 octets ends, less) in
    let low_is : low ≡ get_or (0 ∷ ends) place 0 = first ∙ ap (λ (xs : List ℕ). get_or (0 ∷ xs) place 0) same in
    let high_is : high ≡ get_or ends place 0 = get_or_read ends _ _ within last 0 in
    let b = bounds 0 ends (length octets) place are within in
    record {
      within = within;
      low_is = low_is;
      high_is = high_is;
      bounds_are =
          record {
            ordered = omega (arith, low_is, high_is, b.ordered);
            short = omega (arith, low_is, high_is, b.short);
            within =
                omega (arith, high_is, b.within);
          };
    }

pub found_octets : (octets ends : List ℕ) (place low high : ℕ) → IsFound octets ends place low high
    → slice_range octets low high ≡ get_or (datagrams_from 0 octets ends) place []
found_octets octets ends place low high f = ap (λ (n : ℕ). slice_range octets n high) f.low_is
    ∙ ap (slice_range octets (get_or (0 ∷ ends) place 0)) f.high_is ∙ sym (datagram_at 0 octets ends place f.within)

pub range_short : (octets : List ℕ) (low high : ℕ) → Bounds low high (length octets) → length (slice_range octets low high) ≤ 65535
range_short octets low high b =
    omega (arith, length-take-le (high - low) (drop low octets) (omega (arith, b.within, b.ordered, length-drop low octets)), b.short)

-- ## No datagrams

pub no_ends : (octets ends : List ℕ) → datagrams_from 0 octets ends ≡ [] → ends ≡ []
no_ends octets [] e = refl
no_ends octets (end ∷ ends) e = absurd (cc)

pub no_octets : (octets ends : List ℕ) → AreEnds 0 ends (length octets) → datagrams_from 0 octets ends ≡ [] → octets ≡ []
no_octets [] ends a e = refl
no_octets (x ∷ octets) [] a e = absurd (cc)
no_octets (x ∷ octets) (end ∷ ends) a e = absurd (cc)

-- ## Datagrams by their ends

-- each has at most so many octets
abbrev pub AreShort : ℕ → List (List ℕ) → Type 0
AreShort most [] = Unit {0}
AreShort most (d ∷ ds) = (length d ≤ most) × AreShort most ds

joined_ends : (start : ℕ) (ds : List (List ℕ)) → AreShort 65535 ds → AreEnds start (ends_from start ds) (start + length (flat_map (λ d. d) ds))
joined_ends start [] short = omega arith
joined_ends start (d ∷ ds) short =
    let all : (start + length d) + length (flat_map (λ d. d) ds) ≡ start + length (d ++ flat_map (λ d. d) ds) =
    omega (arith, length-append d (flat_map (λ d. d) ds)) in (
      omega arith,
      omega (arith, short.0),
      subst (λ (n : ℕ). AreEnds (start + length d) (ends_from (start + length d) ds) n) all (joined_ends (start + length d) ds short.1),
    )

joined_datagrams : (front : List ℕ) (ds : List (List ℕ))
    → datagrams_from (length front) (front ++ flat_map (λ d. d) ds) (ends_from (length front) ds) ≡ ds
joined_datagrams front [] = refl
joined_datagrams front (d ∷ ds) =
    let rest = flat_map (λ d. d) ds in
    let here : slice_range (front ++ (d ++ rest)) (length front) (length front + length d) ≡ d =
    ap (take (length front + length d - length front)) (drop_at front (d ++ rest) (length front) refl)
    ∙ take_at d rest (length front + length d - length front) (omega arith) in
    let more : datagrams_from (length front + length d) (front ++ (d ++ rest)) (ends_from (length front + length d) ds) ≡ ds =
    subst (λ (xs : List ℕ). datagrams_from (length front + length d) xs (ends_from (length front + length d) ds) ≡ ds) (append_assoc front d rest)
    (subst (λ (n : ℕ). datagrams_from n ((front ++ d) ++ rest) (ends_from n ds) ≡ ds) (length-append front d) (joined_datagrams (front ++ d) ds)) in
    ap (λ (x : List ℕ). x ∷ datagrams_from (length front + length d) (front ++ (d ++ rest)) (ends_from (length front + length d) ds)) here
    ∙ ap (λ (xs : List (List ℕ)). d ∷ xs) more

pub joined_view : (octets ends : List ℕ) (ds : List (List ℕ)) → octets ≡ flat_map (λ d. d) ds → ends ≡ ends_from 0 ds
    → datagrams_from 0 octets ends ≡ ds
joined_view octets ends ds e f = ap (λ (xs : List ℕ). datagrams_from 0 xs ends) e ∙ ap (datagrams_from 0 (flat_map (λ d. d) ds)) f
    ∙ joined_datagrams [] ds

-- ## What is put where there is none

piece_short : (m : SegmentModel) (octets : List ℕ) (limit index : ℕ) → CanPut m limit → length (piece_datagram m octets limit index) ≤ 65535
piece_short m octets limit index can =
    let part : List ℕ = piece_octets octets limit index in
    let flags : Flags = piece_flags m.flags (more_follow (length octets) limit index) in
    let segment : List ℕ =
    spelled_segment m.tcp.now m.source.0 m.destination.0 ((m.sequence + cut_at (length octets) limit index) % 2 ^ 32) m.acknowledgement
    (flags_octet flags) part in
    let size : length segment ≡ length m.tcp.now + length part =
    segment_long m.tcp.now part m.source.0 m.destination.0 ((m.sequence + cut_at (length octets) limit index) % 2 ^ 32) m.acknowledgement
    (flags_octet flags) can.tcp in
    let head : length (spelled_head m.ip.now (20 + length segment) m.lifetime m.source.0 m.destination.0) ≡ 20 =
    head_long m.ip.now (20 + length segment) m.lifetime m.source.0 m.destination.0 can.ip in
    let times : (index + 1) * limit ≡ index * limit + limit = grind arith in
    let few : length part ≤ limit =
    omega (
      arith,
      length-take (cut_at (length octets) limit (index + 1) - cut_at (length octets) limit index)
          (drop (cut_at (length octets) limit index) octets),
      cut_is (length octets) limit index can.some,
      cut_is (length octets) limit (index + 1) can.some,
      times,
    ) in
    omega (
      arith,
      size,
      head,
      few,
      can.fits,
      can.tcp.0,
      length-append (spelled_head m.ip.now (20 + length segment) m.lifetime m.source.0 m.destination.0) segment,
    )

pieces_short : (m : SegmentModel) (octets : List ℕ) (limit index count : ℕ) → CanPut m limit
    → AreShort 65535 (map (piece_datagram m octets limit) (range_with_len index count))
pieces_short m octets limit index zero can = tt
pieces_short m octets limit index (suc count) can = (piece_short m octets limit index can, pieces_short m octets limit (index + 1) count can)

pub all_short : (m : SegmentModel) (octets : List ℕ) (limit : ℕ) → CanPut m limit → AreShort 65535 (datagrams m octets limit)
all_short m octets limit can = pieces_short m octets limit 0 (piece_count (length octets) limit) can

-- behind nothing
pub behind_none : (old new more : List ℕ) → old ≡ [] → new ≡ old ++ more → new ≡ more
behind_none old new more none e = e ∙ ap (λ (xs : List ℕ). xs ++ more) none

pub joined_bounds : (octets ends : List ℕ) (ds : List (List ℕ)) → octets ≡ flat_map (λ d. d) ds → ends ≡ ends_from 0 ds → AreShort 65535 ds
    → AreEnds 0 ends (length octets)
joined_bounds octets ends ds e f short =
    subst (λ (xs : List ℕ). AreEnds 0 ends (length xs)) (sym e)
    (subst (λ (xs : List ℕ). AreEnds 0 xs (length (flat_map (λ d. d) ds))) (sym f)
    (subst (λ (n : ℕ). AreEnds 0 (ends_from 0 ds) n) (omega arith) (joined_ends 0 ds short)))

-- one datagram
pub one_put : (octets ends datagram : List ℕ) → octets ≡ datagram → ends ≡ length octets ∷ [] → length octets ≤ 65535 → AreEnds 0 ends (length octets)
    × (datagrams_from 0 octets ends ≡ datagram ∷ [])
one_put octets ends datagram o e few = (
  subst (λ (xs : List ℕ). AreEnds 0 xs (length octets)) (sym e) (omega arith, omega (arith, few), refl),
  ap (datagrams_from 0 octets) e ∙ ap (λ (k : ℕ). take k octets ∷ []) {x = length octets - 0} {y = length octets} (omega arith)
      ∙ ap (λ (x : List ℕ). x ∷ []) (take_all (length octets) octets (omega arith)) ∙ ap (λ (x : List ℕ). x ∷ []) o,
)
