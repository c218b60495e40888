-- A capture that is read can be cut into the spellings of its records and a rest.
use Rattle.std.proofs.Common.{◌≡◌, ℕ, zero, suc, ◌+◌, ◌*◌, ◌^◌, ◌<◌, ◌≤◌, List, [], ◌∷◌, ◌++◌, All, Bool, true, false, cond, Option, Some, None, nat_lt, nat_le, ◌==◌, map, take, drop, length, refl, sym, ap, subst, ◌∙◌, append_assoc, add_assoc, add-zero, arith, length-append, length-drop, eqb-true}
use Rattle.std.proofs.lemmas.List.{take-append-drop, drop-drop, length-take-le, nil_from_length}
use Rattle.std.proofs.lemmas.Bool.Decides.{nat_tests}
use Rattle.gate_base.specs.declared.side.Link.{Link}
use Rattle.gate_base.specs.declared.side.Link.TheVariants.{Ethernet, Raw}
use Rattle.gate_base.proofs.Lists.{find_passes}
use Rattle.pcap_files.specs.declared.fault.CaptureFault.{CaptureFault}
use Rattle.pcap_files.specs.declared.fault.CaptureFault.TheVariants.{NoHead, Magic, Link as OtherLink}
use Rattle.pcap_files.specs.declared.form.Order.{Order}
use Rattle.pcap_files.specs.declared.form.Precision.{Precision}
use Rattle.pcap_files.specs.declared.form.Form.{Form}
use Rattle.pcap_files.specs.Prelude.{Packet, size, Next, Ended, Broken, Came, tested, record_tests, packet_at, number_at, unit, magic, link_number}
use Rattle.pcap_files.specs.Prelude.{Head, Good, Bad, layout_at, link_of, by_layout, by_link, Records, Ending, Whole, Fault, records_from, capture_of}
use Rattle.pcap_files.specs.Prelude.{number_octets, spelled_head, Entry, spelled, all_spelled, packet_from, IsGood, AreGood, first_fault, EndsWith}
use Rattle.pcap_files.specs.Prelude.{IsCapture}
use Rattle.pcap_files.specs.Capture.{next_at, head_of, layouts}
use Rattle.pcap_files.proofs.Numbers.{AreOctets, octets_of, octets-drop, number-small, number_octets-number}
use Rattle.pcap_files.proofs.Joined.{number_at-drop, length-spelled}
use Rattle.pcap_files.proofs.Records.{came_from_some, ended_is_empty, records-came, records-ended, records-broken, capture-good}

-- none of the tests holds
NoneHolds : List (Bool × CaptureFault) → Type 0
NoneHolds [] = Unit {0}
NoneHolds (t ∷ tests) = (t.0 ≡ false) × NoneHolds tests

broken_not_came : (f : CaptureFault) (p : Packet) → Broken f ≡ Came p → ⊥
broken_not_came f p e = cc

ended_not_came : (p : Packet) → Ended ≡ Came p → ⊥
ended_not_came p e = cc

ended_not_broken : (f : CaptureFault) → Ended ≡ Broken f → ⊥
ended_not_broken f e = cc

came_not_broken : (f : CaptureFault) (p : Packet) → Came p ≡ Broken f → ⊥
came_not_broken f p e = cc

abbrev packet_or : Packet → Next → Packet
packet_or p Ended = p
packet_or p (Broken f) = p
packet_or p (Came q) = q

abbrev broken_or : CaptureFault → Next → CaptureFault
broken_or f Ended = f
broken_or f (Broken g) = g
broken_or f (Came q) = f

-- where a record comes, no test holds
none_holds : (tests : List (Bool × CaptureFault)) (p q : Packet) → tested tests p ≡ Came q → NoneHolds tests × (p ≡ q)
unfolding NoneHolds
none_holds [] p q e = (tt, ap (packet_or p) e)
none_holds (t ∷ tests) p q e =
    elim t.0 as (λ b. cond b (Broken t.1) (tested tests p) ≡ Came q → ((b ≡ false) × NoneHolds tests) × (p ≡ q)) [
      | true ↦ λ k. absurd (broken_not_came t.1 q k)
      | false ↦ λ k. (let h = none_holds tests p q k in ((refl, h.0), h.1))
    ] e

-- where a fault comes, its test is the first that holds
first_holds : (tests : List (Bool × CaptureFault)) (p : Packet) (f : CaptureFault) → tested tests p ≡ Broken f → first_fault tests ≡ Some f
first_holds [] p f e = absurd (came_not_broken f p e)
first_holds (t ∷ tests) p f e =
    elim t.0 as (λ b. cond b (Broken t.1) (tested tests p) ≡ Broken f → cond b (Some t.1) (first_fault tests) ≡ Some f) [
      | true ↦ λ k. ap (λ (x : Next). Some (broken_or t.1 x)) k
      | false ↦ λ k. first_holds tests p f k
    ] e

-- what a record that comes tells
came_is : (form : Form) (place : ℕ) (octets : List ℕ) (p : Packet) → next_at form place octets ≡ Came p → NoneHolds (record_tests form place octets)
    × (packet_at form octets ≡ p)
unfolding next_at
came_is form place octets p e =
    elim (length octets == 0) as
    (λ b. cond b Ended (tested (record_tests form place octets) (packet_at form octets)) ≡ Came p → NoneHolds (record_tests form place octets)
    × (packet_at form octets ≡ p)) [
      | true ↦ λ k. absurd (ended_not_came p k)
      | false ↦ λ k. none_holds (record_tests form place octets) (packet_at form octets) p k
    ] e

broken_is : (form : Form) (place : ℕ) (octets : List ℕ) (f : CaptureFault) → next_at form place octets ≡ Broken f → (0 < length octets)
    × (first_fault (record_tests form place octets) ≡ Some f)
unfolding next_at
broken_is form place octets f e =
    elim (length octets == 0) as
    (λ b. (length octets == 0) ≡ b → cond b Ended (tested (record_tests form place octets) (packet_at form octets)) ≡ Broken f
    → (0 < length octets) × (first_fault (record_tests form place octets) ≡ Some f)) [
      | true ↦ λ b k. absurd (ended_not_broken f k)
      | false ↦ λ b k. (grind (arith, nat_tests), first_holds (record_tests form place octets) (packet_at form octets) f k)
    ] refl e

-- the record at the front, as its writer had it
abbrev entry_at : Form → List ℕ → Entry
entry_at form octets = record {
  seconds = number_at form.order 0 octets;
  fraction = number_at form.order 4 octets;
  original = number_at form.order 12 octets;
  octets = take (number_at form.order 8 octets) (drop 16 octets);
}

-- what a record that comes fits
record Comes (form : Form) (place : ℕ) (octets : List ℕ) : Type 0 where
  good : IsGood form place (entry_at form octets)
  kept : length (take (number_at form.order 8 octets) (drop 16 octets)) ≡ number_at form.order 8 octets
  long : 16 + number_at form.order 8 octets ≤ length octets

number_small : (order : Order) (place : ℕ) (octets : List ℕ) → AreOctets octets → number_at order place octets < 2 ^ 32
number_small order place octets h = subst (λ n. n < 2 ^ 32) (sym (number_at-drop order place octets))
    (number-small order (drop place octets) (octets-drop place octets h))

comes : (form : Form) (place : ℕ) (octets : List ℕ) → AreOctets octets → NoneHolds (record_tests form place octets) → Comes form place octets
unfolding NoneHolds
comes form place octets small h =
    let early : number_at form.order 4 octets * unit form.precision < 1000000000 = let e = h.1.0 in grind (arith, nat_tests) in
    let short : number_at form.order 8 octets ≤ 262144 = let e = h.1.1.0 in grind (arith, nat_tests) in
    let ends : place + 16 + number_at form.order 8 octets ≤ 2 ^ 40 = let e = h.1.1.1.0 in grind (arith, nat_tests) in
    let long : 16 + number_at form.order 8 octets ≤ length octets = let e = h.1.1.1.1.0 in grind (arith, nat_tests) in
    let kept : length (take (number_at form.order 8 octets) (drop 16 octets)) ≡ number_at form.order 8 octets =
    length-take-le (number_at form.order 8 octets) (drop 16 octets) (omega (arith, length-drop 16 octets)) in record {
      good = record {
        seconds = number_small form.order 0 octets small;
        fraction = early;
        original = number_small form.order 12 octets small;
        kept = omega (arith, kept, short);
        ends = omega (arith, kept, ends);
      };
      kept = kept;
      long = long;
    }

-- a number stands at a place as its spelling
spelled_at : (order : Order) (place : ℕ) (octets : List ℕ) → AreOctets octets → place + 4 ≤ length octets
    → number_octets order (number_at order place octets) ≡ take 4 (drop place octets)
spelled_at order place octets small long =
    ap (number_octets order) (number_at-drop order place octets)
    ∙ number_octets-number order (drop place octets) (omega (arith, length-drop place octets)) (octets-drop place octets small)

-- what stands at a place and what stands behind
piece : (n place : ℕ) (octets : List ℕ) → drop place octets ≡ take n (drop place octets) ++ drop (place + n) octets
piece n place octets = sym (take-append-drop n (drop place octets))
    ∙ ap (λ (xs : List ℕ). take n (drop place octets) ++ xs) (drop-drop n place octets)

regroup : (a b c d e t : List ℕ) → (a ++ b ++ c ++ d ++ e) ++ t ≡ a ++ (b ++ (c ++ (d ++ (e ++ t))))
regroup a b c d e t = simp append_assoc

four_pieces : (a b c d a' b' c' d' t : List ℕ) → a ≡ a' → b ≡ b' → c ≡ c' → d ≡ d' → a ++ (b ++ (c ++ (d ++ t))) ≡ a' ++ (b' ++ (c' ++ (d' ++ t)))
four_pieces a b c d a' b' c' d' t e f g h = cc

cut_numbers : (n : ℕ) (octets : List ℕ) → octets ≡ take 4 octets
    ++ (take 4 (drop 4 octets) ++ (take 4 (drop 8 octets) ++ (take 4 (drop 12 octets) ++ (take n (drop 16 octets) ++ drop (16 + n) octets))))
cut_numbers n octets =
    piece 4 0 octets ∙ ap (λ (xs : List ℕ). take 4 octets ++ xs) (
    piece 4 4 octets ∙ ap (λ (xs : List ℕ). take 4 (drop 4 octets) ++ xs) (
    piece 4 8 octets ∙ ap (λ (xs : List ℕ). take 4 (drop 8 octets) ++ xs) (
    piece 4 12 octets ∙ ap (λ (xs : List ℕ). take 4 (drop 12 octets) ++ xs) (piece n 16 octets))))

-- the octets of a record that comes are its spelling
front : (form : Form) (place : ℕ) (octets : List ℕ) → AreOctets octets → Comes form place octets → octets ≡ spelled form.order (entry_at form octets)
    ++ drop (16 + length (entry_at form octets).octets) octets
front form place octets small c =
    let kept : ℕ = number_at form.order 8 octets in
    let e : Entry = entry_at form octets in
    let long = c.long in
    cut_numbers kept octets
    ∙ four_pieces _ _ _ _ _ _ _ _ (take kept (drop 16 octets) ++ drop (16 + kept) octets)
    (sym (spelled_at form.order 0 octets small (omega arith))) (sym (spelled_at form.order 4 octets small (omega arith)))
    (sym (ap (number_octets form.order) c.kept ∙ spelled_at form.order 8 octets small (omega arith)))
    (sym (spelled_at form.order 12 octets small (omega arith)))
    ∙ sym (regroup (number_octets form.order e.seconds) (number_octets form.order e.fraction) (number_octets form.order (length e.octets))
    (number_octets form.order e.original) e.octets (drop (16 + kept) octets))
    ∙ ap (λ (n : ℕ). spelled form.order e ++ drop (16 + n) octets) (sym c.kept)

-- octets, cut into the spellings of records and a rest
record IsCut (form : Form) (place : ℕ) (octets : List ℕ) (records : Records) : Type 0 where
  entries : List Entry
  rest : List ℕ
  joined : octets ≡ all_spelled form.order entries ++ rest
  good : AreGood form place entries
  packets : records.packets ≡ map (packet_from form) entries
  ending : EndsWith form (place + length (all_spelled form.order entries)) rest records.ending

cut_at_end : (form : Form) (place : ℕ) (octets : List ℕ) (ending : Ending) → EndsWith form place octets ending
    → IsCut form place octets (record { packets = []; ending = ending })
cut_at_end form place octets ending h = record {
  entries = [];
  rest = octets;
  joined = refl;
  good = tt;
  packets = refl;
  ending = subst (λ n. EndsWith form n octets ending) (sym (add-zero place)) h;
}

cut_on : (form : Form) (place : ℕ) (octets : List ℕ) (records : Records) → AreOctets octets → Comes form place octets
    → IsCut form (place + (16 + length (entry_at form octets).octets)) (drop (16 + length (entry_at form octets).octets) octets) records
    → IsCut form place octets (record { packets = packet_from form (entry_at form octets) ∷ records.packets; ending = records.ending })
cut_on form place octets records small c h =
    let e : Entry = entry_at form octets in record {
      entries = e ∷ h.entries;
      rest = h.rest;
      joined = front form place octets small c ∙ ap (λ (xs : List ℕ). spelled form.order e ++ xs) h.joined
          ∙ sym (append_assoc (spelled form.order e) (all_spelled form.order h.entries) h.rest);
      good = (c.good, subst (λ n. AreGood form n h.entries) (sym (add_assoc place 16 (length e.octets))) h.good);
      packets = ap (λ (ps : List Packet). packet_from form e ∷ ps) h.packets;
      ending = subst (λ n. EndsWith form n h.rest records.ending)
          (omega (arith, length-append (spelled form.order e) (all_spelled form.order h.entries), length-spelled form.order e)) h.ending;
    }

packet_is : (form : Form) (place : ℕ) (octets : List ℕ) → Comes form place octets → packet_at form octets ≡ packet_from form (entry_at form octets)
packet_is form place octets c =
    ap (λ (n : ℕ). let p : Packet = record {
      stamp = number_at form.order 0 octets * 1000000000 + number_at form.order 4 octets * unit form.precision;
      whole = nat_le (number_at form.order 12 octets) n;
      octets = take (number_at form.order 8 octets) (drop 16 octets);
    } in p) (sym c.kept)

-- what is read can be cut
cut : (n : ℕ) (form : Form) (place : ℕ) (octets : List ℕ) → length octets < n → AreOctets octets
    → IsCut form place octets (records_from form place octets)
cut zero form place octets less small = absurd (omega arith)
cut (suc n) form place octets less small =
    elim (next_at form place octets) as (λ x. next_at form place octets ≡ x → IsCut form place octets (records_from form place octets)) [
      | Ended ↦ λ e. subst (IsCut form place octets) (sym (records-ended form place octets e))
          (cut_at_end form place octets Whole (nil_from_length octets (ended_is_empty form place octets e)))
      | Broken f ↦ λ e. subst (IsCut form place octets) (sym (records-broken form place octets f e))
          (cut_at_end form place octets (Fault f place) (let told = broken_is form place octets f e in (refl, told.0, told.1)))
      | Came p ↦ λ e. (
          let told = came_is form place octets p e in
          let c = comes form place octets small told.0 in
          let q : Packet = packet_from form (entry_at form octets) in
          let came : next_at form place octets ≡ Came q = e ∙ ap Came (sym told.1 ∙ packet_is form place octets c) in
          let some = came_from_some form place octets q (length octets) refl came in
          subst (IsCut form place octets) (sym (records-came form place octets q came))
          (cut_on form place octets (records_from form (place + size q) (drop (size q) octets)) small c
          (cut n form (place + size q) (drop (size q) octets) (omega (arith, length-drop (size q) octets)) (octets-drop (size q) octets small))))
    ] refl

-- a good head tells what stands in it
record HasHead (all : List ℕ) (form : Form) : Type 0 where
  long : 24 ≤ length all
  magic_is : number_at form.order 0 all ≡ magic form.precision
  link_is : number_at form.order 20 all ≡ link_number form.link

bad_not_good : (f : CaptureFault) (form : Form) → Bad f ≡ Good form → ⊥
bad_not_good f form e = cc

abbrev form_or : Form → Head → Form
form_or form (Good f) = f
form_or form (Bad f) = form

has_link : (all : List ℕ) (form : Form) (order : Order) (precision : Precision) (o : Option Link) → 24 ≤ length all
    → number_at order 0 all ≡ magic precision → link_of (number_at order 20 all) ≡ o → by_link order precision o ≡ Good form → HasHead all form
has_link all form order precision None long m l e = absurd (bad_not_good OtherLink form e)
has_link all form order precision (Some link) long m l e =
    subst (HasHead all) (ap (form_or form) e) (record {
      long = long;
      magic_is = m;
      link_is = eqb-true (number_at order 20 all) (link_number link)
          (find_passes (λ (k : Link). number_at order 20 all == link_number k) (Ethernet ∷ Raw ∷ []) link l);
    })

has_layout : (all : List ℕ) (form : Form) (o : Option (Order × Precision)) → 24 ≤ length all → layout_at all ≡ o → by_layout all o ≡ Good form
    → HasHead all form
has_layout all form None long l e = absurd (bad_not_good Magic form e)
has_layout all form (Some x) long l e =
    has_link all form x.0 x.1 (link_of (number_at x.0 20 all)) long
    (eqb-true (number_at x.0 0 all) (magic x.1) (find_passes (λ (y : Order × Precision). number_at y.0 0 all == magic y.1) layouts x l)) refl e

has_head : (all : List ℕ) (form : Form) → head_of all ≡ Good form → HasHead all form
unfolding head_of
has_head all form e =
    elim (nat_lt (length all) 24) as
    (λ b. nat_lt (length all) 24 ≡ b → cond b (Bad NoHead) (by_layout all (layout_at all)) ≡ Good form → HasHead all form) [
      | true ↦ λ b k. absurd (bad_not_good NoHead form k)
      | false ↦ λ b k. has_layout all form (layout_at all) (grind (arith, nat_tests)) refl k
    ] refl e

three_pieces : (a b c a' c' t : List ℕ) → a ≡ a' → c ≡ c' → a ++ (b ++ (c ++ t)) ≡ (a' ++ b ++ c') ++ t
three_pieces a b c a' c' t e f = rw (e, f) (simp append_assoc)

-- the octets of a good head are its spelling
head_front : (all : List ℕ) (form : Form) → AreOctets all → HasHead all form
    → all ≡ spelled_head form.order form.precision (take 16 (drop 4 all)) form.link ++ drop 24 all
head_front all form small h =
    let long = h.long in
    piece 4 0 all ∙ ap (λ (xs : List ℕ). take 4 all ++ xs) (piece 16 4 all ∙ ap (λ (xs : List ℕ). take 16 (drop 4 all) ++ xs) (piece 4 20 all))
    ∙ three_pieces (take 4 all) (take 16 (drop 4 all)) (take 4 (drop 20 all)) _ _ (drop 24 all)
    (sym (spelled_at form.order 0 all small (omega arith)) ∙ ap (number_octets form.order) h.magic_is)
    (sym (spelled_at form.order 20 all small (omega arith)) ∙ ap (number_octets form.order) h.link_is)

is_capture : (all : List ℕ) (form : Form) (records : Records) → AreOctets all → HasHead all form → IsCut form 24 (drop 24 all) records
    → IsCapture all form records.packets records.ending
is_capture all form records small head h =
    let long = head.long in record {
      between = take 16 (drop 4 all);
      entries = h.entries;
      rest = h.rest;
      sixteen = length-take-le 16 (drop 4 all) (omega (arith, length-drop 4 all));
      joined = head_front all form small head ∙ ap (λ (xs : List ℕ). spelled_head form.order form.precision (take 16 (drop 4 all)) form.link ++ xs)
          h.joined;
      good = h.good;
      packets = h.packets;
      ending = h.ending;
    }

-- what is read was spelled
pub spells : (all : List ℕ) (form : Form) → All (λ octet. octet < 256) all → head_of all ≡ Good form
    → IsCapture all form (capture_of all).packets (capture_of all).ending
spells all form octets good =
    let small = octets_of all octets in
    subst (λ (r : Records). IsCapture all form r.packets r.ending) (sym (capture-good all form good))
    (is_capture all form (records_from form 24 (drop 24 all)) small (has_head all form good)
    (cut (suc (length (drop 24 all))) form 24 (drop 24 all) (omega arith) (octets-drop 24 all small)))
