-- A capture that joins the spellings of its records is read as these records.
use Rattle.std.proofs.Common.{◌≡◌, ℕ, suc, ◌+◌, ◌*◌, ◌^◌, ◌<◌, ◌≤◌, List, [], ◌∷◌, ◌++◌, Bool, true, false, cond, Option, Some, None, nat_lt, nat_le, ◌==◌, map, take, drop, length, refl, sym, ap, subst, ◌∙◌, append_assoc, add-zero, arith, length-append, take_at}
use Rattle.std.proofs.Math.Seq.{drop-append_seam}
use Rattle.std.proofs.lemmas.Bool.Decides.{nat_tests}
use Rattle.std.proofs.lemmas.Option.{none-some}
use Rattle.gate_base.specs.declared.side.Link.{Link}
use Rattle.gate_base.specs.declared.side.Link.TheVariants.{Ethernet, Raw}
use Rattle.pcap_files.specs.declared.fault.CaptureFault.{CaptureFault}
use Rattle.pcap_files.specs.declared.fault.CaptureFault.TheVariants.{NoHead}
use Rattle.pcap_files.specs.declared.form.Order.{Order}
use Rattle.pcap_files.specs.declared.form.Order.TheVariants.{Little, Big}
use Rattle.pcap_files.specs.declared.form.Precision.{Precision}
use Rattle.pcap_files.specs.declared.form.Precision.TheVariants.{Microseconds, Nanoseconds}
use Rattle.pcap_files.specs.declared.form.Form.{Form}
use Rattle.pcap_files.specs.Prelude.{Packet, size, Ended, Broken, Came, tested, record_tests, packet_at, number_at, unit, magic, link_number, Good}
use Rattle.pcap_files.specs.Prelude.{Bad, layout_at, link_of, by_layout, by_link, Records, Ending, Whole, Fault, records_from, capture_of}
use Rattle.pcap_files.specs.Prelude.{number_octets, spelled_head, Entry, spelled, all_spelled, packet_from, IsGood, AreGood, first_fault, EndsWith}
use Rattle.pcap_files.specs.Prelude.{IsCapture}
use Rattle.pcap_files.specs.Capture.{next_at, head_of}
use Rattle.pcap_files.proofs.Numbers.{number-number_octets}
use Rattle.pcap_files.proofs.Records.{nothing_is_ended, records-came, records-ended, records-broken, capture-good}

-- the numbers of a spelled record
seconds-spelled : (order : Order) (e : Entry) (tail : List ℕ) → e.seconds < 2 ^ 32 → number_at order 0 (spelled order e ++ tail) ≡ e.seconds
seconds-spelled Little e tail h = number-number_octets Little e.seconds
    (number_octets Little e.fraction ++ (number_octets Little (length e.octets) ++ (number_octets Little e.original ++ (e.octets ++ tail)))) h
seconds-spelled Big e tail h = number-number_octets Big e.seconds
    (number_octets Big e.fraction ++ (number_octets Big (length e.octets) ++ (number_octets Big e.original ++ (e.octets ++ tail)))) h

fraction-spelled : (order : Order) (e : Entry) (tail : List ℕ) → e.fraction < 2 ^ 32 → number_at order 4 (spelled order e ++ tail) ≡ e.fraction
fraction-spelled Little e tail h = number-number_octets Little e.fraction
    (number_octets Little (length e.octets) ++ (number_octets Little e.original ++ (e.octets ++ tail))) h
fraction-spelled Big e tail h = number-number_octets Big e.fraction
    (number_octets Big (length e.octets) ++ (number_octets Big e.original ++ (e.octets ++ tail))) h

kept-spelled : (order : Order) (e : Entry) (tail : List ℕ) → length e.octets < 2 ^ 32 → number_at order 8 (spelled order e ++ tail) ≡ length e.octets
kept-spelled Little e tail h = number-number_octets Little (length e.octets) (number_octets Little e.original ++ (e.octets ++ tail)) h
kept-spelled Big e tail h = number-number_octets Big (length e.octets) (number_octets Big e.original ++ (e.octets ++ tail)) h

original-spelled : (order : Order) (e : Entry) (tail : List ℕ) → e.original < 2 ^ 32 → number_at order 12 (spelled order e ++ tail) ≡ e.original
original-spelled Little e tail h = number-number_octets Little e.original (e.octets ++ tail) h
original-spelled Big e tail h = number-number_octets Big e.original (e.octets ++ tail) h

drop-spelled_head : (order : Order) (e : Entry) (tail : List ℕ) → drop 16 (spelled order e ++ tail) ≡ e.octets ++ tail
drop-spelled_head Little e tail = refl
drop-spelled_head Big e tail = refl

length-spelled_with : (order : Order) (e : Entry) (tail : List ℕ) → length (spelled order e ++ tail) ≡ 16 + length (e.octets ++ tail)
length-spelled_with Little e tail = omega arith
length-spelled_with Big e tail = omega arith

-- how long a spelling is
pub length-spelled : (order : Order) (e : Entry) → length (spelled order e) ≡ 16 + length e.octets
length-spelled Little e = omega arith
length-spelled Big e = omega arith

fraction_fits : (precision : Precision) (n : ℕ) → n * unit precision < 1000000000 → n < 2 ^ 32
fraction_fits Microseconds n h = omega arith
fraction_fits Nanoseconds n h = omega arith

-- a spelled record comes
next_at-spelled : (form : Form) (place : ℕ) (e : Entry) (tail : List ℕ) → IsGood form place e → next_at form place (spelled form.order e ++ tail)
    ≡ Came (packet_from form e)
unfolding next_at
next_at-spelled form place e tail good =
    let all : List ℕ = spelled form.order e ++ tail in
    let len = length-spelled_with form.order e tail in
    let longer = length-append e.octets tail in
    let seconds = seconds-spelled form.order e tail good.seconds in
    let fraction = fraction-spelled form.order e tail (fraction_fits form.precision e.fraction good.fraction) in
    let kept = kept-spelled form.order e tail (omega (arith, good.kept)) in
    let original = original-spelled form.order e tail good.original in
    let octets : take (length e.octets) (drop 16 all) ≡ e.octets = ap (take (length e.octets)) (drop-spelled_head form.order e tail)
    ∙ take_at e.octets tail (length e.octets) refl in
    let some : (length all == 0) ≡ false = grind (arith, nat_tests) in
    let long : nat_lt (length all) 16 ≡ false = grind (arith, nat_tests) in
    let early : nat_le 1000000000 (e.fraction * unit form.precision) ≡ false = let h = good.fraction in grind (arith, nat_tests) in
    let short : nat_lt 262144 (length e.octets) ≡ false = let h = good.kept in grind (arith, nat_tests) in
    let ends : nat_lt (2 ^ 40) (place + 16 + length e.octets) ≡ false = let h = good.ends in grind (arith, nat_tests) in
    let whole : nat_lt (length all) (16 + length e.octets) ≡ false = grind (arith, nat_tests) in
    rw (seconds, fraction, kept, original, octets, some, long, early, short, ends, whole) refl

abbrev fault_or : CaptureFault → Option CaptureFault → CaptureFault
fault_or f None = f
fault_or f (Some g) = g

-- the first test that holds
tested-first_fault : (tests : List (Bool × CaptureFault)) (p : Packet) (f : CaptureFault) → first_fault tests ≡ Some f → tested tests p ≡ Broken f
tested-first_fault [] p f e = absurd (none-some f e)
tested-first_fault (t ∷ tests) p f e =
    elim t.0 as (λ b. cond b (Some t.1) (first_fault tests) ≡ Some f → cond b (Broken t.1) (tested tests p) ≡ Broken f) [
      | true ↦ λ k. ap (λ (o : Option CaptureFault). Broken (fault_or t.1 o)) k
      | false ↦ λ k. tested-first_fault tests p f k
    ] e

next_at-broken : (form : Form) (place : ℕ) (rest : List ℕ) (f : CaptureFault) → 0 < length rest → first_fault (record_tests form place rest) ≡ Some f
    → next_at form place rest ≡ Broken f
unfolding next_at
next_at-broken form place rest f some e =
    let not_none : (length rest == 0) ≡ false = grind (arith, nat_tests) in
    ap (λ (b : Bool). cond b Ended (tested (record_tests form place rest) (packet_at form rest))) not_none
    ∙ tested-first_fault (record_tests form place rest) (packet_at form rest) f e

abbrev no_records : Ending → Records
no_records ending = record { packets = []; ending = ending }

records-rest : (form : Form) (place : ℕ) (rest : List ℕ) (ending : Ending) → EndsWith form place rest ending
    → records_from form place rest ≡ no_records ending
records-rest form place rest Whole h = records-ended form place rest (nothing_is_ended form place rest (ap length h))
records-rest form place rest (Fault f at) h = records-broken form place rest f (next_at-broken form place rest f h.1 h.2)
    ∙ ap (λ (n : ℕ). no_records (Fault f n)) (sym h.0)

abbrev with_front : Packet → Records → Records
with_front p r = record { packets = p ∷ r.packets; ending = r.ending }

-- the records of spellings that are joined
records-spelled : (form : Form) (place : ℕ) (entries : List Entry) (rest : List ℕ) (ending : Ending) → AreGood form place entries
    → EndsWith form (place + length (all_spelled form.order entries)) rest ending
    → records_from form place (all_spelled form.order entries ++ rest) ≡ record { packets = map (packet_from form) entries; ending = ending }
records-spelled form place [] rest ending good h = records-rest form place rest ending (subst (λ n. EndsWith form n rest ending) (add-zero place) h)
records-spelled form place (e ∷ entries) rest ending good h =
    let all : List ℕ = spelled form.order e ++ (all_spelled form.order entries ++ rest) in
    let p : Packet = packet_from form e in
    let len = length-spelled form.order e in
    let behind : drop (size p) all ≡ all_spelled form.order entries ++ rest = ap (λ (n : ℕ). drop n all) (sym len)
    ∙ drop-append_seam (spelled form.order e) (all_spelled form.order entries ++ rest) in
    let further : place + 16 + length e.octets ≡ place + size p = omega arith in
    let place_is : place + length (spelled form.order e ++ all_spelled form.order entries) ≡ place + 16 + length e.octets
    + length (all_spelled form.order entries) = omega (arith, len, length-append (spelled form.order e) (all_spelled form.order entries)) in
    ap (records_from form place) (append_assoc (spelled form.order e) (all_spelled form.order entries) rest)
    ∙ records-came form place all p (next_at-spelled form place e (all_spelled form.order entries ++ rest) good.0)
    ∙ ap (λ (n : ℕ). with_front p (records_from form n (drop (size p) all))) (sym further)
    ∙ ap (λ (xs : List ℕ). with_front p (records_from form (place + 16 + length e.octets) xs)) behind
    ∙ ap (with_front p) (records-spelled form (place + 16 + length e.octets) entries rest ending good.1
    (subst (λ n. EndsWith form n rest ending) place_is h))

-- a spelled head
layout-spelled : (order : Order) (precision : Precision) (tail : List ℕ) → layout_at (number_octets order (magic precision) ++ tail)
    ≡ Some (order, precision)
layout-spelled Little Microseconds tail = refl
layout-spelled Little Nanoseconds tail = refl
layout-spelled Big Microseconds tail = refl
layout-spelled Big Nanoseconds tail = refl

link-spelled : (order : Order) (link : Link) (tail : List ℕ) → link_of (number_at order 0 (number_octets order (link_number link) ++ tail))
    ≡ Some link
link-spelled Little Ethernet tail = refl
link-spelled Little Raw tail = refl
link-spelled Big Ethernet tail = refl
link-spelled Big Raw tail = refl

-- what stands behind the magic number
drop-magic : (order : Order) (precision : Precision) (n : ℕ) (tail : List ℕ)
    → drop (suc (suc (suc (suc n)))) (number_octets order (magic precision) ++ tail) ≡ drop n tail
drop-magic Little precision n tail = refl
drop-magic Big precision n tail = refl

-- a number at a place stands in front behind that place
pub number_at-drop : (order : Order) (place : ℕ) (octets : List ℕ) → number_at order place octets ≡ number_at order 0 (drop place octets)
number_at-drop Little place octets = refl
number_at-drop Big place octets = refl

length-number_octets : (order : Order) (n : ℕ) → length (number_octets order n) ≡ 4
length-number_octets Little n = refl
length-number_octets Big n = refl

head_of-pieces : (form : Form) (between tail : List ℕ) → length between ≡ 16
    → head_of (number_octets form.order (magic form.precision) ++ (between ++ (number_octets form.order (link_number form.link) ++ tail))) ≡ Good form
unfolding head_of
head_of-pieces form between tail sixteen =
    let number : List ℕ = number_octets form.order (magic form.precision) in
    let behind : List ℕ = number_octets form.order (link_number form.link) ++ tail in
    let all : List ℕ = number ++ (between ++ behind) in
    let len : 24 ≤ length all = omega (
      arith,
      length-append number (between ++ behind),
      length-append between behind,
      length-append (number_octets form.order (link_number form.link)) tail,
      length-number_octets form.order (magic form.precision),
      length-number_octets form.order (link_number form.link),
    ) in
    let long : nat_lt (length all) 24 ≡ false = grind (arith, nat_tests) in
    let there : drop 20 all ≡ behind = drop-magic form.order form.precision 16 (between ++ behind)
    ∙ ap (λ (n : ℕ). drop n (between ++ behind)) (sym sixteen) ∙ drop-append_seam between behind in
    let link : link_of (number_at form.order 20 all) ≡ Some form.link =
    ap link_of (number_at-drop form.order 20 all ∙ ap (number_at form.order 0) there) ∙ link-spelled form.order form.link tail in
    ap (λ (b : Bool). cond b (Bad NoHead) (by_layout all (layout_at all))) long
    ∙ ap (by_layout all) (layout-spelled form.order form.precision (between ++ behind)) ∙ ap (by_link form.order form.precision) link

head_of-spelled : (form : Form) (between tail : List ℕ) → length between ≡ 16
    → head_of (spelled_head form.order form.precision between form.link ++ tail) ≡ Good form
head_of-spelled form between tail sixteen =
    ap head_of (append_assoc (number_octets form.order (magic form.precision) ++ between) (number_octets form.order (link_number form.link)) tail
    ∙ append_assoc (number_octets form.order (magic form.precision)) between (number_octets form.order (link_number form.link) ++ tail))
    ∙ head_of-pieces form between tail sixteen

drop-head : (form : Form) (between tail : List ℕ) → length between ≡ 16 → drop 24 (spelled_head form.order form.precision between form.link ++ tail)
    ≡ tail
drop-head form between tail sixteen =
    let len : length (spelled_head form.order form.precision between form.link) ≡ 24 =
    length-append (number_octets form.order (magic form.precision) ++ between) (number_octets form.order (link_number form.link))
    ∙ omega (
      arith,
      length-append (number_octets form.order (magic form.precision)) between,
      length-number_octets form.order (magic form.precision),
      length-number_octets form.order (link_number form.link),
    ) in
    ap (λ (n : ℕ). drop n (spelled_head form.order form.precision between form.link ++ tail)) (sym len)
    ∙ drop-append_seam (spelled_head form.order form.precision between form.link) tail

-- what was spelled is read
pub reads : (all : List ℕ) (form : Form) (packets : List Packet) (ending : Ending) → IsCapture all form packets ending → (head_of all ≡ Good form)
    × (capture_of all ≡ record { packets = packets; ending = ending })
reads all form packets ending h =
    let body : List ℕ = all_spelled form.order h.entries ++ h.rest in
    let head : head_of all ≡ Good form = ap head_of h.joined ∙ head_of-spelled form h.between body h.sixteen in (
      head,
      capture-good all form head ∙ ap (λ (xs : List ℕ). records_from form 24 (drop 24 xs)) h.joined
          ∙ ap (records_from form 24) (drop-head form h.between body h.sixteen)
          ∙ records-spelled form 24 h.entries h.rest ending h.good h.ending
          ∙ ap (λ (ps : List Packet). let x : Records = record { packets = ps; ending = ending } in x) (sym h.packets),
    )
