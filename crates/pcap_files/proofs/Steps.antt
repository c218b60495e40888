-- Steps of reading a capture, over what is told of the octets.
use Rattle.std.proofs.Common.{◌≡◌, ℕ, ◌+◌, ◌-◌, ◌<◌, ◌≤◌, List, [], ◌++◌, Bool, true, false, Option, Some, None, IfSome, nat_lt, ◌==◌, cond, take, drop, length, refl, sym, ap, ◌∙◌, arith, length-drop}
use Rattle.std.proofs.lemmas.List.{take_all, take_at, take-take, length-take, length-take-le, drop-take}
use Rattle.std.proofs.lemmas.Bool.Decides.{nat_tests}
use Rattle.byteorder.specs.Endian.{little_number, big_number}
use Rattle.byteorder.specs.Numbers.{little_from-take, big_from-take}
use Rattle.gate_desk.specs.declared.slot.Slot.{Slot}
use Rattle.pcap_files.specs.declared.fault.CaptureFault.TheVariants.{Torn, NoHead}
use Rattle.pcap_files.specs.declared.fault.ReadStop.{ReadStop}
use Rattle.pcap_files.specs.declared.form.Order.{Order}
use Rattle.pcap_files.specs.declared.form.Order.TheVariants.{Little, Big}
use Rattle.pcap_files.specs.declared.form.Form.{Form}
use Rattle.pcap_files.specs.declared.form.Precision.{Precision}
use Rattle.pcap_files.specs.Prelude.{Next, Ended, Broken, Came, number_at, Head, Bad, layout_at, by_layout, by_link, link_of, TakesNoRecord, Reading}
use Rattle.pcap_files.specs.Capture.{next_at, head_of, kept_of}
use Rattle.pcap_files.specs.Inside.Heads.{after_head, body_of}
use Rattle.pcap_files.proofs.Records.{nothing_is_ended}

-- a number is read of its own octets alone
pub number_at-take : (order : Order) (place n : ℕ) (octets : List ℕ) → 4 ≤ n → number_at order place (take (place + n) octets)
    ≡ number_at order place octets
number_at-take Little place n octets fits = ap (little_number 4) (drop-take place n octets) ∙ little_from-take 0 4 n (drop place octets) fits
number_at-take Big place n octets fits = ap (big_number 4) (drop-take place n octets) ∙ big_from-take 0 4 n (drop place octets) fits

few_octets : (form : Form) (place : ℕ) (all : List ℕ) → 0 < length all → length all < 16 → next_at form place all ≡ Broken Torn
unfolding next_at
few_octets form place all some few = grind (arith, nat_tests)

short_body : (all : List ℕ) (kept : ℕ) → 16 ≤ length all → nat_lt (length all) (16 + kept) ≡ nat_lt (length (drop 16 all)) kept
short_body all kept enough = let len = length-drop 16 all in grind (arith, nat_tests)

-- a whole head
pub enough_octets : (form : Form) (place : ℕ) (all : List ℕ) → 16 ≤ length all
    → next_at form place all ≡ after_head form place (take 16 all) (drop 16 all)
unfolding next_at after_head body_of
enough_octets form place all enough =
    let some : (length all == 0) ≡ false = grind (arith, nat_tests) in
    let long : nat_lt (length all) 16 ≡ false = grind (arith, nat_tests) in
    let body = short_body all (kept_of form all) enough in
    let seconds = number_at-take form.order 0 16 all (omega arith) in
    let fraction = number_at-take form.order 4 12 all (omega arith) in
    let kept = number_at-take form.order 8 8 all (omega arith) in
    let original = number_at-take form.order 12 4 all (omega arith) in
    rw (some, long, body, seconds, fraction, kept, original) refl

-- nothing was read
pub ended : (form : Form) (place : ℕ) (o : Option (List ℕ)) → IfSome o (λ all. [] ≡ take 16 all) → IfSome o (λ all. next_at form place all ≡ Ended)
ended form place None h = tt
ended form place (Some all) h = nothing_is_ended form place all (omega (arith, ap length h, length-take 16 all))

-- a part of a head was read
pub torn_head : (form : Form) (place n : ℕ) (head : List ℕ) (o : Option (List ℕ)) → 0 < n → n < 16 → n ≤ length head
    → IfSome o (λ all. take n head ≡ take 16 all) → IfSome o (λ all. next_at form place all ≡ Broken Torn)
torn_head form place n head None some few fits h = tt
torn_head form place n head (Some all) some few fits h =
    let size : length (take n head) ≡ n = length-take-le n head fits in
    let same : n ≡ length (take 16 all) = sym size ∙ ap length h in
    few_octets form place all (omega (arith, same, length-take 16 all)) (omega (arith, same, length-take 16 all))

-- what a fault says of octets, whether or not they are told
pub some_is : {P : List ℕ → Type 0} (o : Option (List ℕ)) → ((octets : List ℕ) → P octets) → IfSome o P
some_is None h = tt
some_is (Some octets) h = h octets

-- a whole head was there
pub enough_left : (n : ℕ) (head : List ℕ) (o : Option (List ℕ)) → 16 ≤ n → n ≤ length head → IfSome o (λ all. take n head ≡ take 16 all)
    → IfSome o (λ all. 16 ≤ length all)
enough_left n head None enough fits h = tt
enough_left n head (Some all) enough fits h =
    let size : length (take n head) ≡ n = length-take-le n head fits in
    omega (arith, size, ap length h, length-take 16 all)

-- of a torn head all that was left was taken
pub all_left : (n : ℕ) (head : List ℕ) (o : Option (List ℕ)) → n < 16 → n ≤ length head → IfSome o (λ all. take n head ≡ take 16 all)
    → IfSome o (λ all. n ≡ length all)
all_left n head None few fits h = tt
all_left n head (Some all) few fits h =
    let size : length (take n head) ≡ n = length-take-le n head fits in
    omega (arith, size, ap length h, length-take 16 all)

-- a whole head was read
pub by_the_head : (form : Form) (place n : ℕ) (head : List ℕ) (P : List ℕ → Next) (o : Option (List ℕ)) → length head ≡ 16 → 16 ≤ n
    → IfSome o (λ all. take n head ≡ take 16 all)
    → ((rest : List ℕ) → after_head form place head rest ≡ P rest) → IfSome o (λ all. next_at form place all ≡ P (drop 16 all))
by_the_head form place n head P None len enough h judged = tt
by_the_head form place n head P (Some all) len enough h judged =
    let whole : take n head ≡ head = take_all n head (omega arith) in
    let same : head ≡ take 16 all = sym whole ∙ h in
    let size : length head ≡ length (take 16 all) = ap length same in
    enough_octets form place all (omega (arith, size, length-take 16 all)) ∙ ap (λ (x : List ℕ). after_head form place x (drop 16 all)) (sym same)
    ∙ judged (drop 16 all)

torn-of : (stamp kept : ℕ) (whole : Bool) (rest : List ℕ) → length rest < kept → body_of stamp whole kept rest ≡ Broken Torn
unfolding body_of
torn-of stamp kept whole rest few = grind (arith, nat_tests)

came-of : (stamp kept : ℕ) (whole : Bool) (rest octets : List ℕ) → kept ≤ length rest → octets ≡ take kept rest
    → body_of stamp whole kept rest ≡ Came (record { stamp = stamp; whole = whole; octets = octets })
unfolding body_of
came-of stamp kept whole rest octets enough same = rw same (grind (arith, nat_tests))

-- fewer octets than the head says were read
pub torn_body : (form : Form) (place n stamp kept : ℕ) (whole : Bool) (buffer : List ℕ) (o : Option (List ℕ)) → n < kept → n ≤ length buffer
    → IfSome o (λ all. next_at form place all ≡ body_of stamp whole kept (drop 16 all))
    → IfSome o (λ all. take n buffer ≡ take kept (drop 16 all)) → IfSome o (λ all. next_at form place all ≡ Broken Torn)
torn_body form place n stamp kept whole buffer None few fits h k = tt
torn_body form place n stamp kept whole buffer (Some all) few fits h k =
    let size : length (take n buffer) ≡ n = length-take-le n buffer fits in
    let same : n ≡ length (take kept (drop 16 all)) = sym size ∙ ap length k in
    h ∙ torn-of stamp kept whole (drop 16 all) (omega (arith, same, length-take kept (drop 16 all)))

-- of a torn record all that was left was taken
pub all_left_behind : (kept n : ℕ) (buffer : List ℕ) (o : Option (List ℕ)) → n < kept → n ≤ length buffer → IfSome o (λ all. 16 ≤ length all)
    → IfSome o (λ all. take n buffer ≡ take kept (drop 16 all)) → IfSome o (λ all. 16 + n ≡ length all)
all_left_behind kept n buffer None few fits h k = tt
all_left_behind kept n buffer (Some all) few fits h k =
    let size : length (take n buffer) ≡ n = length-take-le n buffer fits in
    omega (arith, size, ap length k, length-take kept (drop 16 all), length-drop 16 all, h, few)

-- as many octets as the head says were read
pub whole_body : (form : Form) (place n stamp kept : ℕ) (whole : Bool) (buffer : List ℕ) (o : Option (List ℕ)) → kept ≡ n → n ≤ length buffer
    → IfSome o (λ all. next_at form place all ≡ body_of stamp whole kept (drop 16 all))
    → IfSome o (λ all. take n buffer ≡ take kept (drop 16 all))
    → IfSome o (λ all. next_at form place all ≡ Came (record { stamp = stamp; whole = whole; octets = take kept buffer }))
whole_body form place n stamp kept whole buffer None all_of fits h k = tt
whole_body form place n stamp kept whole buffer (Some all) all_of fits h k =
    let size : length (take n buffer) ≡ n = length-take-le n buffer fits in
    let same : n ≡ length (take kept (drop 16 all)) = sym size ∙ ap length k in
    h ∙ came-of stamp kept whole (drop 16 all) (take kept buffer) (omega (arith, same, length-take kept (drop 16 all)))
    (ap (λ (m : ℕ). take m buffer) all_of ∙ k)

-- a record that stands whole at the front of octets comes next of all that begins with them
pub whole_ahead : (form : Form) (place stamp kept : ℕ) (whole : Bool) (octets buffer all : List ℕ) → 16 + kept ≤ length octets
    → ((rest : List ℕ) → after_head form place (take 16 octets) rest ≡ body_of stamp whole kept rest)
    → take kept buffer ≡ take kept (drop 16 octets) → take (length octets) all ≡ octets
    → next_at form place all ≡ Came (record { stamp = stamp; whole = whole; octets = take kept buffer })
whole_ahead form place stamp kept whole octets buffer all fits judged copied begins =
    let n : ℕ = length octets in
    let enough : n ≤ length all = omega (arith, ap length begins, length-take n all) in
    let head : take 16 octets ≡ take 16 all = ap (take 16) (sym begins) ∙ take-take 16 n all (omega arith) in
    let long : n ≡ 16 + (n - 16) = omega arith in
    let rest : take kept (drop 16 octets) ≡ take kept (drop 16 all) =
    ap (λ (xs : List ℕ). take kept (drop 16 xs)) (sym begins) ∙ ap (λ (k : ℕ). take kept (drop 16 (take k all))) long
    ∙ ap (take kept) (drop-take 16 (n - 16) all) ∙ take-take kept (n - 16) (drop 16 all) (omega arith) in
    enough_octets form place all (omega arith) ∙ ap (λ (xs : List ℕ). after_head form place xs (drop 16 all)) (sym head) ∙ judged (drop 16 all)
    ∙ came-of stamp kept whole (drop 16 all) (take kept buffer) (omega (arith, length-drop 16 all)) (copied ∙ rest)

no_body-of : (stamp kept n : ℕ) (whole : Bool) (rest : List ℕ) → n < kept → TakesNoRecord (body_of stamp whole kept rest) (16 + n)
unfolding body_of
no_body-of stamp kept n whole rest few =
    elim (nat_lt (length rest) kept) as
    (λ b. nat_lt (length rest) kept ≡ b
    → TakesNoRecord (cond b (Broken Torn) (Came (record { stamp = stamp; whole = whole; octets = take kept rest }))) (16 + n)) [
      | true ↦ λ e. tt
      | false ↦ λ e. (let enough : kept ≤ length rest = grind (arith, nat_tests) in omega (arith, length-take kept rest))
    ] refl

-- the desk failed behind the head
pub no_body : (form : Form) (place n stamp kept : ℕ) (whole : Bool) (o : Option (List ℕ)) → n < kept
    → IfSome o (λ all. next_at form place all ≡ body_of stamp whole kept (drop 16 all))
    → IfSome o (λ all. TakesNoRecord (next_at form place all) (16 + n))
no_body form place n stamp kept whole None few h = tt
no_body form place n stamp kept whole (Some all) few h = rw h (no_body-of stamp kept n whole (drop 16 all) few)

-- a buffer that was lent as a slice and came back
refilled : (len : ℕ) (ws xs : List ℕ) → length ws ≡ len → take len (ws ++ drop (length ws) xs) ≡ ws
refilled len ws xs e = take_at ws (drop (length ws) xs) len e

-- the reader after a record
pub same_reading : (slot : Slot) (form : Form) (place kept stamp len : ℕ) (whole : Bool) (stop : Option ReadStop) (ws xs : List ℕ) → length ws ≡ len
    → kept ≤ len
    → (let x : Reading = record {
      slot = slot;
      form = form;
      place = place + (16 + kept);
      packet = Some (record { stamp = stamp; whole = whole; octets = take kept (take len (ws ++ drop (length ws) xs)) });
      stop = stop;
    } in x)
    ≡ record {
      slot = slot;
      form = form;
      place = place + (16 + length (take kept ws));
      packet = Some (record { stamp = stamp; whole = whole; octets = take kept ws });
      stop = stop;
    }
same_reading slot form place kept stamp len whole stop ws xs e fits =
    let size : kept ≡ length (take kept ws) = sym (length-take-le kept ws (omega arith)) in
    ap (λ (k : ℕ). let x : Reading =
    record {
      slot = slot;
      form = form;
      place = place + (16 + k);
      packet = Some (record { stamp = stamp; whole = whole; octets = take kept (take len (ws ++ drop (length ws) xs)) });
      stop = stop;
    } in x) size
    ∙ ap (λ (ys : List ℕ). let x : Reading =
    record {
      slot = slot;
      form = form;
      place = place + (16 + length (take kept ws));
      packet = Some (record { stamp = stamp; whole = whole; octets = take kept ys });
      stop = stop;
    } in x) (refilled len ws xs e)

few_for_head : (all : List ℕ) → length all < 24 → head_of all ≡ Bad NoHead
unfolding head_of
few_for_head all few = grind (arith, nat_tests)

layout_at-take : (n : ℕ) (all : List ℕ) → 4 ≤ n → layout_at (take (0 + n) all) ≡ layout_at all
layout_at-take n all fits =
    let little = number_at-take Little 0 n all fits in
    let big = number_at-take Big 0 n all fits in
    rw (little, big) refl

by_layout-take : (all : List ℕ) (l : Option (Order × Precision)) → by_layout (take 24 all) l ≡ by_layout all l
by_layout-take all None = refl
by_layout-take all (Some l) = ap (λ (n : ℕ). by_link l.0 l.1 (link_of n)) (number_at-take l.0 20 4 all (omega arith))

head_of-take : (all : List ℕ) → 24 ≤ length all → head_of (take 24 all) ≡ head_of all
unfolding head_of
head_of-take all enough =
    let size = length-take 24 all in
    let long : nat_lt (length all) 24 ≡ false = grind (arith, nat_tests) in
    let long' : nat_lt (length (take 24 all)) 24 ≡ false = grind (arith, nat_tests) in
    ap (λ (b : Bool). cond b (Bad NoHead) (by_layout (take 24 all) (layout_at (take 24 all)))) long'
    ∙ by_layout-take all (layout_at (take 24 all)) ∙ ap (by_layout all) (layout_at-take 24 all (omega arith))
    ∙ ap (λ (b : Bool). cond b (Bad NoHead) (by_layout all (layout_at all))) (sym long)

-- fewer octets than a head were read
pub no_capture_head : (n : ℕ) (head : List ℕ) (o : Option (List ℕ)) → n < 24 → n ≤ length head → IfSome o (λ all. take n head ≡ take 24 all)
    → IfSome o (λ all. head_of all ≡ Bad NoHead)
no_capture_head n head None few fits h = tt
no_capture_head n head (Some all) few fits h =
    let size : length (take n head) ≡ n = length-take-le n head fits in
    let same : n ≡ length (take 24 all) = sym size ∙ ap length h in
    few_for_head all (omega (arith, same, length-take 24 all))

-- a whole capture's head was read
pub by_capture_head : (n : ℕ) (head : List ℕ) (answer : Head) (o : Option (List ℕ)) → length head ≡ 24 → 24 ≤ n
    → IfSome o (λ all. take n head ≡ take 24 all) → answer ≡ head_of head → IfSome o (λ all. head_of all ≡ answer)
by_capture_head n head answer None len enough h e = tt
by_capture_head n head answer (Some all) len enough h e =
    let whole : take n head ≡ head = take_all n head (omega arith) in
    let same : head ≡ take 24 all = sym whole ∙ h in
    let size : length head ≡ length (take 24 all) = ap length same in
    sym (e ∙ ap head_of same ∙ head_of-take all (omega (arith, size, length-take 24 all)))
