-- Rows worked by hand, computed over lists of fragments: whole frames, and what becomes of each.
use Rattle.std.proofs.Common.{◌≡◌, ℕ, Bool, true, false, List, [], ◌∷◌, ◌++◌, map, Option, Some, None, refl, sym, ◌∙◌, lit<, lit≤, option_map, fold}
use Rattle.byteorder.specs.Endian.{big_bytes}
use Rattle.gate_base.specs.Prelude.{Event}
use Rattle.verdicts.specs.declared.refusal.Refusal.{Refusal}
use Rattle.verdicts.specs.declared.refusal.Refusal.TheVariants.{IpOptions, BadFragment, FragmentsFull}
use Rattle.gate_base.specs.declared.side.Link.TheVariants.{Raw}
use Rattle.gate_base.specs.declared.side.Side.TheVariants.{Left}
use Rattle.inet_sum.specs.Sum.{words, fold_of}
use Rattle.ipv4_frames.specs.Ipv4.{read_datagram}
use Rattle.frag_join.specs.declared.taken.Taken.{Taken}
use Rattle.frag_join.specs.declared.taken.Taken.TheVariants.{Plain, Held, Joined, Refused}
use Rattle.std.proofs.lemmas.List.Elements.{All-nil, All-cons}
use Rattle.frag_join.specs.Prelude.{Fragment, name_in, fragment_in, Original, IsCut, Brings, Arrives, State, Step, by_list, step}
use Rattle.frag_join.specs.Joining.{empty}

-- so many octets, written in hexadecimal
abbrev hex : ℕ → ℕ → List ℕ
hex = big_bytes

abbrev event : ℕ → Bool → List ℕ → Event
event moment whole octets = record { side = Left; moment = moment; link = Raw; whole = whole; octets = octets }

-- what became of a frame, and the octets of the datagram that it completed
abbrev Shown : Type 0
Shown = Taken × Option (List ℕ)

abbrev plain : Shown
plain = (Plain, None)

abbrev held : Shown
held = (Held, None)

abbrev joins : List ℕ → Shown
joins octets = (Joined, Some octets)

abbrev refused : Refusal → Shown
refused refusal = (Refused refusal, None)

-- a frame, and what is wanted of it
abbrev Row : Type 0
Row = Event × Shown

abbrev So_far : Type 0
So_far = State (List Fragment) × List Shown

abbrev gone_on : List Shown → Step (List Fragment) → So_far
gone_on shown one = (one.state, shown ++ (one.answer, option_map (λ e. e.octets) one.state.joined) ∷ [])

abbrev found : List Row → List Shown
found rows = (fold (λ (s : So_far) (row : Row). gone_on s.1 (step by_list s.0 row.0)) (empty, []) rows).1

abbrev wanted : List Row → List Shown
wanted rows = map (λ row. row.1) rows

-- the last fragment first, then the first
abbrev joined_backwards : List Row
joined_backwards =
    (event 1000000000 true (hex 22 0x45000016000100014011e8260a000005c0a8c8016869), held)
    ∷ (
      event 2000000000 true (hex 28 0x4500001c000120004011c8210a000005c0a8c8010fa01388000ae199),
      joins (hex 30 0x4500001e000100004011e81f0a000005c0a8c8010fa01388000ae1996869),
    )
    ∷ []

joined_backwards_holds : found joined_backwards ≡ wanted joined_backwards
unfolding read_datagram words fold_of
joined_backwards_holds = refl

-- the first fragment came 30 seconds ago and is dropped; sent again, it joins
abbrev dropped_after_30_seconds : List Row
dropped_after_30_seconds =
    (event 1000000000 true (hex 22 0x45000016000100014011e8260a000005c0a8c8016869), held)
    ∷ (event 31000000000 true (hex 28 0x4500001c000120004011c8210a000005c0a8c8010fa01388000ae199), held)
    ∷ (
      event 32000000000 true (hex 22 0x45000016000100014011e8260a000005c0a8c8016869),
      joins (hex 30 0x4500001e000100004011e81f0a000005c0a8c8010fa01388000ae1996869),
    )
    ∷ []

dropped_after_30_seconds_holds : found dropped_after_30_seconds ≡ wanted dropped_after_30_seconds
unfolding read_datagram words fold_of
dropped_after_30_seconds_holds = refl

-- one nanosecond earlier it is still there
abbrev kept_below_30_seconds : List Row
kept_below_30_seconds =
    (event 1000000000 true (hex 22 0x45000016000100014011e8260a000005c0a8c8016869), held)
    ∷ (
      event 30999999999 true (hex 28 0x4500001c000120004011c8210a000005c0a8c8010fa01388000ae199),
      joins (hex 30 0x4500001e000100004011e81f0a000005c0a8c8010fa01388000ae1996869),
    )
    ∷ []

kept_below_30_seconds_holds : found kept_below_30_seconds ≡ wanted kept_below_30_seconds
unfolding read_datagram words fold_of
kept_below_30_seconds_holds = refl

-- other octets at a place that is held are refused, and change nothing
abbrev other_octets : List Row
other_octets =
    (event 1000000000 true (hex 22 0x45000016000100014011e8260a000005c0a8c8016869), held)
    ∷ (event 1000000000 true (hex 22 0x45000016000100014011e8260a000005c0a8c8016868), refused BadFragment)
    ∷ (
      event 2000000000 true (hex 28 0x4500001c000120004011c8210a000005c0a8c8010fa01388000ae199),
      joins (hex 30 0x4500001e000100004011e81f0a000005c0a8c8010fa01388000ae1996869),
    )
    ∷ []

other_octets_holds : found other_octets ≡ wanted other_octets
unfolding read_datagram words fold_of
other_octets_holds = refl

-- repeats are taken
abbrev repeats : List Row
repeats =
    (event 1000000000 true (hex 28 0x4500001c000120004011c8210a000005c0a8c8010fa01388000ae199), held)
    ∷ (event 1000000000 true (hex 28 0x4500001c000120004011c8210a000005c0a8c8010fa01388000ae199), held)
    ∷ (
      event 1000000000 true (hex 22 0x45000016000100014011e8260a000005c0a8c8016869),
      joins (hex 30 0x4500001e000100004011e81f0a000005c0a8c8010fa01388000ae1996869),
    )
    ∷ (event 1000000000 true (hex 22 0x45000016000100014011e8260a000005c0a8c8016869), held)
    ∷ []

repeats_holds : found repeats ≡ wanted repeats
unfolding read_datagram words fold_of
repeats_holds = refl

-- the flag that forbids to cut a datagram stays
abbrev may_not_be_cut : List Row
may_not_be_cut =
    (event 1000000000 true (hex 28 0x4500001c00016000401188210a000005c0a8c8016162636465666768), held)
    ∷ (
      event 1000000000 true (hex 21 0x45000015000140014011a8270a000005c0a8c8017a),
      joins (hex 29 0x4500001d000140004011a8200a000005c0a8c80161626364656667687a),
    )
    ∷ []

may_not_be_cut_holds : found may_not_be_cut ≡ wanted may_not_be_cut
unfolding read_datagram words fold_of
may_not_be_cut_holds = refl

-- an end behind the known one, another end, and one at or below a place that is held
abbrev ends_that_contradict : List Row
ends_that_contradict =
    (event 1000000000 true (hex 22 0x45000016000100014011e8260a000005c0a8c8016869), held)
    ∷ (event 1000000000 true (hex 28 0x4500001c000120014011c8200a000005c0a8c8016162636465666768), refused BadFragment)
    ∷ (event 1000000000 true (hex 23 0x45000017000100014011e8250a000005c0a8c801686921), refused BadFragment)
    ∷ (event 1000000000 true (hex 28 0x4500001c000220024011c81e0a000005c0a8c8016162636465666768), held)
    ∷ (event 1000000000 true (hex 22 0x45000016000200014011e8250a000005c0a8c8016869), refused BadFragment)
    ∷ []

ends_that_contradict_holds : found ends_that_contradict ≡ wanted ends_that_contradict
unfolding read_datagram words fold_of
ends_that_contradict_holds = refl

-- no payload, and part of a unit though more follow; no datagram begins
abbrev contradicts_itself : List Row
contradicts_itself =
    (event 1000000000 true (hex 20 0x45000014000100014011e8280a000005c0a8c801), refused BadFragment)
    ∷ (event 1000000000 true (hex 29 0x4500001d000120004011c8200a000005c0a8c801616263646566676869), refused BadFragment)
    ∷ []

contradicts_itself_holds : found contradicts_itself ≡ wanted contradicts_itself
unfolding read_datagram words fold_of
contradicts_itself_holds = refl

-- a snapped frame, a wrong header checksum and a whole datagram aren't looked at; options are refused first
abbrev other_reasons : List Row
other_reasons =
    (event 1000000000 false (hex 22 0x45000016000100014011e8260a000005c0a8c8016869), plain)
    ∷ (event 1000000000 true (hex 22 0x45000016000100014011e9260a000005c0a8c8016869), plain)
    ∷ (event 1000000000 true (hex 30 0x4500001e000100004011e81f0a000005c0a8c8010fa01388000ae1996869), plain)
    ∷ (event 1000000000 true (hex 24 0x46000018000100014011e5220a000005c0a8c80101010101), refused IpOptions)
    ∷ []

other_reasons_holds : found other_reasons ≡ wanted other_reasons
unfolding read_datagram words fold_of
other_reasons_holds = refl

not_held : Held ≡ Refused FragmentsFull → ⊥
not_held is = cc

-- ## A datagram that was cut in two, the last fragment first

abbrev last : Event
last = event 1000000000 true (hex 22 0x45000016000100014011e8260a000005c0a8c8016869)

abbrev front : Event
front = event 2000000000 true (hex 28 0x4500001c000120004011c8210a000005c0a8c8010fa01388000ae199)

abbrev original : Original
original = record { name = name_in last; header = hex 20 0x4500001e000100004011e81f0a000005c0a8c801; payload = hex 10 0x0fa01388000ae1996869 }

last_cut : IsCut original (fragment_in last)
unfolding words fold_of
last_cut = record { some = lit< tt; within = lit≤ tt; octets = refl; more = refl; even = λ more. absurd cc; header = refl }

front_cut : IsCut original (fragment_in front)
unfolding words fold_of
front_cut = record { some = lit< tt; within = lit≤ tt; octets = refl; more = refl; even = λ more. refl; header = refl }

brings_last : Brings original 1000000000 last
brings_last = record { soon = lit< tt; cut = λ is. last_cut; plain = λ is. refl }

brings_front : Brings original 1000000000 front
brings_front = record { soon = lit< tt; cut = λ is. front_cut; plain = λ is. refl }

held_first : (step by_list empty last).answer ≡ Held
unfolding read_datagram words fold_of
held_first = refl

arrives : Arrives original empty last [] front
unfolding read_datagram words fold_of
arrives = record {
  fits = lit≤ tt;
  none = refl;
  begins = refl;
  room = λ full. not_held (sym held_first ∙ full);
  brought = All-cons (Brings original 1000000000) last [] brings_last (All-nil (Brings original 1000000000));
  ends = brings_front;
  left = refl;
  covered = refl;
}
