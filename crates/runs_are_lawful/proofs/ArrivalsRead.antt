-- What comes to the gate of frames that are octets is octets, and comes at their moments.
use Rattle.std.proofs.Common.{◌≡◌, ◌<◌, ◌+◌, ◌-◌, ℕ, suc, Bool, true, false, List, [], ◌∷◌, ◌++◌, length, take, drop, All, Option, Some, None, refl, sym, subst, arith, inl, inr, IfSome, ◌==◌, ◌/◌, ◌%◌, if◌then◌else◌, slice_get, slice_index, option_and_then, unwrap_or}
use Rattle.std.specs.List.{range_with_len}
use Rattle.std.specs.Option.{option_or}
use Rattle.std.proofs.lemmas.Bool.{cases_lt}
use Rattle.std.proofs.lemmas.List.{get_or_past}
use Rattle.std.proofs.lemmas.List.Elements.{All-nil, All-cons, All-take, All-drop, All-append, All-push, All-set, All-map, All-filter, All-get_or}
use Rattle.std.proofs.lemmas.Option.{slice_get_within, get_or_from_slice_get}
use Rattle.byteorder.specs.Endian.{big_bytes}
use Rattle.gate_base.specs.Prelude.{Event, with_u16}
use Rattle.verdicts.specs.Prelude.{first_that_holds}
use Rattle.verdicts.specs.declared.refusal.Refusal.{Refusal}
use Rattle.gate_base.specs.declared.side.Link.TheVariants.{Raw}
use Rattle.inet_sum.specs.Sum.{checksum}
use Rattle.ipv4_frames.specs.Ipv4.{total_length_of}
use Rattle.frag_join.specs.Prelude.{Arrival, opened, joiner_after, arrival_by, arrival, arrivals_of, Fragment, is_fragment, name_in, fragment_in}
use Rattle.frag_join.specs.Prelude.{octet_in, covers, octets_of, Step, State, by_list, live, is_live, changed, place_of, part_of, part_or_new}
use Rattle.frag_join.specs.Prelude.{fragment_tests, with_fragment, settled, taken_unless, fragment_step, step_by, step, octet_at, octet_of, reach_of}
use Rattle.frag_join.specs.Prelude.{header_told, header_by, known_by, is_complete, whole_head, payload_below, datagram_of, table}
use Rattle.frag_join.specs.Arrivals.{arrivals_from}
use Rattle.frag_join.specs.Coverage.{cleared_head}
use Rattle.frag_join.specs.declared.part.Part.{Part}
use Rattle.frag_join.specs.declared.taken.Taken.{Taken}
use Rattle.frag_join.specs.declared.taken.Taken.TheVariants as taken
use Rattle.lawful_files.specs.Prelude.{event_in}
use Rattle.lawful_files.proofs.SentLists.{AreOctets, octet_at as octet_within, in_octets}
use Rattle.runs_are_lawful.proofs.EventsRead.{IsRead, AreRead}

-- each frame that comes, or stays, is read
abbrev pub AreFine : List Arrival → Type 0
AreFine [] = Unit {0}
AreFine (a ∷ arrivals) = IsRead (event_in a) × AreFine arrivals

-- ## Fragments

record IsFragmentRead (f : Fragment) : Type 0 where
  header : AreOctets f.header
  payload : AreOctets f.payload

fragment_read : (e : Event) → AreOctets e.octets → IsFragmentRead (fragment_in e)
fragment_read e h =
    let octets = octets_of e in
    let inside = in_octets e.link e.octets h in
    record {
      header = All-take (λ octet. octet < 256) 20 octets inside;
      payload = All-take (λ octet. octet < 256) (total_length_of octets - 20) (drop 20 octets) (All-drop (λ octet. octet < 256) 20 octets inside);
    }

AreFragmentsRead : List Fragment → Type 0
AreFragmentsRead [] = Unit {0}
AreFragmentsRead (f ∷ fs) = IsFragmentRead f × AreFragmentsRead fs

one_more : (fs : List Fragment) (f : Fragment) → AreFragmentsRead fs → IsFragmentRead f → AreFragmentsRead (fs ++ f ∷ [])
unfolding AreFragmentsRead
one_more [] f h k = (k, tt)
one_more (g ∷ fs) f h k = (h.0, one_more fs f h.1 k)

-- ## What they tell

abbrev IsOctet : Option ℕ → Type 0
IsOctet o = IfSome o (λ octet. octet < 256)

covered_octet : (f : Fragment) (place : ℕ) → IsFragmentRead f → IsOctet (octet_in f place)
covered_octet f place h = by_test (covers f place)
  where
    by_test : (b : Bool) → IsOctet (if b then Some (slice_index f.payload (place - f.start)) else None)
    by_test true = octet_within f.payload (place - f.start) h.payload
    by_test false = tt

either_octet : (o p : Option ℕ) → IsOctet o → IsOctet p → IsOctet (option_or o p)
either_octet None p h k = k
either_octet (Some x) p h k = h

told_octet : (fs : List Fragment) (place : ℕ) → AreFragmentsRead fs → IsOctet (octet_at fs place)
unfolding AreFragmentsRead
told_octet [] place h = tt
told_octet (f ∷ fs) place h = either_octet (octet_in f place) (octet_at fs place) (covered_octet f place h.0) (told_octet fs place h.1)

table_all : {X : Type 0} (P : X → Type 0) (at : ℕ → X) (bound : ℕ) → ((place : ℕ) → P (at place)) → All P (table at bound)
table_all P at bound h = All-map P at (range_with_len 0 bound) (λ k d lt. h _)

known_octet : (fs : List Fragment) (place : ℕ) → AreFragmentsRead fs → IsOctet (octet_of (known_by fs) place)
known_octet fs place h =
    let places = table (octet_at fs) (reach_of fs) in
    elim (cases_lt place (length places)) [
      | inl l ↦ All-get_or IsOctet places place None l (table_all IsOctet (octet_at fs) (reach_of fs) (λ at. told_octet fs at h))
      | inr l ↦ subst IsOctet (sym (get_or_past places place None l)) tt
    ]

or_zero : (o : Option ℕ) → IsOctet o → unwrap_or o 0 < 256
or_zero None h = omega arith
or_zero (Some octet) h = h

payload_read : (fs : List Fragment) (end : ℕ) → AreFragmentsRead fs → AreOctets (payload_below (known_by fs) end)
payload_read fs end h =
    table_all (λ octet. octet < 256) (λ place. unwrap_or (octet_of (known_by fs) place) 0) end
    (λ place. or_zero (octet_of (known_by fs) place) (known_octet fs place h))

-- ## Its header

two_octets : (value : ℕ) → AreOctets (big_bytes 2 value)
two_octets value =
    All-cons (λ octet. octet < 256) (value / 256 % 256) (value % 256 ∷ []) (omega arith)
    (All-cons (λ octet. octet < 256) (value % 256) [] (omega arith) (All-nil (λ octet. octet < 256)))

put_octets : (place value : ℕ) (xs : List ℕ) → AreOctets xs → AreOctets (with_u16 place value xs)
put_octets place value xs h =
    All-append (λ octet. octet < 256) (take place xs ++ big_bytes 2 value) (drop (place + 2) xs)
    (All-append (λ octet. octet < 256) (take place xs) (big_bytes 2 value) (All-take (λ octet. octet < 256) place xs h) (two_octets value))
    (All-drop (λ octet. octet < 256) (place + 2) xs h)

header_read : (fs : List Fragment) → AreFragmentsRead fs → IfSome (header_by fs) AreOctets
unfolding AreFragmentsRead
header_read [] h = tt
header_read (f ∷ fs) h = either (header_told f) (header_by fs) (told (f.start == 0)) (header_read fs h.1)
  where
    told : (b : Bool) → IfSome (if b then Some f.header else None) AreOctets
    told true = h.0.header
    told false = tt

    either : (o p : Option (List ℕ)) → IfSome o AreOctets → IfSome p AreOctets → IfSome (option_or o p) AreOctets
    either None p x y = y
    either (Some header) p x y = x

or_none : (o : Option (List ℕ)) → IfSome o AreOctets → AreOctets (unwrap_or o [])
or_none None h = All-nil (λ octet. octet < 256)
or_none (Some header) h = h

head_read : (header : List ℕ) (total : ℕ) → AreOctets header → AreOctets (whole_head header total)
head_read header total h =
    let a = with_u16 2 total header in
    let head = cleared_head header total in
    put_octets 10 (checksum head) head (put_octets 10 0 _ (put_octets 6 _ a (put_octets 2 total header h)))

datagram_read : (fs : List Fragment) → AreFragmentsRead fs → AreOctets (datagram_of (known_by fs))
datagram_read fs h =
    let known = known_by fs in
    let end = unwrap_or known.known_end 0 in
    All-append (λ octet. octet < 256) (whole_head (unwrap_or known.header []) (20 + end)) (payload_below known end)
    (head_read (unwrap_or known.header []) (20 + end) (or_none known.header (header_read fs h))) (payload_read fs end h)

-- ## One frame

IsPartRead : Part (List Fragment) → Type 0
IsPartRead part = AreFragmentsRead part.kept

-- what is held of datagrams is read, and so is the one that was completed
record IsStepRead (one : Step (List Fragment)) : Type 0 where
  parts : All IsPartRead one.state.parts
  joined : IfSome one.state.joined IsRead

changed_read : (parts : List (Part (List Fragment))) (place : Option ℕ) (part : Option (Part (List Fragment))) → All IsPartRead parts
    → IfSome part IsPartRead → All IsPartRead (changed parts place part)
changed_read parts None None h k = h
changed_read parts None (Some part) h k = All-push IsPartRead parts part h k
changed_read parts (Some i) None h k =
    All-append IsPartRead (take i parts) (drop (suc i) parts) (All-take IsPartRead i parts h) (All-drop IsPartRead (suc i) parts h)
changed_read parts (Some i) (Some part) h k = All-set IsPartRead parts i part k h

part_found : (parts : List (Part (List Fragment))) (o : Option ℕ) → All IsPartRead parts → IfSome (option_and_then (slice_get parts) o) IsPartRead
part_found parts None h = tt
part_found parts (Some i) h = by_element (slice_get parts i) refl
  where
    by_element : (o : Option (Part (List Fragment))) → slice_get parts i ≡ o → IfSome o IsPartRead
    by_element None e = tt
    by_element (Some part) e =
        subst IsPartRead (get_or_from_slice_get parts i part part e) (All-get_or IsPartRead parts i part (slice_get_within parts i part e) h)

part_read : (e : Event) (o : Option (Part (List Fragment))) → IfSome o IsPartRead → IsPartRead (part_or_new by_list e o)
unfolding IsPartRead AreFragmentsRead
part_read e None h = tt
part_read e (Some part) h = h

with_read : (e : Event) (part : Part (List Fragment)) → AreOctets e.octets → IsPartRead part → IsPartRead (with_fragment by_list part e)
unfolding IsPartRead
with_read e part octets h = one_more part.kept (fragment_in e) h (fragment_read e octets)

settled_read : (parts : List (Part (List Fragment))) (place : Option ℕ) (e : Event) (part : Part (List Fragment)) → IsRead e → All IsPartRead parts
    → IsPartRead part → IsStepRead (settled by_list parts place e part)
unfolding IsPartRead
settled_read parts place e part read h k = by_test (is_complete (known_by part.kept))
  where
    by_test : (whole : Bool) → IsStepRead (if whole
        then record {
          answer = taken.Joined;
          state =
              record {
                parts = changed parts place None;
                joined =
                    Some (record { side = e.side; moment = e.moment; link = Raw; whole = true; octets = datagram_of (known_by part.kept) });
              };
        }
        else record { answer = taken.Held; state = record { parts = changed parts place (Some part); joined = None } })
    by_test true = record { parts = changed_read parts place None h tt; joined = record { moment = read.moment; octets = datagram_read part.kept k } }
    by_test false = record { parts = changed_read parts place (Some part) h k; joined = tt }

taken_read : (parts : List (Part (List Fragment))) (e : Event) (part : Part (List Fragment)) (o : Option Refusal) → IsRead e → All IsPartRead parts
    → IsPartRead part → IsStepRead (taken_unless by_list parts e part o)
taken_read parts e part (Some refusal) read h k = record { parts = h; joined = tt }
taken_read parts e part None read h k =
    settled_read parts (place_of (name_in e) parts) e (with_fragment by_list part e) read h (with_read e part read.octets k)

step_read : (parts : List (Part (List Fragment))) (e : Event) → IsRead e → All IsPartRead parts → IsStepRead (step_by by_list parts e)
step_read parts e read h = by_test (is_fragment e)
  where
    part : Part (List Fragment)
    part = part_or_new by_list e (part_of (name_in e) parts)

    by_test : (fragment : Bool)
        → IsStepRead
        (if fragment then fragment_step by_list parts e else record { answer = taken.Plain; state = record { parts = parts; joined = None } })
    by_test true =
        taken_read parts e (part_or_new by_list e (part_of (name_in e) parts))
        (first_that_holds (fragment_tests parts e (known_by (part_or_new by_list e (part_of (name_in e) parts)).kept))) read h
        (part_read e (part_of (name_in e) parts) (part_found parts (place_of (name_in e) parts) h))
    by_test false = record { parts = h; joined = tt }

-- ## All frames

abbrev IsJoinerRead : Option (State (List Fragment)) → Type 0
IsJoinerRead joiner = IfSome joiner (λ state. All IsPartRead state.parts)

-- what is held after a frame, and what comes of it
record IsOneRead (joiner : Option (State (List Fragment))) (e : Event) : Type 0 where
  after : IsJoinerRead (joiner_after by_list joiner e)
  comes : IsRead (event_in (arrival by_list joiner e))

one_read : (joiner : Option (State (List Fragment))) (e : Event) → IsRead e → IsJoinerRead joiner → IsOneRead joiner e
one_read None e read h = record { after = tt; comes = read }
one_read (Some state) e read h =
    let one = step_read (live e.moment state.parts) e read (All-filter (is_live e.moment) IsPartRead state.parts h) in
    record { after = one.parts; comes = by_answer (step by_list state e).answer (step by_list state e).state.joined one.joined }
  where
    joined_read : (o : Option Event) → IfSome o IsRead → IsRead (unwrap_or o e)
    joined_read None k = read
    joined_read (Some joined) k = k

    by_answer : (answer : Taken) (o : Option Event) → IfSome o IsRead → IsRead (event_in (arrival_by e answer o))
    by_answer taken.Plain o k = read
    by_answer taken.Held o k = read
    by_answer taken.Joined o k = joined_read o k
    by_answer (taken.Refused refusal) o k = read

all_read : (joiner : Option (State (List Fragment))) (events : List Event) → IsJoinerRead joiner → AreRead events
    → AreFine (arrivals_from by_list joiner events)
unfolding arrivals_from
all_read joiner [] h read = tt
all_read joiner (e ∷ events) h read =
    let one = one_read joiner e read.0 h in
    (one.comes, all_read (joiner_after by_list joiner e) events one.after read.1)

pub arrivals_fine : (join : Bool) (events : List Event) → AreRead events → AreFine (arrivals_of join events)
arrivals_fine true events read = all_read (opened true) events (All-nil IsPartRead) read
arrivals_fine false events read = all_read (opened false) events tt read
