-- The captures of a workload are free of faults.
use Rattle.std.proofs.Common.{◌≡◌, ℕ, zero, suc, ◌+◌, ◌*◌, ◌/◌, ◌%◌, ◌^◌, ◌<◌, ◌≤◌, ◌==◌, cond, List, [], ◌∷◌, ◌++◌, length, map, decimal, true, false, refl, sym, ap, ◌∙◌, append_assoc, append-nil, length-append, arith}
use Rattle.std.proofs.lemmas.Fmt.{length-decimal-le}
use Rattle.pcap_files.specs.declared.form.Order.TheVariants.{Little}
use Rattle.pcap_files.specs.Prelude.{Records, Whole, Entry, spelled, all_spelled, packet_from, AreGood, IsCapture}
use Rattle.gate_workload.specs.Captures.{capture_head, record_of, capture_form}
use Rattle.gate_workload.specs.Datagrams.{udp_datagram, tcp_datagram}
use Rattle.gate_workload.specs.Draws.{drawn}
use Rattle.gate_workload.specs.Payloads.{plain_flow, names_flow, trap_flow, client_flow, server_flow, segment_size, port_line, reply, names, trap}
use Rattle.gate_workload.specs.Rounds.{State, stepped, opening, shaken, plain_round, names_round, line_sent, reply_sent, line_round, trap_round, round_of, round, rounds, made}
use Rattle.gate_workload.specs.Workloads.{IsWhole, workload}
use Rattle.pcap_files.proofs.Joined.{reads}
use Rattle.gate_workload.proofs.Lengths.{udp_long, tcp_long, syn_long, line_short}

-- ## Records

record IsTame (e : Entry) : Type 0 where
  seconds : e.seconds < 2 ^ 32
  fraction : e.fraction * 1000 < 1000000000
  original : e.original ≡ length e.octets
  short : length e.octets ≤ 200

abbrev AreTame : List Entry → Type 0
AreTame [] = Unit {0}
AreTame (e ∷ entries) = IsTame e × AreTame entries

tame_more : (entries : List Entry) (e : Entry) → AreTame entries → IsTame e → AreTame (entries ++ e ∷ [])
tame_more [] e h k = (k, tt)
tame_more (x ∷ entries) e h k = (h.0, tame_more entries e h.1 k)

spelled_more : (entries : List Entry) (e : Entry) → all_spelled Little (entries ++ e ∷ []) ≡ all_spelled Little entries ++ spelled Little e
spelled_more [] e = append-nil (spelled Little e)
spelled_more (x ∷ entries) e = ap (λ (xs : List ℕ). spelled Little x ++ xs) (spelled_more entries e)
    ∙ sym (append_assoc (spelled Little x) (all_spelled Little entries) (spelled Little e))

length_more : (entries : List Entry) (e : Entry) → length (entries ++ e ∷ []) ≡ suc (length entries)
length_more entries e = let both = length-append entries (e ∷ []) in omega (arith, both)

-- short records at early places are good
are_good : (entries : List Entry) (place : ℕ) → AreTame entries → place + length entries * 216 ≤ 2 ^ 40 → AreGood capture_form place entries
are_good [] place h fits = tt
are_good (e ∷ entries) place h fits = (
  record {
    seconds = h.0.seconds;
    fraction = h.0.fraction;
    original = let same = h.0.original in let short = h.0.short in omega (arith, same, short);
    kept = let short = h.0.short in omega (arith, short);
    ends = let short = h.0.short in omega (arith, short, fits);
  },
  are_good entries (place + 16 + length e.octets) h.1 (let short = h.0.short in omega (arith, short, fits)),
)

-- ## A capture

record IsSide (all : List ℕ) (most : ℕ) : Type 0 where
  entries : List Entry
  joined : all ≡ capture_head ++ all_spelled Little entries
  tame : AreTame entries
  few : length entries ≤ most

no_records : IsSide capture_head 0
no_records = record { entries = []; joined = sym (append-nil capture_head); tame = tt; few = omega arith }

side_longer : (all : List ℕ) (most : ℕ) → IsSide all most → IsSide all (suc most)
side_longer all most h = record { entries = h.entries; joined = h.joined; tame = h.tame; few = let few = h.few in omega (arith, few) }

entry_of : ℕ → List ℕ → Entry
entry_of n datagram = record { seconds = 1000 + n / 1000; fraction = n % 1000 * 1000; original = length datagram; octets = datagram }

side_more : (all datagram : List ℕ) (n most : ℕ) → n ≤ 1000000000 → length datagram ≤ 200 → IsSide all most
    → IsSide (all ++ record_of n datagram) (suc most)
unfolding record_of
side_more all datagram n most small short h =
    let e : Entry = record { seconds = 1000 + n / 1000; fraction = n % 1000 * 1000; original = length datagram; octets = datagram } in record {
      entries = h.entries ++ e ∷ [];
      joined = ap (λ (xs : List ℕ). xs ++ spelled Little e) h.joined ∙ append_assoc capture_head (all_spelled Little h.entries) (spelled Little e)
          ∙ ap (λ (xs : List ℕ). capture_head ++ xs) (sym (spelled_more h.entries e));
      tame = tame_more h.entries e h.tame (record { seconds = omega arith; fraction = omega arith; original = refl; short = short });
      few = let few = h.few in let more = length_more h.entries e in omega (arith, few, more);
    }

is_capture : (all : List ℕ) (most : ℕ) → 24 + most * 216 ≤ 2 ^ 40 → (h : IsSide all most)
    → IsCapture all capture_form (map (packet_from capture_form) h.entries) Whole
is_capture all most fits h = record {
  between = 2 ∷ 0 ∷ 4 ∷ 0 ∷ 0 ∷ 0 ∷ 0 ∷ 0 ∷ 0 ∷ 0 ∷ 0 ∷ 0 ∷ 0 ∷ 0 ∷ 4 ∷ 0 ∷ [];
  entries = h.entries;
  rest = [];
  sixteen = refl;
  joined = h.joined ∙ ap (λ (xs : List ℕ). capture_head ++ xs) (sym (append-nil (all_spelled Little h.entries)));
  good = are_good h.entries 24 h.tame (let few = h.few in omega (arith, few, fits));
  packets = refl;
  ending = refl;
}

-- ## Both captures, as they are made

record AreSides (left right : List ℕ) (frames most : ℕ) : Type 0 where
  of_left : IsSide left most
  of_right : IsSide right most
  count : frames ≤ most

sides_longer : (left right : List ℕ) (frames most : ℕ) → AreSides left right frames most → AreSides left right frames (suc most)
sides_longer left right frames most h =
    record {
      of_left = side_longer left most h.of_left;
      of_right = side_longer right most h.of_right;
      count = let few = h.count in omega (arith, few);
    }

left_more : (left right datagram : List ℕ) (frames most : ℕ) → most ≤ 1000000000 → length datagram ≤ 200 → AreSides left right frames most
    → AreSides (left ++ record_of frames datagram) right (frames + 1) (suc most)
left_more left right datagram frames most small short h = let count = h.count in record {
  of_left = side_more left datagram frames most (omega (arith, count, small)) short h.of_left;
  of_right = side_longer right most h.of_right;
  count = omega (arith, count);
}

right_more : (left right datagram : List ℕ) (frames most : ℕ) → most ≤ 1000000000 → length datagram ≤ 200 → AreSides left right frames most
    → AreSides left (right ++ record_of frames datagram) (frames + 1) (suc most)
right_more left right datagram frames most small short h = let count = h.count in record {
  of_left = side_longer left most h.of_left;
  of_right = side_more right datagram frames most (omega (arith, count, small)) short h.of_right;
  count = omega (arith, count);
}

abbrev Sides : State → ℕ → Type 0
Sides s most = AreSides s.left s.right s.frames most

shaken_sides : (number : ℕ) → Sides (shaken (opening number)) 3
unfolding shaken
shaken_sides number =
    left_more _ _ (tcp_datagram client_flow [] 1001 5001 16 []) 2 2 (omega arith) (omega (arith, tcp_long client_flow 1001 5001 16 []))
    (right_more _ _ (tcp_datagram server_flow segment_size 5000 1001 18 []) 1 1 (omega arith) (omega (arith, syn_long server_flow 5000 1001 18))
    (left_more capture_head capture_head (tcp_datagram client_flow segment_size 1000 0 2 []) 0 0 (omega arith)
    (omega (arith, syn_long client_flow 1000 0 2)) (record { of_left = no_records; of_right = no_records; count = omega arith })))

plain_sides : (k most : ℕ) (s : State) → k < 100000 → most ≤ 1000000 → Sides s most → Sides (plain_round k s) (suc (suc most))
unfolding plain_round
plain_sides k most s small few h =
    sides_longer _ _ _ (suc most)
    (left_more s.left s.right (udp_datagram (plain_flow k) (decimal k)) s.frames most (omega (arith, few))
    (omega (arith, udp_long (plain_flow k) (decimal k), length-decimal-le 20 k (omega arith) (omega arith) (omega (arith, small)))) h)

names_sides : (most : ℕ) (s : State) → most ≤ 1000000 → Sides s most → Sides (names_round s) (suc (suc most))
unfolding names_round
names_sides most s few h =
    sides_longer _ _ _ (suc most)
    (right_more s.left s.right (udp_datagram names_flow (names (0x0a010001 + drawn (stepped s).random 200))) s.frames most (omega (arith, few))
    (omega (arith, udp_long names_flow (names (0x0a010001 + drawn (stepped s).random 200)))) h)

trap_sides : (most : ℕ) (s : State) → most ≤ 1000000 → Sides s most → Sides (trap_round s) (suc (suc most))
unfolding trap_round
trap_sides most s few h =
    sides_longer _ _ _ (suc most)
    (left_more s.left s.right (udp_datagram trap_flow trap) s.frames most (omega (arith, few)) (omega (arith, udp_long trap_flow trap)) h)

line_sides : (most : ℕ) (s : State) → most ≤ 1000000 → Sides s most → Sides (line_round s) (suc (suc most))
unfolding line_sent reply_sent
line_sides most s few h =
    let number = drawn (stepped s).random 250 in
    let line = line_sent number (stepped s) in
    right_more _ _ (tcp_datagram server_flow [] line.server line.image 24 reply) _ (suc most) (omega (arith, few))
    (omega (arith, tcp_long server_flow line.server line.image 24 reply))
    (left_more s.left s.right (tcp_datagram client_flow [] s.client s.server 24 (port_line number)) s.frames most (omega (arith, few))
    (omega (arith, tcp_long client_flow s.client s.server 24 (port_line number), line_short number (omega arith))) h)

kind_sides : (kind k most : ℕ) (s : State) → k < 100000 → most ≤ 1000000 → Sides s most → Sides (round_of kind k s) (suc (suc most))
kind_sides kind k most s small few h =
    elim (kind == 0) as (λ b. Sides (cond b (plain_round k s) (cond (kind == 1) (names_round s) (cond (kind == 2) (line_round s) (trap_round s))))
    (suc (suc most))) [
      | true ↦ plain_sides k most s small few h
      | false ↦
          elim (kind == 1) as (λ b. Sides (cond b (names_round s) (cond (kind == 2) (line_round s) (trap_round s))) (suc (suc most))) [
            | true ↦ names_sides most s few h
            | false ↦ elim (kind == 2) as
                (λ b. Sides (cond b (line_round s) (trap_round s)) (suc (suc most))) [
                  | true ↦ line_sides most s few h
                  | false ↦ trap_sides most s few
                      h
                ]
          ]
    ]

round_sides : (k most : ℕ) (s : State) → k < 100000 → most ≤ 1000000 → Sides s most → Sides (round k s) (suc (suc most))
unfolding round
round_sides k most s small few h = kind_sides (drawn (stepped s).random 4) k most (stepped s) small few h

rounds_sides : (count : ℕ) (s : State) → count ≤ 100000 → Sides s 3 → Sides (rounds count s) (3 + 2 * count)
unfolding rounds
rounds_sides zero s small h = h
rounds_sides (suc k) s small h =
    let next = round_sides k (3 + 2 * k) (rounds k s) (omega (arith, small)) (omega (arith, small)) (rounds_sides k s (omega (arith, small)) h) in
    let more : suc (suc (3 + 2 * k)) ≡ 3 + 2 * suc k = omega arith in rw (← more) next

made_sides : (number count : ℕ) → count ≤ 100000 → Sides (made number count) (3 + 2 * count)
unfolding made
made_sides number count small = rounds_sides count (shaken (opening number)) small (shaken_sides number)

side_whole : (all : List ℕ) (most : ℕ) → 24 + most * 216 ≤ 2 ^ 40 → IsSide all most → IsWhole all
side_whole all most fits h =
    let read = reads all capture_form (map (packet_from capture_form) h.entries) Whole (is_capture all most fits h) in
    (read.0, ap (λ (r : Records). r.ending) read.1)

pub left_whole : (number count : ℕ) → count ≤ 100000 → IsWhole (workload number count).left
left_whole number count small = side_whole (made number count).left (3 + 2 * count) (omega (arith, small)) (made_sides number count small).of_left

pub right_whole : (number count : ℕ) → count ≤ 100000 → IsWhole (workload number count).right
right_whole number count small = side_whole (made number count).right (3 + 2 * count) (omega (arith, small)) (made_sides number count small).of_right
