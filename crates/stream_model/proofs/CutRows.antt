-- The definitions at worked rows: what a session sends for a segment, computed, and ways to cut it that are lawful or not.
use Rattle.std.proofs.Common.{◌≡◌, ◌≤◌, ℕ, true, false, List, [], ◌∷◌, ◌++◌, length, take, drop, refl, sym, ◌∙◌, ap, subst, arith, ◌&&◌, ◌==◌, codes, replicate, map, length-append}
use Rattle.std.proofs.lemmas.Bool.{false≢true}
use Rattle.gate_base.specs.declared.host.Host.TheVariants.{Client}
use Rattle.ftp_lines.proofs.OnLiterals.{lines_on_literals}
use Rattle.tcp_segments.specs.declared.flags.Flags.{Flags}
use Rattle.stream_model.specs.Session.{Session, Outgoing}
use Rattle.stream_model.specs.History.{Event, next}
use Rattle.stream_model.specs.Sending.{Sent, Piece, segment_with, in_pieces}
use Rattle.stream_model.specs.Steps.{session_sent}
use Rattle.stream_model.proofs.RowWords.{line, ack, ack_fin, ack_push, ack_reset, segment, client_with, server, goes_with, run, begun, shake, shaken}
use Rattle.stream_model.specs.Cuts.{IsPiece, ArePieces, MaySend, IsLawfulWay}

-- ## What is sent

-- so much is sent
abbrev sends : Flags → ℕ → ℕ → ℕ → List ℕ → Sent
sends flags sequence acknowledgement limit octets =
    record { sequence = sequence; acknowledgement = acknowledgement; flags = flags; limit = limit; octets = octets }

-- segments of one session, one after the other, and what is sent for each
abbrev Row : Type 0
Row = Event × Sent

abbrev found : Session → List Row → List Sent
found s [] = []
found s (row ∷ rows) = session_sent row.0.from s row.0.segment ∷ found (next s row.0) rows

abbrev wanted : List Row → List Sent
wanted rows = map (λ row. row.1) rows

-- after the handshake with a server that takes 88 octets at a time
abbrev narrow : Session
narrow = run (begun 1000) (shake 1000 88)

-- PSH and options of 12 octets
abbrev with_options : Event → Event
with_options e = record e { segment = record e.segment { options = 12 } }

-- a SYN with PSH keeps its numbers, and from then on its sender takes 536 octets at a time; a held part of a line is not sent, so PSH isn't
-- either; the whole line goes on, renamed, with PSH and less octets at a time for its options;
-- its acknowledgement is translated back; a held rest goes with the end, and the end alone until it is acknowledged, also where all octets
-- before it are; an RST goes with neither
-- octets nor other flags
abbrev sent_rows : List Row
sent_rows =
    (client_with (record ack_push { syn = true }) 1000 0 [], sends (record ack { syn = true }) 1000 0 1460 [])
    ∷ (client_with ack_push 1001 5001 (codes "PORT 10,0,"), sends ack 1001 5001 1460 [])
    ∷ (with_options (client_with ack_push 1011 5001 (line (codes "0,5,4,1"))), sends ack_push 1001 5001 1448 (line (codes "PORT 172,16,9,1,4,1")))
    ∷ (server 5001 1022 (codes "2"), sends ack 5001 1020 536 [])
    ∷ (client_with ack_fin 1020 5001 (codes "PORT 1"), sends ack_fin 1022 5001 1460 (codes "PORT 1"))
    ∷ (client_with ack_fin 1026 5001 [], sends ack_fin 1028 5001 1460 [])
    ∷ (server 5002 1028 [], sends ack 5001 1026 536 [])
    ∷ (client_with ack_fin 1026 5001 [], sends ack_fin 1028 5001 1460 [])
    ∷ (server 5002 1029 [], sends ack 5001 1027 536 [])
    ∷ (client_with ack_fin 1026 5001 [], sends ack 1028 5001 1460 [])
    ∷ (client_with (record ack_reset { fin = true; push = true }) 1026 5001 (codes "x"), sends ack_reset 1028 5001 1460 [])
    ∷ []

sent_holds : found shaken sent_rows ≡ wanted sent_rows
unfolding lines_on_literals
sent_holds = refl

-- ## How it may be cut

-- 100 octets for a server that takes 88, with PSH
abbrev hundred : List ℕ
hundred = line (codes "NOOP " ++ replicate 93 120)

abbrev letters : Sent
letters = sends ack_push 1001 5001 88 hundred

letters_sent : session_sent Client narrow (segment ack_push 1001 5001 hundred) ≡ letters
unfolding lines_on_literals
letters_sent = refl

-- the definitions' own way
own_way : in_pieces letters ≡ goes_with ack 1001 5001 (take 88 hundred) ∷ goes_with ack_push 1089 5001 (drop 88 hundred) ∷ []
own_way = refl

-- in halves, with PSH on the first too
halves : IsLawfulWay letters (goes_with ack_push 1001 5001 (take 50 hundred) ∷ goes_with ack_push 1051 5001 (drop 50 hundred) ∷ [])
halves =
    let first : Piece = record { offset = 0; octets = take 50 hundred; fin = false; push = true } in
    let last : Piece = record { offset = 50; octets = drop 50 hundred; fin = false; push = true } in
    let long : length (take 50 hundred) ≡ 50 = refl in
    let rest : length (drop 50 hundred) ≡ 50 = refl in (
      first ∷ last ∷ [],
      (
        drop 50 hundred,
        record { joined = refl; stands = refl; some = omega (arith, long); few = omega (arith, long); ends = refl; pushes = λ e. refl },
        ([], record { joined = refl; stands = refl; some = omega (arith, rest); few = omega (arith, rest); ends = refl; pushes = λ e. refl }, refl),
      ),
      refl,
    )

-- what the first segment of a lawful way is like
record IsFirst (s : Sent) (all : List ℕ) (o : Outgoing) : Type 0 where
  some : 1 ≤ length o.octets
  few : length o.octets ≤ s.limit
  pushes : o.flags.push ≡ true → s.flags.push ≡ true
  ends : (behind : List ℕ) × (all ≡ o.octets ++ behind) × (o.flags.fin ≡ (length behind == 0 && s.flags.fin))

first : (s : Sent) (x : ℕ) (xs : List ℕ) (o : Outgoing) (os : List Outgoing) → MaySend s (x ∷ xs) (o ∷ os) → IsFirst s (x ∷ xs) o
first s x xs o os h = by_pieces h.0 h.1 h.2
  where
    by_pieces : (ps : List Piece) → ArePieces s 0 (x ∷ xs) ps → o ∷ os ≡ map (segment_with s) ps → IsFirst s (x ∷ xs) o
    by_pieces [] are e = cc
    by_pieces (p ∷ ps) are e =
        let same : o ≡ segment_with s p = cc in
        let piece : IsPiece s 0 (x ∷ xs) are.0 p = are.1 in
        subst (λ (q : Outgoing). IsFirst s (x ∷ xs) q) (sym same)
        (record { some = piece.some; few = piece.few; pushes = piece.pushes; ends = (are.0, piece.joined, piece.ends) })

-- a piece of 89 octets
past_limit : IsLawfulWay letters (goes_with ack 1001 5001 (take 89 hundred) ∷ goes_with ack_push 1090 5001 (drop 89 hundred) ∷ []) → ⊥
past_limit h =
    let f = first letters 78 (drop 1 hundred) (goes_with ack 1001 5001 (take 89 hundred)) (goes_with ack_push 1090 5001 (drop 89 hundred) ∷ []) h in
    let long : length (take 89 hundred) ≡ 89 = refl in
    absurd (omega (arith, f.few, long))

-- a piece without octets
empty_first : IsLawfulWay letters (goes_with ack 1001 5001 [] ∷ goes_with ack_push 1001 5001 hundred ∷ []) → ⊥
empty_first h =
    let f = first letters 78 (drop 1 hundred) (goes_with ack 1001 5001 []) (goes_with ack_push 1001 5001 hundred ∷ []) h in
    absurd (omega (arith, f.some))

-- PSH, which the segment hasn't
push_unasked : IsLawfulWay (record letters { flags = ack })
    (goes_with ack_push 1001 5001 (take 50 hundred) ∷ goes_with ack 1051 5001 (drop 50 hundred) ∷ []) → ⊥
push_unasked h =
    let f = first (record letters { flags = ack }) 78 (drop 1 hundred) (goes_with ack_push 1001 5001 (take 50 hundred))
    (goes_with ack 1051 5001 (drop 50 hundred) ∷ []) h in
    absurd (false≢true (f.pushes refl))

-- FIN before the last octets
end_first : IsLawfulWay (record letters { flags = ack_fin })
    (goes_with ack_fin 1001 5001 (take 50 hundred) ∷ goes_with ack_fin 1051 5001 (drop 50 hundred) ∷ []) → ⊥
end_first h =
    let f = first (record letters { flags = ack_fin }) 78 (drop 1 hundred) (goes_with ack_fin 1001 5001 (take 50 hundred))
    (goes_with ack_fin 1051 5001 (drop 50 hundred) ∷ []) h in
    let behind = f.ends.0 in
    let whole : length hundred ≡ length (take 50 hundred ++ behind) = ap length f.ends.1 in
    let all : length hundred ≡ 100 = refl in
    let front : length (take 50 hundred) ≡ 50 = refl in
    let left : length behind ≡ 50 = omega (arith, whole, all, front, length-append (take 50 hundred) behind) in
    absurd (false≢true (sym (ap (λ n. n == 0 && true) left) ∙ sym f.ends.2))
