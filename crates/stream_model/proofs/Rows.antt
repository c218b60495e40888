-- The definitions at worked rows, computed: sessions of the lines of FTP, a segment and what goes out for it on each line.
use Rattle.std.proofs.Common.{◌≡◌, ℕ, true, false, List, [], ◌∷◌, ◌++◌, take, drop, refl, ◌+◌, ◌-◌, ◌^◌, Option, Some, None, codes, replicate, map}
use Rattle.verdicts.specs.declared.refusal.Refusal.{Refusal}
use Rattle.verdicts.specs.declared.refusal.Refusal.TheVariants.{NoSession, SynData, SynInSession, NoAck, Gap, PastEnd, AckAhead, Unlike, StreamLimit, Backlog}
use Rattle.gate_base.specs.declared.host.Host.TheVariants.{Client, Server}
use Rattle.ftp_lines.proofs.OnLiterals.{lines_on_literals}
use Rattle.stream_model.specs.Numbers.{place_near}
use Rattle.stream_model.specs.Session.{Outgoing}
use Rattle.tcp_segments.specs.declared.flags.Flags.{Flags}
use Rattle.stream_model.specs.Refusals.{refusal_of}
use Rattle.stream_model.specs.Steps.{session_ends, session_inner, session_open}
use Rattle.stream_model.proofs.RowWords.{line, ack, ack_fin, ack_push, ack_syn, ack_reset, segment, client_with, server_with, client, server, goes_with, Refused, Goes, goes, Row, found, wanted, run, begun, answer, shake, shaken}

abbrev port_line : List ℕ
port_line = line (codes "PORT 10,0,0,5,4,1")

abbrev port_image : List ℕ
port_image = line (codes "PORT 172,16,9,1,4,1")

abbrev port_row : Row
port_row = (client 1001 5001 port_line, goes 1001 5001 port_image)

-- the handshake keeps its numbers
handshake : found (begun 1000) (shake 1000 1460) ≡ wanted (shake 1000 1460)
unfolding lines_on_literals
handshake = refl

-- a line with an address, its acknowledgement, and what follows it
abbrev renamed_line : List Row
renamed_line =
    port_row
    ∷ (server 5001 1022 (line (codes "200 ok")), goes 5001 1020 (line (codes "200 ok")))
    ∷ (client 1020 5009 (line (codes "NOOP")), goes 1022 5009 (line (codes "NOOP")))
    ∷ []

renamed_line_holds : found shaken renamed_line ≡ wanted renamed_line
unfolding lines_on_literals
renamed_line_holds = refl

-- a reply with an address, and its acknowledgement
abbrev renamed_reply : List Row
renamed_reply = (
  server 5001 1001 (line (codes "227 Entering Passive Mode (10,0,0,5,4,1).")),
  goes 5001 1001 (line (codes "227 Entering Passive Mode (192,168,200,1,4,1).")),
)
    ∷ (client 1001 5049 [], goes 1001 5044 [])
    ∷ []

renamed_reply_holds : found shaken renamed_reply ≡ wanted renamed_reply
unfolding lines_on_literals
renamed_reply_holds = refl

-- a line in three segments: the first two are held
abbrev held_line : List Row
held_line =
    (client 1001 5001 (codes "PO"), goes 1001 5001 [])
    ∷ (client 1003 5001 (codes "RT 10,0"), goes 1001 5001 [])
    ∷ (client 1010 5001 (line (codes ",0,5,4,1")), goes 1001 5001 port_image)
    ∷ []

held_line_holds : found shaken held_line ≡ wanted held_line
unfolding lines_on_literals
held_line_holds = refl

-- an extended line, one of the next version's addresses, and one that has an address outside the pair
abbrev other_lines : List Row
other_lines =
    (client 1001 5001 (line (codes "EPRT |1|10.0.0.5|1025|")), goes 1001 5001 (line (codes "EPRT |1|172.16.9.1|1025|")))
    ∷ (client 1025 5001 (line (codes "EPRT |2|::1|1025|")), goes 1027 5001 (line (codes "EPRT |2|::1|1025|")))
    ∷ (client 1044 5001 (line (codes "PORT 192,168,200,53,4,1")), goes 1046 5001 (line (codes "PORT 192,168,200,53,4,1")))
    ∷ []

other_lines_hold : found shaken other_lines ≡ wanted other_lines
unfolding lines_on_literals
other_lines_hold = refl

-- all but one octet of a changed line are acknowledged: none of the line is, and its last octets bring all of it again
abbrev part_acknowledged : List Row
part_acknowledged =
    port_row
    ∷ (server 5001 1021 [], goes 5001 1001 [])
    ∷ (client 1015 5001 (line (codes "4,1")), goes 1001 5001 port_image)
    ∷ []

part_acknowledged_holds : found shaken part_acknowledged ≡ wanted part_acknowledged
unfolding lines_on_literals
part_acknowledged_holds = refl

-- an acknowledged line is not sent again, and the receiver is made to acknowledge again
abbrev repeated_line : List Row
repeated_line =
    port_row
    ∷ (server 5001 1022 [], goes 5001 1020 [])
    ∷ (client 1001 5001 port_line, goes 1021 5001 [])
    ∷ []

repeated_line_holds : found shaken repeated_line ≡ wanted repeated_line
unfolding lines_on_literals
repeated_line_holds = refl

-- a held rest goes out with the end, and the repeats of both after their acknowledgement
abbrev ended_rest : List Row
ended_rest =
    (client 1001 5001 (codes "PORT 1"), goes 1001 5001 [])
    ∷ (client_with ack_fin 1007 5001 [], Goes (goes_with ack_fin 1001 5001 (codes "PORT 1") ∷ []))
    ∷ (server 5001 1008 [], goes 5001 1008 [])
    ∷ []

abbrev ended_rest_repeated : List Row
ended_rest_repeated =
    (client_with ack_fin 1007 5001 [], goes 1007 5001 [])
    ∷ (client 1001 5001 (codes "PORT 1"), goes 1007 5001 [])
    ∷ []

ended_rest_holds : found shaken (ended_rest ++ ended_rest_repeated) ≡ wanted (ended_rest ++ ended_rest_repeated)
unfolding lines_on_literals
ended_rest_holds = refl

-- a reply of so many letters behind an address, without its LF
abbrev long : ℕ → List ℕ
long letters = codes "227 (10,0,0,5,4,1)" ++ replicate letters 120 ++ 13 ∷ []

abbrev long_image : ℕ → List ℕ
long_image letters = codes "227 (192,168,200,1,4,1)" ++ replicate letters 120 ++ 13 ∷ []

abbrev lf : List ℕ
lf = 10 ∷ []

-- the longest line that bears an address, at once and with its last octet alone
abbrev longest_line : List Row
longest_line = (server 5001 1001 (long 492 ++ lf), goes 5001 1001 (long_image 492 ++ lf)) ∷ []

longest_line_holds : found shaken longest_line ≡ wanted longest_line
unfolding lines_on_literals
longest_line_holds = refl

abbrev longest_held : List Row
longest_held =
    (server 5001 1001 (long 492), goes 5001 1001 [])
    ∷ (server 5512 1001 lf, goes 5001 1001 (long_image 492 ++ lf))
    ∷ []

longest_held_holds : found shaken longest_held ≡ wanted longest_held
unfolding lines_on_literals
longest_held_holds = refl

-- a longer one is kept, and its rest is not held
abbrev longer_line : List Row
longer_line = (server 5001 1001 (long 493 ++ lf), goes 5001 1001 (long 493 ++ lf)) ∷ []

longer_line_holds : found shaken longer_line ≡ wanted longer_line
unfolding lines_on_literals
longer_line_holds = refl

abbrev longer_released : List Row
longer_released =
    (server 5001 1001 (long 493), goes 5001 1001 (long 493))
    ∷ (server 5513 1001 lf, goes 5513 1001 lf)
    ∷ []

longer_released_holds : found shaken longer_released ≡ wanted longer_released
unfolding lines_on_literals
longer_released_holds = refl

-- numbers go past 2 ^ 32
abbrev around : List Row
around =
    shake 4294967293 1460
    ++ (client 4294967294 5001 port_line, goes 4294967294 5001 port_image)
    ∷ (server 5001 19 [], goes 5001 17 [])
    ∷ (client 17 5001 (line (codes "NOOP")), goes 19 5001 (line (codes "NOOP")))
    ∷ []

around_holds : found (begun 4294967293) around ≡ wanted around
unfolding lines_on_literals
around_holds = refl

-- a line longer than the server takes goes in two pieces, with PSH on the last
abbrev noop_line : List ℕ
noop_line = line (codes "NOOP " ++ replicate 93 120)

abbrev two_pieces : List Row
two_pieces =
    shake 1000 88
    ++ (
      client_with ack_push 1001 5001 noop_line,
      Goes (goes_with ack 1001 5001 (take 88 noop_line) ∷ goes_with ack_push 1089 5001 (drop 88 noop_line) ∷ []),
    )
    ∷ []

two_pieces_hold : found (begun 1000) two_pieces ≡ wanted two_pieces
unfolding lines_on_literals
two_pieces_hold = refl

-- an answer that refuses the connection keeps its numbers and ends the session
abbrev refusing : List Row
refusing = (server_with ack_reset 0 1001 [], Goes (goes_with ack_reset 0 1001 [] ∷ [])) ∷ []

refusing_holds : found (begun 1000) refusing ≡ wanted refusing
refusing_holds = refl

refusing_ends : session_ends Server (begun 1000) (segment ack_reset 0 1001 []) ≡ true
refusing_ends = refl

-- a reset before the end of the octets so far leaves the session, and stands where it makes the receiver acknowledge again
abbrev late_reset : List Row
late_reset = (client_with ack_reset 1015 5001 [], Goes (goes_with ack_reset 1000 5001 [] ∷ [])) ∷ []

late_reset_holds : found (run shaken (port_row ∷ [])) late_reset ≡ wanted late_reset
unfolding lines_on_literals
late_reset_holds = refl

late_reset_stays : session_ends Client (run shaken (port_row ∷ [])) (segment ack_reset 1015 5001 []) ≡ false
late_reset_stays = refl

-- a rest that agrees with no front goes out at once, and again with more
abbrev released_rest : List Row
released_rest =
    (client 1001 5001 (codes "QU"), goes 1001 5001 (codes "QU"))
    ∷ (client 1001 5001 (line (codes "QUIT")), goes 1001 5001 (line (codes "QUIT")))
    ∷ []

released_rest_holds : found shaken released_rest ≡ wanted released_rest
unfolding lines_on_literals
released_rest_holds = refl

-- a segment without octets whose number lies inside a changed line brings the whole line; at the line's first octet it is empty
abbrev empty_inside : List Row
empty_inside =
    port_row
    ∷ (client 1005 5001 [], goes 1001 5001 port_image)
    ∷ (client 1001 5001 [], goes 1000 5001 [])
    ∷ []

empty_inside_holds : found shaken empty_inside ≡ wanted empty_inside
unfolding lines_on_literals
empty_inside_holds = refl

-- refusals of a session that has no number of its server
abbrev unanswered : List Row
unanswered =
    (client 1001 5001 [], Refused NoSession)
    ∷ (answer 1002 1460, Refused AckAhead)
    ∷ []

unanswered_holds : found (begun 1000) unanswered ≡ wanted unanswered
unanswered_holds = refl

-- refusals after the handshake
abbrev refused : List Row
refused =
    (server_with ack_syn 5000 1001 (1 ∷ []), Refused SynData)
    ∷ (client_with (record ack { syn = true; ack = false }) 1001 0 [], Refused SynInSession)
    ∷ (server_with ack_syn 5001 1001 [], Refused SynInSession)
    ∷ (client_with (record ack { ack = false }) 1001 0 port_line, Refused NoAck)
    ∷ (client 1002 5001 port_line, Refused Gap)
    ∷ (client 1001 5002 [], Refused AckAhead)
    ∷ []

refused_holds : found shaken refused ≡ wanted refused
refused_holds = refl

-- both SYNs may come again
abbrev syn_repeated : List Row
syn_repeated =
    (client_with (record ack { syn = true; ack = false }) 1000 0 [], Goes (goes_with (record ack { syn = true; ack = false }) 1000 0 [] ∷ []))
    ∷ (server_with ack_syn 5000 1001 [], Goes (goes_with ack_syn 5000 1001 [] ∷ []))
    ∷ []

syn_repeated_holds : found shaken syn_repeated ≡ wanted syn_repeated
syn_repeated_holds = refl

-- one octet of the image more than was sent is acknowledged
ahead_of_line : found shaken (port_row ∷ (server 5001 1023 [], Refused AckAhead) ∷ []) ≡ port_row.1 ∷ Refused AckAhead ∷ []
unfolding lines_on_literals
ahead_of_line = refl

-- octets past an end, another end, and an end before the octets so far
abbrev past_ends : List Row
past_ends =
    (client 1007 5001 (1 ∷ []), Refused PastEnd)
    ∷ (client_with ack_fin 1008 5001 [], Refused PastEnd)
    ∷ (client_with ack_fin 1006 5001 [], Refused PastEnd)
    ∷ (client 1009 5001 [], Refused Gap)
    ∷ []

past_ends_hold : found (run shaken ended_rest) past_ends ≡ wanted past_ends
unfolding lines_on_literals
past_ends_hold = refl

early_end : found (run shaken (port_row ∷ [])) ((client_with ack_fin 1001 5001 (codes "PORT"), Refused PastEnd) ∷ []) ≡ Refused PastEnd ∷ []
unfolding lines_on_literals
early_end = refl

-- a client of so many octets, a server of none, and one octet more
abbrev full : ℕ → Option Refusal
full octets =
    refusal_of Client
    (record { initial = Some 0; octets = octets; due = octets; ended = false; recent = 0 })
    (record { initial = Some 5000; octets = 0; due = 0; ended = false; recent = 0 })
    (record { sequence = octets + 1; acknowledgement = 5001; flags = ack; count = 1 })
    false

stream_limits : map full ((2 ^ 30 - 2) ∷ (2 ^ 30 - 1) ∷ []) ≡ None ∷ Some StreamLimit ∷ []
stream_limits = refl

-- numbers that lie before the first place, farthest after it, and farthest before it; and the same past 2 ^ 32
places : map (place_near 1000 0) (990 ∷ 1001 ∷ 2147484648 ∷ 2147484649 ∷ []) ≡ record { before = 11; after = 0 } ∷ record
    { before = 0; after = 0 } ∷ record { before = 0; after = 2147483647 } ∷ record { before = 2147483648; after = 0 } ∷ []
places = refl

places_around : map (place_near 4294967293 19) (17 ∷ 4294967294 ∷ []) ≡ record { before = 0; after = 0 } ∷ record { before = 19; after = 0 } ∷ []
places_around = refl

-- what an ICMP error brings back of the client: what is not acknowledged, what is, the end of what was sent, and what lies beyond
inner_open : map (session_inner Client (run shaken renamed_line)) (1022 ∷ 1010 ∷ 1028 ∷ 1029 ∷ []) ≡ Some 1020 ∷ Some 1019 ∷ Some 1026 ∷ None ∷ []
unfolding lines_on_literals
inner_open = refl

-- inside a changed line that is not acknowledged; and of a server whose number is not known
inner_inside : session_inner Client (run shaken (port_row ∷ [])) 1010 ≡ Some 1001
unfolding lines_on_literals
inner_inside = refl

inner_unknown : session_inner Server (begun 1000) 5001 ≡ None
inner_unknown = refl

-- changed lines that are not acknowledged whole
opened_lines : map session_open
    (run shaken (port_row ∷ []) ∷ run shaken part_acknowledged ∷ run shaken repeated_line ∷ run shaken renamed_reply ∷ run shaken ended_rest ∷ [])
    ≡ 1 ∷ 1 ∷ 0 ∷ 0 ∷ 0 ∷ []
unfolding lines_on_literals
opened_lines = refl

-- octets that are repeated otherwise, and the same once they are acknowledged
abbrev repeated_otherwise : List Row
repeated_otherwise =
    (client 1001 5001 (line (codes "NOOP")), goes 1001 5001 (line (codes "NOOP")))
    ∷ (client 1001 5001 (line (codes "NOOQ")), Refused Unlike)
    ∷ (server 5001 1007 [], goes 5001 1007 [])
    ∷ (client 1001 5001 (line (codes "NOOQ")), goes 1006 5001 [])
    ∷ []

repeated_otherwise_holds : found shaken repeated_otherwise ≡ wanted repeated_otherwise
unfolding lines_on_literals
repeated_otherwise_holds = refl

other_address : found (run shaken (port_row ∷ [])) ((client 1001 5001 (line (codes "PORT 10,0,0,6,4,1")), Refused Unlike) ∷ []) ≡ Refused Unlike ∷ []
unfolding lines_on_literals
other_address = refl

-- a client of so many octets that are not acknowledged, and one octet more
abbrev waiting : ℕ → Option Refusal
waiting octets =
    refusal_of Client
    (record { initial = Some 0; octets = octets; due = octets; ended = false; recent = octets })
    (record { initial = Some 5000; octets = 0; due = 0; ended = false; recent = 0 })
    (record { sequence = octets + 1; acknowledgement = 5001; flags = ack; count = 1 })
    false

backlogs : map waiting (65535 ∷ 65536 ∷ []) ≡ None ∷ Some Backlog ∷ []
backlogs = refl

-- the options of a segment lower the limit of its pieces
abbrev noop_pieces : List Outgoing
noop_pieces = goes_with ack 1001 5001 (take 88 noop_line) ∷ goes_with ack_push 1089 5001 (drop 88 noop_line) ∷ []

abbrev with_options : List Row
with_options =
    shake 1000 100
    ++ (record { from = Client; segment = record (segment ack_push 1001 5001 noop_line) { options = 12 } }, Goes noop_pieces)
    ∷ []

with_options_hold : found (begun 1000) with_options ≡ wanted with_options
unfolding lines_on_literals
with_options_hold = refl

-- a maximum segment size below 88 counts as 88
abbrev small_size : List Row
small_size = shake 1000 40 ++ (client_with ack_push 1001 5001 noop_line, Goes noop_pieces) ∷ []

small_size_holds : found (begun 1000) small_size ≡ wanted small_size
unfolding lines_on_literals
small_size_holds = refl

-- of several SYNs the last one's maximum segment size counts
abbrev last_size : List Row
last_size =
    shake 1000 1460
    ++ (answer 1001 88, Goes (goes_with ack_syn 5000 1001 [] ∷ []))
    ∷ (client_with ack_push 1001 5001 noop_line, Goes noop_pieces)
    ∷ []

last_size_holds : found (begun 1000) last_size ≡ wanted last_size
unfolding lines_on_literals
last_size_holds = refl

-- a SYN, an RST and a held line go without PSH; an RST past the octets so far is a gap, and one at their end stands at the end of what was sent
abbrev syn_push : Flags
syn_push = record ack_push { syn = true; ack = false }

abbrev reset_push : Flags
reset_push = record ack_reset { push = true }

abbrev no_push : List Row
no_push =
    (client_with syn_push 1000 0 [], Goes (goes_with (record ack { syn = true; ack = false }) 1000 0 [] ∷ []))
    ∷ (client_with ack_push 1001 5001 (codes "PO"), Goes (goes_with ack 1001 5001 [] ∷ []))
    ∷ (client_with ack_reset 1004 5001 [], Refused Gap)
    ∷ (client_with ack_reset 1003 5002 [], Refused AckAhead)
    ∷ (client_with reset_push 1003 5001 [], Goes (goes_with ack_reset 1001 5001 [] ∷ []))
    ∷ []

no_push_holds : found shaken no_push ≡ wanted no_push
unfolding lines_on_literals
no_push_holds = refl

-- an RST to a server whose number isn't known keeps its acknowledgement
abbrev unknown_receiver : List Row
unknown_receiver = (client_with ack_reset 1001 777 [], Goes (goes_with ack_reset 1001 777 [] ∷ [])) ∷ []

unknown_receiver_holds : found (begun 1000) unknown_receiver ≡ wanted unknown_receiver
unknown_receiver_holds = refl

-- what an ICMP error brings back at the place of an end, and beyond it
inner_end : map (session_inner Client (run shaken ended_rest)) (1008 ∷ 1009 ∷ []) ≡ Some 1008 ∷ None ∷ []
unfolding lines_on_literals
inner_end = refl

-- a changed line of the server counts too
server_open : session_open (run shaken (take 1 renamed_reply)) ≡ 1
unfolding lines_on_literals
server_open = refl

-- a segment without octets behind an end stands behind the end of the image
abbrev after_end : List Row
after_end = (client 1008 5001 [], goes 1008 5001 []) ∷ []

after_end_holds : found (run shaken ended_rest) after_end ≡ wanted after_end
unfolding lines_on_literals
after_end_holds = refl

-- an end that is lost once all octets are acknowledged goes out again
abbrev lost_end : List Row
lost_end =
    (client 1001 5001 (line (codes "QUIT")), goes 1001 5001 (line (codes "QUIT")))
    ∷ (client_with ack_fin 1007 5001 [], Goes (goes_with ack_fin 1007 5001 [] ∷ []))
    ∷ (server 5001 1007 [], goes 5001 1007 [])
    ∷ (client_with ack_fin 1007 5001 [], Goes (goes_with ack_fin 1007 5001 [] ∷ []))
    ∷ []

lost_end_holds : found shaken lost_end ≡ wanted lost_end
unfolding lines_on_literals
lost_end_holds = refl
