-- The workload, round by round.
use Rattle.std.specs.Prelude.{ℕ, zero, suc, ◌+◌, ◌%◌, ◌^◌, ◌==◌, if◌then◌else◌, List, [], ◌++◌, length, decimal}
use Rattle.gate_workload.specs.Draws.{next_random, drawn}
use Rattle.gate_workload.specs.Captures.{capture_head, record_of}
use Rattle.gate_workload.specs.Datagrams.{udp_datagram, tcp_datagram}
use Rattle.gate_workload.specs.declared.rounds.TheConstants.{ACK, FIRST_NAMED, PSH, SYN}
use Rattle.gate_workload.specs.Payloads.{client_flow, server_flow, plain_flow, trap_flow, names_flow, segment_size, port_line, port_image, reply, names, trap}

-- what is known between two frames: the state of the draw, how many frames there are, the next sequence number of the client and of the server,
-- the one that follows the image of the client's stream, and both captures
pub record State : Type 0 where
  pub random : ℕ
  pub frames : ℕ
  pub client : ℕ
  pub server : ℕ
  pub image : ℕ
  pub left : List ℕ
  pub right : List ℕ

-- one more draw
abbrev pub stepped : State → State
stepped s = record s { random = next_random s.random }

-- one more frame from the left
abbrev pub on_left : List ℕ → State → State
on_left datagram s = record s { frames = s.frames + 1; left = s.left ++ record_of s.frames datagram }

-- one more frame from the right
abbrev pub on_right : List ℕ → State → State
on_right datagram s = record s { frames = s.frames + 1; right = s.right ++ record_of s.frames datagram }

-- the state before the handshake
abbrev pub opening : ℕ → State
opening number = record { random = number; frames = 0; client = 1001; server = 5001; image = 1001; left = capture_head; right = capture_head }

-- the handshake: SYN, SYN and ACK, ACK, the first two with a segment size
unfoldable pub shaken : State → State
shaken s =
    on_left
    (tcp_datagram client_flow [] 1001 5001 ACK [])
    (on_right (tcp_datagram server_flow segment_size 5000 1001 (SYN + ACK) []) (on_left (tcp_datagram client_flow segment_size 1000 0 SYN []) s))

-- the left host sends the number of the round in decimal digits
unfoldable pub plain_round : ℕ → State → State
plain_round k s = on_left (udp_datagram (plain_flow k) (decimal k)) s

-- the name server answers with one of the first 200 addresses of its block
unfoldable pub names_round : State → State
names_round s = let t = stepped s in on_right (udp_datagram names_flow (names (FIRST_NAMED + drawn t.random 200))) t

-- the client names a port, and acknowledges all that the server sent (ACK and PSH)
unfoldable pub line_sent : ℕ → State → State
line_sent number s =
    record (on_left (tcp_datagram client_flow [] s.client s.server (PSH + ACK) (port_line number)) s) {
      client = (s.client + length (port_line number)) % 2 ^ 32;
      image = (s.image + length (port_image number)) % 2 ^ 32;
    }

-- the server answers, and acknowledges the whole image
unfoldable pub reply_sent : State → State
reply_sent s =
    record (on_right (tcp_datagram server_flow [] s.server s.image (PSH + ACK) reply) s) { server = (s.server + length reply) % 2 ^ 32 }

-- the client names a port below 4 * 256 + 250, and the server answers
abbrev pub line_round : State → State
line_round s = let t = stepped s in reply_sent (line_sent (drawn t.random 250) t)

-- the left host sends a trap
unfoldable pub trap_round : State → State
trap_round s = on_left (udp_datagram trap_flow trap) s

-- round k of a kind from 0 to 3
abbrev pub round_of : ℕ → ℕ → State → State
round_of kind k s =
    if kind == 0 then plain_round k s else if kind == 1 then names_round s else if kind == 2 then line_round s else trap_round s

-- round k, of a kind that is drawn
unfoldable pub round : ℕ → State → State
round k s = let t = stepped s in round_of (drawn t.random 4) k t

-- the first rounds, so many
unfoldable pub rounds : ℕ → State → State
rounds zero s = s
rounds (suc k) s = round k (rounds k s)

-- all that is made of two numbers
unfoldable pub made : ℕ → ℕ → State
made number count = rounds count (shaken (opening number))
