-- What goes out for a segment, as the world says it.
use Rattle.std.proofs.Common.{◌≡◌, ◌-◌, ℕ, List, map, ap, ◌∙◌}
use Rattle.ipv4_frames.specs.Ipv4.{Datagram}
use Rattle.tcp_segments.specs.Prelude.{Tcp}
use Rattle.stream_model.specs.Prelude.{Segment, Outgoing, segment_in}
use Rattle.stream_gate.specs.Prelude.{Headers, datagram}
use Rattle.gate_model.specs.Prelude.{tcp_of, segment_of, sent_as}

abbrev pub way_by : List ℕ → Tcp → ℕ → ℕ → ℕ → Headers
way_by ip tcp source destination lifetime = record { ip = ip; tcp = tcp.header; source = source; destination = destination; lifetime = lifetime - 1 }

-- the datagrams as the world says them
pub sent_same : (d : Datagram) (tcp : Tcp) (ip : List ℕ) (lifetime source destination : ℕ) (out : Segment → List Outgoing) → tcp ≡ tcp_of d
    → ip ≡ d.header → lifetime ≡ d.lifetime
    → map (datagram (way_by ip tcp source destination lifetime)) (out (segment_in tcp)) ≡ map (sent_as d source destination) (out (segment_of d))
sent_same d tcp ip lifetime source destination out e f g =
    ap (λ (t : Tcp). map (datagram (way_by ip t source destination lifetime)) (out (segment_in t))) e
    ∙ ap (λ (h : List ℕ). map (datagram (way_by h (tcp_of d) source destination lifetime)) (out (segment_of d))) f
    ∙ ap (λ (n : ℕ). map (datagram (way_by d.header (tcp_of d) source destination n)) (out (segment_of d))) g
