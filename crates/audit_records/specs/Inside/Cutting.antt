-- What only proofs and private contracts need beside `Cutting`.
use Rattle.std.specs.Prelude.{◌≡◌, ◌≤◌, ◌+◌, ◌-◌, ℕ, List, length}
use Rattle.ipv4_frames.specs.Ipv4.{fields_of}
use Rattle.tcp_segments.specs.Prelude.{IsTcpHeader}
use Rattle.tcp_segments.specs.declared.TheConstants.{MOST_PAYLOAD}
use Rattle.gate_model.specs.Prelude.{tcp_of}

-- these are the headers of a segment, and each of its pieces fits a datagram
pub record IsFit (header payload tcp : List ℕ) (limit : ℕ) : Type 0 where
  pub ip : length header ≡ 20
  pub same : tcp ≡ (tcp_of (fields_of header payload)).header
  pub right : IsTcpHeader tcp
  pub few : length tcp ≤ 60
  pub fits : limit + (length tcp - 20) ≤ MOST_PAYLOAD
