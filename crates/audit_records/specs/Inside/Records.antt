-- A record of a capture, and what it is to be.
use Rattle.std.specs.Prelude.{ℕ, Bool, List}
use Rattle.gate_base.specs.declared.side.Side.{Side}
use Rattle.gate_settings.specs.declared.settings.Settings.{Settings}
use Rattle.pcap_files.specs.Prelude.{Packet}
use Rattle.lawful_files.specs.Prelude.{record_of}
use Rattle.lawful_files.specs.Progress.{is_record}

-- a record that came, and the realm and the moment to which it is to belong
pub record Came : Type 0 where
  pub settings : Settings
  pub side : Side
  pub moment : ℕ
  pub packet : Packet

-- it is the one of this datagram
abbrev pub holds : Came → List ℕ → Bool
holds r datagram = is_record (record_of r.settings r.side r.moment datagram) r.packet
