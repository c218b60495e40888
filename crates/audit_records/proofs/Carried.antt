-- How many octets a record carries at most.
use Rattle.std.proofs.Common.{◌≤◌, ◌-◌, ℕ, length, arith}
use Rattle.gate_base.specs.declared.side.Side.{Side}
use Rattle.gate_settings.specs.declared.settings.Settings.{Settings}
use Rattle.pcap_files.specs.Prelude.{Packet}
use Rattle.lawful_files.specs.Prelude.{carries, Wanted, Exactly, Cut}

less : (n m : ℕ) → n - m ≤ n
less n m = omega arith

pub carries_few : (settings : Settings) (side : Side) (wanted : Wanted) (p : Packet) → carries settings side wanted p ≤ length p.octets
carries_few settings side (Exactly datagrams) p = omega arith
carries_few settings side (Cut d source destination s) p = less (length p.octets) _
