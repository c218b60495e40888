-- A frame by itself, as far as it asks for nothing that is known.
use Rattle.std.specs.Prelude.{◌≡◌, ◌==◌, Bool, false, List, ◌++◌}
use Rattle.gate_base.specs.Prelude.{Event}
use Rattle.gate_base.specs.declared.protocol.TheConstants.{TCP, UDP}
use Rattle.verdicts.specs.declared.refusal.Refusal.{Refusal}
use Rattle.ipv4_frames.specs.Ipv4.{Datagram}
use Rattle.udp_icmp.specs.Icmp.{icmp_fields_of}
use Rattle.udp_icmp.specs.Udp.{udp_fields_of}
use Rattle.gate_model.specs.Prelude.{datagram_in, header_tests, datagram_tests, transport_tests, tcp_of}
use Rattle.event_frame.specs.declared.content.Content.{Content}
use Rattle.event_frame.specs.declared.content.Content.TheVariants.{Udp, Icmp as OfIcmp, Tcp}

-- what is read in a datagram's payload
abbrev pub IsContentOf : Datagram → Content → Type 0
IsContentOf d (Udp v) = (d.protocol ≡ UDP) × (v ≡ udp_fields_of d.payload)
IsContentOf d (Tcp v) = (d.protocol ≡ TCP) × (v ≡ tcp_of d)
IsContentOf d (OfIcmp v) = ((d.protocol == UDP) ≡ false) × ((d.protocol == TCP) ≡ false) × (v ≡ icmp_fields_of d.payload)

-- all tests of a frame by itself
abbrev pub front_tests : Event → List (Bool × Refusal)
front_tests e = let d = datagram_in e in header_tests e ++ (datagram_tests d ++ transport_tests d)
