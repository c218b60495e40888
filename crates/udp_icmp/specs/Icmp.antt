-- ICMP (RFC 792).
use Rattle.std.specs.Prelude.{ℕ, Bool, not, ◌||◌, ◌==◌, nat_lt, List, [], ◌∷◌, drop, length, slice_index, Result}
use Rattle.gate_base.specs.Prelude.{with_u16}
use Rattle.inet_sum.specs.Sum.{is_right, checksum}
use Rattle.ipv4_frames.specs.declared.fault.TransportFault.{TransportFault}
use Rattle.ipv4_frames.specs.declared.fault.TransportFault.TheVariants.{BadTransport, BadSum}
use Rattle.ipv4_frames.specs.Judged.{first_fault_or}

-- an ICMP message: its type, whether that is an error, and what follows its first 8 octets
pub record Icmp : Type 0 where
  pub kind : ℕ
  pub is_error : Bool
  pub inner : List ℕ

-- destination unreachable, source quench, time exceeded, parameter problem
abbrev pub is_error_type : ℕ → Bool
is_error_type kind = ((kind == 3 || kind == 4) || kind == 11) || kind == 12

-- the fields by their places
abbrev pub icmp_fields_of : List ℕ → Icmp
icmp_fields_of message = record { kind = slice_index message 0; is_error = is_error_type (slice_index message 0); inner = drop 8 message }

-- the ICMP message that a payload is, or the first fault
unfoldable pub read_icmp : List ℕ → Result Icmp TransportFault
read_icmp message = first_fault_or ((nat_lt (length message) 8, BadTransport) ∷ (not (is_right message), BadSum) ∷ []) (icmp_fields_of message)

-- the message with its checksum made right
unfoldable pub sealed_icmp : List ℕ → List ℕ
sealed_icmp message = let empty = with_u16 2 0 message in with_u16 2 (checksum empty) empty
