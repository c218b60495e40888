-- Flags and the octet in which they stand (RFC 9293, 3.1).
use Rattle.std.specs.Prelude.{ℕ, ◌+◌, ◌*◌, ◌/◌, ◌%◌, Bool, true, false, ◌==◌}
use Rattle.tcp_segments.specs.declared.flags.Flags.{Flags}

-- 1 if so
abbrev pub one_if : Bool → ℕ
one_if true = 1
one_if false = 0

-- the flags in an octet: FIN is 1, SYN 2, RST 4, PSH 8, ACK 16, and from 64 on the two bits of congestion notification; URG (32) is left out
abbrev pub flags_of : ℕ → Flags
flags_of octet = record {
  fin = octet % 2 == 1;
  syn = octet / 2 % 2 == 1;
  reset = octet / 4 % 2 == 1;
  push = octet / 8 % 2 == 1;
  ack = octet / 16 % 2 == 1;
  ecn = octet / 64;
}

-- the octet of flags
abbrev pub flags_octet : Flags → ℕ
flags_octet flags = one_if flags.fin + 2 * one_if flags.syn + 4 * one_if flags.reset + 8 * one_if flags.push + 16 * one_if flags.ack + 64 * flags.ecn
