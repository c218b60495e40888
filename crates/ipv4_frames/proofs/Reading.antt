-- Octets that pass all tests.
use Rattle.std.proofs.Common.{◌≡◌, ℕ, List, take, false, Ok, slice_range}
use Rattle.ipv4_frames.specs.Ipv4.{fields_of, total_length_of, is_not_ipv4, has_bad_header, has_bad_header_sum, is_fragment, has_options, read_datagram}

pub accepted : (octets : List ℕ) → is_not_ipv4 octets ≡ false → has_bad_header octets ≡ false → has_bad_header_sum octets ≡ false
    → is_fragment octets ≡ false → has_options octets ≡ false → read_datagram octets
    ≡ Ok (fields_of (take 20 octets) (slice_range octets 20 (total_length_of octets)))
unfolding read_datagram
accepted octets version lengths sum fragment options = rw (version, lengths, sum, fragment, options)
