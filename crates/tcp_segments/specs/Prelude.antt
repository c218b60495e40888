-- The names of this crate that others cite most, passed on from one place. Declares nothing.
pub use Rattle.tcp_segments.specs.Flags.{flags_octet, flags_of, one_if}
pub use Rattle.tcp_segments.specs.Options.{are_options, blank, blanked, first_length, is_sack, is_segment_size, mss_of, options_of, options_within}
pub use Rattle.tcp_segments.specs.Tcp.{IsTcpHeader, Tcp, datagram_of, has_bad_offset, has_bad_options, read_tcp, sealed_tcp, spelled_segment, tcp_covered, tcp_fields_of, tcp_header_length_of, tcp_header_with}
