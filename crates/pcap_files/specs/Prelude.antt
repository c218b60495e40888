-- The names of this crate that others cite most, passed on from one place. Declares nothing.
pub use Rattle.pcap_files.specs.Capture.{Bad, Broken, Came, Ended, Ending, Fault, Good, Head, Next, Packet, Records, Whole, by_layout, by_link, capture_of, head_of, layout_at, link_number, link_of, magic, next_at, number_at, packet_at, record_tests, records_from, size, tested, unit, up_to}
pub use Rattle.pcap_files.specs.Reader.{Advances, IsSmall, Reading, TakesNoRecord, TakesToFailure}
pub use Rattle.pcap_files.specs.Inside.Heads.{after_head, body_of}
pub use Rattle.pcap_files.specs.Spelling.{head_octets, number_octets, record_octets, spelled_head, spelled_numbers}
pub use Rattle.pcap_files.specs.Spelled.{AreGood, EndsWith, Entry, IsCapture, IsGood, all_spelled, first_fault, packet_from, spelled}
