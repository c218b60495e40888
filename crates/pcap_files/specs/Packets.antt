-- Packets over plain values.
use Rattle.pcap_files.specs.declared.reader.Packet.{Packet as View}
use Rattle.pcap_files.specs.Capture.{Packet}

-- a packet without where its octets lie
abbrev pub packet_of : View → Packet
packet_of v = record { stamp = v.stamp; whole = v.whole; octets = v.octets.now }
