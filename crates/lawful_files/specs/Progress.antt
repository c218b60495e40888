-- The records of one event, taken one by one: what is kept of those that came, and whether they are the front of a lawful list, or all of one.
use Rattle.std.specs.Prelude.{◌≡◌, ◌≤◌, ◌+◌, ◌-◌, ℕ, Bool, true, false, ◌&&◌, ◌||◌, ◌==◌, nat_lt, nat_le, if◌then◌else◌, List, [], ◌++◌, length, map, take, drop, slice_index_or}
use Rattle.std.specs.List.{fold}
use Rattle.std.specs.Str.{bytes_eq}
use Rattle.gate_base.specs.declared.side.Link.{Link}
use Rattle.gate_base.specs.declared.side.Link.TheVariants.{Ethernet, Raw}
use Rattle.gate_base.specs.declared.side.Side.{Side}
use Rattle.gate_settings.specs.Prelude.{side_settings}
use Rattle.gate_settings.specs.declared.settings.Settings.{Settings}
use Rattle.ipv4_frames.specs.Ipv4.{Datagram}
use Rattle.pcap_files.specs.Prelude.{Packet}
use Rattle.stream_model.specs.Prelude.{Piece, Sent, segment_with, alone}
use Rattle.tcp_segments.specs.Prelude.{IsTcpHeader}
use Rattle.gate_model.specs.Prelude.{tcp_of, sent_as}
use Rattle.lawful_files.specs.Wanted.{Wanted, Exactly, Cut, IsLawfulList}
use Rattle.lawful_files.specs.Files.{record_of}

-- ## What is kept

-- how many records came, how many octets of those that are cut they carried, and whether all were right
pub record Progress : Type 0 where
  pub count : ℕ
  pub carried : ℕ
  pub right : Bool

abbrev pub begun : Progress
begun = record { count = 0; carried = 0; right = true }

-- ## One record

-- how many octets stand before those of a segment: the head of a frame, an IPv4 header, and the segment's own
abbrev pub head_length : Link → ℕ
head_length Raw = 0
head_length Ethernet = 14

abbrev pub before_octets : Settings → Side → Datagram → ℕ
before_octets settings side d = head_length (side_settings settings side).link + (20 + length (tcp_of d).header)

-- how many octets of those that are cut a record carries
abbrev pub carries : Settings → Side → Wanted → Packet → ℕ
carries settings side (Exactly datagrams) p = 0
carries settings side (Cut d source destination s) p = length p.octets - before_octets settings side d

-- a record has these octets, is whole, and has this stamp
abbrev pub is_record : Packet → Packet → Bool
is_record wanted p = p.whole && (p.stamp == wanted.stamp && bytes_eq p.octets wanted.octets)

-- the piece of so many octets behind those that were carried
abbrev pub piece_behind : Sent → ℕ → ℕ → Bool → Piece
piece_behind s carried size push =
    record { offset = carried; octets = take size (drop carried s.octets); fin = carried + size == length s.octets && s.flags.fin; push = push }

-- a record carries that piece
abbrev pub carries_piece : Settings → Side → ℕ → Datagram → ℕ → ℕ → Sent → ℕ → Packet → ℕ → Bool → Bool
carries_piece settings side moment d source destination s carried p size push =
    is_record (record_of settings side moment (sent_as d source destination (segment_with s (piece_behind s carried size push)))) p

-- of the octets that are cut a record carries the next ones, one at least and no more than the limit, with PSH or without
abbrev pub is_next_piece : Settings → Side → ℕ → Datagram → ℕ → ℕ → Sent → ℕ → Packet → ℕ → Bool
is_next_piece settings side moment d source destination s carried p size =
    (nat_lt 0 size && (nat_le size s.limit && nat_le (carried + size) (length s.octets)))
    && (carries_piece settings side moment d source destination s carried p size false ||
    (s.flags.push && carries_piece settings side moment d source destination s carried p size true))

-- without octets it is the one segment
abbrev pub is_alone : Settings → Side → ℕ → Datagram → ℕ → ℕ → Sent → ℕ → Packet → Bool
is_alone settings side moment d source destination s count p =
    count == 0 && is_record (record_of settings side moment (sent_as d source destination (alone s))) p

abbrev pub is_right_cut : Settings → Side → ℕ → Datagram → ℕ → ℕ → Sent → Progress → Packet → Bool
is_right_cut settings side moment d source destination s so_far p =
    if length s.octets == 0 then is_alone settings side moment d source destination s so_far.count p
    else is_next_piece settings side moment d source destination s so_far.carried p (length p.octets - before_octets settings side d)

-- a record is right behind those that came
abbrev pub is_right : Settings → Side → ℕ → Wanted → Progress → Packet → Bool
is_right settings side moment (Exactly datagrams) so_far p =
    nat_lt so_far.count (length datagrams) && is_record (record_of settings side moment (slice_index_or datagrams so_far.count [])) p
is_right settings side moment (Cut d source destination s) so_far p = is_right_cut settings side moment d source destination s so_far p

-- what is kept behind one record more
abbrev pub behind : Settings → Side → ℕ → Wanted → Progress → Packet → Progress
behind settings side moment wanted so_far p = record {
  count = so_far.count + 1;
  carried = so_far.carried + carries settings side wanted p;
  right = so_far.right && is_right settings side moment wanted so_far p;
}

-- all that is wanted came
abbrev pub is_closed : Wanted → Progress → Bool
is_closed (Exactly datagrams) so_far = so_far.right && so_far.count == length datagrams
is_closed (Cut d source destination s) so_far =
    so_far.right && (if length s.octets == 0 then so_far.count == 1 else so_far.carried == length s.octets)

-- ## What may be wanted

-- a datagram with a header of 20 octets and a segment's own header
pub record HasHeads (d : Datagram) : Type 0 where
  pub ip : length d.header ≡ 20
  pub tcp : IsTcpHeader (tcp_of d).header

-- the headers of a segment are headers, and a piece may have an octet
abbrev pub IsSound : Wanted → Type 0
IsSound (Exactly datagrams) = Unit {0}
IsSound (Cut d source destination s) = HasHeads d × (1 ≤ s.limit)

-- ## All records of an event

-- these are the records of a lawful list
abbrev pub AreLawful : Settings → Side → ℕ → Wanted → List Packet → Type 0
AreLawful settings side moment wanted packets = (list : List (List ℕ)) × IsLawfulList wanted list
    × (packets ≡ map (record_of settings side moment) list)

-- what is kept behind these records
abbrev pub behind_all : Settings → Side → ℕ → Wanted → List Packet → Progress
behind_all settings side moment wanted packets = fold (behind settings side moment wanted) begun packets

-- these are the front of a lawful list's records
abbrev pub AreFront : Settings → Side → ℕ → Wanted → List Packet → Type 0
AreFront settings side moment wanted packets = (others : List Packet) × AreLawful settings side moment wanted (packets ++ others)
