-- Datagrams that were cut into fragments (RFC 791, 2.3).
use Rattle.std.specs.Prelude.{◌≡◌, ◌≢◌, ℕ, ◌+◌, ◌%◌, ◌<◌, ◌≤◌, Bool, true, false, ◌&&◌, nat_lt, List, [], ◌∷◌, ◌++◌, length, slice_range, Some, None, is_some, map, filter, All}
use Rattle.gate_base.specs.Prelude.{Event}
use Rattle.verdicts.specs.declared.refusal.Refusal.TheVariants.{FragmentsFull}
use Rattle.ipv4_frames.specs.Ipv4.{has_options}
use Rattle.frag_join.specs.declared.part.Name.{Name}
use Rattle.frag_join.specs.declared.taken.Taken.TheVariants.{Joined, Refused}
use Rattle.frag_join.specs.Places.{all_below}
use Rattle.frag_join.specs.Fragments.{Fragment, is_fragment, name_in, same_name, fragment_in, octets_of, end_of}
use Rattle.frag_join.specs.Coverage.{octet_at, whole_head}
use Rattle.frag_join.specs.Joining.{State, Step, by_list, event_from, live, part_of, step}
use Rattle.frag_join.specs.declared.part.TheConstants.{JOIN_TIMEOUT}

-- a datagram without options: what its fragments have in common, its header with neither MF nor an offset, and its payload
pub record Original : Type 0 where
  pub name : Name
  pub header : List ℕ
  pub payload : List ℕ

-- a fragment of it: some of the octets of its payload, at least one, up to a multiple of 8 unless they are the last; MF says whether others
-- follow; and but for its length, its fragmentation and its checksum the header is the datagram's
pub record IsCut (d : Original) (f : Fragment) : Type 0 where
  pub some : 0 < length f.payload
  pub within : end_of f ≤ length d.payload
  pub octets : f.payload ≡ slice_range d.payload f.start (end_of f)
  pub more : f.more ≡ nat_lt (end_of f) (length d.payload)
  pub even : f.more ≡ true → length f.payload % 8 ≡ 0
  pub header : whole_head f.header (20 + length d.payload) ≡ d.header

-- the frame carries a fragment with this name, whole and with a right header checksum
abbrev pub is_part_of : Name → Event → Bool
is_part_of name e = is_fragment e && same_name (name_in e) name

-- a frame less than 30 seconds after a moment: if it carries a fragment with the datagram's name, then one of the datagram, without options
pub record Brings (d : Original) (since : ℕ) (e : Event) : Type 0 where
  pub soon : e.moment < since + JOIN_TIMEOUT
  pub cut : is_part_of d.name e ≡ true → IsCut d (fragment_in e)
  pub plain : is_part_of d.name e ≡ true → has_options (octets_of e) ≡ false

-- the fragments with this name that a list of frames carries, in their order
abbrev pub fragments_among : Name → List Event → List Fragment
fragments_among name events = map fragment_in (filter (is_part_of name) events)

-- each place of the datagram's payload is covered by one of these fragments
abbrev pub cover : Original → List Fragment → Bool
cover d fragments = all_below (λ place. is_some (octet_at fragments place)) (length d.payload)

-- the same of those that a list of frames carries
abbrev pub covered_by : Original → List Event → Bool
covered_by d events = cover d (fragments_among d.name events)

-- frames that bring it: no part of one with its name lives when the first of its fragments is taken, which isn't refused for want of room; all
-- come less than 30 seconds after it; and the last of them covers what was left open
pub record Arrives (d : Original) (state : State (List Fragment)) (first : Event) (more : List Event) (last : Event) : Type 0 where
  pub fits : length d.payload ≤ 65515
  pub none : part_of d.name (live first.moment state.parts) ≡ None
  pub begins : is_part_of d.name first ≡ true
  pub room : (step by_list state first).answer ≢ Refused FragmentsFull
  pub brought : All (Brings d first.moment) (first ∷ more)
  pub ends : Brings d first.moment last
  pub left : covered_by d (first ∷ more) ≡ false
  pub covered : covered_by d ((first ∷ more) ++ last ∷ []) ≡ true

-- a frame completes the datagram, which is then an event with its side and moment
pub record Completes {K : Type 0} (d : Original) (e : Event) (one : Step K) : Type 0 where
  pub answer : one.answer ≡ Joined
  pub joined : one.state.joined ≡ Some (event_from e.side e.moment (d.header ++ d.payload))
