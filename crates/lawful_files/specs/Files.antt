-- Which files are lawful for two captures: outgoing captures and a report that some gateway could have made of them.
use Rattle.std.specs.Prelude.{◌≡◌, ◌<◌, ◌+◌, ◌^◌, ℕ, true, List, [], ◌∷◌, ◌++◌, length, map}
use Rattle.ether_frames.specs.Ether.{framed_on}
use Rattle.frag_join.specs.Prelude.{Arrival, arrivals_of}
use Rattle.gate_base.specs.Prelude.{other}
use Rattle.gate_base.specs.declared.side.Link.{Link}
use Rattle.gate_base.specs.declared.side.Side.{Side}
use Rattle.gate_base.specs.declared.side.Side.TheVariants.{Left, Right}
use Rattle.gate_report.specs.Counts.{nothing_counted, counted, done_line}
use Rattle.gate_report.specs.Lines.{line_octets, event_line}
use Rattle.gate_report.specs.declared.totals.Totals.{Totals}
use Rattle.gate_settings.specs.Prelude.{side_settings}
use Rattle.gate_settings.specs.declared.settings.Settings.{Settings}
use Rattle.pcap_files.specs.Prelude.{Packet, Records, Whole, Good, head_of, capture_of}
use Rattle.pcap_files.specs.declared.form.Form.{Form}
use Rattle.pcap_merge.specs.Prelude.{Merged, Ending, Done, Fault}
use Rattle.gate_model.specs.Prelude.{WholeSession, World, opening_world}
use Rattle.lawful_files.specs.Wanted.{IsLawfulList, event_in, verdict_of, wanted_of, world_after}

-- ## What is given

-- what is still to come of the given files
pub record Given : Type 0 where
  pub left : Records
  pub right : Records
  pub report : List ℕ

-- the capture of a realm
abbrev pub given_at : Side → Given → Records
given_at Left g = g.left
given_at Right g = g.right

-- a given capture has a head, in any form, with the settings' link
abbrev pub HasLink : Link → List ℕ → Type 0
HasLink link octets = (form : Form) × (head_of octets ≡ Good form) × (form.link ≡ link)

-- ## What is known and counted

pub record State : Type 0 where
  pub world : World WholeSession
  pub totals : Totals

abbrev pub opening : Settings → State
opening settings = record { world = opening_world settings; totals = nothing_counted }

-- after a frame for which so many frames were sent
abbrev pub after : State → Arrival → ℕ → State
after s a frames = record { world = world_after s.world a; totals = counted s.totals (event_in a).side (verdict_of s.world a) frames }

-- ## Records and lines

-- the whole record of a datagram that goes to a realm: on Ethernet its frame goes from the gateway to the next router or host
abbrev pub record_of : Settings → Side → ℕ → List ℕ → Packet
record_of settings side moment datagram = let realm = side_settings settings side in
    record { stamp = moment; whole = true; octets = framed_on realm.link realm.next_mac realm.gateway_mac datagram }

-- the line of a frame for which so many were sent
abbrev pub line_of : Settings → State → Arrival → ℕ → List ℕ
line_of settings s a frames =
    line_octets settings.report (event_line (s.totals.events + 1) (event_in a).side (event_in a).moment (verdict_of s.world a) frames)

-- the last line
abbrev pub last_line : Settings → State → List ℕ
last_line settings s = line_octets settings.report (done_line s.totals s.world.pending)

-- ## Lawful files

-- the given files are lawful at a frame, for which some list of datagrams goes out:
pub record IsLawfulAt (settings : Settings) (s : State) (a : Arrival) (old new : Given) : Type 0 where
  pub list : List (List ℕ)
  -- it is a lawful list for the event;
  pub lawful : IsLawfulList (wanted_of s.world a) list
  -- the report goes on with the frame's line, for as many frames, fewer than 2 ^ 32;
  pub few : length list < 2 ^ 32
  pub line : old.report ≡ line_of settings s a (length list) ++ new.report
  -- in the capture of the other realm as many records stand next, which carry it at the event's moment;
  pub records : (given_at (other (event_in a).side) old).packets ≡ map (record_of settings (other (event_in a).side) (event_in a).moment) list
      ++ (given_at (other (event_in a).side) new).packets
  -- and the rest stays
  pub ending : (given_at (other (event_in a).side) new).ending ≡ (given_at (other (event_in a).side) old).ending
  pub others : given_at (event_in a).side new ≡ given_at (event_in a).side old

-- nothing is left but the last line
pub record IsAtLast (settings : Settings) (s : State) (g : Given) : Type 0 where
  pub left : g.left ≡ record { packets = []; ending = Whole }
  pub right : g.right ≡ record { packets = []; ending = Whole }
  pub report : g.report ≡ last_line settings s

-- so it is at each of these frames, and behind them, where the incoming captures end, nothing is left but the last line; where one is faulty there, nothing more is asked
abbrev pub LawfulFrom : Settings → State → List Arrival → Ending → Given → Type 0
LawfulFrom settings s [] Done g = IsAtLast settings s g
LawfulFrom settings s [] (Fault side fault place) g = Unit {0}
LawfulFrom settings s (a ∷ arrivals) ending g = (next : Given) × (at : IsLawfulAt settings s a g next)
    × LawfulFrom settings (after s a (length at.list)) arrivals ending next

abbrev pub given_of : List ℕ → List ℕ → List ℕ → Given
given_of left right report = record { left = capture_of left; right = capture_of right; report = report }

-- the files are lawful for these frames, behind which the incoming captures end so
pub record Lawful (settings : Settings) (arrivals : List Arrival) (ending : Ending) (left right report : List ℕ) : Type 0 where
  pub left_head : HasLink settings.left.link left
  pub right_head : HasLink settings.right.link right
  pub goes : LawfulFrom settings (opening settings) arrivals ending (given_of left right report)

-- for the events of two captures, by what the settings want of fragments
abbrev pub LawfulFor : Settings → Merged → List ℕ → List ℕ → List ℕ → Type 0
LawfulFor settings all left right report = Lawful settings (arrivals_of settings.join all.events) all.ending left right report
