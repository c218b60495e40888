-- The first reason against given files as a function, which looks at one frame after the other.
use Rattle.std.specs.Prelude.{ℕ, ◌+◌, ◌^◌, ◌<◌, Bool, true, false, not, ◌&&◌, ◌==◌, nat_lt, if◌then◌else◌, List, [], ◌∷◌, length, take, drop, All, Option, Some, None}
use Rattle.std.specs.Char.{is_digit}
use Rattle.std.specs.Str.{bytes_eq}
use Rattle.std.specs.Str.Parse.{digits_value}
use Rattle.frag_join.specs.Prelude.{Arrival, Reaches, Stopped, arrivals_of}
use Rattle.gate_base.specs.Prelude.{other}
use Rattle.gate_base.specs.declared.side.Link.{Link}
use Rattle.gate_base.specs.declared.side.Link.TheVariants.{Ethernet, Raw}
use Rattle.gate_base.specs.declared.side.Side.{Side}
use Rattle.gate_base.specs.declared.side.Side.TheVariants as sides
use Rattle.gate_report.specs.Lines.{front_octets}
use Rattle.gate_settings.specs.declared.settings.Settings.{Settings}
use Rattle.pcap_files.specs.Prelude.{Records, Ending as CaptureEnding, Whole, Fault as CaptureEndsFaulty, Head, Good, Bad, head_of}
use Rattle.pcap_merge.specs.Prelude.{Merged, Ending, Done, Fault}
use Rattle.lawful_files.specs.declared.reason.AuditReason.{AuditReason}
use Rattle.lawful_files.specs.declared.reason.AuditReason.TheVariants.{Capture, Line, Missing, Frame, Left}
use Rattle.lawful_files.specs.Files.{Given, given_at, given_of, State, opening, after, line_of, last_line}
use Rattle.lawful_files.specs.Wanted.{event_in, verdict_of, wanted_of}
use Rattle.lawful_files.specs.Progress.{behind_all, is_closed}

-- ## The report

-- the decimal digits in front
abbrev pub digits_in : List ℕ → List ℕ
digits_in [] = []
digits_in (octet ∷ octets) = if is_digit octet 10 then octet ∷ digits_in octets else []

-- what stands in a frame's line before the number of frames that were sent for it
abbrev pub before_number : Settings → State → Arrival → List ℕ
before_number settings s a = front_octets settings.report (s.totals.events + 1) (event_in a).side (event_in a).moment (verdict_of s.world a)

-- the number that the report has there
abbrev pub frames_told : Settings → State → Arrival → List ℕ → ℕ
frames_told settings s a report = digits_value 10 (digits_in (drop (length (before_number settings s a)) report))

-- the report goes on with a frame's line for so many frames
abbrev pub goes_on_with : Settings → State → Arrival → List ℕ → ℕ → Bool
goes_on_with settings s a report frames =
    nat_lt frames (2 ^ 32) && bytes_eq (take (length (line_of settings s a frames)) report) (line_of settings s a frames)

-- ## The captures

abbrev pub same_link : Link → Link → Bool
same_link Raw Raw = true
same_link Ethernet Ethernet = true
same_link _ _ = false

abbrev pub has_link_by : Link → Head → Bool
has_link_by link (Good form) = same_link form.link link
has_link_by link (Bad fault) = false

abbrev pub has_link : Link → List ℕ → Bool
has_link link octets = has_link_by link (head_of octets)

-- nothing is left of a capture, and it has no fault
abbrev pub is_whole : CaptureEnding → Bool
is_whole Whole = true
is_whole (CaptureEndsFaulty fault place) = false

abbrev pub is_used_up : Records → Bool
is_used_up r = length r.packets == 0 && is_whole r.ending

-- so many records of a realm's capture, and a line, were taken
abbrev pub without_first : ℕ → Records → Records
without_first n r = record { packets = drop n r.packets; ending = r.ending }

abbrev pub behind_records : Side → ℕ → List ℕ → Given → Given
behind_records sides.Left n rest g = record { left = without_first n g.left; right = g.right; report = rest }
behind_records sides.Right n rest g = record { left = g.left; right = without_first n g.right; report = rest }

-- ## The first reason

abbrev pub is_at_last : Settings → State → Given → Bool
is_at_last settings s g = (is_used_up g.left && is_used_up g.right) && bytes_eq g.report (last_line settings s)

-- what is found at a frame, where so many are told and so many records are there; else what is found behind it
abbrev pub at_event : ℕ → ℕ → ℕ → Bool → Bool → Option (ℕ × AuditReason) → Option (ℕ × AuditReason)
at_event number frames there line right later =
    if not line then Some (number, Line)
    else if nat_lt there frames then Some (number, Missing)
    else if not right then Some (number, Frame)
    else later

unfoldable pub reason_from : Settings → State → List Arrival → Ending → Given → Option (ℕ × AuditReason)
reason_from settings s [] Done g = if is_at_last settings s g then None else Some (s.totals.events + 1, Left)
reason_from settings s [] (Fault side fault place) g = None
reason_from settings s (a ∷ arrivals) ending g =
    let frames = frames_told settings s a g.report in
    let to = other (event_in a).side in
    let records = (given_at to g).packets in
    at_event (s.totals.events + 1) frames (length records) (goes_on_with settings s a g.report frames)
    (is_closed (wanted_of s.world a) (behind_all settings to (event_in a).moment (wanted_of s.world a) (take frames records)))
    (reason_from settings (after s a frames) arrivals ending (behind_records to frames (drop (length (line_of settings s a frames)) g.report) g))

-- the first reason against three files, if there is one
abbrev pub reason_of : Settings → List Arrival → Ending → List ℕ → List ℕ → List ℕ → Option (ℕ × AuditReason)
reason_of settings arrivals ending left right report =
    if has_link settings.left.link left && has_link settings.right.link right then reason_from settings (opening settings) arrivals ending
    (given_of left right report) else Some (0, Capture)

-- for the events of both incoming captures, by what the settings want of fragments
abbrev pub reason_against : Settings → Merged → List ℕ → List ℕ → List ℕ → Option (ℕ × AuditReason)
reason_against settings all left right report = reason_of settings (arrivals_of settings.join all.events) all.ending left right report

-- ## What is asked of frames

-- those that come to the gate are octets
abbrev pub AllOctets : List Arrival → Type 0
AllOctets [] = Unit {0}
AllOctets (Reaches e ∷ arrivals) = All (λ octet. octet < 256) e.octets × AllOctets arrivals
AllOctets (Stopped e v ∷ arrivals) = AllOctets arrivals
