-- The files of a run, put together.
use Rattle.std.proofs.Common.{◌≡◌, ◌≤◌, ◌<◌, ◌+◌, ◌*◌, ◌/◌, ◌%◌, ◌^◌, ℕ, List, [], ◌∷◌, ◌++◌, length}
use Rattle.std.proofs.Common.{refl, sym, ◌∙◌, ap, subst, arith, length-append, map, IfSome, append-nil}
use Rattle.std.proofs.lemmas.List.Elements.{All-nil}
use Rattle.frag_join.specs.Prelude.{Arrival, Reaches, Stopped}
use Rattle.gate_base.specs.Prelude.{other}
use Rattle.gate_base.specs.declared.side.Link.{Link}
use Rattle.gate_base.specs.declared.side.Link.TheVariants.{Ethernet, Raw}
use Rattle.gate_base.specs.declared.side.Side.{Side}
use Rattle.gate_base.specs.declared.side.Side.TheVariants.{Left, Right}
use Rattle.gate_desk.specs.declared.slot.Slot.TheVariants.{LeftOut, RightOut, Report}
use Rattle.gate_settings.specs.Prelude.{HaveMacAddresses, side_settings}
use Rattle.gate_settings.specs.declared.settings.Settings.{Settings}
use Rattle.pcap_files.specs.Prelude.{Packet, Records, Whole, head_of, capture_of, Entry, all_spelled, head_octets}
use Rattle.pcap_files.specs.declared.form.Order.TheVariants.{Little}
use Rattle.pcap_merge.specs.Prelude.{Merged, Ending, Done, Fault}
use Rattle.gate_model.specs.Prelude.{WholeSession, whole_rules, EachTracked, Tracked}
use Rattle.tcp_tracker.specs.declared.connection.Connection.{Connection}
use Rattle.gate_model.proofs.Tracking.{next_keeps}
use Rattle.gateway.specs.Prelude.{State, opening, after, after_one, arrivals_by, files, heads, given_by_all, ended_by, framed, out_slot}
use Rattle.gateway.specs.Machine.{given_by_merged}
use Rattle.lawful_files.specs.Prelude.{event_in, wanted_of, IsLawfulList, Given, HasLink, LawfulFrom}
use Rattle.lawful_files.specs.Files.{Lawful}
use Rattle.lawful_files.specs.Progress.{head_length}
use Rattle.lawful_files.proofs.Lengths.{framed_long}
use Rattle.lawful_files.proofs.SentLists.{own_lawful}
use Rattle.runs_are_lawful.specs.Outputs.{octets_to}
use Rattle.runs_are_lawful.proofs.Spelled.{outs_of, if_to, entry_of, entries_to, packets_to, octets-append, given_octets}
use Rattle.runs_are_lawful.proofs.Spelled.{form_of, read_packets, IsSmallEntry, AreSmall, small-append, read_capture}
use Rattle.runs_are_lawful.proofs.Walk.{known_of, report_from, records_of, AllFew, walked}
use Rattle.runs_are_lawful.proofs.Counts.{AreFit, fit_keeps, out_few}
use Rattle.runs_are_lawful.proofs.ArrivalsRead.{AreFine, arrivals_fine}
use Rattle.runs_are_lawful.proofs.EventsRead.{IsRead, AreRead}
use Rattle.runs_are_lawful.proofs.OutShort.{AreShort, out_short}

-- ## Frames that can be written

outs_short : (s : State WholeSession) (f : Arrival) → IsRead (event_in f) → AreShort (outs_of s f)
outs_short s (Reaches e) h = out_short s.world e h.octets
outs_short s (Stopped e v) h = tt

outs_few : (s : State WholeSession) (f : Arrival) → EachTracked AreFit s.world.connections → length (outs_of s f) < 2 ^ 32
outs_few s (Reaches e) h = out_few s.world e h
outs_few s (Stopped e v) h = omega arith

outs_lawful : (s : State WholeSession) (f : Arrival) → IsRead (event_in f) → IsLawfulList (wanted_of s.world f) (outs_of s f)
outs_lawful s (Reaches e) h = own_lawful s.world e h.octets
outs_lawful s (Stopped e v) h = refl

fit_behind : (s : State WholeSession) (f : Arrival) → EachTracked AreFit s.world.connections
    → EachTracked AreFit (after_one whole_rules s f).world.connections
fit_behind s (Reaches e) h = next_keeps whole_rules AreFit fit_keeps s.world e h
fit_behind s (Stopped e v) h = h

-- the datagrams of each can be written
abbrev pub AllShort : State WholeSession → List Arrival → Type 0
AllShort s [] = Unit {0}
AllShort s (f ∷ fs) = AreShort (outs_of s f) × AllShort (after_one whole_rules s f) fs

all_short : (s : State WholeSession) (fs : List Arrival) → AreFine fs → AllShort s fs
all_short s [] fine = tt
all_short s (f ∷ fs) fine = (outs_short s f fine.0, all_short (after_one whole_rules s f) fs fine.1)

pub all_few : (s : State WholeSession) (fs : List Arrival) → EachTracked AreFit s.world.connections → AreFine fs → AllFew s fs
all_few s [] h fine = tt
all_few s (f ∷ fs) h fine = (outs_few s f h, outs_lawful s f fine.0, all_few (after_one whole_rules s f) fs (fit_behind s f h) fine.1)

-- ## Small records

head_short : (link : Link) → head_length link ≤ 14
head_short Raw = omega arith
head_short Ethernet = omega arith

seconds_fit : (moment : ℕ) → moment < 2 ^ 32 * 1000000000 → moment / 1000000000 < 2 ^ 32
seconds_fit moment early = omega (arith, early)

fraction_fits : (moment : ℕ) → moment % 1000000000 < 1000000000
fraction_fits moment = omega arith

small_entry : (settings : Settings) (side : Side) (moment : ℕ) (d : List ℕ) → HaveMacAddresses settings → moment < 2 ^ 32 * 1000000000
    → length d ≤ 131072 → IsSmallEntry (entry_of settings side moment d)
small_entry settings side moment d h early short =
    let realm = side_settings settings side in
    let size : length (framed settings side d) ≡ head_length realm.link + length d = framed_long realm.link realm d (h side) in
    let long : length (framed settings side d) ≤ 131086 = omega (arith, size, head_short realm.link, short) in
    record { seconds = seconds_fit moment early; fraction = fraction_fits moment; original = omega (arith, long); kept = omega (arith, long) }

small_all : (settings : Settings) (side : Side) (moment : ℕ) (ds : List (List ℕ)) → HaveMacAddresses settings → moment < 2 ^ 32 * 1000000000
    → AreShort ds → AreSmall (map (entry_of settings side moment) ds)
small_all settings side moment [] h early short = tt
small_all settings side moment (d ∷ ds) h early short =
    (small_entry settings side moment d h early short.0, small_all settings side moment ds h early short.1)

if_small : (side to : Side) (es : List Entry) → AreSmall es → AreSmall (if_to side to es)
if_small Left Left es h = h
if_small Right Right es h = h
if_small Left Right es h = tt
if_small Right Left es h = tt

small_entries : (settings : Settings) (side : Side) (s : State WholeSession) (fs : List Arrival) → HaveMacAddresses settings → AreFine fs
    → AllShort s fs → AreSmall (entries_to settings side s fs)
small_entries settings side s [] h fine short = tt
small_entries settings side s (f ∷ fs) h fine short =
    small-append (if_to side (other (event_in f).side) (map (entry_of settings (other (event_in f).side) (event_in f).moment) (outs_of s f)))
    (entries_to settings side (after_one whole_rules s f) fs)
    (if_small side (other (event_in f).side) (map (entry_of settings (other (event_in f).side) (event_in f).moment) (outs_of s f))
    (small_all settings (other (event_in f).side) (event_in f).moment (outs_of s f) h fine.0.moment short.0))
    (small_entries settings side (after_one whole_rules s f) fs h fine.1 short.1)

-- ## The three files

link_at : Settings → Side → Link
link_at settings side = (side_settings settings side).link

no_line : (side : Side) (settings : Settings) (s : State WholeSession) (ending : Ending) → octets_to (out_slot side) (ended_by settings s ending) ≡ []
no_line Left settings s Done = refl
no_line Right settings s Done = refl
no_line Left settings s (Fault at fault place) = refl
no_line Right settings s (Fault at fault place) = refl

merged_octets : (settings : Settings) (fs : List Arrival) (ending : Ending) (side : Side)
    → octets_to (out_slot side) (given_by_all whole_rules settings (opening settings) fs
    ++ ended_by settings (after whole_rules (opening settings) fs) ending) ≡ all_spelled Little (entries_to settings side (opening settings) fs)
merged_octets settings fs ending side =
    octets-append (out_slot side) (given_by_all whole_rules settings (opening settings) fs)
    (ended_by settings (after whole_rules (opening settings) fs) ending)
    ∙ ap (λ xs. octets_to (out_slot side) (given_by_all whole_rules settings (opening settings) fs) ++ xs)
    (no_line side settings (after whole_rules (opening settings) fs) ending)
    ∙ append-nil (octets_to (out_slot side) (given_by_all whole_rules settings (opening settings) fs))
    ∙ given_octets settings side (opening settings) fs

left_is : (settings : Settings) (fs : List Arrival) (ending : Ending)
    → octets_to LeftOut (heads settings ++ (given_by_all whole_rules settings (opening settings) fs
    ++ ended_by settings (after whole_rules (opening settings) fs) ending)) ≡ head_octets settings.left.link
    ++ all_spelled Little (entries_to settings Left (opening settings) fs)
left_is settings fs ending = ap (λ xs. head_octets settings.left.link ++ xs) (merged_octets settings fs ending Left)

right_is : (settings : Settings) (fs : List Arrival) (ending : Ending)
    → octets_to RightOut (heads settings ++ (given_by_all whole_rules settings (opening settings) fs
    ++ ended_by settings (after whole_rules (opening settings) fs) ending)) ≡ head_octets settings.right.link
    ++ all_spelled Little (entries_to settings Right (opening settings) fs)
right_is settings fs ending = ap (λ xs. head_octets settings.right.link ++ xs) (merged_octets settings fs ending Right)

report_is : (settings : Settings) (fs : List Arrival) (ending : Ending)
    → octets_to Report
    (heads settings
    ++ (given_by_all whole_rules settings (opening settings) fs ++ ended_by settings (after whole_rules (opening settings) fs) ending))
    ≡ report_from settings (opening settings) fs ending
report_is settings fs ending = refl

head_long : (link : Link) → length (head_octets link) ≡ 24
head_long Ethernet = refl
head_long Raw = refl

-- what is read of one
record IsReadBack (settings : Settings) (fs : List Arrival) (side : Side) (link : Link) (octets : List ℕ) : Type 0 where
  head : HasLink link octets
  records : capture_of octets ≡ records_of (λ x. packets_to settings x (opening settings) fs) side

read_back : (settings : Settings) (fs : List Arrival) (side : Side) (link : Link) (octets : List ℕ)
    → octets ≡ head_octets link ++ all_spelled Little (entries_to settings side (opening settings) fs)
    → AreSmall (entries_to settings side (opening settings) fs) → length octets ≤ 2 ^ 40 → IsReadBack settings fs side link octets
read_back settings fs side link octets is small fits =
    let es = entries_to settings side (opening settings) fs in
    let found =
    read_capture link es small (omega (arith, fits, ap length is, length-append (head_octets link) (all_spelled Little es), head_long link)) in
    record {
      head = (form_of link, ap head_of is ∙ found.0, refl);
      records = ap capture_of is ∙ found.1
          ∙ ap (λ (ps : List Packet). let r : Records = record { packets = ps; ending = Whole } in r)
          (read_packets settings side link (opening settings) fs);
    }

given_same : (a b c d : Records) (r q : List ℕ) → a ≡ b → c ≡ d → r ≡ q
    → (let x : Given = record { left = a; right = c; report = r } in x) ≡ record { left = b; right = d; report = q }
given_same a b c d r q e f g =
    ap (λ (x : Records). let y : Given = record { left = x; right = c; report = r } in y) e
    ∙ ap (λ (x : Records). let y : Given = record { left = b; right = x; report = r } in y) f
    ∙ ap (λ (x : List ℕ). let y : Given = record { left = b; right = d; report = x } in y) g

arrivals_lawful : (settings : Settings) (fs : List Arrival) (ending : Ending) → HaveMacAddresses settings → AreFine fs
    → length (octets_to LeftOut (heads settings ++ (given_by_all whole_rules settings (opening settings) fs
    ++ ended_by settings (after whole_rules (opening settings) fs) ending))) ≤ 2 ^ 40
    → length (octets_to RightOut (heads settings ++ (given_by_all whole_rules settings (opening settings) fs
    ++ ended_by settings (after whole_rules (opening settings) fs) ending))) ≤ 2 ^ 40
    → Lawful settings fs ending (octets_to LeftOut (heads settings
    ++ (given_by_all whole_rules settings (opening settings) fs ++ ended_by settings (after whole_rules (opening settings) fs) ending)))
    (octets_to RightOut (heads settings ++ (given_by_all whole_rules settings (opening settings) fs
    ++ ended_by settings (after whole_rules (opening settings) fs) ending)))
    (octets_to Report (heads settings ++ (given_by_all whole_rules settings (opening settings) fs
    ++ ended_by settings (after whole_rules (opening settings) fs) ending)))
arrivals_lawful settings fs ending h fine left_fits right_fits =
    let s = opening settings in
    let short = all_short s fs fine in
    let pieces =
    (heads settings
    ++ (given_by_all whole_rules settings (opening settings) fs ++ ended_by settings (after whole_rules (opening settings) fs) ending)) in
    let left =
    read_back settings fs Left settings.left.link (octets_to LeftOut pieces) (left_is settings fs ending)
    (small_entries settings Left s fs h fine short) left_fits in
    let right =
    read_back settings fs Right settings.right.link (octets_to RightOut pieces) (right_is settings fs ending)
    (small_entries settings Right s fs h fine short) right_fits in
    record {
      left_head = left.head;
      right_head = right.head;
      goes = subst (λ (g : Given). LawfulFrom settings (known_of s) fs ending g)
          (sym (given_same (capture_of (octets_to LeftOut pieces)) (records_of (λ x. packets_to settings x s fs) Left)
          (capture_of (octets_to RightOut pieces)) (records_of (λ x. packets_to settings x s fs) Right) (octets_to Report pieces)
          (report_from settings s fs ending) left.records right.records (report_is settings fs ending)))
          (walked settings s fs ending (all_few s fs (All-nil (λ (c : Connection (Tracked WholeSession)). IfSome c.session AreFit)) fine));
    }

pub files_lawful : (settings : Settings) (all : Merged) → HaveMacAddresses settings → AreRead all.events
    → length (octets_to LeftOut (files settings all)) ≤ 2 ^ 40 → length (octets_to RightOut (files settings all)) ≤ 2 ^ 40
    → Lawful settings (arrivals_by settings all.events) all.ending (octets_to LeftOut (files settings all)) (octets_to RightOut (files settings all))
    (octets_to Report (files settings all))
unfolding given_by_merged
files_lawful settings all h read left_fits right_fits =
    arrivals_lawful settings (arrivals_by settings all.events) all.ending h (arrivals_fine settings.join all.events read) left_fits right_fits
