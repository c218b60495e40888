-- The outgoing captures as spellings of records, and what is read of them.
use Rattle.std.proofs.Common.{◌≡◌, ◌≤◌, ◌<◌, ◌+◌, ◌*◌, ◌/◌, ◌%◌, ◌^◌, ℕ, Bool, true, List, [], ◌∷◌, ◌++◌, length, refl, sym, ◌∙◌, ap, arith, append_assoc, length-append, map, nat_le, if◌then◌else◌, div-add-mod'}
use Rattle.std.proofs.lemmas.List.{append-nil, map-append}
use Rattle.std.proofs.lemmas.Bool.Decides.{nat_tests}
use Rattle.frag_join.specs.Prelude.{Arrival, Reaches, Stopped}
use Rattle.gate_base.specs.Prelude.{other}
use Rattle.gate_base.specs.declared.side.Side.{Side}
use Rattle.gate_base.specs.declared.side.Side.TheVariants.{Left, Right}
use Rattle.gate_base.specs.declared.side.Link.{Link}
use Rattle.gate_desk.specs.Slots.{same_slot}
use Rattle.gate_desk.specs.declared.slot.Slot.{Slot}
use Rattle.gate_settings.specs.declared.settings.Settings.{Settings}
use Rattle.pcap_files.specs.declared.form.Order.TheVariants.{Little}
use Rattle.pcap_files.specs.declared.form.Precision.TheVariants.{Nanoseconds}
use Rattle.pcap_files.specs.declared.form.Form.{Form}
use Rattle.pcap_files.specs.Prelude.{Packet, Whole, Good, head_of, capture_of, Entry, spelled, all_spelled, packet_from, AreGood, head_octets}
use Rattle.pcap_files.specs.Spelling.{record_octets}
use Rattle.pcap_files.proofs.Joined.{reads, length-spelled}
use Rattle.gateway.specs.Prelude.{State, framed, out_slot, sent, event_piece, after_one, given_by, Piece}
use Rattle.gateway.specs.Machine.{given_by_all}
use Rattle.gate_model.specs.Prelude.{whole_rules, WholeSession, out}
use Rattle.lawful_files.specs.Prelude.{record_of, event_in, verdict_of}
use Rattle.runs_are_lawful.specs.Outputs.{octets_to}

-- ## What a frame gives

-- what goes out for it
abbrev pub outs_of : State WholeSession → Arrival → List (List ℕ)
outs_of s (Reaches e) = out whole_rules s.world e
outs_of s (Stopped e v) = []

abbrev pub line_piece_of : Settings → State WholeSession → Arrival → Piece
line_piece_of settings s a =
    event_piece settings.report (s.totals.events + 1) (event_in a).side (event_in a).moment (verdict_of s.world a) (length (outs_of s a))

pub gives : (settings : Settings) (s : State WholeSession) (a : Arrival)
    → given_by whole_rules settings s a ≡ sent settings (other (event_in a).side) (event_in a).moment (outs_of s a) ++ line_piece_of settings s a ∷ []
gives settings s (Reaches e) = refl
gives settings s (Stopped e v) = refl

-- ## What goes to each realm

-- this, if it goes to the realm that is meant
abbrev pub if_to : {X : Type 0} → Side → Side → List X → List X
if_to Left Left xs = xs
if_to Right Right xs = xs
if_to Left Right xs = []
if_to Right Left xs = []

pub to_it : {X : Type 0} (side : Side) (xs : List X) → if_to side side xs ≡ xs
to_it Left xs = refl
to_it Right xs = refl

pub to_other : {X : Type 0} (side : Side) (xs : List X) → if_to side (other side) xs ≡ []
to_other Left xs = refl
to_other Right xs = refl

-- a datagram to a realm as a record is spelled
abbrev pub entry_of : Settings → Side → ℕ → List ℕ → Entry
entry_of settings side moment datagram = let frame = framed settings side datagram in
    record { seconds = moment / 1000000000; fraction = moment % 1000000000; original = length frame; octets = frame }

-- the records of a realm
abbrev pub packets_to : Settings → Side → State WholeSession → List Arrival → List Packet
packets_to settings side s [] = []
packets_to settings side s (e ∷ es) =
    if_to side (other (event_in e).side) (map (record_of settings (other (event_in e).side) (event_in e).moment) (outs_of s e))
    ++ packets_to settings side (after_one whole_rules s e) es

abbrev pub entries_to : Settings → Side → State WholeSession → List Arrival → List Entry
entries_to settings side s [] = []
entries_to settings side s (e ∷ es) =
    if_to side (other (event_in e).side) (map (entry_of settings (other (event_in e).side) (event_in e).moment) (outs_of s e))
    ++ entries_to settings side (after_one whole_rules s e) es

-- ## Octets of slots

pub octets-append : (slot : Slot) (ps qs : List Piece) → octets_to slot (ps ++ qs) ≡ octets_to slot ps ++ octets_to slot qs
octets-append slot [] qs = refl
octets-append slot (p ∷ ps) qs =
    ap (λ xs. (if same_slot p.slot slot then p.octets else []) ++ xs) (octets-append slot ps qs)
    ∙ sym (append_assoc (if same_slot p.slot slot then p.octets else []) (octets_to slot ps) (octets_to slot qs))

spelled-append : (xs ys : List Entry) → all_spelled Little (xs ++ ys) ≡ all_spelled Little xs ++ all_spelled Little ys
spelled-append [] ys = refl
spelled-append (x ∷ xs) ys = ap (λ zs. spelled Little x ++ zs) (spelled-append xs ys)
    ∙ sym (append_assoc (spelled Little x) (all_spelled Little xs) (all_spelled Little ys))

sent_octets : (settings : Settings) (side to : Side) (moment : ℕ) (ds : List (List ℕ))
    → octets_to (out_slot side) (sent settings to moment ds) ≡ all_spelled Little (if_to side to (map (entry_of settings to moment) ds))
unfolding record_octets
sent_octets settings Left Left moment [] = refl
sent_octets settings Left Right moment [] = refl
sent_octets settings Right Left moment [] = refl
sent_octets settings Right Right moment [] = refl
sent_octets settings Left Left moment (d ∷ ds) =
    ap (λ xs. spelled Little (entry_of settings Left moment d) ++ xs) (sent_octets settings Left Left moment ds)
sent_octets settings Right Right moment (d ∷ ds) =
    ap (λ xs. spelled Little (entry_of settings Right moment d) ++ xs) (sent_octets settings Right Right moment ds)
sent_octets settings Left Right moment (d ∷ ds) = sent_octets settings Left Right moment ds
sent_octets settings Right Left moment (d ∷ ds) = sent_octets settings Right Left moment ds

no_report : (settings : Settings) (side : Side) (s : State WholeSession) (e : Arrival)
    → octets_to (out_slot side) (line_piece_of settings s e ∷ []) ≡ []
no_report settings Left s e = refl
no_report settings Right s e = refl

pub given_octets : (settings : Settings) (side : Side) (s : State WholeSession) (es : List Arrival)
    → octets_to (out_slot side) (given_by_all whole_rules settings s es) ≡ all_spelled Little (entries_to settings side s es)
unfolding given_by_all
given_octets settings side s [] = refl
given_octets settings side s (e ∷ es) =
    let ds = outs_of s e in
    let frames = sent settings (other (event_in e).side) (event_in e).moment ds in
    let line = line_piece_of settings s e in
    ap (λ (ps : List Piece). octets_to (out_slot side) (ps ++ given_by_all whole_rules settings (after_one whole_rules s e) es)) (gives settings s e)
    ∙ octets-append (out_slot side) (frames ++ line ∷ []) (given_by_all whole_rules settings (after_one whole_rules s e) es)
    ∙ ap (λ xs. xs ++ octets_to (out_slot side) (given_by_all whole_rules settings (after_one whole_rules s e) es))
    (octets-append (out_slot side) frames (line ∷ []) ∙ ap (λ xs. octets_to (out_slot side) frames ++ xs) (no_report settings side s e)
    ∙ append-nil (octets_to (out_slot side) frames) ∙ sent_octets settings side (other (event_in e).side) (event_in e).moment ds)
    ∙ ap (λ xs. all_spelled Little (if_to side (other (event_in e).side) (map (entry_of settings (other (event_in e).side) (event_in e).moment) ds))
    ++ xs) (given_octets settings side (after_one whole_rules s e) es)
    ∙ sym (spelled-append (if_to side (other (event_in e).side) (map (entry_of settings (other (event_in e).side) (event_in e).moment) ds))
    (entries_to settings side (after_one whole_rules s e) es))

-- ## What is read of them

abbrev pub form_of : Link → Form
form_of link = record { order = Little; precision = Nanoseconds; link = link }

whole_is : (n : ℕ) → nat_le n n ≡ true
whole_is n = grind (arith, nat_tests)

stamp_is : (moment : ℕ) → moment / 1000000000 * 1000000000 + moment % 1000000000 * 1 ≡ moment
stamp_is moment = omega (arith, div-add-mod' moment 1000000000)

packet_is : (settings : Settings) (side : Side) (moment : ℕ) (link : Link) (d : List ℕ)
    → packet_from (form_of link) (entry_of settings side moment d) ≡ record_of settings side moment d
packet_is settings side moment link d =
    ap (λ (n : ℕ). let p : Packet =
    record { stamp = n; whole = nat_le (length (framed settings side d)) (length (framed settings side d)); octets = framed settings side d } in
    p) (stamp_is moment)
    ∙ ap (λ (b : Bool). let p : Packet = record { stamp = moment; whole = b; octets = framed settings side d } in p)
    (whole_is (length (framed settings side d)))

packets_are : (settings : Settings) (side : Side) (moment : ℕ) (link : Link) (ds : List (List ℕ))
    → map (packet_from (form_of link)) (map (entry_of settings side moment) ds) ≡ map (record_of settings side moment) ds
packets_are settings side moment link [] = refl
packets_are settings side moment link (d ∷ ds) =
    ap (λ (p : Packet). p ∷ map (packet_from (form_of link)) (map (entry_of settings side moment) ds)) (packet_is settings side moment link d)
    ∙ ap (λ (ps : List Packet). record_of settings side moment d ∷ ps) (packets_are settings side moment link ds)

to_map : {X Y : Type 0} (f : X → Y) (side to : Side) (xs : List X) → map f (if_to side to xs) ≡ if_to side to (map f xs)
to_map f Left Left xs = refl
to_map f Right Right xs = refl
to_map f Left Right xs = refl
to_map f Right Left xs = refl

pub read_packets : (settings : Settings) (side : Side) (link : Link) (s : State WholeSession) (es : List Arrival)
    → map (packet_from (form_of link)) (entries_to settings side s es) ≡ packets_to settings side s es
read_packets settings side link s [] = refl
read_packets settings side link s (e ∷ es) =
    let ds = outs_of s e in
    let entries = map (entry_of settings (other (event_in e).side) (event_in e).moment) ds in
    map-append (packet_from (form_of link)) (if_to side (other (event_in e).side) entries) (entries_to settings side (after_one whole_rules s e) es)
    ∙ ap (λ (ps : List Packet). ps ++ map (packet_from (form_of link)) (entries_to settings side (after_one whole_rules s e) es))
    (to_map (packet_from (form_of link)) side (other (event_in e).side) entries
    ∙ ap (if_to side (other (event_in e).side)) (packets_are settings (other (event_in e).side) (event_in e).moment link ds))
    ∙ ap (λ (ps : List Packet). if_to side (other (event_in e).side) (map (record_of settings (other (event_in e).side) (event_in e).moment) ds)
    ++ ps) (read_packets settings side link (after_one whole_rules s e) es)

-- ## Records that can be read

pub record IsSmallEntry (e : Entry) : Type 0 where
  pub seconds : e.seconds < 2 ^ 32
  pub fraction : e.fraction < 1000000000
  pub original : e.original < 2 ^ 32
  pub kept : length e.octets ≤ 262144

abbrev pub AreSmall : List Entry → Type 0
AreSmall [] = Unit {0}
AreSmall (e ∷ es) = IsSmallEntry e × AreSmall es

pub small-append : (xs ys : List Entry) → AreSmall xs → AreSmall ys → AreSmall (xs ++ ys)
small-append [] ys h k = k
small-append (x ∷ xs) ys h k = (h.0, small-append xs ys h.1 k)

good_all : (link : Link) (place : ℕ) (es : List Entry) → AreSmall es → place + length (all_spelled Little es) ≤ 2 ^ 40
    → AreGood (form_of link) place es
good_all link place [] h fits = tt
good_all link place (e ∷ es) h fits =
    let long = length-spelled Little e in
    let both = length-append (spelled Little e) (all_spelled Little es) in (
      record {
        seconds = h.0.seconds;
        fraction = omega (arith, h.0.fraction);
        original = h.0.original;
        kept = h.0.kept;
        ends = omega (arith, long, both, fits);
      },
      good_all link (place + 16 + length e.octets) es h.1 (omega (arith, long, both, fits)),
    )

pub read_capture : (link : Link) (es : List Entry) → AreSmall es → 24 + length (all_spelled Little es) ≤ 2 ^ 40
    → (head_of (head_octets link ++ all_spelled Little es) ≡ Good (form_of link))
    × (capture_of (head_octets link ++ all_spelled Little es) ≡ record { packets = map (packet_from (form_of link)) es; ending = Whole })
read_capture link es small fits =
    reads (head_octets link ++ all_spelled Little es) (form_of link) (map (packet_from (form_of link)) es) Whole
    (record {
      between = 2 ∷ 0 ∷ 4 ∷ 0 ∷ 0 ∷ 0 ∷ 0 ∷ 0 ∷ 0 ∷ 0 ∷ 0 ∷ 0 ∷ 0 ∷ 0 ∷ 4 ∷ 0 ∷ [];
      entries = es;
      rest = [];
      sixteen = refl;
      joined = ap (λ xs. head_octets link ++ xs) (sym (append-nil (all_spelled Little es)));
      good = good_all link 24 es small fits;
      packets = refl;
      ending = refl;
    })
