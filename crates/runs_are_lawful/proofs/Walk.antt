-- A run's files go on as lawful files do, event by event.
use Rattle.std.proofs.Common.{◌≡◌, ◌<◌, ◌^◌, ℕ, List, [], ◌∷◌, ◌++◌, length, refl, sym, ◌∙◌, ap, subst, append_assoc, map, append-nil}
use Rattle.frag_join.specs.Prelude.{Arrival, Reaches, Stopped}
use Rattle.gate_base.specs.Prelude.{other}
use Rattle.gate_base.specs.declared.side.Side.{Side}
use Rattle.gate_base.specs.declared.side.Side.TheVariants.{Left, Right}
use Rattle.gate_desk.specs.declared.slot.Slot.TheVariants.{Report}
use Rattle.gate_settings.specs.declared.settings.Settings.{Settings}
use Rattle.gate_report.specs.Counts.{done_line}
use Rattle.gate_report.specs.Lines.{line_octets}
use Rattle.pcap_files.specs.Prelude.{Packet, Records, Whole}
use Rattle.pcap_merge.specs.Prelude.{Ending, Done, Fault}
use Rattle.gate_model.specs.Prelude.{whole_rules, WholeSession}
use Rattle.gateway.specs.Prelude.{State, sent, after_one, after, ended_by, Piece}
use Rattle.gateway.specs.Machine.{given_by_all}
use Rattle.lawful_files.specs.Prelude.{event_in, wanted_of, IsLawfulList, Given, given_at, State as AuditState, after as after_lawful, record_of, line_of, last_line, IsLawfulAt, LawfulFrom}
use Rattle.runs_are_lawful.specs.Outputs.{octets_to}
use Rattle.runs_are_lawful.proofs.Spelled.{outs_of, line_piece_of, gives, to_it, to_other, packets_to, octets-append}

-- ## What is known and counted

abbrev pub known_of : State WholeSession → AuditState
known_of s = record { world = s.world; totals = s.totals }

known_is : (s : State WholeSession) (a : Arrival) → after_lawful (known_of s) a (length (outs_of s a)) ≡ known_of (after_one whole_rules s a)
known_is s (Reaches e) = refl
known_is s (Stopped e v) = refl

-- ## The report

sent_no_report : (settings : Settings) (side : Side) (moment : ℕ) (ds : List (List ℕ)) → octets_to Report (sent settings side moment ds) ≡ []
sent_no_report settings Left moment [] = refl
sent_no_report settings Right moment [] = refl
sent_no_report settings Left moment (d ∷ ds) = sent_no_report settings Left moment ds
sent_no_report settings Right moment (d ∷ ds) = sent_no_report settings Right moment ds

line_is : (settings : Settings) (s : State WholeSession) (e : Arrival)
    → octets_to Report (line_piece_of settings s e ∷ []) ≡ line_of settings (known_of s) e (length (outs_of s e))
line_is settings s e = append-nil (line_of settings (known_of s) e (length (outs_of s e)))

-- what the report is from here on, where the captures end so
abbrev pub report_from : Settings → State WholeSession → List Arrival → Ending → List ℕ
report_from settings s es ending = octets_to Report (given_by_all whole_rules settings s es ++ ended_by settings (after whole_rules s es) ending)

report_step : (settings : Settings) (s : State WholeSession) (e : Arrival) (es : List Arrival) (ending : Ending)
    → report_from settings s (e ∷ es) ending ≡ line_of settings (known_of s) e (length (outs_of s e)) ++ report_from settings
    (after_one whole_rules s e) es ending
unfolding given_by_all
report_step settings s e es ending =
    let frames = sent settings (other (event_in e).side) (event_in e).moment (outs_of s e) in
    let line = line_piece_of settings s e in
    let next = after_one whole_rules s e in
    let rest = given_by_all whole_rules settings next es in
    let last = ended_by settings (after whole_rules next es) ending in
    ap (λ (ps : List Piece). octets_to Report ((ps ++ rest) ++ last)) (gives settings s e)
    ∙ ap (octets_to Report) (append_assoc (frames ++ line ∷ []) rest last)
    ∙ octets-append Report (frames ++ line ∷ []) (rest ++ last)
    ∙ ap (λ xs. xs ++ octets_to Report (rest ++ last))
    (octets-append Report frames (line ∷ [])
    ∙ ap (λ xs. xs ++ octets_to Report (line ∷ [])) (sent_no_report settings (other (event_in e).side) (event_in e).moment (outs_of s e))
    ∙ line_is settings s e)

report_end : (settings : Settings) (s : State WholeSession) → report_from settings s [] Done ≡ last_line settings (known_of s)
unfolding given_by_all
report_end settings s = append-nil (line_octets settings.report (done_line s.totals s.world.pending))

-- ## The walk

abbrev pub records_of : (Side → List Packet) → Side → Records
records_of packets side = record { packets = packets side; ending = Whole }

abbrev pub given_from : Settings → State WholeSession → List Arrival → Ending → Given
given_from settings s es ending =
    record {
      left = records_of (λ side. packets_to settings side s es) Left;
      right = records_of (λ side. packets_to settings side s es) Right;
      report = report_from settings s es ending;
    }

given_is : (settings : Settings) (s : State WholeSession) (es : List Arrival) (ending : Ending) (side : Side)
    → given_at side (given_from settings s es ending) ≡ records_of (λ x. packets_to settings x s es) side
given_is settings s es ending Left = refl
given_is settings s es ending Right = refl

-- few datagrams go out at each event, and they are a lawful list for it
abbrev pub AllFew : State WholeSession → List Arrival → Type 0
AllFew s [] = Unit {0}
AllFew s (e ∷ es) = (length (outs_of s e) < 2 ^ 32) × IsLawfulList (wanted_of s.world e) (outs_of s e) × AllFew (after_one whole_rules s e) es

abbrev at_one : (settings : Settings) (s : State WholeSession) (e : Arrival) (es : List Arrival) (ending : Ending) → length (outs_of s e) < 2 ^ 32
    → IsLawfulList (wanted_of s.world e) (outs_of s e)
    → IsLawfulAt settings (known_of s) e (given_from settings s (e ∷ es) ending) (given_from settings (after_one whole_rules s e) es ending)
at_one settings s e es ending few lawful =
    let next = after_one whole_rules s e in
    let ds = outs_of s e in
    let records = map (record_of settings (other (event_in e).side) (event_in e).moment) ds in
    record {
      list = ds;
      few = few;
      line = report_step settings s e es ending;
      records =
          ap (λ (r : Records). r.packets) (given_is settings s (e ∷ es) ending (other (event_in e).side))
          ∙ ap (λ (ps : List Packet). ps ++ packets_to settings (other (event_in e).side) next es) (to_it (other (event_in e).side) records)
          ∙ ap (λ (r : Records). records ++ r.packets) (sym (given_is settings next es ending (other (event_in e).side)));
      ending = ap (λ (r : Records). r.ending) (given_is settings next es ending (other (event_in e).side))
          ∙ sym (ap (λ (r : Records). r.ending) (given_is settings s (e ∷ es) ending (other (event_in e).side)));
      others =
          given_is settings next es ending (event_in e).side
          ∙ ap (λ (ps : List Packet). let r : Records = record { packets = ps ++ packets_to settings (event_in e).side next es; ending = Whole } in r)
          (sym (to_other (event_in e).side records))
          ∙ sym (given_is settings s (e ∷ es) ending (event_in e).side);
      lawful = lawful;
    }

pub walked : (settings : Settings) (s : State WholeSession) (es : List Arrival) (ending : Ending) → AllFew s es
    → LawfulFrom settings (known_of s) es ending (given_from settings s es ending)
walked settings s [] Done all = record { left = refl; right = refl; report = report_end settings s }
walked settings s [] (Fault side fault place) all = tt
walked settings s (e ∷ es) ending all =
    let next = after_one whole_rules s e in (
      given_from settings next es ending,
      at_one settings s e es ending all.0 all.1,
      subst (λ (k : AuditState). LawfulFrom settings k es ending (given_from settings next es ending)) (sym (known_is s e))
          (walked settings next es ending all.2),
    )
