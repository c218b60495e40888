-- What is promised holds for every list of events.
use Rattle.std.proofs.Common.{◌≡◌, ℕ, List, [], ◌∷◌, ◌++◌, None, refl, sym, ap, subst, ◌∙◌, fold}
use Rattle.std.proofs.lemmas.List.Sums.{fold-append}
use Rattle.gate_base.specs.Prelude.{Event}
use Rattle.verdicts.specs.declared.verdict.Verdict.TheVariants.{Pass, Refused}
use Rattle.gate_base.specs.declared.side.Side.{Side}
use Rattle.gate_settings.specs.Prelude.{HasForms, IsSound}
use Rattle.gate_settings.specs.declared.settings.Settings.{Settings}
use Rattle.binding_table.specs.Prelude.{Bindings, IsLawful}
use Rattle.ipv4_frames.specs.Ipv4.{Datagram}
use Rattle.gate_model.specs.Prelude.{Whole, WholeSession, Kind, Stream, datagram_in, kind_of, known_after, remembered_after, Promised, world_as}
use Rattle.gate_model.specs.Prelude.{whole_rules, out, out_by, out_between, stream_out, taker_in, RememberedSession, remembering_rules, table_after}
use Rattle.gate_model.specs.Prelude.{image_in, verdict_of, segment_of, World, at_moment, called, source_of, destination_of, opening_world, host_on}
use Rattle.twice_translate.specs.Renamed.{renamed}
use Rattle.gate_model.specs.Promise.{reason, FrameIs}
use Rattle.gate_model.specs.Step.{next, translated}
use Rattle.gate_model.specs.Transparent.{KeepsAlias, ComesBack, ComesHome}
use Rattle.gate_model.specs.Verdict.{verdict}
use Rattle.gate_model.proofs.ConnectionsReached.{hosts_reached}
use Rattle.gate_model.proofs.Deliveries.{meant}
use Rattle.gate_model.proofs.GoesOn.{goes_on, whole_answers}
use Rattle.gate_model.proofs.GoingOnKept.{waits_are, goes_on as session_goes_on}
use Rattle.gate_model.proofs.Through.{through}
use Rattle.gate_model.proofs.FrameRounds.{frame_rounds_few, frame_rounds_raise}
use Rattle.gate_model.proofs.HostsKept.{KeepsAll, run_hosts}
use Rattle.gate_model.proofs.HostsOpen.{opening_hosts, pairs_cross}
use Rattle.gate_model.proofs.ListsWorld.{whole_lists, run_lists, opening_lists, lists_cross, images_stay}
use Rattle.gate_model.proofs.Lifetimes.{lifetimes_are}
use Rattle.gate_model.proofs.NamesLast.{kept_stands, names_called, goes_out_called}
use Rattle.gate_model.proofs.OriginsKept.{all_come}
use Rattle.gate_model.proofs.Ports.{untracked}
use Rattle.gate_model.proofs.ReadBack.{read_as_sent, answers_reply}
use Rattle.gate_model.proofs.ReadSteps.{out_as, run_as}
use Rattle.gate_model.proofs.SegmentsTaken.{taken_out}
use Rattle.gate_model.proofs.RememberedSessions.{TrackedHolds, remembered_reads, remembered_keeps, session_is, run_holds, sessions_are}
use Rattle.gate_model.proofs.Tracking.{taken_keeps}
use Rattle.gate_model.proofs.ForGood.{for_good, gets_through}
use Rattle.gate_model.proofs.Transparency.{translated_are, keeps_alias, comes_back, comes_home}

verdict_is : (w : World WholeSession) (e : Event) → verdict whole_rules w e ≡ verdict_of (reason w e)
unfolding verdict
verdict_is w e = refl

-- a datagram that no session takes goes out once
goes_once : (live : World WholeSession) (table : Bindings) (side : Side) (moment : ℕ) (d : Datagram) (source destination : ℕ) (kind : Kind)
    → (kind ≡ Stream → taker_in whole_rules live side moment d ≡ None)
    → out_between whole_rules live table side moment d source destination kind ≡ renamed
    (translated whole_rules live table side d kind) source destination ∷ []
goes_once live table side moment d source destination (Whole payload) plain = refl
goes_once live table side moment d source destination Stream plain =
    ap (stream_out whole_rules (image_in whole_rules live side moment d) side d source destination) (plain refl)

pub promised : (settings : Settings) (events : List Event) → IsSound settings → HasForms settings → Promised settings events
promised settings events sound forms =
    record {
      worlds = λ done others split. let h =
          run_lists whole_rules whole_lists done (opening_world settings) (opening_lists whole_rules settings sound forms) in record {
            remembers = sym (known done);
            sessions = sessions_are done settings;
            pairs = pairs_cross _ (hosts done);
            lists = (h.lists, lists_cross whole_rules (known_after settings done) h);
            waits = waits_are done settings;
            rounds = λ host t knows had rounds below acked all. (
              frame_rounds_raise host rounds (remembered_after settings done) t knows had (run_holds done settings) below acked all,
              frame_rounds_few host rounds (remembered_after settings done) t knows had (run_holds done settings) below acked all,
            );
            reached = λ now. hosts_reached (known_after settings done) now (hosts done);
            fixed = λ side host alias is. for_good whole_rules settings done side host alias sound forms (lawful done) is;
            origins = all_come whole_rules settings done;
          };
      frames = λ done others e split. frame_is done e;
      segments = λ done others e split t h. record {
        said_is = ap (λ (w : World WholeSession). out whole_rules w e) (known done)
            ∙ out_as (λ (x : RememberedSession). x.session) remembering_rules whole_rules remembered_reads (remembered_after settings done) e
            ∙ taken_out remembering_rules (remembered_after settings done) e t h;
        session = session_is _
            (taken_keeps remembering_rules TrackedHolds remembered_keeps (remembered_after settings done) e t h (run_holds done settings));
        images = λ host number listed. images_stay whole_rules whole_lists
            (image_in remembering_rules (at_moment (remembered_after settings done) e.moment) e.side e.moment (datagram_in e)) (host_on e.side t)
            t.session.session (segment_of (datagram_in e)) host number listed;
        going = λ is. session_goes_on done settings e t h is;
      };
      through = λ done others e split. through (remembered_after settings done) e;
      later = λ done between others e x split v. record {
        aliases = λ address until keeps before less.
            subst (λ (w : World WholeSession). KeepsAlias whole_rules (known_after settings done) e address w x) (sym (later done between e))
            (keeps_alias whole_rules (known_after settings done) e address until between x (lawful done) v
            (kept_stands whole_rules (known_after settings done) e address until (lawful done) v keeps) before less);
        answers = λ sent goes are is answer. answers_reply whole_rules (known_after settings done) e x sent (lawful done) v goes are is answer;
        replies = λ reply before less. subst (λ (w : World WholeSession). ComesBack whole_rules e w x) (sym (later done between e))
            (comes_back whole_rules (known_after settings done) e between x (lawful done) v reply before less);
        errors = λ about before less. subst (λ (w : World WholeSession). ComesHome whole_rules e w x) (sym (later done between e))
            (comes_home whole_rules (known_after settings done) e between x (lawful done) v about before less);
      };
    }
  where
    hosts : (done : List Event) → KeepsAll (known_after settings done)
    hosts done = run_hosts whole_rules done (opening_world settings) (opening_hosts settings sound forms)

    lawful : (done : List Event) → IsLawful (known_after settings done).table
    lawful done = (hosts done).lawful

    frame_is : (done : List Event) (e : Event) → FrameIs settings done (known_after settings done) e
    frame_is done e =
        let w = known_after settings done in
        let live = at_moment w e.moment in
        let d = datagram_in e in
        let table = table_after whole_rules live e.side e.moment d (kind_of d) in
        record {
          refused = λ r h. let v : verdict whole_rules w e ≡ Refused r = verdict_is w e ∙ ap verdict_of h in (v, ap (out_by whole_rules live e) v);
          passes = λ h. let v : verdict whole_rules w e ≡ Pass = verdict_is w e ∙ ap verdict_of h in (v, goes_on whole_rules whole_answers w e v);
          renames = λ v plain. ap (out_by whole_rules live e) v ∙ goes_once live table e.side e.moment d (called table e.side (source_of d)).0
              (called table e.side (destination_of d)).0 (kind_of d) plain;
          translated = λ v. translated_are whole_rules w e (lawful done) v;
          lifetimes = λ v. lifetimes_are whole_rules w e v;
          octets = λ v goes are. read_as_sent whole_rules w e (lawful done) v goes are;
          named = λ v dns. let is = names_called whole_rules w e (lawful done) v dns in (is, goes_out_called whole_rules w e v dns is);
          meant = λ v. meant whole_rules settings done e sound forms v;
          untracked = λ kind ports. untracked whole_rules settings done e kind ports;
          between = λ alias host own far. gets_through whole_rules settings done e alias host sound forms (lawful done) own far;
        }

    later : (done between : List Event) (e : Event) → known_after settings (done ++ e ∷ between)
        ≡ fold (next whole_rules) (next whole_rules (known_after settings done) e) between
    later done between e = fold-append (next whole_rules) (opening_world settings) done (e ∷ between)

    known : (done : List Event) → known_after settings done ≡ world_as (λ (x : RememberedSession). x.session) (remembered_after settings done)
    known done = run_as (λ (x : RememberedSession). x.session) remembering_rules whole_rules remembered_reads done (opening_world settings)
