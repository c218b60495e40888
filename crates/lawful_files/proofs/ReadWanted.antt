-- What is wanted is the same, however sessions are represented.
use Rattle.std.proofs.Common.{◌≡◌, ℕ, Option, Some, None, option_map, refl, ◌∙◌, ap}
use Rattle.gate_base.specs.Prelude.{Event}
use Rattle.gate_base.specs.declared.address.Addr.{Addr}
use Rattle.verdicts.specs.declared.verdict.Verdict.{Verdict}
use Rattle.verdicts.specs.declared.verdict.Verdict.TheVariants.{Pass, Refused, Held}
use Rattle.gate_base.specs.declared.side.Side.{Side}
use Rattle.binding_table.specs.Prelude.{Bindings}
use Rattle.icmp_errors.specs.Inner.{inner_fields}
use Rattle.ipv4_frames.specs.Ipv4.{Datagram}
use Rattle.gate_model.specs.Prelude.{Whole, Kind, Error, Stream, datagram_in, kind_of, inside, tracked_as, world_as, Reads, SessionRules, whole_rules}
use Rattle.gate_model.specs.Prelude.{WholeSession, taker_in, segment_of, session_refusal, table_after, image_in, verdict, World, Tracked, at_moment}
use Rattle.gate_model.specs.Prelude.{called, source_of, destination_of, host_on}
use Rattle.gate_model.proofs.Passing.{Passes, passes, stream_passes}
use Rattle.gate_model.proofs.ReadWorlds.{table_as, image_as, taker_as, inner_number_as, moment_as, verdict_as}
use Rattle.lawful_files.specs.Wanted.{Wanted, Cut, Sends, SendAlike, whole_sent, wanted_segment, wanted_kind, wanted_by, wanted, wanted_in}

module _ {S : Type 0} (h : S → WholeSession) (rules : SessionRules S) (sends : Sends S) (reads : Reads h rules whole_rules)
    (alike : SendAlike h rules sends) where
  segment_as : (image : Addr → Option Addr) (side : Side) (d : Datagram) (source destination : ℕ) (t : Option (Tracked S))
      → session_refusal rules side d t ≡ None
      → wanted_segment whole_sent image side d source destination (option_map (tracked_as h) t) ≡ wanted_segment sends image side d source destination
      t
  segment_as image side d source destination None e = refl
  segment_as image side d source destination (Some t) e = ap (Cut d source destination) (alike image (host_on side t) t.session (segment_of d) e)

  kind_as : (live : World S) (side : Side) (moment : ℕ) (d : Datagram) (kind : Kind) → Passes rules live side moment d kind
      → wanted_kind whole_rules whole_sent (world_as h live) side moment d kind ≡ wanted_kind rules sends live side moment d kind
  kind_as live side moment d Stream p =
      let to : Bindings → (Addr → Option Addr) → Option (Tracked WholeSession) → Wanted =
      λ table image t. wanted_segment whole_sent image side d (called table side (source_of d)).0 (called table side (destination_of d)).0 t in
      let table = table_after rules live side moment d Stream in
      let image = image_in rules live side moment d in
      ap (λ (x : Bindings). to x (image_in whole_rules (world_as h live) side moment d) (taker_in whole_rules (world_as h live) side moment d))
      (table_as h rules whole_rules reads live side moment d Stream)
      ∙ ap (λ (i : Addr → Option Addr). to table i (taker_in whole_rules (world_as h live) side moment d))
      (image_as h rules whole_rules reads live side moment d)
      ∙ ap (to table image) (taker_as h rules whole_rules reads live side moment d)
      ∙ segment_as image side d (called table side (source_of d)).0 (called table side (destination_of d)).0 (taker_in rules live side moment d)
      (stream_passes rules live side moment d p.content).taken
  kind_as live side moment d (Whole Error) p = rw (inner_number_as h rules whole_rules reads live side (inner_fields (inside d))) refl
  kind_as live side moment d (Whole _) p = refl

  pub wanted_as : (w : World S) (e : Event) → wanted (world_as h w) e ≡ wanted_in rules sends w e
  wanted_as w e =
      ap (λ (v : Verdict). wanted_by whole_rules whole_sent (at_moment (world_as h w) e.moment) e v) (verdict_as h rules whole_rules reads w e)
      ∙ ap (λ (live : World WholeSession). wanted_by whole_rules whole_sent live e (verdict rules w e)) (moment_as h w e.moment)
      ∙ by_verdict (verdict rules w e) refl
    where
      by_verdict : (v : Verdict) → verdict rules w e ≡ v
          → wanted_by whole_rules whole_sent (world_as h (at_moment w e.moment)) e v ≡ wanted_by rules sends (at_moment w e.moment) e v
      by_verdict Pass p = kind_as (at_moment w e.moment) e.side e.moment (datagram_in e) (kind_of (datagram_in e)) (passes rules w e p)
      by_verdict (Refused refusal) p = refl
      by_verdict Held p = refl
