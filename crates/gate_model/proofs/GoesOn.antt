-- A frame that passes gives a datagram.
use Rattle.std.proofs.Common.{◌≡◌, ◌≤◌, ℕ, List, [], ◌∷◌, length, Option, Some, None, sym, subst, arith}
use Rattle.std.proofs.lemmas.List.{length-map}
use Rattle.gate_base.specs.Prelude.{Event}
use Rattle.gate_base.specs.declared.address.Addr.{Addr}
use Rattle.verdicts.specs.declared.verdict.Verdict.{Verdict}
use Rattle.verdicts.specs.declared.verdict.Verdict.TheVariants.{Pass}
use Rattle.gate_base.specs.declared.side.Side.{Side}
use Rattle.binding_table.specs.Prelude.{Bindings}
use Rattle.ipv4_frames.specs.Ipv4.{Datagram}
use Rattle.stream_model.specs.Prelude.{Sent, pieces, session_sent}
use Rattle.stream_model.specs.Sending.{sent_in}
use Rattle.gate_model.specs.Prelude.{Whole, Kind, Stream, datagram_in, kind_of, SessionRules, whole_rules, whole_learned, Tracked, World, at_moment, called, source_of, destination_of, host_on, segment_of, table_after, image_in, verdict, taker_in, stream_out, out_between, out_by, out}
use Rattle.gate_model.specs.Answers.{Answers}

stream_some : {S : Type 0} (rules : SessionRules S) → Answers rules
    → (image : Addr → Option Addr) (side : Side) (d : Datagram) (source destination : ℕ) (t : Option (Tracked S))
    → 1 ≤ length (stream_out rules image side d source destination t)
stream_some rules answers image side d source destination None = omega arith
stream_some rules answers image side d source destination (Some t) = rw length-map (answers image (host_on side t) t.session (segment_of d))

between_some : {S : Type 0} (rules : SessionRules S) → Answers rules
    → (live : World S) (table : Bindings) (side : Side) (moment : ℕ) (d : Datagram) (source destination : ℕ) (kind : Kind)
    → 1 ≤ length (out_between rules live table side moment d source destination kind)
between_some rules answers live table side moment d source destination (Whole payload) = omega arith
between_some rules answers live table side moment d source destination Stream =
    stream_some rules answers (image_in rules live side moment d) side d source destination (taker_in rules live side moment d)

pub goes_on : {S : Type 0} (rules : SessionRules S) → Answers rules → (w : World S) (e : Event) → verdict rules w e ≡ Pass
    → 1 ≤ length (out rules w e)
goes_on {S = S} rules answers w e h =
    let live = at_moment w e.moment in
    let d = datagram_in e in
    let table = table_after rules live e.side e.moment d (kind_of d) in
    subst (λ (v : Verdict). 1 ≤ length (out_by rules live e v)) (sym h)
    (between_some rules answers live table e.side e.moment d (called table e.side (source_of d)).0 (called table e.side (destination_of d)).0
    (kind_of d))

-- sessions over whole lists send something for each segment
sent_some : (s : Sent) (octets : List ℕ) → 1 ≤ length (sent_in s octets)
sent_some s [] = omega arith
sent_some s (x ∷ xs) = rw length-map (pieces_some (x ∷ xs))
  where
    pieces_some : (octets : List ℕ) → 1 ≤ length (pieces s.limit 0 octets s.flags.fin s.flags.push)
    pieces_some octets = omega arith

pub whole_answers : Answers whole_rules
whole_answers image from x g = let s = session_sent from (whole_learned image from x g).session g in sent_some s s.octets
