-- At most 65,536 octets are recent.
use Rattle.std.proofs.Common.{◌≡◌, ◌≤◌, ◌<◌, ◌+◌, ◌-◌, ℕ, Bool, true, false, List, [], ◌∷◌, length, drop, sym, subst, arith, inl, inr, ◌^◌, max, nat_lt, ◌&&◌, ◌||◌, None, length-append, length-drop}
use Rattle.std.proofs.lemmas.Bool.{cases_Bool, cond-true, cond-false, and_cases, ltb-false, or_parts}
use Rattle.gate_base.specs.declared.host.Host.{Host}
use Rattle.gate_base.specs.declared.host.Host.TheVariants.{Client, Server}
use Rattle.dialogue.specs.Prelude.{IsLawful, image, due, back}
use Rattle.dialogue.proofs.Laws.{back-mono, length-due-le}
use Rattle.tcp_segments.specs.Prelude.{one_if}
use Rattle.stream_model.specs.Session.{Sender, Session, Segment, own, recent, due_in, extent, arrival, start_of, place_acknowledged}
use Rattle.stream_model.specs.Refusals.{is_data, segment_refusal}
use Rattle.stream_model.specs.Steps.{taken, acknowledged, other_after, session_next}
use Rattle.stream_model.specs.History.{Event, Facts, next, after, AllPass}
use Rattle.stream_model.proofs.PassLemmas.{Passes, IsData, passes, data_is, second_false, ack_within, one-le}
use Rattle.stream_model.proofs.SessionAcked.{Acked, acked_step, back_stays}
use Rattle.stream_model.proofs.FactLemmas.{image_small, own_keeps}

abbrev Few : Sender → Type 0
Few a = length (recent a) ≤ 65536

pub few_added : (d : Bool) (n a : ℕ) → d ≡ true → (d && nat_lt 0 a && nat_lt 65536 (n + a)) ≡ false → n ≤ 65536 → n + a ≤ 65536
few_added d n a is e few =
    elim (and_cases _ _ e) [
      | inl z ↦ let none : a ≤ 0 = ltb-false _ _ (second_false d _ z is) in omega (arith, none, few)
      | inr z ↦ ltb-false _ _ z
    ]

-- its sender's segment adds what is not a backlog
own_few : (f : Host) (a b : Sender) (g : Segment) → IsLawful a.meaning → a.acked ≤ length (due_in a) + one_if a.ended → Passes f a b g → Few a
    → IsData g → Few (taken a g)
own_few f a b g law bound p few d =
    let t : List ℕ = drop (start_of a g).before g.octets in
    let same : back a.meaning (taken a g).ended (taken a g).octets a.acked ≡ back a.meaning a.ended a.octets a.acked =
    back_stays f a b g a.acked law p d bound in
    let sum : length (recent a) + (length g.octets - (start_of a g).before) ≤ 65536 =
    few_added (is_data (arrival g)) (length (recent a)) (length g.octets - (start_of a g).before) (data_is g d) p.backlog few in
    omega (
      arith,
      sum,
      same,
      length-drop (back a.meaning (taken a g).ended (taken a g).octets a.acked) (taken a g).octets,
      length-drop (back a.meaning a.ended a.octets a.acked) a.octets,
      length-append a.octets (drop (start_of a g).before g.octets),
      length-drop (start_of a g).before g.octets,
    )

-- its receiver's segment leaves no more
ack_few : (f : Host) (a b : Sender) (g : Segment) → IsLawful b.meaning → b.acked ≤ length (due_in b) + one_if b.ended → Passes f a b g → Few b
    → IsData g → Few (acknowledged b g)
ack_few f a b g law bound p few d =
    let q : ℕ = max b.acked (place_acknowledged (extent b) (arrival g)) in
    let within = ack_within f (extent a) (extent b) (arrival g) _ p d.0 (data_is g d) in
    let short : length (due b.meaning b.ended b.octets) ≤ length (image b.meaning b.octets) = length-due-le b.meaning law b.ended b.octets in
    let up : back b.meaning b.ended b.octets b.acked ≤ back b.meaning b.ended b.octets (max b.acked (place_acknowledged (extent b) (arrival g))) =
    back-mono b.meaning b.ended b.octets b.acked (max b.acked (place_acknowledged (extent b) (arrival g))) (omega arith)
    (omega (arith, bound, within, short, one-le b.ended)) in
    omega (
      arith,
      few,
      up,
      length-drop (back b.meaning b.ended b.octets b.acked) b.octets,
      length-drop (back b.meaning b.ended b.octets (max b.acked (place_acknowledged (extent b) (arrival g)))) b.octets,
    )

other_few : (f : Host) (a b : Sender) (g : Segment) → IsLawful b.meaning → b.acked ≤ length (due_in b) + one_if b.ended → Passes f a b g → Few b
    → Few (other_after b g)
other_few f a b g law bound p few =
    elim (cases_Bool (g.flags.syn || g.flags.reset)) [
      | inl c ↦ subst (λ (z : Sender). Few z) (sym (cond-true (g.flags.syn || g.flags.reset) b (acknowledged b g) c)) few
      | inr c ↦ subst (λ (z : Sender). Few z) (sym (cond-false (g.flags.syn || g.flags.reset) b (acknowledged b g) c))
          (ack_few f a b g law bound p few (or_parts g.flags.syn g.flags.reset c))
    ]

few_step : (host from : Host) (s : Session) (g : Segment) (ps ns : List ℕ) → segment_refusal from s g ≡ None → Acked (own host s) ps ns
    → Few (own host s) → Few (own host (session_next from s g))
few_step Client Client s g ps ns v h few =
    own_keeps Few Client s.client s.server g (passes Client s.client s.server g v) few few
    (own_few Client s.client s.server g h.lawful h.bound (passes Client s.client s.server g v) few)
few_step Server Server s g ps ns v h few =
    own_keeps Few Server s.server s.client g (passes Server s.server s.client g v) few few
    (own_few Server s.server s.client g h.lawful h.bound (passes Server s.server s.client g v) few)
few_step Client Server s g ps ns v h few = other_few Server s.server s.client g h.lawful h.bound (passes Server s.server s.client g v) few
few_step Server Client s g ps ns v h few = other_few Client s.client s.server g h.lawful h.bound (passes Client s.client s.server g v) few

pub few_after : (host : Host) (es : List Event) (s : Session) (ps ns : List ℕ) → AllPass s es → Acked (own host s) ps ns
    → length (recent (own host s)) ≤ 65536 → length (recent (own host (after s es))) ≤ 65536
few_after host [] s ps ns p h few = few
few_after host (e ∷ es) s ps ns p h few =
    few_after host es (next s e) _ _ p.1 (acked_step host e.from s e.segment ps ns p.0 h) (few_step host e.from s e.segment ps ns p.0 h few)

-- what always holds of a sender whose acknowledgements are right
pub facts_of : (a : Sender) (ps ns : List ℕ) → Acked a ps ns → length a.octets < 2 ^ 30 → length (recent a) ≤ 65536 → Facts a
facts_of a ps ns h l r = record { acked = h.bound; octets = l; image = omega (arith, image_small a.meaning h.lawful a.octets); recent = r }
