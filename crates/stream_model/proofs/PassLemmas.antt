-- What a segment that is not refused is like.
use Rattle.std.proofs.Common.{◌≡◌, ◌≤◌, ◌+◌, ℕ, Bool, true, false, cond, List, [], ◌∷◌, length, drop, refl, sym, ◌∙◌, ap, arith, inl, inr, not, ◌&&◌, nat_lt, Option, Some, None, is_some, is_none, ◌⊎◌}
use Rattle.std.proofs.lemmas.List.{drop_all}
use Rattle.std.proofs.lemmas.Bool.{cases_Bool, ltb-false, or_parts, or_cases, and_parts, and_cases, and_left, and_from, cond-false, not-false, eqb-true, true≢false}
use Rattle.tcp_segments.specs.Prelude.{one_if}
use Rattle.stream_model.specs.Numbers.{is_number}
use Rattle.stream_model.specs.Session.{Sender, Segment, extent, arrival, acknowledged_at, place_acknowledged, start_of, repeats_unlike}
use Rattle.verdicts.specs.Prelude.{first_that_holds}
use Rattle.stream_model.specs.Refusals.{is_data, no_session, syn_data, opens, syn_in_session, no_ack, gap, past_end_at, past_end, ack_ahead, stream_limit, backlog, tests}
use Rattle.stream_model.specs.declared.numbers.Offset.{Offset}
use Rattle.stream_model.specs.declared.refusals.Arrival.{Arrival}
use Rattle.stream_model.specs.declared.refusals.Extent.{Extent}
use Rattle.verdicts.specs.declared.refusal.Refusal.{Refusal}
use Rattle.gate_base.specs.declared.host.Host.{Host}
use Rattle.gate_base.specs.declared.host.Host.TheVariants.{Client, Server}

pub second_false : (x y : Bool) → (x && y) ≡ false → x ≡ true → y ≡ false
second_false true y e i = e
second_false false y e i = absurd (true≢false (sym i))

abbrev pub NoneHolds : List (Bool × Refusal) → Type 0
NoneHolds [] = Unit {0}
NoneHolds (t ∷ ts) = (t.0 ≡ false) × NoneHolds ts

pub none_holds : (ts : List (Bool × Refusal)) → first_that_holds ts ≡ None → NoneHolds ts
none_holds [] e = tt
none_holds (t ∷ ts) e =
    elim (cases_Bool t.0) [
      | inl yes_it ↦ absurd (let f : cond true (Some t.1) (first_that_holds ts) ≡ None = rw yes_it at e in cc)
      | inr not_it ↦ (not_it, none_holds ts (rw not_it at e))
    ]

-- each test fails
pub record PassesBy (from : Host) (a b : Extent) (g : Arrival) (u : Bool) : Type 0 where
  pub no_session : no_session a b g ≡ false
  pub syn_data : syn_data g ≡ false
  pub syn_in_session : syn_in_session from a g ≡ false
  pub no_ack : no_ack g ≡ false
  pub gap : gap a g ≡ false
  pub past_end : past_end a g ≡ false
  pub ack_ahead : ack_ahead b g ≡ false
  pub unlike : (is_data g && u) ≡ false
  pub stream_limit : stream_limit a g ≡ false
  pub backlog : backlog a g ≡ false

pub passes_by : (from : Host) (a b : Extent) (g : Arrival) (u : Bool) → first_that_holds (tests from a b g u) ≡ None → PassesBy from a b g u
passes_by f a b g u e =
    let h : NoneHolds (tests f a b g u) = none_holds (tests f a b g u) e in
    record {
      no_session = h.0;
      syn_data = h.1.0;
      syn_in_session = h.1.1.0;
      no_ack = h.1.1.1.0;
      gap = h.1.1.1.1.0;
      past_end = h.1.1.1.1.1.0;
      ack_ahead = h.1.1.1.1.1.1.0;
      unlike = h.1.1.1.1.1.1.1.0;
      stream_limit = h.1.1.1.1.1.1.1.1.0;
      backlog = h.1.1.1.1.1.1.1.1.1.0;
    }

abbrev pub Passes : Host → Sender → Sender → Segment → Type 0
Passes from a b g = PassesBy from (extent a) (extent b) (arrival g) (repeats_unlike a g)

pub passes : (from : Host) (a b : Sender) (g : Segment) → first_that_holds (tests from (extent a) (extent b) (arrival g) (repeats_unlike a g)) ≡ None
    → Passes from a b g
passes f a b g e = passes_by f (extent a) (extent b) (arrival g) (repeats_unlike a g) e

number_is : (o : Option ℕ) (n : ℕ) → is_number o n ≡ true → o ≡ Some n
number_is None n e = absurd (true≢false (sym e))
number_is (Some m) n e = ap (λ k. Some k) (eqb-true m n e)

none_is : (o : Option ℕ) → is_none o ≡ true → o ≡ None
none_is None e = refl
none_is (Some m) e = absurd (true≢false (sym e))

pub some_is : (o : Option ℕ) → is_none o ≡ false → is_some o ≡ true
some_is None e = absurd (true≢false e)
some_is (Some m) e = refl

-- a SYN that passes brings its sender's number or repeats it
pub syn_number : (f : Host) (a b : Sender) (g : Segment) → Passes f a b g → g.flags.syn ≡ true → (a.initial ≡ None) ⊎ (a.initial ≡ Some g.sequence)
syn_number f a b g p syn =
    by f (not-false (opens f (extent a) (arrival g)) (second_false g.flags.syn (not (opens f (extent a) (arrival g))) p.syn_in_session syn))
  where
    by : (f : Host) → opens f (extent a) (arrival g) ≡ true → (a.initial ≡ None) ⊎ (a.initial ≡ Some g.sequence)
    by Client e = inr (number_is a.initial g.sequence (and_parts _ _ e).1)
    by Server e =
        elim (or_cases (is_none a.initial) (is_number a.initial g.sequence) (and_parts _ _ e).1) [
          | inl i ↦ inl (none_is a.initial i)
          | inr i ↦ inr (number_is a.initial g.sequence i)
        ]

abbrev pub IsData : Segment → Type 0
IsData g = (g.flags.syn ≡ false) × (g.flags.reset ≡ false)

pub data_is : (g : Segment) → IsData g → is_data (arrival g) ≡ true
data_is g d = rw (d.0, d.1) refl

-- both initial numbers are known
pub both_known : (f : Host) (a b : Extent) (g : Arrival) (u : Bool) → PassesBy f a b g u → is_data g ≡ true → (is_some a.initial ≡ true)
    × (is_some b.initial ≡ true)
both_known f a b g u p d =
    let n : (is_none a.initial ≡ false) × (is_none b.initial ≡ false) = or_parts _ _ (second_false (is_data g) _ p.no_session d) in
    (some_is a.initial n.0, some_is b.initial n.1)

pub has_ack : (f : Host) (a b : Extent) (g : Arrival) (u : Bool) → PassesBy f a b g u → is_data g ≡ true → g.flags.ack ≡ true
has_ack f a b g u p d = not-false g.flags.ack (second_false (is_data g) _ p.no_ack d)

pub one-le : (b : Bool) → one_if b ≤ 1
one-le true = omega arith
one-le false = omega arith

-- no more is acknowledged than was sent
pub ack_within : (f : Host) (a b : Extent) (g : Arrival) (u : Bool) → PassesBy f a b g u → g.flags.syn ≡ false → is_data g ≡ true
    → place_acknowledged b g ≤ b.due + one_if b.ended
ack_within f a b g u p syn d =
    let t : (g.flags.ack && is_some b.initial && nat_lt (one_if b.ended) (acknowledged_at b g).after) ≡ false =
    sym (cond-false (g.flags.syn && g.flags.ack) _ _ (and_left _ _ syn)) ∙ p.ack_ahead in
    let k : (g.flags.ack && is_some b.initial) ≡ true = and_from _ _ (has_ack f a b g u p d) (both_known f a b g u p d).1 in
    let l : (acknowledged_at b g).after ≤ one_if b.ended = ltb-false _ _ (second_false _ _ t k) in
    omega arith

-- no octet stands beyond an end
pub nothing_past : (f : Host) (a b : Sender) (g : Segment) → Passes f a b g → IsData g → a.ended ≡ true → drop (start_of a g).before g.octets ≡ []
nothing_past f a b g p d ended =
    let x : past_end_at (extent a) (arrival g) (start_of a g) ≡ false = second_false (is_data (arrival g)) _ p.past_end (data_is g d) in
    let one : (a.ended && nat_lt 0 (length g.octets) && nat_lt (start_of a g).before ((start_of a g).after + length g.octets)) ≡ false =
    (or_parts _ _ (or_parts _ _ x).0).0 in
    at_near (start_of a g) g.octets (rw ended at one)
  where
    at_near : (n : Offset) (os : List ℕ) → (nat_lt 0 (length os) && nat_lt n.before (n.after + length os)) ≡ false → drop n.before os ≡ []
    at_near n os e =
        elim (and_cases _ _ e) [
          | inl z ↦ drop_all n.before os (let l : length os ≤ 0 = ltb-false _ _ z in omega arith)
          | inr z ↦ drop_all n.before os (let l : n.after + length os ≤ n.before = ltb-false _ _ z in omega arith)
        ]
