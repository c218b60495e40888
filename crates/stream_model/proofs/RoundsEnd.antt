-- Each round in which something is lacking raises what is acknowledged, so that there are no more of them than octets.
use Rattle.std.proofs.Common.{◌≡◌, ◌≤◌, ◌<◌, ◌+◌, ℕ, Bool, true, false, ◌&&◌, ◌==◌, nat_le, List, [], ◌∷◌, length, sym, ◌∙◌, subst, arith, inl, inr, ◌⊎◌, max}
use Rattle.std.proofs.lemmas.Bool.{cases_lt}
use Rattle.std.proofs.lemmas.List.Sums.{prefix_len-le-length}
use Rattle.gate_base.specs.declared.host.Host.{Host}
use Rattle.gate_base.specs.declared.host.Host.TheVariants.{Client, Server}
use Rattle.gate_base.specs.Prelude.{peer}
use Rattle.dialogue.specs.Prelude.{IsLawful, Meaning, image, back, back_if, spans}
use Rattle.dialogue.specs.Places.{back_in}
use Rattle.dialogue.proofs.Laws.{back-mono, length-due-le, length-spans}
use Rattle.tcp_segments.specs.Prelude.{one_if}
use Rattle.stream_model.specs.Numbers.{known}
use Rattle.stream_model.specs.Session.{Sender, Session, Segment, Outgoing, own, due_in, extent, arrival, place_acknowledged, repeats_unlike}
use Rattle.stream_model.specs.Refusals.{is_data}
use Rattle.stream_model.specs.Steps.{taken, acknowledged, own_after, other_after}
use Rattle.stream_model.specs.History.{OneShows}
use Rattle.stream_model.specs.Progress.{acknowledged_of, BeginsBy, Covers, OneEnds}
use Rattle.stream_model.specs.Rounds.{Hears, Round, LacksOctets, LacksEnd, after_round, IsRound, AllRounds, after_rounds}
use Rattle.stream_model.proofs.PassLemmas.{Passes, IsData, passes, data_is, ack_within, one-le}
use Rattle.stream_model.proofs.SentLaw.{data_out}
use Rattle.stream_model.proofs.SessionAcked.{back_stays, sent_more}
use Rattle.stream_model.proofs.Lacking.{IsBound, data_of, own_is, out_is, other_is, brings}

-- what a round goes from
pub record Stands (a : Sender) (knows had : ℕ) : Type 0 where
  pub lawful : IsLawful a.meaning
  pub bound : IsBound a
  pub below : knows ≤ acknowledged_of a
  pub hears : a.acked ≤ had

-- what it leaves
pub record Raised (a new : Sender) (knows has : ℕ) : Type 0 where
  pub stands : Stands new (acknowledged_of new) has
  pub more : a.acked + knows < new.acked + acknowledged_of new

-- by the kinds of both segments
raised_by : (f : Host) (a b : Sender) (g : Segment) (h : Segment) (c : Sender) (knows had has : ℕ) → Stands a knows had → Passes f a b g → IsData g
    → (LacksOctets a (taken a g) g knows ⊎ LacksEnd a (taken a g) g knows) → Hears (known a.initial) (due_in (taken a g)) had (data_out a b g) has
    → Passes (peer f) c (taken a g) h → IsData h → place_acknowledged (extent (taken a g)) (arrival h) ≡ has
    → Raised a (acknowledged (taken a g) h) knows has
raised_by f a b g h c knows had has s p d lacks hears q e all =
    let new : Sender = taken a g in
    let bound : IsBound (taken a g) = sent_more f a b g a.acked s.lawful p d s.bound in
    let within : place_acknowledged (extent (taken a g)) (arrival h) ≤ length (due_in (taken a g)) + one_if (taken a g).ended =
    ack_within (peer f) (extent c) (extent (taken a g)) (arrival h) (repeats_unlike c h) q e.0 (data_is h e) in
    let k : ℕ = max a.acked (place_acknowledged (extent (taken a g)) (arrival h)) in
    let top : length (due_in (taken a g)) ≤ length (image a.meaning (taken a g).octets) =
    length-due-le a.meaning s.lawful (taken a g).ended (taken a g).octets in
    let one : one_if (taken a g).ended ≤ 1 = one-le (taken a g).ended in
    let back_up : back a.meaning (taken a g).ended (taken a g).octets a.acked ≤ acknowledged_of (acknowledged (taken a g) h) =
    back-mono a.meaning (taken a g).ended (taken a g).octets a.acked (max a.acked (place_acknowledged (extent (taken a g)) (arrival h))) (omega arith)
    (omega (arith, s.bound)) in
    let same : back a.meaning (taken a g).ended (taken a g).octets a.acked ≡ acknowledged_of a = back_stays f a b g a.acked s.lawful p d s.bound in
    let keeps : had ≤ has = hears.keeps in
    record {
      stands = record {
        lawful = s.lawful;
        bound = omega arith;
        below = omega arith;
        hears = omega (arith, s.hears);
      };
      more =
          elim (cases_lt knows (acknowledged_of a)) [
            | inl less ↦ omega arith
            | inr least ↦
                let at : knows ≡ acknowledged_of a = omega (arith, s.below) in
                let goes : a.acked < has =
                elim (cases_lt a.acked had) [
                  | inl l ↦ omega arith
                  | inr l ↦
                      let here : a.acked ≡ had = omega (arith, s.hears) in
                      elim lacks [
                        | inl o ↦ shown_on here ((brings f a b g s.lawful p d s.bound).lacking (subst (λ (n : ℕ). Covers a g n) at o.covers) o.lacks)
                        | inr n ↦
                            let in_image : a.acked ≤ length (image a.meaning (taken a g).octets) = omega (arith, n.lacks) in
                            elim (cases_lt a.acked (length (due_in (taken a g)))) [
                              | inl less ↦ shown_on here
                                  ((brings f a b g s.lawful p d s.bound).behind n.fin in_image (subst (λ (m : ℕ). BeginsBy a g m) at n.begins) a.acked
                                  (omega arith) less)
                              | inr all_due ↦ ended_on here (omega (arith, n.lacks)) ((brings f a b g s.lawful p d s.bound).ending n.fin in_image)
                            ]
                      ]
                ] in
                omega arith
          ];
    }
  where
    shown_on : a.acked ≡ had → OneShows (known a.initial) (due_in (taken a g)) a.acked (data_out a b g) → a.acked < has
    shown_on here shows =
        let m : had < has = hears.goes_on (subst (λ (n : ℕ). OneShows (known a.initial) (due_in (taken a g)) n (data_out a b g)) here shows) in
        omega arith

    ended_on : a.acked ≡ had → a.acked ≡ length (due_in (taken a g)) → OneEnds (known a.initial) (length (due_in (taken a g))) (data_out a b g)
        → a.acked < has
    ended_on here all_due ends =
        let m : had < has = hears.ends (sym here ∙ all_due)
        (subst (λ (n : ℕ). OneEnds (known a.initial) n (data_out a b g)) (sym all_due ∙ here) ends) in
        omega arith

-- over a session, whose other host may have learned in between
pub raised_in : (f : Host) (a b c : Sender) (g h : Segment) (knows had has : ℕ) → Stands a knows had → Passes f a b g → is_data (arrival g) ≡ true
    → (LacksOctets a (own_after a g) g knows ⊎ LacksEnd a (own_after a g) g knows)
    → Hears (known a.initial) (due_in (own_after a g)) had (data_out a b g) has
    → Passes (peer f) c (own_after a g) h → is_data (arrival h) ≡ true → place_acknowledged (extent (own_after a g)) (arrival h) ≡ has
    → Raised a (other_after (own_after a g) h) knows has
raised_in f a b c g h knows had has s p d lacks hears q e all =
    subst (λ (z : Sender). Raised a z knows has) (sym (other_is (own_after a g) h (data_of h e)))
    (with_taken (own_after a g) (own_is a g (data_of g d)) lacks hears q all)
  where
    with_taken : (z : Sender) → z ≡ taken a g → (LacksOctets a z g knows ⊎ LacksEnd a z g knows)
        → Hears (known a.initial) (due_in z) had (data_out a b g) has → Passes (peer f) c z h → place_acknowledged (extent z) (arrival h) ≡ has
        → Raised a (acknowledged z h) knows has
    with_taken z is lacks hears q all =
        subst (λ (y : Sender). Raised a (acknowledged y h) knows has) (sym is)
        (raised_by f a b g h c knows had has s p (data_of g d)
        (subst (λ (y : Sender). LacksOctets a y g knows ⊎ LacksEnd a y g knows) is lacks)
        (subst (λ (y : Sender). Hears (known a.initial) (due_in y) had (data_out a b g) has) is hears)
        (subst (λ (y : Sender). Passes (peer f) c y h) is q)
        (data_of h e)
        (subst (λ (y : Sender). place_acknowledged (extent y) (arrival h) ≡ has) is all))

pub raised : (host : Host) (s : Session) (knows had : ℕ) (x : Round) → Stands (own host s) knows had → IsRound host s knows had x
    → Raised (own host s) (own host (after_round host s x)) knows x.has
raised Client s knows had x st r =
    raised_in Client s.client s.server (other_after s.server x.repeat) x.repeat x.answer knows had x.has st
    (passes Client s.client s.server x.repeat r.passes) r.kind r.lacks
    (subst (λ (os : List Outgoing). Hears (known s.client.initial) (due_in (own_after s.client x.repeat)) had os x.has)
    (out_is s.client s.server x.repeat (data_of x.repeat r.kind)) r.hears)
    (passes Server (other_after s.server x.repeat) (own_after s.client x.repeat) x.answer r.answered) r.answers r.all
raised Server s knows had x st r =
    raised_in Server s.server s.client (other_after s.client x.repeat) x.repeat x.answer knows had x.has st
    (passes Server s.server s.client x.repeat r.passes) r.kind r.lacks
    (subst (λ (os : List Outgoing). Hears (known s.server.initial) (due_in (own_after s.server x.repeat)) had os x.has)
    (out_is s.server s.client x.repeat (data_of x.repeat r.kind)) r.hears)
    (passes Client (other_after s.client x.repeat) (own_after s.server x.repeat) x.answer r.answered) r.answers r.all

pub rounds_raise : (host : Host) (xs : List Round) (s : Session) (knows had : ℕ) → Stands (own host s) knows had → AllRounds host s knows had xs
    → let new = own host (after_rounds host s xs) in length xs + (own host s).acked + knows ≤ new.acked + acknowledged_of new
rounds_raise host [] s knows had st r = omega (arith, st.below)
rounds_raise host (x ∷ xs) s knows had st r =
    let one : Raised (own host s) (own host (after_round host s x)) knows x.has = raised host s knows had x st r.0 in
    let rest = rounds_raise host xs (after_round host s x) (acknowledged_of (own host (after_round host s x))) x.has one.stands r.1 in
    omega (arith, one.more, rest)

-- ## What bounds both counts

back_within : (b : Bool) (after x : ℕ) → x ≤ after → back_if b after x ≤ after
back_within true after x h = omega arith
back_within false after x h = h

back-le : (m : Meaning) (ended : Bool) (s : List ℕ) (q : ℕ) → back m ended s q ≤ length s + 1
back-le m ended s q = back_within (ended && (q == length (image m s) + 1)) (length s + 1) (back_in (spans m s) q)
    (omega (arith, prefix_len-le-length (λ x. nat_le x.past q) (spans m s), length-spans m s))

-- no more is acknowledged of a stream and of its image than they have, the end counted in both
abbrev pub IsFull : Sender → Type 0
IsFull a = a.acked + acknowledged_of a ≤ length (image a.meaning a.octets) + length a.octets + 2

pub full : (a : Sender) → IsLawful a.meaning → IsBound a → IsFull a
full a law bound = omega (arith, bound, length-due-le a.meaning law a.ended a.octets, one-le a.ended, back-le a.meaning a.ended a.octets a.acked)

rounds_full : (host : Host) (xs : List Round) (s : Session) (knows had : ℕ) → Stands (own host s) knows had → AllRounds host s knows had xs
    → IsFull (own host (after_rounds host s xs))
rounds_full host [] s knows had st r = full (own host s) st.lawful st.bound
rounds_full host (x ∷ xs) s knows had st r =
    let one : Raised (own host s) (own host (after_round host s x)) knows x.has = raised host s knows had x st r.0 in
    rounds_full host xs (after_round host s x) (acknowledged_of (own host (after_round host s x))) x.has one.stands r.1

pub rounds_few : (host : Host) (xs : List Round) (s : Session) (knows had : ℕ) → Stands (own host s) knows had
    → AllRounds host s knows had xs → let new = own host (after_rounds host s xs) in
    length xs ≤ length (image new.meaning new.octets) + length new.octets + 2
rounds_few host xs s knows had st r = omega (arith, rounds_raise host xs s knows had st r, rounds_full host xs s knows had st r)
