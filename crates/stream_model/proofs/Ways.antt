-- What is sent in pieces of the limit is a lawful way.
use Rattle.std.proofs.Common.{◌≡◌, ◌≤◌, ◌<◌, ◌+◌, ◌-◌, ◌*◌, ◌/◌, ℕ, zero, suc, Bool, false, ◌&&◌, ◌==◌, List, [], ◌∷◌, length, take, drop, refl, sym, ◌∙◌, ap, subst, arith, inl, inr, append-nil, take-append-drop, length-drop, length-take-le}
use Rattle.std.proofs.Math.Nat.{div-mul-le_self, lt-div-mul-add}
use Rattle.std.proofs.lemmas.Bool.Decides.{nat_tests}
use Rattle.std.proofs.lemmas.Bool.{false≢true, cases_Bool, cond-true, cond-false}
use Rattle.gate_base.specs.declared.host.Host.{Host}
use Rattle.stream_model.specs.Session.{Session, Segment, arrival, start_at, other, own}
use Rattle.stream_model.specs.Sending.{Sent, limit_of, acknowledgement_at, acked_with, syn_sent, reset_sent, other_sent, sent_by, pieces, sent_in, in_pieces}
use Rattle.stream_model.specs.Standing.{Standing, standing}
use Rattle.stream_model.specs.Steps.{taken, session_sent, session_out}
use Rattle.stream_model.proofs.Cutting.{pieces_from, pieces_are}
use Rattle.stream_model.proofs.SentLaw.{parts_limit}
use Rattle.stream_model.specs.Cuts.{ArePieces, MaySend, IsLawfulWay}

-- octets from a place on, in whole pieces of the limit and a last one
pub pieces_lawful : (s : Sent) (whole place : ℕ) (octets : List ℕ) → 1 ≤ s.limit → 1 ≤ length octets → whole * s.limit < length octets
    → length octets ≤ whole * s.limit + s.limit
    → ArePieces s place octets (pieces_from whole s.limit place octets s.flags.fin s.flags.push)
pieces_lawful s zero place octets some few more most =
    ([], record { joined = sym (append-nil octets); stands = refl; some = few; few = omega (arith, most); ends = refl; pushes = λ h. h }, refl)
pieces_lawful s (suc whole) place octets some few more most =
    let times : suc whole * s.limit ≡ s.limit + whole * s.limit = grind arith in
    let long : length (take s.limit octets) ≡ s.limit = length-take-le s.limit octets (omega (arith, more, times)) in
    let left : length (drop s.limit octets) ≡ length octets - s.limit = length-drop s.limit octets in
    let not_last : (length (drop s.limit octets) == 0) ≡ false = let e : 1 ≤ length (drop s.limit octets) = omega (arith, left, more, times) in
    grind (arith, nat_tests) in (
      drop s.limit octets,
      record {
        joined = sym (take-append-drop s.limit octets);
        stands = refl;
        some = omega (arith, long, some);
        few = omega (arith, long);
        ends = sym (ap (λ (b : Bool). b && s.flags.fin) not_last);
        pushes = λ h. absurd (false≢true h);
      },
      subst (λ (n : ℕ). ArePieces s n (drop s.limit octets)
          (pieces_from whole s.limit (place + s.limit) (drop s.limit octets) s.flags.fin s.flags.push)) (omega (arith, long))
          (pieces_lawful s whole (place + s.limit) (drop s.limit octets) some (omega (arith, left, more, times)) (omega (arith, left, more, times))
          (omega (arith, left, most, times))),
    )

pub cut_lawful : (s : Sent) (place : ℕ) (octets : List ℕ) → 1 ≤ s.limit → 1 ≤ length octets
    → ArePieces s place octets (pieces s.limit place octets s.flags.fin s.flags.push)
cut_lawful s place octets some few =
    let whole = (length octets - 1) / s.limit in
    let less : whole * s.limit ≤ length octets - 1 = div-mul-le_self (length octets - 1) s.limit in
    let more : length octets - 1 < whole * s.limit + s.limit = lt-div-mul-add (omega arith) in
    subst (ArePieces s place octets) (sym (pieces_are s.limit place octets s.flags.fin s.flags.push))
    (pieces_lawful s whole place octets some few (omega (arith, less)) (omega (arith, more)))

-- the way of the definitions is lawful
sent_lawful : (s : Sent) (octets : List ℕ) → 1 ≤ s.limit → MaySend s octets (sent_in s octets)
sent_lawful s [] some = refl
sent_lawful s (x ∷ octets) some = (pieces s.limit 0 (x ∷ octets) s.flags.fin s.flags.push, cut_lawful s 0 (x ∷ octets) some (omega arith), refl)

pub in_pieces_lawful : (s : Sent) → 1 ≤ s.limit → IsLawfulWay s (in_pieces s)
in_pieces_lawful s some = sent_lawful s s.octets some

-- the most octets of a piece, whatever goes out
pub limit_by : (old new receiver : Standing) (g : Segment) → (sent_by old new receiver g).limit ≡ limit_of receiver.mss g
limit_by old new receiver g =
    let limit : ℕ = limit_of receiver.mss g in
    let ack : ℕ = acknowledgement_at receiver (acked_with receiver g) in
    elim (cases_Bool g.flags.syn) [
      | inl syn ↦
          let e : sent_by old new receiver g ≡ syn_sent g limit = cond-true g.flags.syn _ _ syn in
          ap (λ (s : Sent). s.limit) e
      | inr not_syn ↦
          elim (cases_Bool g.flags.reset) [
            | inl reset ↦
                let e : sent_by old new receiver g ≡ reset_sent old receiver g limit =
                cond-false g.flags.syn _ _ not_syn ∙ cond-true g.flags.reset _ _ reset in
                ap (λ (s : Sent). s.limit) e
            | inr not_reset ↦
                let e : sent_by old new receiver g ≡ other_sent old.extent new (start_at old.extent (arrival g)) g ack limit =
                cond-false g.flags.syn _ _ not_syn ∙ cond-false g.flags.reset _ _ not_reset in
                ap (λ (s : Sent). s.limit) e ∙ parts_limit new ack g limit _ _ _ _ _ _
          ]
    ]

pub session_limit : (from : Host) (s : Session) (g : Segment) → (session_sent from s g).limit ≡ limit_of (other from s).mss g
session_limit from s g = limit_by (standing (own from s)) (standing (taken (own from s) g)) (standing (other from s)) g

pub session_lawful : (from : Host) (s : Session) (g : Segment) → 1 ≤ limit_of (other from s).mss g
    → IsLawfulWay (session_sent from s g) (session_out from s g)
session_lawful from s g some = in_pieces_lawful (session_sent from s g) (omega (arith, some, session_limit from s g))
