-- Where there is no datagram yet, and one is put.
use Rattle.std.proofs.Common.{◌≡◌, ◌≤◌, ◌-◌, ℕ, List, [], ◌∷◌, ◌++◌, length, take, drop, sym, ap, subst, ◌∙◌, arith}
use Rattle.std.proofs.lemmas.List.{take_all, take_at}
use Rattle.resegment.specs.Datagrams.{AreDatagrams, AreEnds, datagrams_from}
use Rattle.event_outbox.specs.Inside.One.{IsOne}

one_end : (octets ends : List ℕ) (n : ℕ) → ends ≡ [] → n ≡ length octets → n ≤ 65535 → AreEnds 0 (ends ++ n ∷ []) (length octets)
one_end octets ends n e f few = subst (λ (xs : List ℕ). AreEnds 0 (xs ++ n ∷ []) (length octets)) (sym e) (omega arith, omega arith, f)

one_datagram : (octets ends : List ℕ) (n : ℕ) → ends ≡ [] → n ≡ length octets → datagrams_from 0 octets (ends ++ n ∷ []) ≡ octets ∷ []
one_datagram octets ends n e f = ap (λ (xs : List ℕ). datagrams_from 0 octets (xs ++ n ∷ [])) e
    ∙ ap (λ (k : ℕ). take k octets ∷ []) {x = n - 0} {y = n} (omega arith) ∙ ap (λ (x : List ℕ). x ∷ []) (take_all n octets (omega (arith, f)))

-- a vector that is written over, with so many octets
pub written : (new old : List ℕ) (n : ℕ) → length new ≡ n → take n (new ++ drop (length new) old) ≡ new
written new old n e = take_at new (drop (length new) old) n e

-- their number is the one end
pub ended : (octets ends old : List ℕ) (n : ℕ) → old ≡ [] → ends ≡ old ++ n ∷ [] → n ≡ length octets → n ≤ 65535 → IsOne octets ends
ended octets ends old n none e count few = record {
  datagrams = ap (datagrams_from 0 octets) e ∙ one_datagram octets old n none count;
  bounds = subst (λ (xs : List ℕ). AreEnds 0 xs (length octets)) (sym e) (one_end octets old n none count few);
  few = omega (arith, ap length (e ∙ ap (λ (xs : List ℕ). xs ++ n ∷ []) none));
  short = omega (arith, count, few);
}

-- an outbox of one datagram
pub one_box : (octets lent ends : List ℕ) (most slots : ℕ) → lent ≡ octets → IsOne lent ends → 524288 ≤ most → 4096 ≤ slots
    → AreDatagrams octets ends most slots
one_box octets lent ends most slots same one room places =
    let is = subst (λ (xs : List ℕ). IsOne xs ends) same one in
    record { bounds = is.bounds; few = is.few; short = omega (arith, is.short); room = room; places = places }

pub one_view : (octets lent ends datagram : List ℕ) → lent ≡ octets → IsOne lent ends → octets ≡ datagram
    → datagrams_from 0 octets ends ≡ datagram ∷ []
one_view octets lent ends datagram same one e =
    let is = subst (λ (xs : List ℕ). IsOne xs ends) same one in is.datagrams ∙ ap (λ (xs : List ℕ). xs ∷ []) e
