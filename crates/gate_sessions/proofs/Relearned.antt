-- What is kept of a session is kept of the session that has learned more.
use Rattle.std.proofs.Common.{◌≡◌, ℕ, Bool, true, false, cond, List, [], ◌∷◌, ◌++◌, length, map, drop, refl, sym, ◌∙◌, ap, subst, min, bytes_eq}
use Rattle.std.specs.List.{AllByRecursion}
use Rattle.dialogue.specs.Prelude.{Entry, AllListed, ReadAlike, Push, Plain, cut, due_rest, push_if, push_of, is_released}
use Rattle.dialogue.proofs.Alike.{learned_alike, back_alike}
use Rattle.dns_stream.specs.Prelude.{unit_addresses, dns_units, dns_units-learning}
use Rattle.shift_ledger.specs.Prelude.{StandsFor}
use Rattle.stream_model.specs.Prelude.{Sender}
use Rattle.compact_stream.specs.Prelude.{CompactSender, KeepsSender, InRange, held_rest}

pushes_alike : (es fs : List Entry) (us : List (List ℕ)) → AllByRecursion (λ u. (dns_units es).image u ≡ (dns_units fs).image u) us
    → map (push_of (dns_units es)) us ≡ map (push_of (dns_units fs)) us
pushes_alike es fs [] h = refl
pushes_alike es fs (u ∷ us) h =
    let one : push_of (dns_units es) u ≡ push_of (dns_units fs) u = ap (λ i. push_if (bytes_eq i u) u i) h.0 in
    ap (λ p. p ∷ map (push_of (dns_units es)) us) one ∙ ap (λ ps. push_of (dns_units fs) u ∷ ps) (pushes_alike es fs us h.1)

same_held : (es fs : List Entry) (r : List ℕ) → held_rest (dns_units es) r ≡ held_rest (dns_units fs) r
same_held es fs [] = refl
same_held es fs (x ∷ r) = refl

same_released : (es fs : List Entry) (r : List ℕ) → is_released (dns_units es) r ≡ is_released (dns_units fs) r
same_released es fs [] = refl
same_released es fs (x ∷ r) = refl

same_due : (es fs : List Entry) (ended : Bool) (r : List ℕ) → due_rest (dns_units es) ended r ≡ due_rest (dns_units fs) ended r
same_due es fs true r = refl
same_due es fs false [] = refl
same_due es fs false (x ∷ r) = refl

-- a sender whose list is longer, where it lists what the whole units name already
pub keeps_longer : (es fs : List Entry) (h : CompactSender) (a : Sender) → ((more : List Entry) × (fs ≡ es ++ more))
    → AllByRecursion (λ u. AllListed es (unit_addresses u)) (cut (dns_units es) a.octets).units → KeepsSender (dns_units es) h a
    → KeepsSender (dns_units fs) h (record a { meaning = dns_units fs })
keeps_longer es fs h a more listed k =
    let alike =
    subst (λ (xs : List Entry). ReadAlike (dns_units es) (dns_units xs) a.octets) (sym more.1)
    (learned_alike unit_addresses dns_units es more.0 a.octets dns_units-learning listed) in
    let c = cut (dns_units es) a.octets in
    record {
      is = ap (λ (x : Sender). let y : Sender = record x { meaning = dns_units fs } in y) k.is;
      keeps = record {
        rest = k.keeps.rest ∙ ap (λ (r : List ℕ). cond h.ended [] r) (same_held es fs (cut (dns_units es) a.octets).rest);
        released = λ e. k.keeps.released e ∙ same_released es fs (cut (dns_units es) a.octets).rest;
        ledger = subst (λ (ps : List Push). StandsFor h.ledger ps (min h.acked h.ledger.octets_out))
            (ap (λ (ps : List Push). ps ++ Plain (length (due_rest (dns_units es) h.ended (cut (dns_units es) a.octets).rest)) ∷ [])
            (pushes_alike es fs (cut (dns_units es) a.octets).units alike.image)
            ∙ ap (λ (r : List ℕ). map (push_of (dns_units fs)) (cut (dns_units es) a.octets).units ++ Plain (length r) ∷ [])
            (same_due es fs h.ended (cut (dns_units es) a.octets).rest))
            k.keeps.ledger;
        recent = k.keeps.recent ∙ ap (λ (n : ℕ). drop n a.octets) (back_alike (dns_units es) (dns_units fs) h.ended a.octets h.acked alike);
      };
    }

pub in_range_longer : (es fs : List Entry) (h : CompactSender) → InRange (dns_units es) h → InRange (dns_units fs) h
in_range_longer es fs h r = record { octets = r.octets; image = r.image; acked = r.acked; rest = r.rest; recent = r.recent }
