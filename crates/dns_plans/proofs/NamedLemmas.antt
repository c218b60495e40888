-- The way through the units of octets.
use Rattle.std.proofs.Common.{◌≡◌, ◌≤◌, ◌+◌, ℕ, Bool, true, false, List, [], ◌∷◌, ◌++◌, length, take, drop, refl, sym, ◌∙◌, ap, arith, append_assoc, Some, None, map, ◌||◌}
use Rattle.std.specs.List.{flat_map, list_any}
use Rattle.std.proofs.lemmas.List.{append-nil, length-drop, drop-drop, map-append}
use Rattle.gate_base.specs.declared.address.Addr.{Addr}
use Rattle.dialogue.specs.Prelude.{Cut}
use Rattle.dns_stream.specs.Prelude.{dns_units, dns_units-lawful, unit_end, unit_addresses}
use Rattle.dialogue.proofs.FirstUnit.{cut-first, cut-rest}
use Rattle.gate_model.specs.Prelude.{addresses_in, is_bad}
use Rattle.dns_plans.specs.Prelude.{whole_units, AreRead, unit_of}
use Rattle.dns_plans.specs.declared.named.ReadUnit.{ReadUnit}

-- one of the units is bad
abbrev has_bad : List (List ℕ) → Bool
has_bad units = list_any is_bad units

-- what stands behind a place, as a range
pub units-first : (s : List ℕ) (n : ℕ) → unit_end s ≡ Some n → whole_units s ≡ take n s ∷ whole_units (drop n s)
units-first s n e = ap (λ (c : Cut). c.units) (cut-first (dns_units []) (dns_units-lawful []) s n e)

pub units-none : (s : List ℕ) → unit_end s ≡ None → whole_units s ≡ []
units-none s e = ap (λ (c : Cut). c.units) (cut-rest (dns_units []) (dns_units-lawful []) s e)

-- addresses by their numbers are themselves
pub by_numbers : (xs : List Addr) → map (λ number. let one : Addr = record { 0 = number } in one) (map (λ (a : Addr). a.0) xs) ≡ xs
by_numbers [] = refl
by_numbers (x ∷ xs) = ap (λ (ys : List Addr). x ∷ ys) (by_numbers xs)

pub of_unit : (xs : List Addr) (u : List ℕ) → map (λ (a : Addr). a.0) xs ≡ unit_addresses u → xs ≡ addresses_in (u ∷ [])
of_unit xs u e =
    sym (by_numbers xs)
    ∙ ap (map (λ number. let one : Addr = record { 0 = number } in one)) (e ∙ sym (append-nil (unit_addresses u)))

addresses-first : (u : List ℕ) (us : List (List ℕ)) → addresses_in (u ∷ us) ≡ addresses_in (u ∷ []) ++ addresses_in us
addresses-first u us =
    map-append _ (unit_addresses u) (flat_map unit_addresses us)
    ∙ ap (λ (ns : List ℕ). map (λ number. let one : Addr = record { 0 = number } in one) ns ++ addresses_in us) (sym (append-nil (unit_addresses u)))

-- from the front to a place no unit is bad, and these are their addresses
pub record UnderWay (octets : List ℕ) (at : ℕ) (named : List Addr) : Type 0 where
  pub within : at ≤ length octets
  pub names : addresses_in (whole_units octets) ≡ named ++ addresses_in (whole_units (drop at octets))
  pub good : has_bad (whole_units octets) ≡ has_bad (whole_units (drop at octets))

pub goes_on : (octets : List ℕ) (at n : ℕ) (named more : List Addr) → UnderWay octets at named → unit_end (drop at octets) ≡ Some n
    → n ≤ length (drop at octets) → more ≡ named ++ addresses_in (take n (drop at octets) ∷ []) → is_bad (take n (drop at octets)) ≡ false
    → UnderWay octets (at + n) more
goes_on octets at n named more w e within names good =
    let first : whole_units (drop at octets) ≡ take n (drop at octets) ∷ whole_units (drop n (drop at octets)) = units-first (drop at octets) n e in
    let next : drop n (drop at octets) ≡ drop (at + n) octets = drop-drop n at octets ∙ ap (λ (i : ℕ). drop i octets) (omega arith) in
    let both : whole_units (drop at octets) ≡ take n (drop at octets) ∷ whole_units (drop (at + n) octets) = first
    ∙ ap (λ (s : List ℕ). take n (drop at octets) ∷ whole_units s) next in
    record {
      within = omega (arith, within, length-drop at octets, w.within);
      names =
          w.names
          ∙ ap (λ us. named ++ addresses_in us) both
          ∙ ap (λ (xs : List Addr). named ++ xs) (addresses-first (take n (drop at octets)) (whole_units (drop (at + n) octets)))
          ∙ sym (append_assoc named (addresses_in (take n (drop at octets) ∷ [])) (addresses_in (whole_units (drop (at + n) octets))))
          ∙ ap (λ (xs : List Addr). xs ++ addresses_in (whole_units (drop (at + n) octets))) (sym names);
      good = w.good ∙ ap has_bad both ∙ ap (λ (b : Bool). b || has_bad (whole_units (drop (at + n) octets))) good;
    }

pub begins : (octets : List ℕ) → UnderWay octets 0 []
begins octets = record { within = omega arith; names = refl; good = refl }

pub all_named : (octets : List ℕ) (at : ℕ) (named : List Addr) → UnderWay octets at named → unit_end (drop at octets) ≡ None
    → named ≡ addresses_in (whole_units octets)
all_named octets at named w e = sym (w.names ∙ ap (λ us. named ++ addresses_in us) (units-none (drop at octets) e) ∙ append-nil _)

pub all_good : (octets : List ℕ) (at : ℕ) (named : List Addr) → UnderWay octets at named → unit_end (drop at octets) ≡ None
    → has_bad (whole_units octets) ≡ false
all_good octets at named w e = w.good ∙ ap has_bad (units-none (drop at octets) e)

pub one_bad : (octets : List ℕ) (at n : ℕ) (named : List Addr) → UnderWay octets at named → unit_end (drop at octets) ≡ Some n
    → is_bad (take n (drop at octets)) ≡ true → has_bad (whole_units octets) ≡ true
one_bad octets at n named w e bad =
    w.good ∙ ap has_bad (units-first (drop at octets) n e) ∙ ap (λ (b : Bool). b || has_bad (whole_units (drop n (drop at octets)))) bad

-- from the front to a place the units are read
pub record ReadSoFar (octets : List ℕ) (at : ℕ) (units : List ReadUnit) : Type 0 where
  pub units_are : whole_units octets ≡ map unit_of units ++ whole_units (drop at octets)
  pub each : AreRead units

pub reads_on : (octets : List ℕ) (at n : ℕ) (units more : List ReadUnit) → ReadSoFar octets at units → unit_end (drop at octets) ≡ Some n
    → map unit_of more ≡ map unit_of units ++ take n (drop at octets) ∷ [] → AreRead more → ReadSoFar octets (at + n) more
reads_on octets at n units more w e are each =
    let next : drop n (drop at octets) ≡ drop (at + n) octets = drop-drop n at octets ∙ ap (λ (i : ℕ). drop i octets) (omega arith) in
    let both : whole_units (drop at octets) ≡ take n (drop at octets) ∷ whole_units (drop (at + n) octets) = units-first (drop at octets) n e
    ∙ ap (λ (s : List ℕ). take n (drop at octets) ∷ whole_units s) next in
    record {
      units_are =
          w.units_are
          ∙ ap (λ (us : List (List ℕ)). map unit_of units ++ us) both
          ∙ sym (append_assoc (map unit_of units) (take n (drop at octets) ∷ []) (whole_units (drop (at + n) octets)))
          ∙ ap (λ (us : List (List ℕ)). us ++ whole_units (drop (at + n) octets)) (sym are);
      each = each;
    }

pub all_read : (octets : List ℕ) (at : ℕ) (units : List ReadUnit) → ReadSoFar octets at units → unit_end (drop at octets) ≡ None
    → map unit_of units ≡ whole_units octets
all_read octets at units w e = sym (w.units_are ∙ ap (λ (us : List (List ℕ)). map unit_of units ++ us) (units-none (drop at octets) e) ∙ append-nil _)
