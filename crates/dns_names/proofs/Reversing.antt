-- Reverse names, and the octets that spell them.
use Rattle.std.proofs.Common.{◌≡◌, ℕ, ◌+◌, ◌*◌, ◌/◌, ◌%◌, ◌≤◌, ◌<◌, ◌^◌, true, false, cond, List, [], ◌∷◌, ◌++◌, length, map, Option, Some, None, refl, sym, ap, subst, ◌∙◌, arith, decimal, inl, inr, nat_lt, ◌==◌, IsSome, codes}
use Rattle.std.specs.Str.{str_eq_ignore_ascii_case}
use Rattle.std.specs.Char.{to_ascii_lowercase}
use Rattle.std.proofs.lemmas.Fmt.{decimal_nonempty, length-decimal-le}
use Rattle.std.proofs.lemmas.Bool.{cases_Bool, le-ltb, and_parts}
use Rattle.std.proofs.lemmas.Slice.Eq.{bytes_eq-Decides}
use Rattle.std.proofs.lemmas.List.{take_at, drop_at, length-append, length-map}
use Rattle.std.proofs.lemmas.Grind.{flat_map-append}
use Rattle.gate_base.specs.Prelude.{◌>>=◌, number_of}
use Rattle.gate_base.proofs.Quads.{number_again, bind_some}
use Rattle.dns_names.specs.Prelude.{spelled, spelled_label, IsLabel, IsName, IsSpelled, labels_in, numbers, with_address, label_in, behind}
use Rattle.dns_names.specs.Reverse.{is_zone, full_reverse}
use Rattle.dns_names.specs.Inside.Octets.{reverse_in}
use Rattle.dns_names.proofs.Walking.{labels_in-spelled}

label_in-spelled : (l : List ℕ) (ls : List (List ℕ)) → label_in (spelled (l ∷ ls)) ≡ Some (l, spelled ls)
label_in-spelled l ls =
    let fits : nat_lt (length (l ++ spelled ls)) (length l) ≡ false = le-ltb _ _ (omega (arith, length-append l (spelled ls))) in
    rw (fits, take_at l (spelled ls) (length l) refl, drop_at l (spelled ls) (length l) refl) refl

behind-spelled : (l : List ℕ) (ls : List (List ℕ)) → behind (spelled (l ∷ ls)) ≡ spelled ls
behind-spelled l ls = drop_at l (spelled ls) (length l) refl

-- nothing may stand behind the sixth label
at_end : (d c b a z t : List ℕ) (more : List (List ℕ)) → cond (length (spelled more) == 0) (full_reverse (d ∷ c ∷ b ∷ a ∷ z ∷ t ∷ [])) None
    ≡ full_reverse (d ∷ c ∷ b ∷ a ∷ z ∷ t ∷ more)
unfolding full_reverse
at_end d c b a z t [] = refl
at_end d c b a z t (x ∷ xs) = let more : (length (spelled (x ∷ xs)) == 0) ≡ false = grind arith in rw more refl

pub reverse_in-spelled : (labels : List (List ℕ)) → reverse_in (spelled labels) ≡ full_reverse labels
unfolding reverse_in full_reverse
reverse_in-spelled [] = refl
reverse_in-spelled (d ∷ []) = rw (label_in-spelled d []) refl
reverse_in-spelled (d ∷ c ∷ []) = rw (label_in-spelled d (c ∷ []), label_in-spelled c []) refl
reverse_in-spelled (d ∷ c ∷ b ∷ []) = rw (label_in-spelled d (c ∷ b ∷ []), label_in-spelled c (b ∷ []), label_in-spelled b []) refl
reverse_in-spelled (d ∷ c ∷ b ∷ a ∷ []) =
    rw (label_in-spelled d (c ∷ b ∷ a ∷ []), label_in-spelled c (b ∷ a ∷ []), label_in-spelled b (a ∷ []), label_in-spelled a []) refl
reverse_in-spelled (d ∷ c ∷ b ∷ a ∷ z ∷ []) =
    rw (
      label_in-spelled d (c ∷ b ∷ a ∷ z ∷ []),
      label_in-spelled c (b ∷ a ∷ z ∷ []),
      label_in-spelled b (a ∷ z ∷ []),
      label_in-spelled a (z ∷ []),
      label_in-spelled z [],
    ) refl
reverse_in-spelled (d ∷ c ∷ b ∷ a ∷ z ∷ t ∷ more) =
    rw (
      label_in-spelled d (c ∷ b ∷ a ∷ z ∷ t ∷ more),
      label_in-spelled c (b ∷ a ∷ z ∷ t ∷ more),
      label_in-spelled b (a ∷ z ∷ t ∷ more),
      label_in-spelled a (z ∷ t ∷ more),
      label_in-spelled z (t ∷ more),
      label_in-spelled t more,
    ) (at_end d c b a z t more)

-- ---- the parts of a full reverse name

pub record Parts (name : List (List ℕ)) : Type 0 where
  pub d : List ℕ
  pub c : List ℕ
  pub b : List ℕ
  pub a : List ℕ
  pub zone : List ℕ
  pub top : List ℕ
  pub is : name ≡ d ∷ c ∷ b ∷ a ∷ zone ∷ top ∷ []
  pub zone_is : is_zone zone top ≡ true

zone_known : (zone top : List ℕ) (x y : ℕ) → cond (is_zone zone top) (Some x) None ≡ Some y → is_zone zone top ≡ true
zone_known zone top x y e =
    elim (cases_Bool (is_zone zone top)) [
      | inl t ↦ t
      | inr f ↦ absurd (let h = rw f at e in cc)
    ]

pub parts : (name : List (List ℕ)) (x : ℕ) → full_reverse name ≡ Some x → Parts name
unfolding full_reverse
parts [] x e = absurd cc
parts (d ∷ []) x e = absurd cc
parts (d ∷ c ∷ []) x e = absurd cc
parts (d ∷ c ∷ b ∷ []) x e = absurd cc
parts (d ∷ c ∷ b ∷ a ∷ []) x e = absurd cc
parts (d ∷ c ∷ b ∷ a ∷ z ∷ []) x e = absurd cc
parts (d ∷ c ∷ b ∷ a ∷ z ∷ t ∷ k ∷ ks) x e = absurd cc
parts (d ∷ c ∷ b ∷ a ∷ z ∷ t ∷ []) x e =
    let p = bind_some (number_of d)
    (λ d. number_of c >>= (λ c. number_of b >>=
    (λ b. number_of a >>= (λ a. cond (is_zone z t) (Some (((a * 256 + b) * 256 + c) * 256 + d)) None)))) x e in
    let q = bind_some (number_of c)
    (λ c. number_of b >>= (λ b. number_of a >>= (λ a. cond (is_zone z t) (Some (((a * 256 + b) * 256 + c) * 256 + p.0)) None))) x p.2 in
    let r = bind_some (number_of b) (λ b. number_of a >>= (λ a. cond (is_zone z t) (Some (((a * 256 + b) * 256 + q.0) * 256 + p.0)) None)) x q.2 in
    let s = bind_some (number_of a) (λ a. cond (is_zone z t) (Some (((a * 256 + r.0) * 256 + q.0) * 256 + p.0)) None) x r.2 in
    record { d = d; c = c; b = b; a = a; zone = z; top = t; is = refl; zone_is = zone_known z t (((s.0 * 256 + r.0) * 256 + q.0) * 256 + p.0) x s.2 }

-- ---- the reverse name of another address

pub reverse_again : (address : ℕ) (zone top : List ℕ) → address < 2 ^ 32 → is_zone zone top ≡ true → full_reverse (numbers address ++ zone ∷ top ∷ [])
    ≡ Some address
unfolding full_reverse
reverse_again address zone top lt is =
    let whole : ((address / 16777216 * 256 + address / 65536 % 256) * 256 + address / 256 % 256) * 256 + address % 256 ≡ address = omega arith in
    rw (
      number_again (address % 256) (omega arith),
      number_again (address / 256 % 256) (omega arith),
      number_again (address / 65536 % 256) (omega arith),
      number_again (address / 16777216) (omega arith),
      is,
    ) (ap (λ (n : ℕ). Some n) whole)

pub zone_sizes : (zone top : List ℕ) → is_zone zone top ≡ true → (length zone ≡ 7) × (length top ≡ 4)
zone_sizes zone top e =
    let p = and_parts (str_eq_ignore_ascii_case zone (codes "in-addr")) (str_eq_ignore_ascii_case top (codes "arpa")) e in
    let z = ap length ((bytes_eq-Decides (map to_ascii_lowercase zone) (map to_ascii_lowercase (codes "in-addr"))).0 p.0) in
    let t = ap length ((bytes_eq-Decides (map to_ascii_lowercase top) (map to_ascii_lowercase (codes "arpa"))).0 p.1) in
    (sym (length-map zone to_ascii_lowercase) ∙ z, sym (length-map top to_ascii_lowercase) ∙ t)

pub small_number : (n : ℕ) → n < 256 → IsLabel (decimal n) × (length (decimal n) ≤ 3)
small_number n lt =
    let some = decimal_nonempty n (omega arith) in
    let short = length-decimal-le 3 n (omega arith) (omega arith) (omega arith) in
    ((omega arith, omega arith), short)

-- It is a name, and what is written spells it.
pub record Names (address : ℕ) (name : List (List ℕ)) (octets : List ℕ) : Type 0 where
  pub spelled_is : IsSpelled octets name
  pub labels_are : labels_in octets ≡ name
  pub again : full_reverse name ≡ Some address

-- the labels of an address and of a zone are a name
address_is_name : (address : ℕ) (zone top : List ℕ) → address < 2 ^ 32 → is_zone zone top ≡ true → IsName (numbers address ++ zone ∷ top ∷ [])
address_is_name address zone top lt is =
    let d = small_number (address % 256) (omega arith) in
    let c = small_number (address / 256 % 256) (omega arith) in
    let b = small_number (address / 65536 % 256) (omega arith) in
    let a = small_number (address / 16777216) (omega arith) in
    let sizes = zone_sizes zone top is in
    let z : IsLabel zone = (omega arith, omega arith) in
    let t : IsLabel top = (omega arith, omega arith) in
    record {
      labels = (d.0, (c.0, (b.0, (a.0, (z, (t, tt))))));
      short = is_short (decimal (address % 256)) (decimal (address / 256 % 256)) (decimal (address / 65536 % 256)) (decimal (address / 16777216)) zone
          top d.1 c.1 b.1 a.1 (omega arith) (omega arith);
    }
  where
    is_short : (d c b a z t : List ℕ) → length d ≤ 3 → length c ≤ 3 → length b ≤ 3 → length a ≤ 3 → length z ≤ 7 → length t ≤ 4
        → length (spelled (d ∷ c ∷ b ∷ a ∷ z ∷ t ∷ [])) ≤ 254
    is_short d c b a z t ld lc lb la lz lt = simp length-append (omega arith)

renames_by : (address : ℕ) (old : List (List ℕ)) (octets : List ℕ) → address < 2 ^ 32 → Parts old
    → octets ≡ spelled (numbers address) ++ behind (behind (behind (behind (spelled old)))) → Names address (with_address address old) octets
renames_by address old octets lt p e =
    let name = numbers address ++ p.zone ∷ p.top ∷ [] in
    let with_is : with_address address old ≡ name = ap (with_address address) p.is in
    let rest : behind (behind (behind (behind (spelled old)))) ≡ spelled (p.zone ∷ p.top ∷ []) =
    ap (λ (x : List (List ℕ)). behind (behind (behind (behind (spelled x))))) p.is
    ∙ ap (λ (x : List ℕ). behind (behind (behind x))) (behind-spelled p.d (p.c ∷ p.b ∷ p.a ∷ p.zone ∷ p.top ∷ []))
    ∙ ap (λ (x : List ℕ). behind (behind x)) (behind-spelled p.c (p.b ∷ p.a ∷ p.zone ∷ p.top ∷ []))
    ∙ ap behind (behind-spelled p.b (p.a ∷ p.zone ∷ p.top ∷ [])) ∙ behind-spelled p.a (p.zone ∷ p.top ∷ []) in
    let octets_are : octets ≡ spelled name = e ∙ ap (λ (x : List ℕ). spelled (numbers address) ++ x) rest
    ∙ sym (flat_map-append spelled_label (numbers address) (p.zone ∷ p.top ∷ [])) in
    subst (λ (x : List (List ℕ)). Names address x octets) (sym with_is) (record {
      spelled_is = record { octets_are = octets_are; is_name = address_is_name address p.zone p.top lt p.zone_is };
      labels_are = labels_in-spelled octets name octets_are;
      again = reverse_again address p.zone p.top lt p.zone_is;
    })

parts_by : (old : List (List ℕ)) (o : Option ℕ) → full_reverse old ≡ o → IsSome o → Parts old
parts_by old (Some x) e some = parts old x e
parts_by old None e some = absurd cc

pub renames : (address : ℕ) (old : List (List ℕ)) (octets : List ℕ) → address < 2 ^ 32 → IsSome (full_reverse old)
    → octets ≡ spelled (numbers address) ++ behind (behind (behind (behind (spelled old)))) → Names address (with_address address old) octets
renames address old octets lt some e = renames_by address old octets lt (parts_by old (full_reverse old) refl some) e
