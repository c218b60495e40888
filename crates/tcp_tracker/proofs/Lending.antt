-- A session that is lent.
use Rattle.std.proofs.Common.{◌≡◌, ℕ, zero, suc, List, [], ◌∷◌, length, set, Option, Some, None, is_some, refl, sym, ◌∙◌, ap, subst, filter, option_and_then, slice_index_or, IsSome, IfSome}
use Rattle.std.proofs.lemmas.List.Sums.{length-filter}
use Rattle.slab.specs.Slab.{Slab, get, slab_len, with_value}
use Rattle.slab.proofs.SlabLemmas.{Updates-with_value}
use Rattle.tcp_tracker.specs.Prelude.{connection_of, joined, replaced, IsKept, IsJoined}
use Rattle.tcp_tracker.specs.declared.connection.ConnKey.{ConnKey}
use Rattle.tcp_tracker.specs.declared.connection.Connection.{Connection}
use Rattle.tcp_tracker.proofs.Joining.{found_kept}
use Rattle.tcp_tracker.proofs.Replacing.{replaced_is, replaced_joined}

filled : {X : Type 0} (xs : List (Option X)) (k : ℕ) (v : X) → IsSome (slice_index_or xs k None) → length (filter is_some (set xs k (Some v)))
    ≡ length (filter is_some xs)
filled [] k v h = refl
filled (Some x ∷ xs) zero v h = refl
filled (None ∷ xs) zero v h = absurd (cc)
filled (Some x ∷ xs) (suc k) v h = ap suc (filled xs k v h)
filled (None ∷ xs) (suc k) v h = filled xs k v h

len_with : {X : Type 0} (slots : Slab X) (slot : ℕ) (v : X) → IsSome (get slots slot) → slab_len (with_value slots slot v) ≡ slab_len slots
len_with slots slot v h = sym (length-filter is_some (with_value slots slot v).slots) ∙ filled slots.slots slot v h
    ∙ length-filter is_some slots.slots

pub slot_filled : {X : Type 0} (slots : Slab X) (all : List (Connection ℕ)) (key : ConnKey) (slot : ℕ) → IsJoined all slots
    → option_and_then (λ (c : Connection ℕ). c.session) (connection_of key all) ≡ Some slot → IsSome (get slots slot)
slot_filled slots all key slot j e = by_found (connection_of key all) e (found_kept slots key all j.kept)
  where
    by_slot : (o : Option ℕ) → o ≡ Some slot → IfSome o (λ s. IsSome (get slots s)) → IsSome (get slots slot)
    by_slot o e k = subst (λ (p : Option ℕ). IfSome p (λ s. IsSome (get slots s))) e k

    by_found : (o : Option (Connection ℕ)) → option_and_then (λ (c : Connection ℕ). c.session) o ≡ Some slot → IfSome o (IsKept slots)
        → IsSome (get slots slot)
    by_found None e k = absurd (cc)
    by_found (Some c) e k = by_slot c.session e k

pub lent_joined : {X : Type 0} (slots : Slab X) (all : List (Connection ℕ)) (slot : ℕ) (v : X) → IsJoined all slots → IsSome (get slots slot)
    → IsJoined all (with_value slots slot v)
lent_joined slots all slot v j h = replaced_joined slots (with_value slots slot v) all slot v j (Updates-with_value slots slot v h)
    (len_with slots slot v h) refl

pub lent_is : {X : Type 0} (slots : Slab X) (all : List (Connection ℕ)) (key : ConnKey) (slot : ℕ) (v : X) → IsJoined all slots
    → option_and_then (λ (c : Connection ℕ). c.session) (connection_of key all) ≡ Some slot
    → joined (with_value slots slot v) all ≡ replaced (joined slots all) key v
lent_is slots all key slot v j e = replaced_is slots (with_value slots slot v) all key slot v j e
    (Updates-with_value slots slot v (slot_filled slots all key slot j e))

pub lent_each : {X : Type 0} (slots : Slab X) (all : List (Connection ℕ)) (key : ConnKey) (slot : ℕ) (now : List (Connection X))
    → joined slots all ≡ now → IsJoined all slots → option_and_then (λ (c : Connection ℕ). c.session) (connection_of key all) ≡ Some slot
    → ◌≡◌ {A = X → List (Connection X)} (λ w. joined (with_value slots slot w) all) (λ w. replaced now key w)
lent_each {X = X} slots all key slot now same j e = λ i w. (each w) i
  where
    each : (w : X) → joined (with_value slots slot w) all ≡ replaced now key w
    each w = lent_is slots all key slot w j e ∙ ap (λ (n : List (Connection X)). replaced n key w) same
