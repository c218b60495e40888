-- What waits on a slot.
use Rattle.std.proofs.Common.{◌≡◌, ◌⊎◌, ◌<◌, inl, inr, ℕ, List, [], ◌++◌, Option, Some, None, IfSome, IsSome, Result, Ok, Err, OnOk, OnErr, false, length, refl, sym, ◌∙◌, ap, subst, is_some}
use Rattle.std.proofs.lemmas.Bool.{false≢true}
use Rattle.file_desk.specs.declared.gathered.Gathering.{Gathering}
use Rattle.file_desk.specs.declared.gathered.Gathering.TheVariants.{Gathered, NoRoom, Refused}
use Rattle.gate_desk.specs.declared.slot.Slot.{Slot}
use Rattle.gate_desk.specs.declared.slot.Slot.TheVariants.{Errors}
use Rattle.gate_desk.specs.declared.slot.PerSlot.{PerSlot}
use Rattle.gate_desk.specs.Slots.{at, put, each}
use Rattle.file_desk.specs.declared.place.Place.{Place}
use Rattle.file_desk.specs.Gathering.{Waits, waiting}
use Rattle.file_desk.specs.Inside.Gathering.{RefusedWaits, StaysWaiting, waiting_in, gathered_after}
use Rattle.gate_desk.proofs.Laws.{at-each, at-mapped, mapped-put, put-at}

-- a piece waits alone where nothing waited before
waits_put : (s : Slot) (piece : List ℕ) (old : PerSlot (List ℕ)) → Waits s piece old (put (each []) s piece)
waits_put Errors piece old = tt
waits_put s piece old = inr refl

pub waits_alone : (s : Slot) (piece : List ℕ) (old a b : PerSlot (List ℕ)) (r : Gathering) → a ≡ each []
    → b ≡ put a s (gathered_after r piece (at a s)) → r ≡ Gathered → Waits s piece old b
waits_alone s piece old a b r none e is =
    subst (Waits s piece old)
    (sym (e ∙ ap (λ x. put a s (gathered_after x piece (at a s))) is ∙ ap (λ x. put x s (at x s ++ piece)) none
    ∙ ap (λ x. put (each []) s (x ++ piece)) (at-each [] s))) (waits_put s piece old)

-- a piece that found no room changed nothing
pub waits_later : {A E : Type 0} (result : Result A E) (s : Slot) (piece : List ℕ) (old a b : PerSlot (List ℕ)) (r : Gathering)
    → a ≡ put old s (gathered_after r piece (at old s)) → r ≡ NoRoom → OnOk result (Waits s piece a b) → OnOk result (Waits s piece old b)
waits_later result s piece old a b r e is waits = subst (λ x. OnOk result (Waits s piece x b))
    (e ∙ ap (λ x. put old s (gathered_after x piece (at old s))) is ∙ put-at old s) waits

-- a piece was gathered at the place of its slot
pub gathered_at : {F A : Type 0} (places : PerSlot (Place F A)) (s : Slot) (piece : List ℕ) (r : Gathering) (before after : Place F A)
    → before ≡ at places s → waiting after ≡ gathered_after r piece (waiting before)
    → waiting_in (put places s after) ≡ put (waiting_in places) s (gathered_after r piece (at (waiting_in places) s))
gathered_at places s piece r before after there e =
    mapped-put waiting places s after ∙ ap (put (waiting_in places) s)
    (e ∙ ap (gathered_after r piece) (ap waiting there ∙ sym (at-mapped waiting places s)))

-- a line of errors waits nowhere
pub waits_nowhere : {A E : Type 0} (result : Result A E) (s : Slot) (piece : List ℕ) (old new : PerSlot (List ℕ)) → s ≡ Errors
    → OnOk result (Waits s piece old new)
waits_nowhere (Ok x) s piece old new e = subst (λ (s : Slot). Waits s piece old new) (sym e) tt
waits_nowhere (Err x) s piece old new e = tt

-- a piece waits behind what waited
waits_more : (s : Slot) (piece : List ℕ) (old : PerSlot (List ℕ)) → Waits s piece old (put old s (at old s ++ piece))
waits_more Errors piece old = tt
waits_more s piece old = inl refl

pub waits_behind : (s : Slot) (piece : List ℕ) (old new : PerSlot (List ℕ)) (r : Gathering) → new ≡ put old s (gathered_after r piece (at old s))
    → r ≡ Gathered → Waits s piece old new
waits_behind s piece old new r e is = subst (Waits s piece old) (sym (e ∙ ap (λ x. put old s (gathered_after x piece (at old s))) is))
    (waits_more s piece old)

-- where none was refused, nothing has to wait
pub none_refused : (refused : Option Slot) (waiting : PerSlot (List ℕ)) → false ≡ is_some refused → RefusedWaits refused waiting
none_refused None waiting e = tt
none_refused (Some slot) waiting e = absurd (false≢true e)

-- what is left waiting of a refused slot waits
pub still_waits : (refused : Option Slot) (old new : PerSlot (List ℕ)) → IfSome refused (λ slot. StaysWaiting slot old new) → RefusedWaits refused new
still_waits None old new h = tt
still_waits (Some slot) old new h = subst (λ (xs : List ℕ). 0 < length xs) (sym h.1) h.0

-- where no slot is refused afterwards, all was handed out, and none was refused before
pub none_failed : {A E P : Type 0} (result : Result A E) (refused : Option Slot) → OnErr result (IsSome refused) → refused ≡ None → OnOk result P → P
none_failed (Ok x) refused err none h = h
none_failed (Err y) refused err none h = absurd (false≢true (subst (λ (o : Option Slot). IsSome o) none err))

pub none_before : (old new : Option Slot) → (IsSome old → new ≡ old) → new ≡ None → old ≡ None
none_before None new kept none = refl
none_before (Some slot) new kept none = sym (kept refl) ∙ none

pub some_none : (o : Option Slot) → IsSome o → o ≡ None → ⊥
some_none o some none = false≢true (subst (λ (p : Option Slot). IsSome p) none some)

-- what wasn't gathered waits nowhere
pub not_gathered : (s : Slot) (piece : List ℕ) (a b : PerSlot (List ℕ)) (r : Gathering) → b ≡ put a s (gathered_after r piece (at a s))
    → ((r ≡ NoRoom) ⊎ (r ≡ Refused)) → b ≡ a
not_gathered s piece a b r e not =
    elim not [
      | inl is ↦ e ∙ ap (λ (x : Gathering). put a s (gathered_after x piece (at a s))) is ∙ put-at a s
      | inr is ↦ e ∙ ap (λ (x : Gathering). put a s (gathered_after x piece (at a s))) is ∙ put-at a s
    ]
