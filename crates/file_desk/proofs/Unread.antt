-- What is still to be read of slots.
use Rattle.std.proofs.Common.{◌≡◌, ℕ, ◌<◌, ◌≤◌, ◌==◌, ◌⊎◌, inl, inr, Bool, true, false, cond, List, ◌++◌, Option, Some, None, option_map, Result, length, take, drop, refl, ap, sym, subst, ◌∙◌, append_assoc, arith, min}
use Rattle.std.proofs.KnownBytes.{Keeps-refl}
use Rattle.std.proofs.Math.ListN.{drop_of_length-le}
use Rattle.std.proofs.lemmas.Bool.{cases_lt}
use Rattle.std.proofs.lemmas.List.{drop-append-le, take-append-drop}
use Rattle.std.specs.Io.Buffered.{reader_buffer, reader_capacity, reader_inner, reader_remaining}
use Rattle.std.specs.declared.io.buffered.BufReader.{BufReader}
use Rattle.std.specs.Io.KnownBytes.{Consumes, Keeps, IsAtEnd, ReadConsumes, prepend_known}
use Rattle.gate_desk.specs.declared.slot.Slot.{Slot}
use Rattle.gate_desk.specs.declared.slot.Access.{Access}
use Rattle.gate_desk.specs.declared.slot.PerSlot.{PerSlot}
use Rattle.file_desk.specs.declared.place.Place.{Place}
use Rattle.file_desk.specs.declared.place.Place.TheVariants.{Nowhere, Input, Output, StandardOutput}
use Rattle.file_desk.specs.Gathering.{TakesAhead, ahead, got, waiting}
use Rattle.file_desk.specs.Inside.Gathering.{ahead_in, got_in, unread, unread_in, waiting_in, access_of, accesses_in}
use Rattle.gate_desk.specs.Slots.{at, put}
use Rattle.file_desk.specs.Untold.{Files, skipped}
use Rattle.gate_desk.proofs.Laws.{at-mapped, at-put, mapped-put, mapped-same, put-at}

-- octets that were read ahead are gone
pub dropped : (none : Bool) (front : List ℕ) (n : ℕ) (rest : Option (List ℕ)) → n ≤ length front → cond none None (prepend_known (drop n front) rest)
    ≡ option_map (drop n) (cond none None (prepend_known front rest))
dropped true front n rest le = refl
dropped false front n None le = refl
dropped false front n (Some xs) le = ap Some (sym (drop-append-le n front xs le))

drop-min : (xs : List ℕ) (count : ℕ) → (count < length xs) ⊎ (length xs ≤ count) → drop count xs ≡ drop (min count (length xs)) xs
drop-min xs count (inl le) =
    let e : count ≡ min count (length xs) = omega arith in
    ap (λ (k : ℕ). drop k xs) e
drop-min xs count (inr le) =
    let e : length xs ≡ min count (length xs) = omega arith in
    drop_of_length-le xs le ∙ sym (drop_of_length-le xs (omega arith)) ∙ ap (λ (k : ℕ). drop k xs) e

-- so many of them, or all
pub dropped_all : (none : Bool) (front : List ℕ) (count : ℕ) (rest : Option (List ℕ)) → cond none None (prepend_known (drop count front) rest)
    ≡ option_map (drop (min count (length front))) (cond none None (prepend_known front rest))
dropped_all none front count rest =
    ap (λ (xs : List ℕ). cond none None (prepend_known xs rest)) (drop-min front count (cases_lt count (length front)))
    ∙ dropped none front (min count (length front)) rest (omega arith)

-- what a reader's parts make of what is to be read
pub remaining_is : {T A : Type 0} (remaining : T → Option (List ℕ)) (r new : BufReader T A) (front : List ℕ) → reader_buffer new ≡ front
    → reader_inner new ≡ reader_inner r → reader_capacity new ≡ reader_capacity r
    → reader_remaining remaining new ≡ cond (reader_capacity r == 0) None (prepend_known front (remaining (reader_inner r)))
remaining_is {T = T} remaining r new front buffer inner capacity =
    ap (λ (k : ℕ). cond (k == 0) None (prepend_known (reader_buffer new) (remaining (reader_inner new)))) capacity
    ∙ ap (λ (xs : List ℕ). cond (reader_capacity r == 0) None (prepend_known xs (remaining (reader_inner new)))) buffer
    ∙ ap (λ (x : T). cond (reader_capacity r == 0) None (prepend_known front (remaining x))) inner

pub none_dropped : (o : Option (List ℕ)) → option_map (drop 0) o ≡ o
none_dropped None = refl
none_dropped (Some xs) = refl

-- and they stood at the front of what was to be read
consumes-of : (none : Bool) (front : List ℕ) (n : ℕ) (rest : Option (List ℕ)) → n ≤ length front
    → Consumes (cond none None (prepend_known front rest)) (option_map (drop n) (cond none None (prepend_known front rest))) (take n front)
consumes-of true front n rest le = tt
consumes-of false front n None le = tt
consumes-of false front n (Some xs) le =
    let whole : front ++ xs ≡ (take n front ++ drop n front) ++ xs = ap (λ (ys : List ℕ). ys ++ xs) (sym (take-append-drop n front)) in
    whole ∙ append_assoc (take n front) (drop n front) xs ∙ ap (λ (ys : List ℕ). take n front ++ ys) (sym (drop-append-le n front xs le))

consumes_place : {F A : Type 0} (remaining : F → Option (List ℕ)) (p : Place F A) (n : ℕ) → n ≤ length (ahead p)
    → Consumes (unread remaining p) (option_map (drop n) (unread remaining p)) (take n (ahead p))
consumes_place remaining (Input reader) n le = consumes-of (reader_capacity reader == 0) (reader_buffer reader) n (remaining (reader_inner reader)) le
consumes_place remaining (Output file octets) n le = tt
consumes_place remaining (StandardOutput octets) n le = tt
consumes_place remaining Nowhere n le = tt

-- what is to be read of the slot whose place was exchanged
unread_there : {F A : Type 0} (remaining : F → Option (List ℕ)) (places : PerSlot (Place F A)) (slot : Slot) (after : Place F A)
    → unread remaining after ≡ at (unread_in remaining (put places slot after)) slot
unread_there remaining places slot after =
    sym (at-mapped (unread remaining) (put places slot after) slot ∙ ap (unread remaining) (at-put places slot after))

unread_before : {F A : Type 0} (remaining : F → Option (List ℕ)) (places : PerSlot (Place F A)) (slot : Slot) (before : Place F A)
    → before ≡ at places slot → unread remaining before ≡ at (unread_in remaining places) slot
unread_before remaining places slot before there = ap (unread remaining) there ∙ sym (at-mapped (unread remaining) places slot)

-- octets that were read ahead are taken of their slot
pub takes_at : {F A : Type 0} (places : PerSlot (Place F A)) (slot : Slot) (before after : Place F A) (n : ℕ) (buffer : List ℕ)
    → before ≡ at places slot → TakesAhead n buffer (ahead before) (ahead after)
    → TakesAhead n buffer (at (ahead_in places) slot) (at (ahead_in (put places slot after)) slot)
takes_at places slot before after n buffer there h =
    subst (λ (xs : List ℕ). TakesAhead n buffer xs (at (ahead_in (put places slot after)) slot)) (ap ahead there ∙ sym (at-mapped ahead places slot))
    (subst (λ (xs : List ℕ). TakesAhead n buffer (ahead before) xs)
    (sym (at-mapped ahead (put places slot after) slot ∙ ap ahead (at-put places slot after))) h)

-- octets that were read ahead were read
pub read_ahead_at : {F A : Type 0} (remaining : F → Option (List ℕ)) (places : PerSlot (Place F A)) (slot : Slot) (before after : Place F A) (n : ℕ)
    (buffer : List ℕ) → before ≡ at places slot → TakesAhead n buffer (ahead before) (ahead after) → 0 < length (ahead before)
    → unread remaining after ≡ option_map (drop n) (unread remaining before)
    → Consumes (at (unread_in remaining places) slot) (at (unread_in remaining (put places slot after)) slot) (take n buffer)
    × (n ≡ 0 → 0 < length buffer → IsAtEnd (at (unread_in remaining (put places slot after)) slot))
read_ahead_at remaining places slot before after n buffer there takes some e =
    let count : n ≡ min (length (ahead before)) (length buffer) = takes.0 in
    let le : n ≤ length (ahead before) = omega (arith, count) in
    let taken : Consumes (unread remaining before) (option_map (drop n) (unread remaining before)) (take n buffer) =
    subst (λ (xs : List ℕ). Consumes (unread remaining before) (option_map (drop n) (unread remaining before)) xs) (sym takes.1)
    (consumes_place remaining before n le) in
    let new : option_map (drop n) (unread remaining before) ≡ at (unread_in remaining (put places slot after)) slot = sym e
    ∙ unread_there remaining places slot after in (
      subst (λ (o : Option (List ℕ)). Consumes o (at (unread_in remaining (put places slot after)) slot) (take n buffer))
          (unread_before remaining places slot before there)
          (subst (λ (o : Option (List ℕ)). Consumes (unread remaining before) o (take n buffer)) new taken),
      λ none room. absurd {A = IsAtEnd (at (unread_in remaining (put places slot after)) slot)} (omega (arith, count, none, room, some)),
    )

-- octets of the file were read
pub read_at : {F A E : Type 0} (remaining : F → Option (List ℕ)) (places : PerSlot (Place F A)) (slot : Slot) (before after : Place F A)
    (r : Result ℕ E) (buffer : List ℕ) → before ≡ at places slot → ReadConsumes (unread remaining before) (unread remaining after) r buffer
    → ReadConsumes (at (unread_in remaining places) slot) (at (unread_in remaining (put places slot after)) slot) r buffer
read_at remaining places slot before after r buffer there h =
    subst (λ (o : Option (List ℕ)). ReadConsumes o (at (unread_in remaining (put places slot after)) slot) r buffer)
    (unread_before remaining places slot before there)
    (subst (λ (o : Option (List ℕ)). ReadConsumes (unread remaining before) o r buffer) (unread_there remaining places slot after) h)

pub keeps : (a b : Option (List ℕ)) → b ≡ a → Keeps a b
keeps a b e = subst (λ (o : Option (List ℕ)). Keeps a o) (sym e) (Keeps-refl a)

-- nothing changed but at one slot
pub put_kept : {X : Type 0} (old new : PerSlot X) (slot : Slot) → new ≡ old → new ≡ put old slot (at new slot)
put_kept {X = X} old new slot e = e ∙ sym (put-at old slot) ∙ ap (λ (p : PerSlot X). put old slot (at p slot)) (sym e)

pub put_behind : {X : Type 0} (old mid new : PerSlot X) (slot : Slot) → mid ≡ old → new ≡ put mid slot (at new slot)
    → new ≡ put old slot (at new slot)
put_behind {X = X} old mid new slot e f = f ∙ ap (λ (p : PerSlot X). put p slot (at new slot)) e

-- all that a desk tells of its places
abbrev files : PerSlot (Option Access) → PerSlot (List ℕ) → PerSlot (Option (List ℕ)) → PerSlot (Option (List ℕ)) → PerSlot (List ℕ) → Option Slot
    → PerSlot ℕ → PerSlot ℕ → Files
files accesses ahead unread got waiting refused faults start_faults =
    record {
      accesses = accesses;
      ahead = ahead;
      unread = unread;
      got = got;
      waiting = waiting;
      refused = refused;
      faults = faults;
      start_faults = start_faults;
    }

abbrev pub seen : {F A : Type 0} → (F → Option (List ℕ)) → (F → Option (List ℕ)) → PerSlot (Place F A) → Option Slot → PerSlot ℕ → PerSlot ℕ → Files
seen remaining contents places refused faults start_faults = files (accesses_in places) (ahead_in places) (unread_in remaining places)
    (got_in contents places) (waiting_in places) refused faults start_faults

files_of : (accesses accesses' : PerSlot (Option Access)) (ahead ahead' : PerSlot (List ℕ)) (unread unread' : PerSlot (Option (List ℕ)))
    (got got' : PerSlot (Option (List ℕ))) (waiting waiting' : PerSlot (List ℕ)) (refused : Option Slot) (faults start_faults : PerSlot ℕ)
    → accesses ≡ accesses' → ahead ≡ ahead' → unread ≡ unread' → got ≡ got' → waiting ≡ waiting'
    → files accesses ahead unread got waiting refused faults start_faults ≡ files accesses' ahead' unread' got' waiting' refused faults start_faults
files_of accesses accesses' ahead ahead' unread unread' got got' waiting waiting' refused faults start_faults a b c d e =
    ap (λ (x : PerSlot (Option Access)). files x ahead unread got waiting refused faults start_faults) a
    ∙ ap (λ (x : PerSlot (List ℕ)). files accesses' x unread got waiting refused faults start_faults) b
    ∙ ap (λ (x : PerSlot (Option (List ℕ))). files accesses' ahead' x got waiting refused faults start_faults) c
    ∙ ap (λ (x : PerSlot (Option (List ℕ))). files accesses' ahead' unread' x waiting refused faults start_faults) d
    ∙ ap (λ (x : PerSlot (List ℕ)). files accesses' ahead' unread' got' x refused faults start_faults) e

-- so much of a slot was skipped
pub skipped_is : {F A : Type 0} (remaining contents : F → Option (List ℕ)) (places : PerSlot (Place F A)) (slot : Slot) (count : ℕ)
    (before after : Place F A) (refused : Option Slot) (faults start_faults : PerSlot ℕ) → before ≡ at places slot
    → access_of after ≡ access_of before → ahead after ≡ drop count (ahead before)
    → unread remaining after ≡ option_map (drop (min count (length (ahead before)))) (unread remaining before)
    → got contents after ≡ got contents before → waiting after ≡ waiting before
    → seen remaining contents (put places slot after) refused faults start_faults
    ≡ skipped slot count (seen remaining contents places refused faults start_faults)
skipped_is remaining contents places slot count before after refused faults start_faults there w a u g t =
    files_of (accesses_in (put places slot after)) (accesses_in places) (ahead_in (put places slot after))
    (put (ahead_in places) slot (drop count (at (ahead_in places) slot))) (unread_in remaining (put places slot after))
    (put (unread_in remaining places) slot
    (option_map (drop (min count (length (at (ahead_in places) slot)))) (at (unread_in remaining places) slot)))
    (got_in contents (put places slot after)) (got_in contents places) (waiting_in (put places slot after)) (waiting_in places) refused faults
    start_faults
    (mapped-same access_of places slot after (w ∙ ap access_of there))
    (mapped-put ahead places slot after ∙ ap (put (ahead_in places) slot) (a ∙ ap (drop count) (ap ahead there ∙ sym (at-mapped ahead places slot))))
    (mapped-put (unread remaining) places slot after ∙ ap (put (unread_in remaining places) slot)
    (u ∙ ap (λ (k : ℕ). option_map (drop (min count k)) (unread remaining before))
    (ap (λ (xs : List ℕ). length xs) (ap ahead there ∙ sym (at-mapped ahead places slot)))
    ∙ ap (option_map (drop (min count (length (at (ahead_in places) slot))))) (unread_before remaining places slot before there)))
    (mapped-same (got contents) places slot after (g ∙ ap (got contents) there))
    (mapped-same waiting places slot after (t ∙ ap waiting there))

-- all that two desks tell is the same
pub files_alike : (p q : Files) → p.accesses ≡ q.accesses → p.ahead ≡ q.ahead → p.unread ≡ q.unread → p.got ≡ q.got → p.waiting ≡ q.waiting
    → p.refused ≡ q.refused → p.faults ≡ q.faults → p.start_faults ≡ q.start_faults → p ≡ q
files_alike p q a b c d e f g h =
    let same : files p.accesses p.ahead p.unread p.got p.waiting p.refused p.faults p.start_faults ≡ files q.accesses q.ahead q.unread q.got q.waiting
    q.refused q.faults q.start_faults = cc in
    same
