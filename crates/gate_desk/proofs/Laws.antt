-- Laws of the words for slots.
use Rattle.std.proofs.Common.{Bool, true, false, cond, if◌then◌else◌, ◌≡◌, ℕ, ◌+◌, ◌-◌, ◌≤◌, List, [], ◌∷◌, ◌++◌, Option, Some, None, IfSome, option_map, slice_index_or, take, drop, length, refl, sym, ap, subst, ◌∙◌, append_assoc, arith, length-append, length-drop}
use Rattle.std.proofs.lemmas.List.{append-nil, drop-drop, take_all, take-append-le, length-take-le}
use Rattle.std.proofs.lemmas.Bool.{eqb-true, false≢true}
use Rattle.std.proofs.lemmas.List.Sums.{fold-append}
use Rattle.std.proofs.Math.Seq.{take-add, take-append-add}
use borrow.Rule.Slice.PartMut.{put_mid, post_of}
use Rattle.gate_desk.specs.declared.slot.Slot.{Slot}
use Rattle.gate_desk.specs.declared.slot.Slot.TheVariants.{Settings, LeftIn, RightIn, LeftGiven, RightGiven, ReportGiven, LeftOut, RightOut, Report, Errors}
use Rattle.gate_desk.specs.declared.slot.PerSlot.{PerSlot}
use Rattle.gate_desk.specs.declared.slot.Access.{Access}
use Rattle.gate_desk.specs.declared.slot.Access.TheVariants.{Read, Write}
use Rattle.gate_desk.specs.Slots.{at, put, number_of, same_slot, each}
use Rattle.gate_desk.specs.Inside.Slots.{mapped}
use Rattle.gate_desk.specs.Counts.{raised}
use Rattle.gate_desk.specs.Outside.{Outside, wrote, took, told_at, Trace, Rises, NoneFailed, Writes, Takes, AreNext, IsAtEnd, AreUpTo, HasFailed, HasFailedToStart, Grows, NoneFell, WritesPart, Starts, FailsToStart, Start, started, last_access, CanRead, CanWrite}

-- the ten slots, one by one
pub every : (P : Slot → Type 0) → P Settings → P LeftIn → P RightIn → P LeftGiven → P RightGiven → P ReportGiven → P LeftOut → P RightOut → P Report
    → P Errors → (s : Slot) → P s
every P a b c d e f g h i j Settings = a
every P a b c d e f g h i j LeftIn = b
every P a b c d e f g h i j RightIn = c
every P a b c d e f g h i j LeftGiven = d
every P a b c d e f g h i j RightGiven = e
every P a b c d e f g h i j ReportGiven = f
every P a b c d e f g h i j LeftOut = g
every P a b c d e f g h i j RightOut = h
every P a b c d e f g h i j Report = i
every P a b c d e f g h i j Errors = j

pub at-put : {A : Type 0} (p : PerSlot A) (s : Slot) (x : A) → at (put p s x) s ≡ x
at-put p s x = every (λ s. at (put p s x) s ≡ x) refl refl refl refl refl refl refl refl refl refl s

pub put-put : {A : Type 0} (p : PerSlot A) (s : Slot) (x y : A) → put (put p s x) s y ≡ put p s y
put-put p s x y = every (λ s. put (put p s x) s y ≡ put p s y) refl refl refl refl refl refl refl refl refl refl s

pub put-at : {A : Type 0} (p : PerSlot A) (s : Slot) → put p s (at p s) ≡ p
put-at p s = every (λ s. put p s (at p s) ≡ p) refl refl refl refl refl refl refl refl refl refl s

pub at-each : {A : Type 0} (x : A) (s : Slot) → at (each x) s ≡ x
at-each x s = every (λ s. at (each x) s ≡ x) refl refl refl refl refl refl refl refl refl refl s

-- what f makes of each value
pub at-mapped : {A B : Type 0} (f : A → B) (p : PerSlot A) (s : Slot) → at (mapped f p) s ≡ f (at p s)
at-mapped f p s = every (λ s. at (mapped f p) s ≡ f (at p s)) refl refl refl refl refl refl refl refl refl refl s

pub mapped-put : {A B : Type 0} (f : A → B) (p : PerSlot A) (s : Slot) (x : A) → mapped f (put p s x) ≡ put (mapped f p) s (f x)
mapped-put f p s x = every (λ s. mapped f (put p s x) ≡ put (mapped f p) s (f x)) refl refl refl refl refl refl refl refl refl refl s

-- and of another value of which it makes the same
pub mapped-same : {A B : Type 0} (f : A → B) (p : PerSlot A) (s : Slot) (x : A) → f x ≡ f (at p s) → mapped f (put p s x) ≡ mapped f p
mapped-same f p s x e = mapped-put f p s x ∙ ap (put (mapped f p) s) (e ∙ sym (at-mapped f p s)) ∙ put-at (mapped f p) s

-- no value but that of one slot changed
pub mapped-put_only : {A B : Type 0} (f : A → B) (p : PerSlot A) (s : Slot) (x : A)
    → mapped f (put p s x) ≡ put (mapped f p) s (at (mapped f (put p s x)) s)
mapped-put_only f p s x = mapped-put f p s x ∙ ap (put (mapped f p) s) (sym (at-mapped f (put p s x) s ∙ ap f (at-put p s x)))

pub wrote-wrote : (s : Slot) (xs ys : List ℕ) (told : Trace) → wrote s ys (wrote s xs told) ≡ wrote s (xs ++ ys) told
unfolding wrote
wrote-wrote s xs ys None = refl
wrote-wrote s xs ys (Some p) = ap Some (rw (put-put, at-put, append_assoc) refl)

pub wrote-nil : (s : Slot) (told : Trace) → wrote s [] told ≡ told
unfolding wrote
wrote-nil s None = refl
wrote-nil s (Some p) = ap Some (rw (append-nil, put-at) refl)

pub took-took : (s : Slot) (m n : ℕ) (told : Trace) → took s n (took s m told) ≡ took s (m + n) told
unfolding took
took-took s m n None = refl
took-took s m n (Some p) = ap Some (rw (put-put, at-put, drop-drop) refl)

pub took-none : (s : Slot) (told : Trace) → took s 0 told ≡ told
unfolding took
took-none s None = refl
took-none s (Some p) = ap Some (rw put-at refl)

pub rises_not : (s : Slot) (a : PerSlot ℕ) → Rises s a a
rises_not s a = record { never_falls = omega arith; only = sym (put-at a s) }

-- one failure more
pub rises_one : (s : Slot) (a b : PerSlot ℕ) → b ≡ put a s (raised (at a s)) → Rises s a b
rises_one s a b e =
    let there : at b s ≡ raised (at a s) = ap (λ (p : PerSlot ℕ). at p s) e ∙ at-put a s (raised (at a s)) in
    record { never_falls = omega (arith, there); only = e ∙ ap (put a s) (sym there) }

pub rises_on : (s : Slot) (a b c : PerSlot ℕ) → Rises s a b → Rises s b c → Rises s a c
rises_on s a b c e f = record {
  never_falls = omega (arith, e.never_falls, f.never_falls);
  only = f.only ∙ ap (λ (p : PerSlot ℕ). put p s (at c s)) e.only ∙ put-put a s (at b s) (at c s);
}

pub writes_none : (s : Slot) (a : Outside) → Writes s [] a a
writes_none s a = record { written = sym (wrote-nil s a.written); left = refl; starts = refl; start_faults = refl; faults = rises_not s a.faults }

pub writes_on : (s : Slot) (xs ys : List ℕ) (a b c : Outside) → Writes s xs a b → Writes s ys b c → Writes s (xs ++ ys) a c
writes_on s xs ys a b c e f = record {
  written = f.written ∙ ap (wrote s ys) e.written ∙ wrote-wrote s xs ys a.written;
  left = f.left ∙ e.left;
  starts = f.starts ∙ e.starts;
  start_faults = f.start_faults ∙ e.start_faults;
  faults = rises_on s a.faults b.faults c.faults e.faults f.faults;
}

pub takes_none : (s : Slot) (a : Outside) → Takes s 0 a a
takes_none s a = record { left = sym (took-none s a.left); written = refl; starts = refl; start_faults = refl; faults = rises_not s a.faults }

pub takes_on : (s : Slot) (m n : ℕ) (a b c : Outside) → Takes s m a b → Takes s n b c → Takes s (m + n) a c
takes_on s m n a b c e f = record {
  left = f.left ∙ ap (took s n) e.left ∙ took-took s m n a.left;
  written = f.written ∙ e.written;
  starts = f.starts ∙ e.starts;
  start_faults = f.start_faults ∙ e.start_faults;
  faults = rises_on s a.faults b.faults c.faults e.faults f.faults;
}

pub told_at-took : (s : Slot) (m : ℕ) (t : Trace) → told_at (took s m t) s ≡ option_map (drop m) (told_at t s)
unfolding told_at took
told_at-took s m None = refl
told_at-took s m (Some p) = ap Some (at-put p s (drop m (at p s)))

next_none-of : (o : Option (List ℕ)) → IfSome o (λ all. take 0 all ≡ [])
next_none-of None = tt
next_none-of (Some all) = refl

pub next_none : (s : Slot) (a : Outside) → AreNext [] a s
next_none s a = next_none-of (told_at a.left s)

-- all that is left, where it is told
pub next_all : (s : Slot) (p : PerSlot (List ℕ)) (a : Outside) (xs : List ℕ) → a.left ≡ Some p → xs ≡ at p s → AreNext xs a s
unfolding told_at
next_all s p a xs e f = subst (λ (o : Trace). IfSome (told_at o s) (λ all. take (length xs) all ≡ xs)) (sym e)
    (ap (take (length xs)) (sym f) ∙ take_all (length xs) xs (omega arith))

next_on-of : (xs ys : List ℕ) (o : Option (List ℕ)) → IfSome o (λ all. take (length xs) all ≡ xs)
    → IfSome (option_map (drop (length xs)) o) (λ all. take (length ys) all ≡ ys) → IfSome o (λ all. take (length (xs ++ ys)) all ≡ xs ++ ys)
next_on-of xs ys None h k = tt
next_on-of xs ys (Some all) h k = rw (length-append, take-add, h, k) refl

-- more of the slot's next octets
pub next_on : (s : Slot) (xs ys : List ℕ) (m : ℕ) (a b : Outside) → length xs ≡ m → Takes s m a b → AreNext xs a s → AreNext ys b s
    → AreNext (xs ++ ys) a s
next_on s xs ys m a b e t h k =
    let there : told_at b.left s ≡ option_map (drop (length xs)) (told_at a.left s) = ap (λ (o : Trace). told_at o s) t.left ∙ told_at-took s m a.left
    ∙ ap (λ (n : ℕ). option_map (drop n) (told_at a.left s)) (sym e) in
    next_on-of xs ys (told_at a.left s) h (subst (λ o. IfSome o (λ all. take (length ys) all ≡ ys)) there k)

up_to_end-of : (xs : List ℕ) (wanted : ℕ) (o : Option (List ℕ)) → length xs ≤ wanted → IfSome o (λ all. take (length xs) all ≡ xs)
    → IfSome (option_map (drop (length xs)) o) (λ all. length all ≡ 0) → IfSome o (λ all. xs ≡ take wanted all)
up_to_end-of xs wanted None le h k = tt
up_to_end-of xs wanted (Some all) le h k =
    let short : length all ≤ length xs = omega (arith, length-drop (length xs) all, k) in
    let whole : take (length xs) all ≡ all = take_all (length xs) all short in
    sym h ∙ whole ∙ sym (take_all wanted all (omega arith))

-- all that was left
pub up_to_end : (s : Slot) (xs : List ℕ) (m wanted : ℕ) (a b : Outside) → length xs ≡ m → m ≤ wanted → Takes s m a b → AreNext xs a s → IsAtEnd b s
    → AreUpTo wanted xs a s
up_to_end s xs m wanted a b e le t h k =
    let there : told_at b.left s ≡ option_map (drop (length xs)) (told_at a.left s) = ap (λ (o : Trace). told_at o s) t.left ∙ told_at-took s m a.left
    ∙ ap (λ (n : ℕ). option_map (drop n) (told_at a.left s)) (sym e) in
    up_to_end-of xs wanted (told_at a.left s) (omega arith) h (subst (λ o. IfSome o (λ all. length all ≡ 0)) there k)

-- a buffer after more was read into it
pub buffer_on : (xs ys : List ℕ) (a n : ℕ) → a ≤ length xs → n ≤ length ys → take (a + n) (put_mid a (length xs - a) xs ys) ≡ take a xs ++ take n ys
buffer_on xs ys a n le fits =
    let front : length (take a xs) ≡ a = length-take-le a xs le in
    let e : take (a + n) (take a xs ++ (ys ++ post_of a (length xs - a) xs)) ≡ take a xs ++ take n (ys ++ post_of a (length xs - a) xs) =
    subst (λ (k : ℕ). take (k + n) (take a xs ++ (ys ++ post_of a (length xs - a) xs)) ≡ take a xs ++ take n (ys ++ post_of a (length xs - a) xs))
    front (take-append-add (take a xs) (ys ++ post_of a (length xs - a) xs) n) in
    e ∙ ap (λ (zs : List ℕ). take a xs ++ zs) (take-append-le n ys (post_of a (length xs - a) xs) fits)

moved-of : (n : ℕ) (o : Option (List ℕ)) (P : List ℕ → Type 0) → IfSome (option_map (drop n) o) P → IfSome o (λ all. P (drop n all))
moved-of n None P h = tt
moved-of n (Some all) P h = h

-- a fact of all the octets, from one of what was left after some were taken
pub moved : (s : Slot) (n : ℕ) (a b : Outside) (P : List ℕ → Type 0) → Takes s n a b → IfSome (told_at b.left s) P
    → IfSome (told_at a.left s) (λ all. P (drop n all))
moved s n a b P t h = moved-of n (told_at a.left s) P (subst (λ o. IfSome o P) (ap (λ (o : Trace). told_at o s) t.left ∙ told_at-took s n a.left) h)

-- a failure in a later call
pub failed_later : (s : Slot) (a b c : Outside) → Rises s a.faults b.faults → HasFailed s b c → HasFailed s a c
failed_later s a b c r h = omega (arith, r.never_falls, h)

-- any slot, after one was put
pub at-put_any : {A : Type 0} (p : PerSlot A) (s t : Slot) (x : A) → at (put p s x) t ≡ cond (same_slot s t) x (at p t)
at-put_any p s t x =
    every (λ s. (t : Slot) → at (put p s x) t ≡ cond (same_slot s t) x (at p t))
    (every (λ t. at (put p Settings x) t ≡ cond (same_slot Settings t) x (at p t)) refl refl refl refl refl refl refl refl refl refl)
    (every (λ t. at (put p LeftIn x) t ≡ cond (same_slot LeftIn t) x (at p t)) refl refl refl refl refl refl refl refl refl refl)
    (every (λ t. at (put p RightIn x) t ≡ cond (same_slot RightIn t) x (at p t)) refl refl refl refl refl refl refl refl refl refl)
    (every (λ t. at (put p LeftGiven x) t ≡ cond (same_slot LeftGiven t) x (at p t)) refl refl refl refl refl refl refl refl refl refl)
    (every (λ t. at (put p RightGiven x) t ≡ cond (same_slot RightGiven t) x (at p t)) refl refl refl refl refl refl refl refl refl refl)
    (every (λ t. at (put p ReportGiven x) t ≡ cond (same_slot ReportGiven t) x (at p t)) refl refl refl refl refl refl refl refl refl refl)
    (every (λ t. at (put p LeftOut x) t ≡ cond (same_slot LeftOut t) x (at p t)) refl refl refl refl refl refl refl refl refl refl)
    (every (λ t. at (put p RightOut x) t ≡ cond (same_slot RightOut t) x (at p t)) refl refl refl refl refl refl refl refl refl refl)
    (every (λ t. at (put p Report x) t ≡ cond (same_slot Report t) x (at p t)) refl refl refl refl refl refl refl refl refl refl)
    (every (λ t. at (put p Errors x) t ≡ cond (same_slot Errors t) x (at p t)) refl refl refl refl refl refl refl refl refl refl)
    s t

slots : List Slot
slots = Settings ∷ LeftIn ∷ RightIn ∷ LeftGiven ∷ RightGiven ∷ ReportGiven ∷ LeftOut ∷ RightOut ∷ Report ∷ Errors ∷ []

numbered : (s : Slot) → slice_index_or slots (number_of s) Settings ≡ s
unfolding slots
numbered s = every (λ s. slice_index_or slots (number_of s) Settings ≡ s) refl refl refl refl refl refl refl refl refl refl s

pub same-of : (s t : Slot) → same_slot s t ≡ true → s ≡ t
same-of s t e = sym (numbered s) ∙ ap (λ (n : ℕ). slice_index_or slots n Settings) (eqb-true (number_of s) (number_of t) e) ∙ numbered t

grown : (r : Bool) (own there xs : List ℕ) → (r ≡ true → own ≡ there) → cond r (own ++ xs) there ≡ there ++ (if r then xs else [])
grown true own there xs h = ap (λ (ys : List ℕ). ys ++ xs) (h refl)
grown false own there xs h = sym (append-nil there)

-- octets behind those of one slot
pub at-put_append : (p : PerSlot (List ℕ)) (s t : Slot) (xs : List ℕ) → at (put p s (at p s ++ xs)) t ≡ at p t ++ (if same_slot s t then xs else [])
at-put_append p s t xs = at-put_any p s t (at p s ++ xs) ∙ grown (same_slot s t) (at p s) (at p t) xs (λ one. ap (at p) (same-of s t one))

none_fell : (s t : Slot) (a b : PerSlot ℕ) → Rises s a b → (r : Bool) → same_slot s t ≡ r → at a t ≤ at b t
none_fell s t a b h true e = subst (λ (u : Slot). at a u ≤ at b u) (same-of s t e) h.never_falls
none_fell s t a b h false e =
    let there : at b t ≡ cond (same_slot s t) (at b s) (at a t) = ap (λ (p : PerSlot ℕ). at p t) h.only ∙ at-put_any a s t (at b s) in
    let same : at b t ≡ at a t = there ∙ ap (λ (r : Bool). cond r (at b s) (at a t)) e in
    omega (arith, same)

-- no count of any slot falls
pub NoneFell-from_rises : (s : Slot) (a b : PerSlot ℕ) → Rises s a b → NoneFell a b
NoneFell-from_rises s a b h t = none_fell s t a b h (same_slot s t) refl

pub grows_not : (a : Outside) → Grows a a
grows_not a = record { faults = λ s. omega arith; start_faults = λ s. omega arith }

pub grows_on : (a b c : Outside) → Grows a b → Grows b c → Grows a c
grows_on a b c h k = record {
  faults = λ s. omega (arith, h.faults s, k.faults s);
  start_faults = λ s. omega (arith, h.start_faults s, k.start_faults s);
}

keeps : (a b : PerSlot ℕ) → b ≡ a → NoneFell a b
keeps a b e s = omega (arith, ap (λ (p : PerSlot ℕ). at p s) e)

pub grows_writes : (s : Slot) (xs : List ℕ) (a b : Outside) → Writes s xs a b → Grows a b
grows_writes s xs a b h =
    record { faults = NoneFell-from_rises s a.faults b.faults h.faults; start_faults = keeps a.start_faults b.start_faults h.start_faults }

pub grows_takes : (s : Slot) (n : ℕ) (a b : Outside) → Takes s n a b → Grows a b
grows_takes s n a b h =
    record { faults = NoneFell-from_rises s a.faults b.faults h.faults; start_faults = keeps a.start_faults b.start_faults h.start_faults }

pub grows_starts : (s : Slot) (name : List ℕ) (access : Access) (a b : Outside) → Starts s name access a b → Grows a b
grows_starts s name access a b h =
    record { faults = keeps a.faults b.faults h.faults; start_faults = NoneFell-from_rises s a.start_faults b.start_faults h.start_faults }

pub failed_since : (s : Slot) (a b c : Outside) → Grows a b → HasFailed s b c → HasFailed s a c
failed_since s a b c h k = omega (arith, h.faults s, k)

pub failed_to_start_since : (s : Slot) (a b c : Outside) → Grows a b → HasFailedToStart s b c → HasFailedToStart s a c
failed_to_start_since s a b c h k = omega (arith, h.start_faults s, k)

-- a prefix of more
pub writes_part_on : (s : Slot) (xs ys : List ℕ) (a b c : Outside) → Writes s xs a b → WritesPart s ys b c → WritesPart s (xs ++ ys) a c
writes_part_on s xs ys a b c h k =
    let e : take (length xs + k.0) (xs ++ ys) ≡ xs ++ take k.0 ys = take-append-add xs ys k.0 in
    (length xs + k.0, omega (arith, k.1, length-append xs ys), subst (λ zs. Writes s zs a c) (sym e) (writes_on s xs (take k.0 ys) a b c h k.2))

pub writes_part_first : (s : Slot) (xs ys : List ℕ) (a b : Outside) → WritesPart s xs a b → WritesPart s (xs ++ ys) a b
writes_part_first s xs ys a b h =
    (h.0, omega (arith, h.1, length-append xs ys), subst (λ zs. Writes s zs a b) (sym (take-append-le h.0 xs ys h.1)) h.2)

-- what may be read and written
last-started : (slot s : Slot) (name : List ℕ) (access : Access) (starts : List Start)
    → last_access slot (starts ++ (record { slot = s; name = name; access = access }) ∷ []) ≡ cond (same_slot s slot) (Some access)
    (last_access slot starts)
last-started slot s name access starts = fold-append _ None starts _

same-self : (s : Slot) → same_slot s s ≡ true
same-self s = every (λ s. same_slot s s ≡ true) refl refl refl refl refl refl refl refl refl refl s

can_read_started-of : (s : Slot) (name : List ℕ) (o : Option (List Start))
    → IfSome (started s name Read o) (λ starts. last_access s starts ≡ Some Read)
unfolding started
can_read_started-of s name None = tt
can_read_started-of s name (Some starts) = last-started s s name Read starts
    ∙ ap (λ (r : Bool). cond r (Some Read) (last_access s starts)) (same-self s)

pub can_read_started : (s : Slot) (name : List ℕ) (a b : Outside) → Starts s name Read a b → CanRead b s
can_read_started s name a b h = subst (λ o. IfSome o (λ starts. last_access s starts ≡ Some Read)) (sym h.starts)
    (can_read_started-of s name a.starts)

kept-of : (s t : Slot) (name : List ℕ) (access access' : Access) (o : Option (List Start)) → same_slot s t ≡ false
    → IfSome o (λ starts. last_access t starts ≡ Some access') → IfSome (started s name access o) (λ starts. last_access t starts ≡ Some access')
unfolding started
kept-of s t name access access' None e h = tt
kept-of s t name access access' (Some starts) e h = last-started t s name access starts
    ∙ ap (λ (r : Bool). cond r (Some access) (last_access t starts)) e ∙ h

pub can_read_kept : (s t : Slot) (name : List ℕ) (access : Access) (a b : Outside) → Starts s name access a b → same_slot s t ≡ false → CanRead a t
    → CanRead b t
can_read_kept s t name access a b h e k = subst (λ o. IfSome o (λ starts. last_access t starts ≡ Some Read)) (sym h.starts)
    (kept-of s t name access Read a.starts e k)

can_write_started-of : (s : Slot) (name : List ℕ) (o : Option (List Start))
    → IfSome (started s name Write o) (λ starts. last_access s starts ≡ Some Write)
unfolding started
can_write_started-of s name None = tt
can_write_started-of s name (Some starts) = last-started s s name Write starts
    ∙ ap (λ (r : Bool). cond r (Some Write) (last_access s starts)) (same-self s)

can_write-of : (s : Slot) (a : Outside) → IfSome a.starts (λ starts. last_access s starts ≡ Some Write) → CanWrite a s
can_write-of Errors a h = tt
can_write-of s a h = h

of-can_write : (s : Slot) (a : Outside) → same_slot s Errors ≡ false → CanWrite a s → IfSome a.starts (λ starts. last_access s starts ≡ Some Write)
of-can_write Errors a e h = absurd (false≢true (sym e))
of-can_write s a e h = h

pub can_write_started : (s : Slot) (name : List ℕ) (a b : Outside) → Starts s name Write a b → CanWrite b s
can_write_started s name a b h =
    can_write-of s b (subst (λ o. IfSome o (λ starts. last_access s starts ≡ Some Write)) (sym h.starts) (can_write_started-of s name a.starts))

pub can_write_kept : (s t : Slot) (name : List ℕ) (access : Access) (a b : Outside) → Starts s name access a b → same_slot s t ≡ false
    → same_slot t Errors ≡ false → CanWrite a t → CanWrite b t
can_write_kept s t name access a b h e f k = can_write-of t b
    (subst (λ o. IfSome o (λ starts. last_access t starts ≡ Some Write)) (sym h.starts)
    (kept-of s t name access Write a.starts e (of-can_write t a f k)))

-- what another slot holds
pub told_at-took_other : (s t : Slot) (n : ℕ) (o : Trace) → same_slot s t ≡ false → told_at (took s n o) t ≡ told_at o t
unfolding told_at took
told_at-took_other s t n None e = refl
told_at-took_other s t n (Some p) e = ap Some (at-put_any p s t (drop n (at p s)) ∙ ap (λ (r : Bool). cond r (drop n (at p s)) (at p t)) e)

pub grows_fails_to_start : (s : Slot) (a b : Outside) → FailsToStart s a b → Grows a b
grows_fails_to_start s a b h =
    record { faults = keeps a.faults b.faults h.faults; start_faults = NoneFell-from_rises s a.start_faults b.start_faults h.start_faults }

pub can_read_same : (s : Slot) (a b : Outside) → b.starts ≡ a.starts → CanRead a s → CanRead b s
can_read_same s a b e h = subst (λ o. IfSome o (λ starts. last_access s starts ≡ Some Read)) (sym e) h

-- ## No call failed

pub none_failed : (a : Outside) → NoneFailed a a
none_failed a = record { faults = refl; start_faults = refl }

pub none_failed_on : (a b c : Outside) → NoneFailed a b → NoneFailed b c → NoneFailed a c
none_failed_on a b c h k = record { faults = k.faults ∙ h.faults; start_faults = k.start_faults ∙ h.start_faults }
