-- Causes and starts.
use Rattle.std.proofs.Common.{◌≡◌, ℕ, List, [], ◌∷◌, ◌++◌, IsTrue, Result, Ok, Err, IsErrAnd, Option, Some, None, IfSome, if◌then◌else◌, fold, refl, sym, ap, subst, ◌∙◌, append_assoc, append-nil}
use Rattle.std.proofs.lemmas.List.Sums.{fold-append}
use Rattle.gate_desk.specs.declared.slot.Slot.{Slot}
use Rattle.gate_desk.specs.declared.slot.Access.{Access}
use Rattle.gate_desk.specs.Slots.{same_slot}
use Rattle.gate_desk.specs.Outside.{Outside, Start, Starts, FailsToStart, Grows, started, last_access}
use Rattle.gate_desk.proofs.Laws.{grows_on, grows_starts, grows_fails_to_start, none_failed_on, failed_since, failed_to_start_since}
use Rattle.run_setup.specs.declared.status.Status.{Status}
use Rattle.run_setup.specs.declared.status.Status.TheVariants.{ReadFault, WriteFault, OpenFault, OutOfMemory}
use Rattle.run_setup.specs.Prelude.{Causes, StartsAll, StartsBefore, StartedBy, Stops, Opens, is_started}
use Rattle.run_setup.specs.Causes.{started_all}

-- what a `?` hands on
pub handed_on : {T E : Type 0} (Goal : Result T E → Type 0) (r : Result T E) (e : E) → IsErrAnd r (λ y. y ≡ e) → Goal (Err e) → Goal r
handed_on Goal (Ok x) e h g = absurd h
handed_on Goal (Err y) e h g = subst (λ z. Goal (Err z)) (sym h) g

pub causes_since : (e : Status) (a b c : Outside) → Grows a b → Causes e b c → Causes e a c
causes_since (ReadFault s) a b c h k = (k.0, failed_since s a b c h k.1)
causes_since (WriteFault s) a b c h k = (k.0, failed_since s a b c h k.1)
causes_since (OpenFault s) a b c h k = (k.0, failed_to_start_since s a b c h k.1)
causes_since OutOfMemory a b c h k = tt
causes_since e a b c h k = k

pub no_start : (o : Option (List Start)) → started_all [] o ≡ o
unfolding started_all
no_start None = refl
no_start (Some xs) = ap Some (append-nil xs)

one_start : (s : Slot) (name : List ℕ) (access : Access) (o : Option (List Start))
    → started s name access o ≡ started_all ((record { slot = s; name = name; access = access }) ∷ []) o
unfolding started started_all
one_start s name access o = refl

pub more_starts : (xs ys : List Start) (o : Option (List Start)) → started_all ys (started_all xs o) ≡ started_all (xs ++ ys) o
unfolding started_all
more_starts xs ys None = refl
more_starts xs ys (Some zs) = ap Some (append_assoc zs xs ys)

pub opens_one : (s : Slot) (name : List ℕ) (access : Access) (a b : Outside) → Starts s name access a b → b.start_faults ≡ a.start_faults
    → StartsAll ((record { slot = s; name = name; access = access }) ∷ []) a b
opens_one s name access a b h leaves = record {
  starts = h.starts ∙ one_start s name access a.starts;
  left = h.left;
  written = h.written;
  grows = grows_starts s name access a b h;
  counts = record { faults = h.faults; start_faults = leaves };
}

pub open_fails : (s : Slot) (name : List ℕ) (access : Access) (a b : Outside) → IsTrue (is_started s) → FailsToStart s a b
    → Opens (Err (OpenFault s)) ((record { slot = s; name = name; access = access }) ∷ []) a b
open_fails s name access a b is h = record {
  cause = (is, h.cause);
  started =
      record {
        front = [];
        start = record { slot = s; name = name; access = access };
        others = [];
        split = refl;
        slot_is = refl;
        starts = h.starts
            ∙ sym (no_start a.starts);
      };
  written = h.written;
  grows = grows_fails_to_start s a b h;
}

-- the starts in front of a slot's, where others come behind
pub before_more : (s : Slot) (xs ys : List Start) (a b : Outside) → StartsBefore s xs a b → StartsBefore s (xs ++ ys) a b
before_more s xs ys a b h = record {
  front = h.front;
  start = h.start;
  others = h.others ++ ys;
  split = ap (λ (zs : List Start). zs ++ ys) h.split ∙ append_assoc h.front (h.start ∷ h.others) ys;
  slot_is = h.slot_is;
  starts = h.starts;
}

-- and where others came before
pub before_on : (s : Slot) (xs ys : List Start) (a b c : Outside) → b.starts ≡ started_all xs a.starts → StartsBefore s ys b c
    → StartsBefore s (xs ++ ys) a c
before_on s xs ys a b c e h = record {
  front = xs ++ h.front;
  start = h.start;
  others = h.others;
  split = ap (λ (zs : List Start). xs ++ zs) h.split ∙ sym (append_assoc xs h.front (h.start ∷ h.others));
  slot_is = h.slot_is;
  starts = h.starts ∙ ap (started_all h.front) e ∙ more_starts xs h.front a.starts;
}

pub all_on : (xs ys : List Start) (a b c : Outside) → b.starts ≡ started_all xs a.starts → c.starts ≡ started_all ys b.starts
    → c.starts ≡ started_all (xs ++ ys) a.starts
all_on xs ys a b c e k = k ∙ ap (started_all ys) e ∙ more_starts xs ys a.starts

started_on : (e : Status) (xs ys : List Start) (a b c : Outside) → b.starts ≡ started_all xs a.starts → StartedBy e ys b c
    → StartedBy e (xs ++ ys) a c
started_on (OpenFault s) xs ys a b c e k = before_on s xs ys a b c e k
started_on status xs ys a b c e k = all_on xs ys a b c e k

pub opens_more : (e : Status) (xs ys : List Start) (a b : Outside) → Opens (Err e) xs a b → Opens (Err e) (xs ++ ys) a b
opens_more (OpenFault s) xs ys a b h = record { cause = h.cause; started = before_more s xs ys a b h.started; written = h.written; grows = h.grows }
opens_more e xs ys a b h = h

pub stops_on : (e : Status) (xs ys : List Start) (a b c : Outside) → b.starts ≡ started_all xs a.starts → b.written ≡ a.written → Grows a b
    → Stops e ys b c → Stops e (xs ++ ys) a c
stops_on e xs ys a b c starts written grows h = record {
  cause = causes_since e a b c grows h.cause;
  started = started_on e xs ys a b c starts h.started;
  written = h.written ∙ written;
  grows = grows_on a b c grows h.grows;
}

pub opens_on : (r : Result (Unit {0}) Status) (xs ys : List Start) (a b c : Outside) → StartsAll xs a b → Opens r ys b c → Opens r (xs ++ ys) a c
opens_on (Ok u) xs ys a b c h k = record {
  starts = k.starts ∙ ap (started_all ys) h.starts ∙ more_starts xs ys a.starts;
  left = k.left ∙ h.left;
  written = k.written ∙ h.written;
  grows = grows_on a b c h.grows k.grows;
  counts = none_failed_on a b c h.counts k.counts;
}
opens_on (Err (OpenFault s)) xs ys a b c h k = stops_on (OpenFault s) xs ys a b c h.starts h.written h.grows k
opens_on (Err e) xs ys a b c h k = k

access-after : (slot : Slot) (access : Access) (news : List Start) (o : Option (List Start))
    → ((w : Option Access) → fold (λ (x : Option Access) (s : Start). if same_slot s.slot slot then Some s.access else x) w news ≡ Some access)
    → IfSome (started_all news o) (λ starts. last_access slot starts ≡ Some access)
unfolding started_all
access-after slot access news None h = tt
access-after slot access news (Some olds) h = fold-append _ None olds news ∙ h (last_access slot olds)

-- the last start of a slot is the last one of these
pub access_of : (slot : Slot) (access : Access) (news : List Start) (a b : Outside) → b.starts ≡ started_all news a.starts
    → ((w : Option Access) → fold (λ (x : Option Access) (s : Start). if same_slot s.slot slot then Some s.access else x) w news ≡ Some access)
    → IfSome b.starts (λ starts. last_access slot starts ≡ Some access)
access_of slot access news a b e h =
    subst (λ o. IfSome o (λ starts. last_access slot starts ≡ Some access)) (sym e) (access-after slot access news a.starts h)
