-- What the files of slots got, and what waits for them.
use Rattle.std.proofs.Common.{◌≡◌, ℕ, List, [], ◌++◌, Option, Some, None, Result, OnOk, false, cond, if◌then◌else◌, sym, ap, subst, ◌∙◌, append_assoc, append-nil}
use Rattle.std.proofs.KnownBytes.{Appends-nil}
use Rattle.std.specs.Io.KnownBytes.{Appends, append_known}
use Rattle.file_desk.specs.declared.gathered.Gathering.{Gathering}
use Rattle.file_desk.specs.declared.gathered.Gathering.TheVariants.{Gathered, NoRoom}
use Rattle.gate_desk.specs.declared.slot.Slot.{Slot}
use Rattle.gate_desk.specs.declared.slot.Slot.TheVariants.{Errors}
use Rattle.gate_desk.specs.declared.slot.PerSlot.{PerSlot}
use Rattle.file_desk.specs.declared.place.Place.{Place}
use Rattle.gate_desk.specs.Slots.{at, put, same_slot, each}
use Rattle.gate_desk.specs.Inside.Slots.{mapped}
use Rattle.file_desk.specs.Gathering.{HandsOut, TakesNothing, TakesNothingElse, TakesPiece, got, taken_at, waiting}
use Rattle.file_desk.specs.Inside.Gathering.{gathered_after, got_in, waiting_in}
use Rattle.gate_desk.proofs.Laws.{at-each, at-mapped, at-put_any, at-put_append, put-at}

appends_on : (a b c : Option (List ℕ)) (piece : List ℕ) → Appends a b [] → Appends b c piece → Appends a c piece
appends_on None b c piece h k = tt
appends_on (Some xs) None c piece h k = absurd h
appends_on (Some xs) (Some ys) None piece h k = absurd k
appends_on (Some xs) (Some ys) (Some zs) piece h k = k ∙ ap (λ (l : List ℕ). l ++ piece) (h ∙ append-nil xs)

-- what waited was got
handed : (g g' : Option (List ℕ)) (waiting : List ℕ) → Appends g g' waiting → Appends (append_known g waiting) (append_known g' []) []
handed None g' waiting h = tt
handed (Some xs) None waiting h = absurd h
handed (Some xs) (Some ys) waiting h = ap (λ (l : List ℕ). l ++ []) h

-- a piece waits behind what waited
added : (g : Option (List ℕ)) (waiting piece : List ℕ) → Appends (append_known g waiting) (append_known g (waiting ++ piece)) piece
added None waiting piece = tt
added (Some xs) waiting piece = sym (append_assoc xs waiting piece)

-- all that waited was got
pub handed_all : (got got' : PerSlot (Option (List ℕ))) (waiting waiting' : PerSlot (List ℕ)) → HandsOut got waiting got' → waiting' ≡ each []
    → (s : Slot) → Appends (taken_at got waiting s) (taken_at got' waiting' s) []
handed_all got got' waiting waiting' h none s =
    subst (λ (w : List ℕ). Appends (taken_at got waiting s) (append_known (at got' s) w) [])
    (sym (ap (λ (w : PerSlot (List ℕ)). at w s) none ∙ at-each [] s)) (handed (at got s) (at got' s) (at waiting s) (h s))

-- a piece was gathered for its slot
pub gathered_one : (slot s : Slot) (piece : List ℕ) (got got' : PerSlot (Option (List ℕ))) (waiting waiting' : PerSlot (List ℕ)) (r : Gathering)
    → got' ≡ got → waiting' ≡ put waiting slot (gathered_after r piece (at waiting slot)) → r ≡ Gathered
    → Appends (taken_at got waiting s) (taken_at got' waiting' s) (if same_slot slot s then piece else [])
gathered_one slot s piece got got' waiting waiting' r same e is =
    let own = if same_slot slot s then piece else [] in
    let there : at waiting' s ≡ at waiting s ++ own =
    ap (λ (w : PerSlot (List ℕ)). at w s) (e ∙ ap (λ (x : Gathering). put waiting slot (gathered_after x piece (at waiting slot))) is)
    ∙ at-put_append waiting slot s piece in
    subst (λ (g : PerSlot (Option (List ℕ))). Appends (taken_at got waiting s) (append_known (at g s) (at waiting' s)) own) (sym same)
    (subst (λ (w : List ℕ). Appends (taken_at got waiting s) (append_known (at got s) w) own) (sym there) (added (at got s) (at waiting s) own))

-- a piece was gathered once all that waited was got
pub gathered_behind : (slot : Slot) (piece : List ℕ) (got mid got' : PerSlot (Option (List ℕ))) (waiting none waiting' : PerSlot (List ℕ))
    (r : Gathering) → HandsOut got waiting mid → none ≡ each [] → got' ≡ mid
    → waiting' ≡ put none slot (gathered_after r piece (at none slot)) → r ≡ Gathered → TakesPiece slot piece got waiting got' waiting'
gathered_behind slot piece got mid got' waiting none waiting' r h e same w is = λ s file.
    appends_on (taken_at got waiting s) (taken_at mid none s) (taken_at got' waiting' s) (if same_slot slot s then piece else [])
    (handed_all got mid waiting none h e s) (gathered_one slot s piece mid got' none waiting' r same w is)

-- a piece that found no room changed nothing
pub taken_later : {A E : Type 0} (result : Result A E) (slot : Slot) (piece : List ℕ) (got mid got' : PerSlot (Option (List ℕ)))
    (waiting middle waiting' : PerSlot (List ℕ)) (r : Gathering) → mid ≡ got
    → middle ≡ put waiting slot (gathered_after r piece (at waiting slot)) → r ≡ NoRoom → OnOk result (TakesPiece slot piece mid middle got' waiting')
    → OnOk result (TakesPiece slot piece got waiting got' waiting')
taken_later result slot piece got mid got' waiting middle waiting' r same e is h =
    subst (λ (g : PerSlot (Option (List ℕ))). OnOk result (TakesPiece slot piece g waiting got' waiting')) same
    (subst (λ (w : PerSlot (List ℕ)). OnOk result (TakesPiece slot piece mid w got' waiting'))
    (e ∙ ap (λ (x : Gathering). put waiting slot (gathered_after x piece (at waiting slot))) is ∙ put-at waiting slot) h)

-- a line of errors is for no file
pub taken_for_none : (piece : List ℕ) (got got' : PerSlot (Option (List ℕ))) (waiting waiting' : PerSlot (List ℕ)) → HandsOut got waiting got'
    → waiting' ≡ each [] → TakesPiece Errors piece got waiting got' waiting'
taken_for_none piece got got' waiting waiting' h none Errors file = absurd file
taken_for_none piece got got' waiting waiting' h none s file = handed_all got got' waiting waiting' h none s

-- neither changed
pub nothing_taken : (got got' : PerSlot (Option (List ℕ))) (waiting waiting' : PerSlot (List ℕ)) → got' ≡ got → waiting' ≡ waiting
    → TakesNothing got waiting got' waiting'
nothing_taken got got' waiting waiting' e f = λ s.
    subst (λ (g : PerSlot (Option (List ℕ))). Appends (taken_at got waiting s) (taken_at g waiting' s) []) (sym e)
    (subst (λ (w : PerSlot (List ℕ)). Appends (taken_at got waiting s) (taken_at got w s) []) (sym f) (Appends-nil (taken_at got waiting s)))

-- all that waited was got, and then neither changed
pub nothing_behind : (got mid got' : PerSlot (Option (List ℕ))) (waiting none waiting' : PerSlot (List ℕ)) → HandsOut got waiting mid → none ≡ each []
    → got' ≡ mid → waiting' ≡ none → TakesNothing got waiting got' waiting'
nothing_behind got mid got' waiting none waiting' h e same w = λ s.
    appends_on (taken_at got waiting s) (taken_at mid none s) (taken_at got' waiting' s) [] (handed_all got mid waiting none h e s)
    (nothing_taken mid got' none waiting' same w s)

-- the value of another slot stayed
stayed : {A B : Type 0} (f : A → B) (p : PerSlot A) (slot s : Slot) (x : A) → same_slot slot s ≡ false
    → at (mapped f (put p slot x)) s ≡ at (mapped f p) s
stayed f p slot s x other = at-mapped f (put p slot x) s ∙ ap f (at-put_any p slot s x ∙ ap (λ r. cond r x (at p s)) other) ∙ sym (at-mapped f p s)

-- all that waited was got, and then another place stood at a slot
pub nothing_else : {F A : Type 0} (contents : F → Option (List ℕ)) (slot : Slot) (places mid : PerSlot (Place F A)) (place : Place F A)
    → HandsOut (got_in contents places) (waiting_in places) (got_in contents mid) → waiting_in mid ≡ each []
    → TakesNothingElse slot (got_in contents places) (waiting_in places) (got_in contents (put mid slot place)) (waiting_in (put mid slot place))
nothing_else contents slot places mid place h none = λ s other.
    let before = handed_all (got_in contents places) (got_in contents mid) (waiting_in places) (waiting_in mid) h none s in
    subst (λ (g : Option (List ℕ)). Appends (taken_at (got_in contents places) (waiting_in places) s)
    (append_known g (at (waiting_in (put mid slot place)) s)) []) (sym (stayed (got contents) mid slot s place other))
    (subst (λ (w : List ℕ). Appends (taken_at (got_in contents places) (waiting_in places) s) (append_known (at (got_in contents mid) s) w) [])
    (sym (stayed waiting mid slot s place other)) before)
