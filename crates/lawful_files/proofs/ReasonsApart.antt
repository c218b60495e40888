-- Where files are lawful there is no reason against them, and there is one first reason at most.
use Rattle.std.proofs.Common.{◌≡◌, ◌≤◌, ◌+◌, ℕ, List, [], ◌∷◌, ◌++◌, length, drop, refl, sym, ◌∙◌, ap, subst, arith, inl, inr, length-append, map}
use Rattle.std.proofs.lemmas.List.{drop_at, length-map}
use Rattle.frag_join.specs.Prelude.{Arrival}
use Rattle.gate_base.specs.Prelude.{other}
use Rattle.gate_base.specs.declared.side.Side.{Side}
use Rattle.gate_base.specs.declared.side.Side.TheVariants as sides
use Rattle.gate_settings.specs.declared.settings.Settings.{Settings}
use Rattle.pcap_files.specs.Prelude.{Packet, Records, Ending as CaptureEnding}
use Rattle.pcap_merge.specs.Prelude.{Ending, Done, Fault}
use Rattle.lawful_files.specs.declared.reason.AuditReason.{AuditReason}
use Rattle.lawful_files.specs.declared.reason.AuditReason.TheVariants.{Line, Missing, Frame, Left}
use Rattle.lawful_files.specs.Wanted.{event_in}
use Rattle.lawful_files.specs.Files.{Given, given_at, given_of, State, opening, after, record_of, IsLawfulAt, LawfulFrom, Lawful}
use Rattle.lawful_files.specs.Reasons.{GoesOn, there_for, IsFirst, FirstReason}
use Rattle.gate_report.proofs.LineEnds.{IsSame}
use Rattle.lawful_files.proofs.LineEnds.{line_same}

-- ## One event

line_at : (settings : Settings) (k : State) (f : Arrival) (old new : Given) (frames : ℕ) (rest : List ℕ) (at : IsLawfulAt settings k f old new)
    → GoesOn settings k f old frames rest → IsSame (length at.list) frames new.report rest
line_at settings k f old new frames rest at h = line_same settings k f (length at.list) frames new.report rest at.few h.0 (sym at.line ∙ h.1)

enough : (settings : Settings) (k : State) (f : Arrival) (old new : Given) (at : IsLawfulAt settings k f old new) → length at.list ≤ there_for f old
enough settings k f old new at =
    let records = map (record_of settings (other (event_in f).side) (event_in f).moment) at.list in
    omega (
      arith,
      ap length at.records,
      length-append records (given_at (other (event_in f).side) new).packets,
      length-map at.list (record_of settings (other (event_in f).side) (event_in f).moment),
    )

records_same : (a b : Records) → a.packets ≡ b.packets → a.ending ≡ b.ending → a ≡ b
records_same a b e f =
    ap (λ (ps : List Packet). let r : Records = record { packets = ps; ending = a.ending } in r) e
    ∙ ap (λ (x : CaptureEnding). let r : Records = record { packets = b.packets; ending = x } in r) f

given_same : (side : Side) (a b : Given) → given_at side a ≡ given_at side b → given_at (other side) a ≡ given_at (other side) b → a.report ≡ b.report
    → a ≡ b
given_same sides.Left a b e f g =
    ap (λ (x : Records). let y : Given = record { left = x; right = a.right; report = a.report } in y) e
    ∙ ap (λ (x : Records). let y : Given = record { left = b.left; right = x; report = a.report } in y) f
    ∙ ap (λ (x : List ℕ). let y : Given = record { left = b.left; right = b.right; report = x } in y) g
given_same sides.Right a b e f g =
    ap (λ (x : Records). let y : Given = record { left = x; right = a.right; report = a.report } in y) f
    ∙ ap (λ (x : Records). let y : Given = record { left = b.left; right = x; report = a.report } in y) e
    ∙ ap (λ (x : List ℕ). let y : Given = record { left = b.left; right = b.right; report = x } in y) g

behind_same : (xs ys rs qs : List Packet) → length xs ≡ length ys → xs ++ rs ≡ ys ++ qs → rs ≡ qs
behind_same xs ys rs qs e f = sym (drop_at xs rs (length xs) refl) ∙ ap (drop (length xs)) f ∙ drop_at ys qs (length xs) (sym e)

-- what is lawful at an event leaves one thing, and has one number of frames
record OneWay {settings : Settings} {k : State} {f : Arrival} {old new next : Given} (at : IsLawfulAt settings k f old new)
    (to : IsLawfulAt settings k f old next) : Type 0 where
  frames : length at.list ≡ length to.list
  same : new ≡ next

one_way : (settings : Settings) (k : State) (f : Arrival) (old new next : Given) (at : IsLawfulAt settings k f old new)
    (to : IsLawfulAt settings k f old next) → OneWay at to
one_way settings k f old new next at to =
    let line = line_at settings k f old new (length to.list) next.report at (to.few, to.line) in
    let there = other (event_in f).side in
    let record_at = record_of settings there (event_in f).moment in
    let long : length (map record_at at.list) ≡ length (map record_at to.list) = length-map at.list record_at ∙ line.number
    ∙ sym (length-map to.list record_at) in
    let packets =
    behind_same (map record_at at.list) (map record_at to.list) (given_at there new).packets (given_at there next).packets long
    (sym at.records ∙ to.records) in
    record {
      frames = line.number;
      same = given_same (event_in f).side new next (at.others ∙ sym to.others)
          (records_same (given_at there new) (given_at there next) packets (at.ending ∙ sym to.ending)) line.rest;
    }

-- ## Lawful files have no reason against them

pub none_first : (settings : Settings) (fs : List Arrival) (ending : Ending) (k : State) (g : Given) (number : ℕ) (reason : AuditReason)
    → LawfulFrom settings k fs ending g → IsFirst settings k fs ending g number reason → ⊥
none_first settings [] Done k g number reason h first = first.2 h
none_first settings [] (Fault side fault place) k g number reason h first = first
none_first settings (f ∷ fs) ending k g number reason h first = by_case (λ j i. none_first settings fs ending j i number reason) first
  where
    goes_on : ((j : State) (i : Given) → LawfulFrom settings j fs ending i → IsFirst settings j fs ending i number reason → ⊥)
        → (next : Given) (at : IsLawfulAt settings k f g next) → IsFirst settings (after k f (length at.list)) fs ending next number reason → ⊥
    goes_on again next at later =
        let one = one_way settings k f g h.0 next h.1 at in
        again (after k f (length at.list)) next
        (subst (λ (x : Given). LawfulFrom settings (after k f (length at.list)) fs ending x) one.same
        (subst (λ (n : ℕ). LawfulFrom settings (after k f n) fs ending h.0) one.frames h.2))
        later

    by_case : ((j : State) (i : Given) → LawfulFrom settings j fs ending i → IsFirst settings j fs ending i number reason → ⊥)
        → IsFirst settings k (f ∷ fs) ending g number reason → ⊥
    by_case again (inl no_line) = no_line.2 (length h.1.list) h.0.report (h.1.few, h.1.line)
    by_case again (inr (inl missing)) =
        let line = line_at settings k f g h.0 missing.2 missing.3 h.1 missing.4 in
        omega (arith, line.number, enough settings k f g h.0 h.1, missing.5)
    by_case again (inr (inr (inl wrong))) = wrong.6 h.0 h.1
    by_case again (inr (inr (inr later))) = goes_on again later.0 later.1 later.2

-- ## One first reason

pub record IsOne (number other_number : ℕ) (reason other_reason : AuditReason) : Type 0 where
  pub number_is : number ≡ other_number
  pub reason_is : reason ≡ other_reason

both_are : (n m number : ℕ) (r q reason : AuditReason) → n ≡ number → m ≡ number → r ≡ reason → q ≡ reason → IsOne n m r q
both_are n m number r q reason a b c d = record { number_is = a ∙ sym b; reason_is = c ∙ sym d }

pub one_first : (settings : Settings) (fs : List Arrival) (ending : Ending) (k : State) (g : Given) (n m : ℕ) (r q : AuditReason)
    → IsFirst settings k fs ending g n r → IsFirst settings k fs ending g m q → IsOne n m r q
one_first settings [] Done k g n m r q a b = both_are n m (k.totals.events + 1) r q Left a.0 b.0 a.1 b.1
one_first settings [] (Fault side fault place) k g n m r q a b = absurd a
one_first settings (f ∷ fs) ending k g n m r q a b = by_cases (λ j i. one_first settings fs ending j i n m r q) a b
  where
    -- two ways to go on with the line give one number
    one_number : (x y : ℕ) (rest more : List ℕ) → GoesOn settings k f g x rest → GoesOn settings k f g y more → x ≡ y
    one_number x y rest more h i = (line_same settings k f x y rest more h.0 i.0 (sym h.1 ∙ i.1)).number

    lawful_line : (next : Given) (at : IsLawfulAt settings k f g next) → GoesOn settings k f g (length at.list) next.report
    lawful_line next at = (at.few, at.line)

    go_on : ((j : State) (i : Given) → IsFirst settings j fs ending i n r → IsFirst settings j fs ending i m q → IsOne n m r q)
        → (x y : Given) (at : IsLawfulAt settings k f g x) (to : IsLawfulAt settings k f g y)
        → IsFirst settings (after k f (length at.list)) fs ending x n r → IsFirst settings (after k f (length to.list)) fs ending y m q
        → IsOne n m r q
    go_on again x y at to h i =
        let one = one_way settings k f g x y at to in
        again (after k f (length to.list)) y
        (subst (λ (z : Given). IsFirst settings (after k f (length to.list)) fs ending z n r) one.same
        (subst (λ (c : ℕ). IsFirst settings (after k f c) fs ending x n r) one.frames h))
        i

    by_cases : ((j : State) (i : Given) → IsFirst settings j fs ending i n r → IsFirst settings j fs ending i m q → IsOne n m r q)
        → IsFirst settings k (f ∷ fs) ending g n r → IsFirst settings k (f ∷ fs) ending g m q → IsOne n m r q
    by_cases again (inl a) (inl b) = both_are n m (k.totals.events + 1) r q Line a.0 b.0 a.1 b.1
    by_cases again (inl a) (inr (inl b)) = absurd (a.2 b.2 b.3 b.4)
    by_cases again (inl a) (inr (inr (inl b))) = absurd (a.2 b.2 b.3 b.4)
    by_cases again (inl a) (inr (inr (inr b))) = absurd (a.2 (length b.1.list) b.0.report (lawful_line b.0 b.1))
    by_cases again (inr (inl a)) (inl b) = absurd (b.2 a.2 a.3 a.4)
    by_cases again (inr (inl a)) (inr (inl b)) = both_are n m (k.totals.events + 1) r q Missing a.0 b.0 a.1 b.1
    by_cases again (inr (inl a)) (inr (inr (inl b))) = absurd (omega (arith, one_number a.2 b.2 a.3 b.3 a.4 b.4, a.5, b.5))
    by_cases again (inr (inl a)) (inr (inr (inr b))) =
        absurd (omega (arith, one_number a.2 (length b.1.list) a.3 b.0.report a.4 (lawful_line b.0 b.1), a.5, enough settings k f g b.0 b.1))
    by_cases again (inr (inr (inl a))) (inl b) = absurd (b.2 a.2 a.3 a.4)
    by_cases again (inr (inr (inl a))) (inr (inl b)) = absurd (omega (arith, one_number a.2 b.2 a.3 b.3 a.4 b.4, a.5, b.5))
    by_cases again (inr (inr (inl a))) (inr (inr (inl b))) = both_are n m (k.totals.events + 1) r q Frame a.0 b.0 a.1 b.1
    by_cases again (inr (inr (inl a))) (inr (inr (inr b))) = absurd (a.6 b.0 b.1)
    by_cases again (inr (inr (inr a))) (inl b) = absurd (b.2 (length a.1.list) a.0.report (lawful_line a.0 a.1))
    by_cases again (inr (inr (inr a))) (inr (inl b)) =
        absurd (omega (arith, one_number b.2 (length a.1.list) b.3 a.0.report b.4 (lawful_line a.0 a.1), b.5, enough settings k f g a.0 a.1))
    by_cases again (inr (inr (inr a))) (inr (inr (inl b))) = absurd (b.6 a.0 a.1)
    by_cases again (inr (inr (inr a))) (inr (inr (inr b))) = go_on again a.0 b.0 a.1 b.1 a.2 b.2

-- ## Three files

pub no_reason : (settings : Settings) (fs : List Arrival) (ending : Ending) (left right report : List ℕ) (number : ℕ) (reason : AuditReason)
    → Lawful settings fs ending left right report → FirstReason settings fs ending left right report number reason → ⊥
no_reason settings fs ending left right report number reason h (inl c) = c.2 (h.left_head, h.right_head)
no_reason settings fs ending left right report number reason h (inr c) =
    none_first settings fs ending (opening settings) (given_of left right report) number reason h.goes c.2

pub one_reason : (settings : Settings) (fs : List Arrival) (ending : Ending) (left right report : List ℕ) (n m : ℕ) (r q : AuditReason)
    → FirstReason settings fs ending left right report n r → FirstReason settings fs ending left right report m q → (n ≡ m) × (r ≡ q)
one_reason settings fs ending left right report n m r q (inl a) (inl b) = (a.0 ∙ sym b.0, a.1 ∙ sym b.1)
one_reason settings fs ending left right report n m r q (inl a) (inr b) = absurd (a.2 (b.0, b.1))
one_reason settings fs ending left right report n m r q (inr a) (inl b) = absurd (b.2 (a.0, a.1))
one_reason settings fs ending left right report n m r q (inr a) (inr b) = let one =
    one_first settings fs ending (opening settings) (given_of left right report) n m r q a.2 b.2 in (one.number_is, one.reason_is)
