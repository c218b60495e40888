-- The function finds the first reason, and none exactly where the files are lawful.
use Rattle.std.proofs.Common.{◌≡◌, ◌≤◌, ◌<◌, ◌+◌, ◌^◌, ℕ, Bool, true, false, cond, List, [], ◌∷◌, ◌++◌, length, take, drop, Option, Some, None}
use Rattle.std.proofs.Common.{refl, sym, ◌∙◌, ap, subst, arith, inl, inr, map, not, ◌&&◌, ◌==◌, nat_lt, if◌then◌else◌, decimal, bytes_eq}
use Rattle.std.specs.Char.{digit_value}
use Rattle.std.specs.Str.Parse.{AllDigits, digits_value}
use Rattle.std.proofs.lemmas.Bool.{and_parts, and_from, eqb-true, true≢false, false≢true, lt-ltb, le-ltb, ltb-true, ltb-false}
use Rattle.std.proofs.lemmas.Fmt.{decimal_is_IsNumeral}
use Rattle.std.proofs.lemmas.List.{take_at, drop_at, take-append-drop, length-take-le, length-map, nil_from_length}
use Rattle.std.proofs.lemmas.Slice.Eq.{bytes_eq-Decides}
use Rattle.frag_join.specs.Prelude.{Arrival, Reaches, Stopped}
use Rattle.gate_base.specs.Prelude.{other}
use Rattle.gate_report.proofs.LineEnds.{cut}
use Rattle.gate_base.specs.declared.side.Link.{Link}
use Rattle.gate_base.specs.declared.side.Link.TheVariants.{Ethernet, Raw}
use Rattle.gate_base.specs.declared.side.Side.{Side}
use Rattle.gate_base.specs.declared.side.Side.TheVariants as sides
use Rattle.gate_settings.specs.Prelude.{HaveMacAddresses}
use Rattle.gate_settings.specs.declared.settings.Settings.{Settings}
use Rattle.pcap_files.specs.Prelude.{Packet, Records, Ending as CaptureEnding, Whole, Fault as CaptureEndsFaulty, Head, Good, Bad, head_of}
use Rattle.pcap_merge.specs.Prelude.{Ending, Done, Fault}
use Rattle.lawful_files.specs.declared.reason.AuditReason.{AuditReason}
use Rattle.lawful_files.specs.declared.reason.AuditReason.TheVariants.{Capture, Line, Missing, Frame, Left}
use Rattle.lawful_files.specs.Files.{Given, given_at, given_of, State, opening, after, line_of, last_line}
use Rattle.lawful_files.specs.Files.{record_of, HasLink, IsLawfulAt, IsAtLast, LawfulFrom, Lawful}
use Rattle.lawful_files.specs.Judging.{AllOctets, digits_in, before_number, frames_told, goes_on_with, same_link, has_link_by, has_link}
use Rattle.lawful_files.specs.Judging.{is_whole, is_used_up, without_first, behind_records, is_at_last, at_event, reason_from, reason_of}
use Rattle.lawful_files.specs.Wanted.{event_in, verdict_of, wanted_of}
use Rattle.lawful_files.specs.Progress.{IsSound, AreLawful, behind_all, is_closed}
use Rattle.lawful_files.specs.Reasons.{GoesOn, HasNoLine, there_for, IsFirst, FirstReason}
use Rattle.lawful_files.proofs.LineEnds.{line_same}
use Rattle.lawful_files.proofs.Progressed.{is_whole as closed_is_lawful, whole_is_closed}
use Rattle.lawful_files.proofs.SoundWanted.{wanted_sound}
use Rattle.lawful_files.proofs.ReasonsApart.{no_reason, one_reason}

-- ## The number in a line

digits_stop : (xs : List ℕ) (mark : ℕ) (r : List ℕ) → AllDigits 10 xs → 10 ≤ digit_value mark → digits_in (xs ++ mark ∷ r) ≡ xs
digits_stop [] mark r h none = let no_digit : nat_lt (digit_value mark) 10 ≡ false = le-ltb (digit_value mark) 10 none in
    ap (λ (b : Bool). cond b (mark ∷ digits_in r) []) no_digit
digits_stop (x ∷ xs) mark r h none =
    let digit : nat_lt (digit_value x) 10 ≡ true = lt-ltb (digit_value x) 10 h.0 in
    ap (λ (b : Bool). cond b (x ∷ digits_in (xs ++ mark ∷ r)) []) digit ∙ ap (λ (ys : List ℕ). x ∷ ys) (digits_stop xs mark r h.1 none)

told_is : (settings : Settings) (k : State) (f : Arrival) (report : List ℕ) (n : ℕ) (r : List ℕ) → n < 2 ^ 32 → report ≡ line_of settings k f n ++ r
    → frames_told settings k f report ≡ n
told_is settings k f report n r small e =
    let c = cut settings.report (k.totals.events + 1) (event_in f).side (event_in f).moment (verdict_of k.world f) in
    let front = before_number settings k f in
    let number = decimal_is_IsNumeral n (omega (arith, small)) in
    let there : drop (length front) report ≡ decimal n ++ c.mark ∷ c.behind r = ap (drop (length front)) (e ∙ c.line n r)
    ∙ drop_at front (decimal n ++ c.mark ∷ c.behind r) (length front) refl in
    ap (digits_value 10) (ap digits_in there ∙ digits_stop (decimal n) c.mark (c.behind r) number.0.1 c.none) ∙ number.1

on_line : (settings : Settings) (k : State) (f : Arrival) (report : List ℕ) (n : ℕ) (r : List ℕ) → n < 2 ^ 32 → report ≡ line_of settings k f n ++ r
    → goes_on_with settings k f report n ≡ true
on_line settings k f report n r small e =
    let line = line_of settings k f n in
    and_from (nat_lt n (2 ^ 32)) (bytes_eq (take (length line) report) line) (lt-ltb n (2 ^ 32) small)
    ((bytes_eq-Decides (take (length line) report) line).1 (ap (take (length line)) e ∙ take_at line r (length line) refl))

-- the report goes on with its line exactly where it is found to
goes_on : (settings : Settings) (k : State) (f : Arrival) (g : Given) (n : ℕ) → goes_on_with settings k f g.report n ≡ true
    → GoesOn settings k f g n (drop (length (line_of settings k f n)) g.report)
goes_on settings k f g n e =
    let line = line_of settings k f n in
    let parts = and_parts (nat_lt n (2 ^ 32)) (bytes_eq (take (length line) g.report) line) e in
    let same : take (length line) g.report ≡ line = (bytes_eq-Decides (take (length line) g.report) line).0 parts.1 in
    (ltb-true n (2 ^ 32) parts.0, sym (take-append-drop (length line) g.report) ∙ ap (λ (xs : List ℕ). xs ++ drop (length line) g.report) same)

no_line : (settings : Settings) (k : State) (f : Arrival) (g : Given) → goes_on_with settings k f g.report (frames_told settings k f g.report) ≡ false
    → HasNoLine settings k f g
no_line settings k f g e frames rest h =
    let told = told_is settings k f g.report frames rest h.0 h.1 in
    true≢false (sym (on_line settings k f g.report frames rest h.0 h.1) ∙ ap (goes_on_with settings k f g.report) (sym told) ∙ e)

-- ## Records

given_behind : (side : Side) (n : ℕ) (rest : List ℕ) (g : Given) → given_at side (behind_records side n rest g) ≡ without_first n (given_at side g)
given_behind sides.Left n rest g = refl
given_behind sides.Right n rest g = refl

given_beside : (side : Side) (n : ℕ) (rest : List ℕ) (g : Given) → given_at side (behind_records (other side) n rest g) ≡ given_at side g
given_beside sides.Left n rest g = refl
given_beside sides.Right n rest g = refl

report_behind : (side : Side) (n : ℕ) (rest : List ℕ) (g : Given) → (behind_records side n rest g).report ≡ rest
report_behind sides.Left n rest g = refl
report_behind sides.Right n rest g = refl

sound_first : (k : State) (f : Arrival) (fs : List Arrival) → AllOctets (f ∷ fs) → IsSound (wanted_of k.world f)
sound_first k (Reaches e) fs h = wanted_sound k.world e h.0
sound_first k (Stopped e v) fs h = tt

octets_behind : (f : Arrival) (fs : List Arrival) → AllOctets (f ∷ fs) → AllOctets fs
octets_behind (Reaches e) fs h = h.1
octets_behind (Stopped e v) fs h = h

abbrev next_given : Settings → State → Arrival → Given → ℕ → Given
next_given settings k f g n = behind_records (other (event_in f).side) n (drop (length (line_of settings k f n)) g.report) g

-- where so many records are lawful, the event is
record IsTaken (settings : Settings) (k : State) (f : Arrival) (g : Given) (n : ℕ) : Type 0 where
  at : IsLawfulAt settings k f g (next_given settings k f g n)
  count : length at.list ≡ n

taken : (settings : Settings) (k : State) (f : Arrival) (g : Given) (n : ℕ) → n < 2 ^ 32
    → g.report ≡ line_of settings k f n ++ drop (length (line_of settings k f n)) g.report → n ≤ there_for f g
    → AreLawful settings (other (event_in f).side) (event_in f).moment (wanted_of k.world f) (take n (given_at (other (event_in f).side) g).packets)
    → IsTaken settings k f g n
taken settings k f g n small line enough h =
    let to = other (event_in f).side in
    let packets = (given_at to g).packets in
    let rest = drop (length (line_of settings k f n)) g.report in
    let count : length h.0 ≡ n = sym (length-map h.0 (record_of settings to (event_in f).moment)) ∙ sym (ap length h.2)
    ∙ length-take-le n packets enough in
    record {
      at = record {
        list = h.0;
        few = omega (arith, count, small);
        line = line ∙ ap (λ (m : ℕ). line_of settings k f m ++ rest) (sym count)
            ∙ ap (λ (xs : List ℕ). line_of settings k f (length h.0) ++ xs) (sym (report_behind to n rest g));
        records =
            sym (take-append-drop n packets) ∙ ap (λ (ps : List Packet). ps ++ drop n packets) h.2
            ∙ ap (λ (r : Records). map (record_of settings to (event_in f).moment) h.0 ++ r.packets) (sym (given_behind to n rest g));
        ending = ap (λ (r : Records). r.ending) (given_behind to n rest g);
        others = given_beside (event_in f).side n rest g;
        lawful = h.1;
      };
      count = count;
    }

-- where the event is lawful, so many records are
are_lawful : (settings : Settings) (k : State) (f : Arrival) (g next : Given) (n : ℕ) (at : IsLawfulAt settings k f g next) → length at.list ≡ n
    → AreLawful settings (other (event_in f).side) (event_in f).moment (wanted_of k.world f) (take n (given_at (other (event_in f).side) g).packets)
are_lawful settings k f g next n at count =
    let to = other (event_in f).side in
    let records = map (record_of settings to (event_in f).moment) at.list in (
      at.list,
      at.lawful,
      ap (take n) at.records
          ∙ take_at records (given_at to next).packets n (length-map at.list (record_of settings to (event_in f).moment) ∙ count),
    )

pub not_lawful : (settings : Settings) (k : State) (f : Arrival) (g : Given) (n : ℕ) (rest : List ℕ) → HaveMacAddresses settings
    → IsSound (wanted_of k.world f) → GoesOn settings k f g n rest
    → is_closed (wanted_of k.world f)
    (behind_all settings (other (event_in f).side) (event_in f).moment (wanted_of k.world f) (take n (given_at (other (event_in f).side) g).packets))
    ≡ false → (next : Given) → IsLawfulAt settings k f g next → ⊥
not_lawful settings k f g n rest addresses sound line wrong next at =
    let to = other (event_in f).side in
    let same = line_same settings k f (length at.list) n next.report rest at.few line.0 (sym at.line ∙ line.1) in
    true≢false
    (sym (whole_is_closed settings to (event_in f).moment (addresses to) (wanted_of k.world f)
    (take n (given_at to g).packets) sound (are_lawful settings k f g next n at same.number)) ∙ wrong)

-- ## The end

used_up : (r : Records) → is_used_up r ≡ true → r ≡ record { packets = []; ending = Whole }
used_up r e =
    let parts = and_parts (length r.packets == 0) (is_whole r.ending) e in
    ap (λ (ps : List Packet). let x : Records = record { packets = ps; ending = r.ending } in x)
    (nil_from_length r.packets (eqb-true (length r.packets) 0 parts.0))
    ∙ ap (λ (y : CaptureEnding). let x : Records = record { packets = []; ending = y } in x) (whole r.ending parts.1)
  where
    whole : (x : CaptureEnding) → is_whole x ≡ true → x ≡ Whole
    whole Whole f = refl
    whole (CaptureEndsFaulty fault place) f = absurd (false≢true f)

at_last : (settings : Settings) (k : State) (g : Given) → is_at_last settings k g ≡ true → IsAtLast settings k g
at_last settings k g e =
    let parts = and_parts (is_used_up g.left && is_used_up g.right) (bytes_eq g.report (last_line settings k)) e in
    let both = and_parts (is_used_up g.left) (is_used_up g.right) parts.0 in
    record { left = used_up g.left both.0; right = used_up g.right both.1; report = (bytes_eq-Decides g.report (last_line settings k)).0 parts.1 }

is_last : (settings : Settings) (k : State) (g : Given) → IsAtLast settings k g → is_at_last settings k g ≡ true
is_last settings k g h =
    and_from (is_used_up g.left && is_used_up g.right) (bytes_eq g.report (last_line settings k))
    (and_from (is_used_up g.left) (is_used_up g.right) (ap is_used_up h.left) (ap is_used_up h.right))
    ((bytes_eq-Decides g.report (last_line settings k)).1 h.report)

-- ## The walk

abbrev Judges : Settings → State → List Arrival → Ending → Given → Option (ℕ × AuditReason) → Type 0
Judges settings k fs ending g None = LawfulFrom settings k fs ending g
Judges settings k fs ending g (Some found) = IsFirst settings k fs ending g found.0 found.1

goes_further : (settings : Settings) (k : State) (f : Arrival) (fs : List Arrival) (ending : Ending) (g : Given) (n : ℕ) → IsTaken settings k f g n
    → (later : Option (ℕ × AuditReason)) → Judges settings (after k f n) fs ending (next_given settings k f g n) later
    → Judges settings k (f ∷ fs) ending g later
goes_further settings k f fs ending g n t None h =
    (next_given settings k f g n, t.at, subst (λ (m : ℕ). LawfulFrom settings (after k f m) fs ending (next_given settings k f g n)) (sym t.count) h)
goes_further settings k f fs ending g n t (Some found) h =
    inr (inr
    (inr (
      next_given settings k f g n,
      t.at,
      subst (λ (m : ℕ). IsFirst settings (after k f m) fs ending (next_given settings k f g n) found.0 found.1) (sym t.count) h,
    )))

judged_event : (settings : Settings) (k : State) (f : Arrival) (fs : List Arrival) (ending : Ending) (g : Given) (n : ℕ)
    (later : Option (ℕ × AuditReason)) → HaveMacAddresses settings → IsSound (wanted_of k.world f) → n ≡ frames_told settings k f g.report
    → Judges settings (after k f n) fs ending (next_given settings k f g n) later
    → Judges settings k (f ∷ fs) ending g (at_event (k.totals.events + 1) n (there_for f g) (goes_on_with settings k f g.report n)
    (is_closed (wanted_of k.world f)
    (behind_all settings (other (event_in f).side) (event_in f).moment (wanted_of k.world f)
    (take n (given_at (other (event_in f).side) g).packets))) later)
judged_event settings k f fs ending g n later addresses sound told h =
    by_tests (goes_on_with settings k f g.report n) (nat_lt (there_for f g) n)
    (is_closed (wanted_of k.world f)
    (behind_all settings (other (event_in f).side) (event_in f).moment (wanted_of k.world f)
    (take n (given_at (other (event_in f).side) g).packets))) refl refl refl
  where
    by_tests : (line few right : Bool) → goes_on_with settings k f g.report n ≡ line → nat_lt (there_for f g) n ≡ few
        → is_closed (wanted_of k.world f)
        (behind_all settings (other (event_in f).side) (event_in f).moment (wanted_of k.world f)
        (take n (given_at (other (event_in f).side) g).packets)) ≡ right
        → Judges settings k (f ∷ fs) ending g
        (if not line then Some (k.totals.events + 1, Line) else if few then Some (k.totals.events + 1, Missing) else if not right then Some
        (k.totals.events + 1, Frame) else later)
    by_tests false few right e m c = inl (refl, refl, no_line settings k f g (ap (goes_on_with settings k f g.report) (sym told) ∙ e))
    by_tests true true right e m c = let line = goes_on settings k f g n e in
        inr (inl (refl, refl, n, drop (length (line_of settings k f n)) g.report, line, ltb-true (there_for f g) n m))
    by_tests true false false e m c =
        let line = goes_on settings k f g n e in
        inr (inr
        (inl (
          refl,
          refl,
          n,
          drop (length (line_of settings k f n)) g.report,
          line,
          ltb-false (there_for f g) n m,
          not_lawful settings k f g n (drop (length (line_of settings k f n)) g.report) addresses sound line c,
        )))
    by_tests true false true e m c =
        let line = goes_on settings k f g n e in
        let to = other (event_in f).side in
        let lawful =
        closed_is_lawful settings to (event_in f).moment (addresses to) (wanted_of k.world f)
        (take n (given_at to g).packets) sound c in
        goes_further settings k f fs ending g n (taken settings k f g n line.0 line.1 (ltb-false (there_for f g) n m) lawful) later h

judged_from : (settings : Settings) (fs : List Arrival) (ending : Ending) (k : State) (g : Given) → HaveMacAddresses settings → AllOctets fs
    → Judges settings k fs ending g (reason_from settings k fs ending g)
unfolding reason_from
judged_from settings [] Done k g addresses octets = by_test (is_at_last settings k g) refl
  where
    by_test : (last : Bool) → is_at_last settings k g ≡ last → Judges settings k [] Done g (if last then None else Some (k.totals.events + 1, Left))
    by_test true e = at_last settings k g e
    by_test false e = (refl, refl, λ h. true≢false (sym (is_last settings k g h) ∙ e))
judged_from settings [] (Fault side fault place) k g addresses octets = tt
judged_from settings (f ∷ fs) ending k g addresses octets =
    let n = frames_told settings k f g.report in
    judged_event settings k f fs ending g n (reason_from settings (after k f n) fs ending (next_given settings k f g n)) addresses
    (sound_first k f fs octets) refl
    (judged_from settings fs ending (after k f n) (next_given settings k f g n) addresses (octets_behind f fs octets))

-- ## Three files

link_is : (a b : Link) → same_link a b ≡ true → a ≡ b
link_is Raw Raw e = refl
link_is Ethernet Ethernet e = refl
link_is Raw Ethernet e = absurd (false≢true e)
link_is Ethernet Raw e = absurd (false≢true e)

same_links : (a : Link) → same_link a a ≡ true
same_links Raw = refl
same_links Ethernet = refl

has_a_link : (link : Link) (octets : List ℕ) → has_link link octets ≡ true → HasLink link octets
has_a_link link octets e = by_head (head_of octets) refl e
  where
    by_head : (h : Head) → head_of octets ≡ h → has_link_by link h ≡ true → HasLink link octets
    by_head (Good form) is f = (form, is, link_is form.link link f)
    by_head (Bad fault) is f = absurd (false≢true f)

link_holds : (link : Link) (octets : List ℕ) → HasLink link octets → has_link link octets ≡ true
link_holds link octets h = ap (has_link_by link) h.1 ∙ ap (λ (l : Link). same_link l link) h.2 ∙ same_links link

abbrev pub JudgesAll : Settings → List Arrival → Ending → List ℕ → List ℕ → List ℕ → Option (ℕ × AuditReason) → Type 0
JudgesAll settings fs ending left right report None = Lawful settings fs ending left right report
JudgesAll settings fs ending left right report (Some found) = FirstReason settings fs ending left right report found.0 found.1

judged_all : (settings : Settings) (fs : List Arrival) (ending : Ending) (left right report : List ℕ) (o : Option (ℕ × AuditReason))
    → HasLink settings.left.link left → HasLink settings.right.link right
    → Judges settings (opening settings) fs ending (given_of left right report) o → JudgesAll settings fs ending left right report o
judged_all settings fs ending left right report None l r h = record { left_head = l; right_head = r; goes = h }
judged_all settings fs ending left right report (Some found) l r h = inr (l, r, h)

pub judged : (settings : Settings) (fs : List Arrival) (ending : Ending) (left right report : List ℕ) → HaveMacAddresses settings → AllOctets fs
    → JudgesAll settings fs ending left right report (reason_of settings fs ending left right report)
judged settings fs ending left right report addresses octets = by_test (has_link settings.left.link left && has_link settings.right.link right) refl
  where
    by_test : (heads : Bool) → (has_link settings.left.link left && has_link settings.right.link right) ≡ heads
        → JudgesAll settings fs ending left right report
        (if heads then reason_from settings (opening settings) fs ending (given_of left right report) else Some (0, Capture))
    by_test true e =
        let both = and_parts (has_link settings.left.link left) (has_link settings.right.link right) e in
        judged_all settings fs ending left right report (reason_from settings (opening settings) fs ending (given_of left right report))
        (has_a_link settings.left.link left both.0) (has_a_link settings.right.link right both.1)
        (judged_from settings fs ending (opening settings) (given_of left right report) addresses octets)
    by_test false e =
        inl (
          refl,
          refl,
          λ h. true≢false (sym
              (and_from (has_link settings.left.link left) (has_link settings.right.link right) (link_holds settings.left.link left h.0)
              (link_holds settings.right.link right h.1)) ∙ e),
        )

-- ## Exactly

pub none_where_lawful : (settings : Settings) (fs : List Arrival) (ending : Ending) (left right report : List ℕ) → HaveMacAddresses settings
    → AllOctets fs → Lawful settings fs ending left right report → reason_of settings fs ending left right report ≡ None
none_where_lawful settings fs ending left right report addresses octets h =
    by_found (reason_of settings fs ending left right report) (judged settings fs ending left right report addresses octets)
  where
    by_found : (o : Option (ℕ × AuditReason)) → JudgesAll settings fs ending left right report o → o ≡ None
    by_found None j = refl
    by_found (Some found) j = absurd (no_reason settings fs ending left right report found.0 found.1 h j)

pub some_where_first : (settings : Settings) (fs : List Arrival) (ending : Ending) (left right report : List ℕ) (number : ℕ) (reason : AuditReason)
    → HaveMacAddresses settings → AllOctets fs → FirstReason settings fs ending left right report number reason
    → reason_of settings fs ending left right report ≡ Some (number, reason)
some_where_first settings fs ending left right report number reason addresses octets h =
    by_found (reason_of settings fs ending left right report) (judged settings fs ending left right report addresses octets)
  where
    by_found : (o : Option (ℕ × AuditReason)) → JudgesAll settings fs ending left right report o → o ≡ Some (number, reason)
    by_found None j = absurd (no_reason settings fs ending left right report number reason j h)
    by_found (Some found) j =
        let one = one_reason settings fs ending left right report found.0 number found.1 reason j h in
        ap (λ (n : ℕ). Some (n, found.1)) one.0 ∙ ap (λ (r : AuditReason). Some (number, r)) one.1

pub lawful_where_none : (settings : Settings) (fs : List Arrival) (ending : Ending) (left right report : List ℕ) → HaveMacAddresses settings
    → AllOctets fs → reason_of settings fs ending left right report ≡ None → Lawful settings fs ending left right report
lawful_where_none settings fs ending left right report addresses octets e =
    subst (JudgesAll settings fs ending left right report) e (judged settings fs ending left right report addresses octets)

pub first_where_some : (settings : Settings) (fs : List Arrival) (ending : Ending) (left right report : List ℕ) (number : ℕ) (reason : AuditReason)
    → HaveMacAddresses settings → AllOctets fs → reason_of settings fs ending left right report ≡ Some (number, reason)
    → FirstReason settings fs ending left right report number reason
first_where_some settings fs ending left right report number reason addresses octets e =
    subst (JudgesAll settings fs ending left right report) e (judged settings fs ending left right report addresses octets)
