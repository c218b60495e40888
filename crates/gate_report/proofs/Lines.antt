-- The words of a line are short, and so is a line.
use Rattle.std.proofs.Common.{◌≡◌, ◌<◌, ◌≤◌, ◌+◌, ◌^◌, ℕ, List, ◌++◌, length, codes, decimal, arith, length-append}
use Rattle.std.proofs.lemmas.Fmt.{length-decimal-le}
use Rattle.gate_base.specs.declared.side.Side.{Side}
use Rattle.gate_base.specs.declared.side.Side.TheVariants.{Left, Right}
use Rattle.verdicts.specs.declared.verdict.Verdict.{Verdict}
use Rattle.verdicts.specs.declared.verdict.Verdict.TheVariants.{Pass, Refused, Held}
use Rattle.verdicts.specs.declared.refusal.Refusal.{Refusal}
use Rattle.verdicts.specs.declared.refusal.Refusal.TheVariants as refusals
use Rattle.gate_base.specs.Prelude.{name_of}
use Rattle.verdicts.specs.Prelude.{verdict_name}
use Rattle.verdicts.specs.Refusal as refusal
use Rattle.gate_settings.specs.declared.settings.ReportForm.{ReportForm}
use Rattle.gate_settings.specs.declared.settings.ReportForm.TheVariants.{Text, Json}
use Rattle.gate_report.specs.declared.line.Line.TheVariants.{Done}
use Rattle.gate_report.specs.declared.totals.Totals.{Totals}
use Rattle.gate_report.specs.Lines.{event_text, done_text, event_json, done_json, line_octets, event_line}

pub side_short : (side : Side) → length (name_of side) ≤ 5
side_short Left = omega arith
side_short Right = omega arith

refusal_short : (r : Refusal) → length (refusal.name_of r) ≤ 13
unfolding refusal.name_of
refusal_short refusals.Snapped = omega arith
refusal_short refusals.NotIpv4 = omega arith
refusal_short refusals.BadHeader = omega arith
refusal_short refusals.BadHeaderSum = omega arith
refusal_short refusals.Fragment = omega arith
refusal_short refusals.IpOptions = omega arith
refusal_short refusals.BadFragment = omega arith
refusal_short refusals.FragmentsFull = omega arith
refusal_short refusals.TtlSpent = omega arith
refusal_short refusals.NotUnicast = omega arith
refusal_short refusals.Protocol = omega arith
refusal_short refusals.BadTransport = omega arith
refusal_short refusals.BadSum = omega arith
refusal_short refusals.SourceInPool = omega arith
refusal_short refusals.NoBinding = omega arith
refusal_short refusals.BadInner = omega arith
refusal_short refusals.InnerUnbound = omega arith
refusal_short refusals.BadDns = omega arith
refusal_short refusals.DnsUnbound = omega arith
refusal_short refusals.BadSnmp = omega arith
refusal_short refusals.NoSession = omega arith
refusal_short refusals.SynData = omega arith
refusal_short refusals.SynInSession = omega arith
refusal_short refusals.NoAck = omega arith
refusal_short refusals.Gap = omega arith
refusal_short refusals.PastEnd = omega arith
refusal_short refusals.AckAhead = omega arith
refusal_short refusals.Unlike = omega arith
refusal_short refusals.StreamLimit = omega arith
refusal_short refusals.Backlog = omega arith
refusal_short refusals.BadUnit = omega arith
refusal_short refusals.UnitUnbound = omega arith
refusal_short refusals.RenamesFull = omega arith
refusal_short refusals.SessionsFull = omega arith
refusal_short refusals.PoolEmpty = omega arith
refusal_short refusals.UnitGrows = omega arith
refusal_short refusals.SnmpTooLong = omega arith

pub verdict_short : (verdict : Verdict) → length (verdict_name verdict) ≤ 13
verdict_short Pass = omega arith
verdict_short (Refused r) = refusal_short r
verdict_short Held = omega arith

-- ## How long a line is

number_short : (n : ℕ) → n < 2 ^ 64 → length (decimal n) ≤ 20
number_short n h = length-decimal-le 20 n (omega arith) (omega (arith, h)) h

sum_10 : (a b c d e f g h i j : List ℕ)
    → length (a ++ b ++ c ++ d ++ e ++ f ++ g ++ h ++ i ++ j)
    ≡ length a + length b + length c + length d + length e + length f + length g + length h + length i + length j
sum_10 a b c d e f g h i j = simp length-append

sum_11 : (a b c d e f g h i j k : List ℕ)
    → length (a ++ b ++ c ++ d ++ e ++ f ++ g ++ h ++ i ++ j ++ k)
    ≡ length a + length b + length c + length d + length e + length f + length g + length h + length i + length j + length k
sum_11 a b c d e f g h i j k = simp length-append

sum_13 : (a b c d e f g h i j k l m : List ℕ)
    → length (a ++ b ++ c ++ d ++ e ++ f ++ g ++ h ++ i ++ j ++ k ++ l ++ m)
    ≡ length a + length b + length c + length d + length e + length f + length g + length h + length i + length j + length k + length l + length m
sum_13 a b c d e f g h i j k l m = simp length-append

text_short : (number : ℕ) (side : Side) (moment : ℕ) (v : Verdict) (n : ℕ) → number < 2 ^ 64 → moment < 2 ^ 64 → n < 2 ^ 32
    → length (event_text number side moment v n) ≤ 255
unfolding event_text
text_short number side moment v n a b c =
    let all =
    sum_10 (decimal number) (codes " ") (name_of side) (codes " ") (decimal moment) (codes " ") (verdict_name v) (codes " ") (decimal n)
    (codes "\n") in
    omega (arith, all, number_short number a, number_short moment b, number_short n (omega (arith, c)), side_short side, verdict_short v)

json_short : (number : ℕ) (side : Side) (moment : ℕ) (v : Verdict) (n : ℕ) → number < 2 ^ 64 → moment < 2 ^ 64 → n < 2 ^ 32
    → length (event_json number side moment v n) ≤ 255
unfolding event_json
json_short number side moment v n a b c =
    let all =
    sum_11 (codes "{\"event\":") (decimal number) (codes ",\"frames\":") (decimal n) (codes ",\"moment\":") (decimal moment)
    (codes ",\"side\":\"") (name_of side) (codes "\",\"verdict\":\"") (verdict_name v) (codes "\"}\n") in
    omega (arith, all, number_short number a, number_short moment b, number_short n (omega (arith, c)), side_short side, verdict_short v)

pub line_short : (form : ReportForm) (number : ℕ) (side : Side) (moment : ℕ) (v : Verdict) (n : ℕ) → number < 2 ^ 64 → moment < 2 ^ 64 → n < 2 ^ 32
    → length (line_octets form (event_line number side moment v n)) ≤ 255
line_short Json number side moment v n a b c = json_short number side moment v n a b c
line_short Text number side moment v n a b c = text_short number side moment v n a b c

-- counts that fit their type
pub record AreSmall (t : Totals) : Type 0 where
  pub events : t.events < 2 ^ 64
  pub passed : t.passed < 2 ^ 64
  pub refused : t.refused < 2 ^ 64
  pub to_left : t.to_left < 2 ^ 64
  pub to_right : t.to_right < 2 ^ 64

done_text_short : (t : Totals) (pending : ℕ) → AreSmall t → pending < 2 ^ 64 → length (done_text t pending) ≤ 255
unfolding done_text
done_text_short t pending h few =
    let all = sum_13 (codes "done events=") (decimal t.events) (codes " passed=") (decimal t.passed) (codes " refused=") (decimal t.refused)
    (codes " to_left=") (decimal t.to_left) (codes " to_right=") (decimal t.to_right) (codes " pending=") (decimal pending) (codes "\n") in
    omega (
      arith,
      all,
      number_short t.events h.events,
      number_short t.passed h.passed,
      number_short t.refused h.refused,
      number_short t.to_left h.to_left,
      number_short t.to_right h.to_right,
      number_short pending few,
    )

done_json_short : (t : Totals) (pending : ℕ) → AreSmall t → pending < 2 ^ 64 → length (done_json t pending) ≤ 255
unfolding done_json
done_json_short t pending h few =
    let all =
    sum_13 (codes "{\"done\":true,\"events\":") (decimal t.events) (codes ",\"passed\":") (decimal t.passed) (codes ",\"pending\":")
    (decimal pending)
    (codes ",\"refused\":") (decimal t.refused) (codes ",\"to_left\":") (decimal t.to_left) (codes ",\"to_right\":") (decimal t.to_right)
    (codes "}\n") in
    omega (
      arith,
      all,
      number_short t.events h.events,
      number_short t.passed h.passed,
      number_short t.refused h.refused,
      number_short t.to_left h.to_left,
      number_short t.to_right h.to_right,
      number_short pending few,
    )

pub last_short : (form : ReportForm) (t : Totals) (pending : ℕ) → AreSmall t → pending < 2 ^ 64 → length (line_octets form (Done t pending)) ≤ 255
last_short Json t pending h few = done_json_short t pending h few
last_short Text t pending h few = done_text_short t pending h few
