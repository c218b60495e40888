-- A segment that keeps to its sender's stream passes.
use Rattle.std.proofs.Common.{◌≡◌, ◌≤◌, ◌<◌, ◌+◌, ◌-◌, ℕ, Bool, true, false, cond, List, [], ◌∷◌, length, refl, sym, ◌∙◌, ap, arith, inl, inr, ◌^◌, ◌%◌, ◌&&◌, ◌⊎◌, not, nat_lt, Option, Some, None, is_some, is_none, length-drop}
use Rattle.std.proofs.lemmas.Bool.{cases_lt, le-ltb, lt-leb, and_left, and_right, or_from, true≢false}
use Rattle.verdicts.specs.Prelude.{first_that_holds}
use Rattle.verdicts.specs.declared.refusal.Refusal.{Refusal}
use Rattle.gate_base.specs.declared.host.Host.{Host}
use Rattle.tcp_segments.specs.Prelude.{one_if}
use Rattle.stream_model.specs.Numbers.{known, number_at, near_by}
use Rattle.stream_model.specs.declared.numbers.Offset.{Offset}
use Rattle.stream_model.specs.Session.{Sender, Session, Segment, own, other, recent, extent, arrival, start_of, repeats_unlike}
use Rattle.stream_model.specs.Refusals.{is_data, gap, backlog, tests, segment_refusal, refusal_of}
use Rattle.stream_model.specs.Progress.{acknowledged_of, BeginsBy}
use Rattle.stream_model.specs.Keeping.{KeepsTo}
use Rattle.stream_model.proofs.PassLemmas.{IsData, NoneHolds}
use Rattle.stream_model.proofs.Lacking.{data_of}

none_first : (ts : List (Bool × Refusal)) → NoneHolds ts → first_that_holds ts ≡ None
none_first [] h = refl
none_first (t ∷ ts) h = ap (λ (b : Bool). cond b (Some t.1) (first_that_holds ts)) h.0 ∙ none_first ts h.1

near_one : (ahead : ℕ) → ((near_by ahead).before ≡ 0) ⊎ ((near_by ahead).after ≡ 0)
near_one ahead = by_test (nat_lt ahead (2 ^ 31))
  where
    IsOne : Offset → Type 0
    IsOne n = (n.before ≡ 0) ⊎ (n.after ≡ 0)

    by_test : (b : Bool) → IsOne (cond b (record { before = 0; after = ahead }) (record { before = 2 ^ 32 - ahead; after = 0 }))
    by_test true = inl refl
    by_test false = inr refl

one_side : (a : Sender) (g : Segment) → ((start_of a g).before ≡ 0) ⊎ ((start_of a g).after ≡ 0)
one_side a g = near_one ((g.sequence + (2 ^ 32 - number_at (known a.initial) (length a.octets))) % 2 ^ 32)

known_is : (o : Option ℕ) → is_some o ≡ true → is_none o ≡ false
known_is None e = absurd (true≢false (sym e))
known_is (Some n) e = refl

no_backlog : (a b : Sender) (g : Segment) → KeepsTo a b g → backlog (extent a) (arrival g) ≡ false
no_backlog a b g k =
    elim (cases_lt (start_of a g).before (length g.octets)) [
      | inr none ↦
          let z : nat_lt 0 (length g.octets - (start_of a g).before) ≡ false = le-ltb _ _ (omega arith) in
          and_left (is_data (arrival g) && nat_lt 0 (length g.octets - (start_of a g).before)) _ (and_right (is_data (arrival g)) _ z)
      | inl some ↦
          elim k.adds [
            | inl none ↦ absurd (omega arith)
            | inr begins ↦
                let z : nat_lt 65536 (length (recent a) + (length g.octets - (start_of a g).before)) ≡ false = le-ltb _ _ (fits begins some) in
                and_right (is_data (arrival g) && nat_lt 0 (length g.octets - (start_of a g).before)) _ z
          ]
    ]
  where
    fits : BeginsBy a g (acknowledged_of a) → (start_of a g).before < length g.octets
        → length (recent a) + (length g.octets - (start_of a g).before) ≤ 65536
    fits begins some =
        let r : length (recent a) ≡ length a.octets - acknowledged_of a = length-drop (acknowledged_of a) a.octets in
        elim (one_side a g) [
          | inl e ↦ omega (arith, k.few)
          | inr e ↦ omega (arith, k.few)
        ]

no_gap : (a b : Sender) (g : Segment) → KeepsTo a b g → gap (extent a) (arrival g) ≡ false
no_gap a b g k =
    let z : nat_lt (one_if a.ended) (start_of a g).after ≡ false =
    le-ltb _ _ (elim (one_side a g) [ inl e ↦ omega (arith, k.begins) | inr e ↦ omega arith ]) in
    and_right _ _ z

pub keeping_passes : (f : Host) (a b : Sender) (g : Segment) → KeepsTo a b g
    → refusal_of f (extent a) (extent b) (arrival g) (repeats_unlike a g) ≡ None
keeping_passes f a b g k =
    let d : IsData g = data_of g k.kind in
    none_first (tests f (extent a) (extent b) (arrival g) (repeats_unlike a g)) (
      and_right (is_data (arrival g)) _ (or_from _ _ (known_is a.initial k.own_known) (known_is b.initial k.other_known)),
      (
        and_left _ _ d.0,
        (
          and_left _ _ d.0,
          (
            and_right (is_data (arrival g)) _ (ap not k.ack),
            (
              no_gap a b g k,
              (
                k.ends,
                (
                  k.acknowledges,
                  (and_right (is_data (arrival g)) _ k.alike, (and_right (is_data (arrival g)) _ (lt-leb _ _ k.short), (no_backlog a b g k, tt))),
                ),
              ),
            ),
          ),
        ),
      ),
    )

pub session_keeping : (f : Host) (s : Session) (g : Segment) → KeepsTo (own f s) (other f s) g → segment_refusal f s g ≡ None
session_keeping f s g k = keeping_passes f (own f s) (other f s) g k
