-- A segment completes a unit that bears by what is kept of its session exactly where it does over whole lists.
use Rattle.std.proofs.Common.{◌≡◌, ◌+◌, ◌||◌, ℕ, Bool, true, false, List, [], ◌∷◌, ◌++◌, Option, Some, None, inl, inr, take, drop, length, ◌⊎◌, length-append, option_map, sym, ap, subst, ◌∙◌}
use Rattle.std.specs.List.{list_any}
use Rattle.std.proofs.Math.Bool.{or-true}
use Rattle.std.proofs.Math.Seq.{drop-append_seam, drop-append-add, take-append-add}
use Rattle.std.proofs.lemmas.Bool.{cases_Bool, cond-true, cond-false}
use Rattle.std.proofs.lemmas.List.{append-nil, length-take-le}
use Rattle.gate_base.specs.declared.host.Host.{Host}
use Rattle.gate_base.specs.declared.host.Host.TheVariants.{Client, Server}
use Rattle.dialogue.specs.Prelude.{Meaning, IsLawful, IsReleased, IsUnit, Cut, cut}
use Rattle.dialogue.proofs.CutLemmas.{none_or_some, IsRest-cut}
use Rattle.dialogue.proofs.FirstUnit.{cut-first, cut-rest}
use Rattle.stream_model.specs.Prelude.{Segment, Sender, arrival, extent, is_data, own, refusal_of, repeats_unlike, segment_refusal, start_at, start_of}
use Rattle.stream_model.specs.declared.refusals.Extent.{Extent}
use Rattle.stream_model.proofs.Lacking.{data_of, own_is}
use Rattle.stream_model.proofs.PassLemmas.{IsData, nothing_past, passes}
use Rattle.compact_stream.specs.Prelude.{CompactSender, CompactState, Keeps, KeepsSender, start_kept}
use Rattle.compact_stream.proofs.OctetSteps.{free_rest, open_rest}
use Rattle.compact_stream.proofs.SessionLemmas.{extent_of_sender}
use Rattle.stream_gate.specs.Prelude.{CompletesBy, KeptCompletes, OneBears, units_behind}
use Rattle.stream_gate.specs.Memory.{Completes, units_ended}
use Rattle.stream_gate.proofs.MemoryLemmas.{session_completes}
use Rattle.gate_model.specs.Prelude.{WholeSession, completed, meaning_by}
use Rattle.gate_model.proofs.Completing.{none_completed, rest_completed}
use Rattle.gate_model.proofs.RememberedSessions.{meaning_lawful}
use Rattle.gate_sessions.specs.Compact.{CompactSession, StandsFor}

-- ## From what is kept

any_bears : (m : Meaning) (us : List (List ℕ)) → OneBears m us → list_any m.bears us ≡ true
any_bears m [] h = absurd h
any_bears m (u ∷ us) (inl b) = ap (λ (x : Bool). x || list_any m.bears us) b
any_bears m (u ∷ us) (inr more) = ap (λ (x : Bool). m.bears u || x) (any_bears m us more) ∙ or-true (m.bears u)

-- the units that a segment completes are those that its sender's stream has more
bears_completed : (a : Sender) (g : Segment) → IsData g → Completes a g → list_any a.meaning.bears (completed a g) ≡ true
bears_completed a g plain c =
    let us = (cut a.meaning a.octets).units in
    let more : completed a g ≡ c.more =
    ap (λ (x : Sender). drop (length us) (cut a.meaning x.octets).units) (own_is a g plain)
    ∙ ap (λ (vs : List (List ℕ)). drop (length us) vs) c.units
    ∙ drop-append_seam us c.more in
    ap (list_any a.meaning.bears) more ∙ any_bears a.meaning c.more c.bears

has_octets : (m n : Meaning) (from : Host) (h : CompactState) (g : Segment) → KeptCompletes m n from h g → IsData g
has_octets m n Client h g c = (c.no_syn, c.no_reset)
has_octets m n Server h g c = (c.no_syn, c.no_reset)

pub bears_whole : (from : Host) (x : WholeSession) (k : CompactSession) (g : Segment) → StandsFor x k → segment_refusal from x.session g ≡ None
    → KeptCompletes (meaning_by k.lists k.pair Client) (meaning_by k.lists k.pair Server) from k.kept g
    → list_any (own from x.session).meaning.bears (completed (own from x.session) g) ≡ true
bears_whole from x k g s none c =
    let m = meaning_by k.lists k.pair Client in
    let n = meaning_by k.lists k.pair Server in
    let lawful = meaning_lawful k.lists k.pair in
    bears_completed (own from x.session) g (has_octets m n from k.kept g c)
    (session_completes m n (lawful Client) (lawful Server) k.kept x.session from g s.session none c)

-- ## And back

bears_any : (m : Meaning) (us : List (List ℕ)) → list_any m.bears us ≡ true → OneBears m us
bears_any m [] e = absurd (cc)
bears_any m (u ∷ us) e =
    elim (cases_Bool (m.bears u)) [
      | inl b ↦ inl b
      | inr f ↦ inr (bears_any m us (sym (ap (λ (x : Bool). x || list_any m.bears us) f) ∙ e))
    ]

-- a unit that a released rest begins doesn't bear
behind_released : (m : Meaning) → IsLawful m → (r t : List ℕ) (n : ℕ) → IsReleased m r → m.first_end t ≡ Some n → OneBears m (cut m (r ++ t)).units
    → OneBears m (cut m (drop n t)).units
behind_released m law r t n free some one =
    let end : m.first_end (r ++ t) ≡ Some (length r + n) = law.ends r t free ∙ ap (option_map (λ n. length r + n)) some in
    let first = cut-first m law (r ++ t) (length r + n) end in
    let front : take (length r + n) (r ++ t) ≡ r ++ take n t = take-append-add r t n in
    let count : length (r ++ take n t) ≡ length r + n =
    length-append r (take n t) ∙ ap (λ (k : ℕ). length r + k) (length-take-le n t (law.within t n some).1) in
    let unit : IsUnit m (r ++ take n t) =
    subst (λ (u : List ℕ). m.first_end u ≡ Some (length r + n)) front (law.alone (r ++ t) (length r + n) end)
    ∙ ap (λ (k : ℕ). let o : Option ℕ = Some k in o) (sym count) in
    elim (subst (λ (c : Cut). OneBears m c.units) first one) as (λ x. OneBears m (cut m (drop n t)).units) [
      | inl b ↦ absurd (bears_none (law.released r (take n t) free unit) (subst (λ (u : List ℕ). m.bears u ≡ true) front b))
      | inr more ↦ subst (λ (u : List ℕ). OneBears m (cut m u).units) (drop-append-add r t n) more
    ]
  where
    bears_none : {b : Bool} → b ≡ false → b ≡ true → ⊥
    bears_none f e = absurd (cc)

none_behind : (m : Meaning) → IsLawful m → (r t : List ℕ) → IsReleased m r → m.first_end t ≡ None → OneBears m (cut m (r ++ t)).units → ⊥
none_behind m law r t free none one =
    let end : m.first_end (r ++ t) ≡ None = law.ends r t free ∙ ap (option_map (λ n. length r + n)) none in
    subst (λ (c : Cut). OneBears m c.units) (cut-rest m law (r ++ t) end) one

-- new units of the stream that bear are among those behind what is kept
bears_behind : (m : Meaning) → IsLawful m → (h : CompactSender) (s t : List ℕ) → h.ended ≡ false → Keeps m h s
    → OneBears m (cut m ((cut m s).rest ++ t)).units → OneBears m (units_ended m h t)
bears_behind m law h s t e k one =
    let rest = (cut m s).rest in
    let behind = units_behind m t (m.first_end t) in
    let held = (cut m (h.rest ++ t)).units in
    elim (cases_Bool h.released) [
      | inl f ↦
          let free = (free_rest m rest h.rest (IsRest-cut m law s) (k.rest ∙ cond-false h.ended [] _ e) (sym f ∙ k.released e)).1 in
          subst (λ (us : List (List ℕ)). OneBears m us) (sym (cond-true h.released behind held f)) (by_end free (none_or_some (m.first_end t)))
      | inr f ↦
          let same : h.rest ≡ rest = (open_rest m rest h.rest (k.rest ∙ cond-false h.ended [] _ e) (sym f ∙ k.released e)).0 in
          subst (λ (us : List (List ℕ)). OneBears m us) (sym (cond-false h.released behind held f))
          (subst (λ (u : List ℕ). OneBears m (cut m (u ++ t)).units) (sym same) one)
    ]
  where
    by_end : IsReleased m (cut m s).rest → (m.first_end t ≡ None) ⊎ ((n : ℕ) × (m.first_end t ≡ Some n))
        → OneBears m (units_behind m t (m.first_end t))
    by_end free (inl none) = absurd (none_behind m law (cut m s).rest t free none one)
    by_end free (inr (n, some)) =
        subst (λ (o : Option ℕ). OneBears m (units_behind m t o)) (sym some) (behind_released m law (cut m s).rest t n free some one)

-- of a stream that ended nothing more is completed
none_past : (m : Meaning) → IsLawful m → (s t : List ℕ) → t ≡ [] → OneBears m (cut m ((cut m s).rest ++ t)).units → ⊥
none_past m law s t none one =
    let rest = (cut m s).rest in
    let same : rest ++ t ≡ rest = ap (λ (u : List ℕ). rest ++ u) none ∙ append-nil rest in
    subst (λ (c : Cut). OneBears m c.units) (ap (cut m) same ∙ cut-rest m law rest (IsRest-cut m law s)) one

kept_bears : (f : Host) (m : Meaning) → IsLawful m → (h : CompactSender) (a b : Sender) (g : Segment) → KeepsSender m h a
    → refusal_of f (extent a) (extent b) (arrival g) (repeats_unlike a g) ≡ None → list_any a.meaning.bears (completed a g) ≡ true → CompletesBy m h g
kept_bears f m law h a b g k v e =
    elim (cases_Bool (is_data (arrival g))) [
      | inl is ↦ by_data (data_of g is)
      | inr none ↦ absurd (bears_any a.meaning [] (sym (ap (list_any a.meaning.bears) (none_completed a g none)) ∙ e))
    ]
  where
    t : List ℕ
    t = drop (start_of a g).before g.octets

    meaning : a.meaning ≡ m
    meaning = ap (λ (x : Sender). x.meaning) k.is

    ends : a.ended ≡ h.ended
    ends = ap (λ (x : Sender). x.ended) k.is

    start : (start_kept h g).before ≡ (start_of a g).before
    start = ap (λ (x : Extent). (start_at x (arrival g)).before) (extent_of_sender m h a k)

    by_data : IsData g → CompletesBy m h g
    by_data d =
        let own_units = rest_completed a g (subst IsLawful (sym meaning) law) d in
        let bears = bears_any a.meaning (completed a g) e in
        let one : OneBears m (cut m ((cut m a.octets).rest ++ t)).units =
        subst (λ (x : Meaning). OneBears x (cut x ((cut x a.octets).rest ++ t)).units) meaning
        (subst (λ (us : List (List ℕ)). OneBears a.meaning us) own_units bears) in
        let ended : OneBears m (units_ended m h t) =
        elim (cases_Bool h.ended) [
          | inl over ↦ absurd (none_past m law a.octets t (nothing_past f a b g (passes f a b g v) d (ends ∙ over)) one)
          | inr lasts ↦ bears_behind m law h a.octets t lasts k.keeps one
        ] in
        record {
          no_syn = d.0;
          no_reset = d.1;
          bears = subst (λ (n : ℕ). OneBears m (units_ended m h (drop n g.octets))) (sym start) ended;
        }

pub bears_kept : (from : Host) (x : WholeSession) (k : CompactSession) (g : Segment) → StandsFor x k → segment_refusal from x.session g ≡ None
    → list_any (own from x.session).meaning.bears (completed (own from x.session) g) ≡ true
    → KeptCompletes (meaning_by k.lists k.pair Client) (meaning_by k.lists k.pair Server) from k.kept g
bears_kept Client x k g s none e =
    kept_bears Client (meaning_by k.lists k.pair Client) (meaning_lawful k.lists k.pair Client) k.kept.client x.session.client x.session.server g
    s.session.client none e
bears_kept Server x k g s none e =
    kept_bears Server (meaning_by k.lists k.pair Server) (meaning_lawful k.lists k.pair Server) k.kept.server x.session.server x.session.client g
    s.session.server none e
