-- Each binding that isn't static ends with a use of its own.
use Rattle.std.proofs.Common.{◌≡◌, ◌<◌, ◌⊎◌, ℕ, Bool, true, false, ◌==◌, nat_lt, max, if◌then◌else◌, List, [], ◌∷◌, ◌++◌, map, All, Contains, refl, sym, ◌∙◌, ap, subst, arith, append_assoc, inl, inr, fold}
use Rattle.std.specs.List.{filter}
use Rattle.std.proofs.lemmas.Bool.{and_parts, or_cases, ltb-true, ltb-false}
use Rattle.std.proofs.lemmas.List.Sums.{fold-append}
use Rattle.std.proofs.lemmas.List.Elements.{All-weaker, All-map, All-push, All-filter, All-contains_itself, Contains-append_left, Contains-append_right, Contains-push, filter_passes}
use Rattle.gate_base.specs.Prelude.{Event, other, same_side}
use Rattle.gate_base.specs.declared.address.Addr.{Addr}
use Rattle.gate_base.specs.declared.event.Moment.{Moment}
use Rattle.verdicts.specs.declared.verdict.Verdict.{Verdict}
use Rattle.verdicts.specs.declared.verdict.Verdict.TheVariants.{Pass, Refused, Held}
use Rattle.gate_base.specs.declared.side.Side.{Side}
use Rattle.gate_base.proofs.Sides.{other_other, same_side-true}
use Rattle.gate_settings.specs.declared.settings.Settings.{Settings}
use Rattle.binding_table.specs.declared.binding.Binding.{Binding}
use Rattle.binding_table.specs.declared.binding.Crossing.{Crossing}
use Rattle.binding_table.specs.declared.binding.Crossing.TheVariants.{Same, Bound, New, Unbound, Empty}
use Rattle.binding_table.specs.Prelude.{Bindings, fixed_binding, opening, is_live, in_pool, is_through, lasting, extend_through, Use, used, used_by, after_uses}
use Rattle.binding_table.specs.Bindings.{cross}
use Rattle.binding_table.proofs.Once.{address_is}
use Rattle.gate_model.specs.Origins.{uses_by, IsUseOf, ComesFromUse}
use Rattle.gate_model.specs.Prelude.{SessionRules, World, at_moment, opening_world, datagram_in, kind_of, next_by, next}
use Rattle.gate_model.specs.Verdict.{verdict}
use Rattle.gate_model.proofs.HostsKept.{table_is}

-- ## One use

-- a binding that lasts longer by a use ends as before, or with the use
-- of two ends the later one
later_end : (Q : ℕ → Type 0) (sooner later : ℕ) → Q sooner → Q later → Q (max sooner later)
later_end Q sooner later q r = by_test (nat_lt sooner later) refl
  where
    by_test : (t : Bool) → nat_lt sooner later ≡ t → Q (max sooner later)
    by_test true e =
        let less = ltb-true sooner later e in
        let is : later ≡ max sooner later = omega (arith, less) in
        subst Q is r
    by_test false e =
        let least = ltb-false sooner later e in
        let is : sooner ≡ max sooner later = omega (arith, least) in
        subst Q is q

extended_from : (Q : Binding → Type 0) (pool : Bool) (side : Side) (address : Addr) (until : Moment) (b : Binding) → Q b
    → (is_through pool side address b ≡ true → b.fixed ≡ false → Q (record b { until = until })) → Q (extend_through pool side address until b)
extended_from Q pool side address until b q later = by_through (is_through pool side address b) refl
  where
    by_fixed : (f : Bool) → b.fixed ≡ f → (b.fixed ≡ false → Q (record b { until = until }))
        → Q (if f then b else record b { until = record { 0 = max b.until.0 until.0 } })
    by_fixed true e r = q
    by_fixed false e r = later_end (λ (n : ℕ). Q (record b { until = record { 0 = n } })) b.until.0 until.0 q (r e)

    by_through : (t : Bool) → is_through pool side address b ≡ t → Q (if t then lasting until b else b)
    by_through true e = by_fixed b.fixed refl (later e)
    by_through false e = q

through_use : (pool : Bool) (side : Side) (address : Addr) (b : Binding) → is_through pool side address b ≡ true
    → ((side ≡ b.side) × (address ≡ b.host)) ⊎ ((side ≡ other b.side) × (address ≡ b.alias))
through_use true side address b h =
    let parts = and_parts (same_side b.side (other side)) (b.alias.0 == address.0) h in
    inr (sym (other_other side) ∙ ap other (sym (same_side-true b.side (other side) parts.0)), sym (address_is b.alias address parts.1))
through_use false side address b h =
    let parts = and_parts (same_side b.side side) (b.host.0 == address.0) h in
    inl (sym (same_side-true b.side side parts.0), sym (address_is b.host address parts.1))

used_from : (Q : Binding → Type 0) (table : Bindings) (one : Use) (c : Crossing) → All Q table.entries
    → ((b : Binding) → b.fixed ≡ false → IsUseOf b one → Q b) → All Q (used_by table one.side one.address one.until c).entries
used_from Q table one Same h f = h
used_from Q table one (Bound image) h f =
    let pool = in_pool table one.side one.address in
    let g = extend_through pool one.side one.address one.until in
    All-map Q g table.entries
    (All-weaker Q (λ b. Q (g b))
    (λ b q. extended_from Q pool one.side one.address one.until b q
    (λ through moving. f (record b { until = one.until }) moving
    (record { until = refl; is = through_use pool one.side one.address b through }))) table.entries h)
used_from Q table one (New alias) h f =
    let b : Binding = record { side = one.side; host = one.address; alias = alias; until = one.until; fixed = false } in
    All-push Q table.entries b h (f b refl (record { until = refl; is = inl (refl, refl) }))
used_from Q table one Unbound h f = h
used_from Q table one Empty h f = h

uses_from : (uses : List Use) (Q : Binding → Type 0) (table : Bindings) → All Q table.entries
    → ((one : Use) → Contains uses one → (b : Binding) → b.fixed ≡ false → IsUseOf b one → Q b) → All Q (after_uses table uses).entries
uses_from [] Q table h f = h
uses_from (one ∷ uses) Q table h f =
    uses_from uses Q (used table one) (used_from Q table one (cross table one.side one.address) h
    (f one (Contains-append_left (one ∷ []) uses one (Contains-push [] one))))
    (λ two there. f two (Contains-append_right (one ∷ []) uses two there))

-- ## All events

step : {S : Type 0} (rules : SessionRules S) (settings : Settings) (events done others : List Event) (e : Event)
    → events ≡ done ++ e ∷ others → All (ComesFromUse rules settings events) (fold (next rules) (opening_world settings) done).table.entries
    → All (ComesFromUse rules settings events) (next rules (fold (next rules) (opening_world settings) done) e).table.entries
step {S = S} rules settings events done others e split h =
    by_verdict (verdict rules (fold (next rules) (opening_world settings) done) e) refl
    (All-filter (is_live (record { 0 = e.moment })) (ComesFromUse rules settings events)
    (fold (next rules) (opening_world settings) done).table.entries h)
  where
    live : World S
    live = at_moment (fold (next rules) (opening_world settings) done) e.moment

    by_verdict : (v : Verdict) → verdict rules (fold (next rules) (opening_world settings) done) e ≡ v
        → All (ComesFromUse rules settings events) (at_moment (fold (next rules) (opening_world settings) done) e.moment).table.entries
        → All (ComesFromUse rules settings events) (next_by rules
        (at_moment (fold (next rules) (opening_world settings) done) e.moment) e v).table.entries
    by_verdict Pass p k =
        subst (λ (t : Bindings). All (ComesFromUse rules settings events) t.entries)
        (sym (table_is rules live e.side e.moment (datagram_in e) (kind_of (datagram_in e))))
        (uses_from (uses_by rules (fold (next rules) (opening_world settings) done) e) (ComesFromUse rules settings events) live.table k
        (λ one there b moving is. inr (
          moving,
          record {
            before = done;
            event = e;
            others = others;
            split = split;
            passes = p;
            one =
                one;
            uses = there;
            is = is;
          },
        )))
    by_verdict (Refused r) p k = k
    by_verdict Held p k = k

run : {S : Type 0} (rules : SessionRules S) (settings : Settings) (events rest done : List Event) → events ≡ done ++ rest
    → All (ComesFromUse rules settings events) (fold (next rules) (opening_world settings) done).table.entries
    → All (ComesFromUse rules settings events) (fold (next rules) (fold (next rules) (opening_world settings) done) rest).table.entries
run rules settings events [] done split h = h
run {S = S} rules settings events (e ∷ rest) done split h =
    let one = step rules settings events done rest e split h in
    let same : fold (next rules) (opening_world settings) (done ++ e ∷ [])
    ≡ next rules (fold (next rules) (opening_world settings) done) e = fold-append (next rules) (opening_world settings) done (e ∷ []) in
    let more = run rules settings events rest (done ++ e ∷ []) (split ∙ sym (append_assoc done (e ∷ []) rest))
    (subst (λ (w : World S). All (ComesFromUse rules settings events) w.table.entries) (sym same) one) in
    subst (λ (w : World S). All (ComesFromUse rules settings events) (fold (next rules) w rest).table.entries) same more

opens : {S : Type 0} (rules : SessionRules S) (settings : Settings) (events : List Event)
    → All (ComesFromUse rules settings events) (opening settings).entries
opens rules settings events =
    let fixed : All (λ (b : Binding). b.fixed ≡ true) (map fixed_binding settings.statics) =
    All-map (λ (b : Binding). b.fixed ≡ true) fixed_binding settings.statics (λ k d within. refl) in
    let there = All-contains_itself (map fixed_binding settings.statics) in
    λ k d within. inl (fixed k d within, there k d within)

pub all_come : {S : Type 0} (rules : SessionRules S) (settings : Settings) (events : List Event)
    → All (ComesFromUse rules settings events) (fold (next rules) (opening_world settings) events).table.entries
all_come rules settings events = run rules settings events events [] refl (opens rules settings events)

-- ## Nothing outlives its end

lives_on : (now : ℕ) (b : Binding) → is_live (record { 0 = now }) b ≡ true → (b.fixed ≡ true) ⊎ (now < b.until.0)
lives_on now b h = elim (or_cases b.fixed (nat_lt now b.until.0) h) [ inl fixed ↦ inl fixed | inr less ↦ inr (ltb-true now b.until.0 less) ]

pub all_over : {S : Type 0} (w : World S) (now : ℕ) → All (λ (b : Binding). (b.fixed ≡ true) ⊎ (now < b.until.0)) (at_moment w now).table.entries
all_over w now =
    All-weaker (λ b. is_live (record { 0 = now }) b ≡ true) (λ b. (b.fixed ≡ true) ⊎ (now < b.until.0)) (lives_on now)
    (filter (is_live (record { 0 = now })) w.table.entries) (filter_passes (is_live (record { 0 = now })) w.table.entries)
