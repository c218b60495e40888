-- What settings fix is for good, and frames between the hosts for which they fix it get through.
use Rattle.std.proofs.Common.{◌≡◌, ◌<◌, ℕ, ◌+◌, true, false, not, ◌==◌, List, [], ◌∷◌, length, map, get_or, Contains}
use Rattle.std.proofs.Common.{None, refl, ◌∙◌, ap, subst, inl, inr, fold, arith}
use Rattle.std.proofs.lemmas.Bool.{and_from, or_parts, or_right, not-false, eq-eqb}
use Rattle.std.proofs.lemmas.List.{get_or-map, length-map}
use Rattle.std.proofs.lemmas.List.Elements.{All-cons, All-nil}
use Rattle.gate_base.specs.Prelude.{Event, other, same_side, is_unicast_number}
use Rattle.verdicts.specs.Prelude.{first_that_holds}
use Rattle.gate_base.specs.declared.address.Addr.{Addr}
use Rattle.verdicts.specs.declared.refusal.Refusal.TheVariants.{SourceInPool, NoBinding}
use Rattle.gate_base.specs.declared.side.Side.{Side}
use Rattle.gate_base.proofs.Sides.{other_other, same_side-itself}
use Rattle.gate_settings.specs.Prelude.{IsSound, HasForms, is_in_same}
use Rattle.gate_settings.specs.declared.settings.Fixed.{Fixed}
use Rattle.gate_settings.specs.declared.settings.Settings.{Settings}
use Rattle.ipv4_frames.specs.Ipv4.{Datagram}
use Rattle.binding_table.specs.declared.binding.Binding.{Binding}
use Rattle.binding_table.specs.Prelude.{fixed_binding, opening, is_of_host, in_pool, needed, IsBoundTo, IsLawful, IsKnownAs}
use Rattle.binding_table.proofs.Kept.{lawful_expired}
use Rattle.binding_table.proofs.Once.{find_only, host_alone}
use Rattle.binding_table.proofs.Used.{known_after}
use Rattle.twice_translate.specs.Renamed.{renamed}
use Rattle.verdicts.specs.declared.verdict.Verdict.TheVariants.{Pass}
use Rattle.gate_model.specs.Called.{AllBefore, CrossBack, table_by, sent_from, sent_to}
use Rattle.gate_model.specs.Prelude.{SessionRules, World, at_moment, opening_world, next, datagram_in, kind_of, uses_of, source_of, destination_of}
use Rattle.gate_model.specs.Prelude.{addresses_of, address_tests, is_reachable}
use Rattle.gate_model.specs.Prelude.{verdict_of, out_by}
use Rattle.gate_model.specs.Verdict.{verdict}
use Rattle.gate_model.specs.ForGood.{IsFixed}
use Rattle.gate_model.specs.Transparent.{GetsThrough}
use Rattle.gate_model.proofs.AliasesLast.{cross_back, called_is, known_through, lawful_by}
use Rattle.gate_model.proofs.BoundTables.{known_expired, known_seen, placed}
use Rattle.gate_model.proofs.HostsKept.{known_back}
use Rattle.gate_model.proofs.HostsOpen.{opening_is_lawful}
use Rattle.gate_model.proofs.Transparency.{host_outside, known_reached, none_needed, two_fail, plain_verdict, plain_out, segment_verdict, segment_out, past_addresses, none_named}

-- ## At the beginning

static_bound : (settings : Settings) (f : Fixed) (until : ℕ) → IsSound settings → HasForms settings → Contains settings.statics f
    → IsBoundTo (opening settings) f.side f.host.0 f.alias.0 until
static_bound settings f until sound forms there =
    let entries = map fixed_binding settings.statics in
    let d = fixed_binding f in
    let within : there.0 < length entries = let less = there.1 in omega (arith, length-map settings.statics fixed_binding) in
    let is : get_or entries there.0 d ≡ d = get_or-map fixed_binding settings.statics there.0 f d there.1 ∙ ap fixed_binding there.2 in
    let passes : is_of_host f.side f.host.0 (get_or entries there.0 d) ≡ true =
    ap (is_of_host f.side f.host.0) is
    ∙ and_from (same_side f.side f.side) (f.host.0 == f.host.0) (same_side-itself f.side) (eq-eqb f.host.0 f.host.0 refl) in
    record {
      binding = get_or entries there.0 d;
      found = find_only (is_of_host f.side f.host.0) entries there.0 d within passes
          (λ k less. host_alone (opening settings) f.side f.host.0 there.0 k d (opening_is_lawful settings sound forms) within (omega arith)
          (omega arith) passes);
      alias_is = ap (λ (b : Binding). b.alias.0) is;
      lasts = inl (ap (λ (b : Binding). b.fixed) is);
    }

fixed_known : (settings : Settings) (side : Side) (host alias : Addr) (until : ℕ) → IsSound settings → HasForms settings
    → IsFixed settings side host alias → IsKnownAs (opening settings) side host.0 alias.0 until
fixed_known settings side host alias until sound forms (inl there) =
    inr (static_bound settings (record { side = side; host = host; alias = alias }) until sound forms there)
fixed_known settings side host alias until sound forms (inr (unicast, same, is)) =
    inl (or_right (not (is_unicast_number host.0)) (is_in_same host settings.same) same, ap (λ (a : Addr). a.0) is)

-- the host is one host's address
fixed_unicast : (settings : Settings) (side : Side) (host alias : Addr) → IsSound settings → HasForms settings
    → IsFixed settings side host alias → is_unicast_number host.0 ≡ true
fixed_unicast settings side host alias sound forms (inl there) =
    let place = placed (opening settings) side host.0 alias.0 0 (opening_is_lawful settings sound forms)
    (static_bound settings (record { side = side; host = host; alias = alias }) 0 sound forms there) in
    not-false _ (or_parts (not (is_unicast_number host.0)) _ place.0).0
fixed_unicast settings side host alias sound forms (inr same) = same.0

-- ## Later

-- a moment behind these events and this one
record IsBehind (now : ℕ) (events : List Event) : Type 0 where
  pub until : ℕ
  pub less : now < until
  pub before : AllBefore until events

behind : (events : List Event) (now : ℕ) → IsBehind now events
behind [] now = record { until = now + 1; less = omega arith; before = All-nil (λ (e : Event). e.moment < now + 1) }
behind (e ∷ events) now =
    let more = behind events (now + e.moment) in
    let less = more.less in
    record {
      until = more.until;
      less = omega arith;
      before = All-cons (λ (x : Event). x.moment < more.until) e events (omega arith) more.before;
    }

still_known : {S : Type 0} (rules : SessionRules S) (settings : Settings) (events : List Event) (side : Side) (host alias : Addr) (now : ℕ)
    → IsSound settings → HasForms settings → IsFixed settings side host alias
    → IsKnownAs (at_moment (fold (next rules) (opening_world settings) events) now).table side host.0 alias.0 (behind events now).until
still_known rules settings events side host alias now sound forms is =
    let b = behind events now in
    known_expired (fold (next rules) (opening_world settings) events).table side host.0 alias.0 b.until now b.less
    (known_through rules events (opening_world settings) side host.0 alias.0 b.until b.before
    (fixed_known settings side host alias b.until sound forms is))

pub for_good : {S : Type 0} (rules : SessionRules S) (settings : Settings) (events : List Event) (side : Side) (host alias : Addr)
    → IsSound settings → HasForms settings → IsLawful (fold (next rules) (opening_world settings) events).table
    → IsFixed settings side host alias → (now : ℕ)
    → CrossBack (at_moment (fold (next rules) (opening_world settings) events) now).table side host alias
for_good rules settings events side host alias sound forms lawful is now =
    cross_back (at_moment (fold (next rules) (opening_world settings) events) now).table side host.0 alias.0 (behind events now).until
    (lawful_expired (fold (next rules) (opening_world settings) events).table (record { 0 = now }) lawful)
    (inl (still_known rules settings events side host alias now sound forms is))

-- ## Frames between them

through : {S : Type 0} (rules : SessionRules S) (w : World S) (e : Event) (alias host : Addr) (until : ℕ) → IsLawful w.table
    → is_unicast_number host.0 ≡ true → IsKnownAs (at_moment w e.moment).table e.side (datagram_in e).source alias.0 until
    → IsKnownAs (at_moment w e.moment).table (other e.side) host.0 (datagram_in e).destination until → GetsThrough rules w e alias host
through {S = S} rules w e alias host until lawful unicast own far = record {
  addresses = addresses;
  room = room;
  from = from;
  to = to;
  sent = λ kind none.
      let passes : verdict rules w e ≡ Pass = plain_verdict rules w e kind addresses room ∙ ap verdict_of none in
      let live = at_moment w e.moment in
      ap (out_by rules live e) passes ∙ plain_out rules live e.side e.moment d (kind_of d) kind ∙ between;
  segment_sent = λ is passes. ap (out_by rules (at_moment w e.moment) e) passes ∙ segment_out rules w e is ∙ between;
  plain = λ kind. plain_verdict rules w e kind addresses room;
  segment = λ is. segment_verdict rules w e is addresses room;
  carries = past_addresses rules w e addresses;
  pool = λ none. none_named rules w e room none;
}
  where
    d : Datagram
    d = datagram_in e

    lawful_e : IsLawful (table_by rules w e)
    lawful_e = lawful_by rules w e lawful

    from : sent_from rules w e ≡ alias
    from = called_is (table_by rules w e) e.side (source_of (datagram_in e)) alias
        (known_seen (table_by rules w e) e.side (datagram_in e).source alias.0 until lawful_e
        (known_after (uses_of rules (at_moment w e.moment) e.side e.moment (datagram_in e) (kind_of (datagram_in e))) (at_moment w e.moment).table
        e.side (datagram_in e).source alias.0 until own))

    to : sent_to rules w e ≡ host
    to = called_is (table_by rules w e) e.side (destination_of (datagram_in e)) host
        (known_back (table_by rules w e) e.side host.0 (datagram_in e).destination until lawful_e
        (known_after (uses_of rules (at_moment w e.moment) e.side e.moment (datagram_in e) (kind_of (datagram_in e))) (at_moment w e.moment).table
        (other e.side) host.0 (datagram_in e).destination until far))

    between : renamed (datagram_in e) (sent_from rules w e).0 (sent_to rules w e).0 ∷ [] ≡ renamed (datagram_in e) alias.0 host.0 ∷ []
    between =
        ap (λ (a : Addr). renamed (datagram_in e) a.0 (sent_to rules w e).0 ∷ []) from
        ∙ ap (λ (a : Addr). renamed (datagram_in e) alias.0 a.0 ∷ []) to

    lawful_live : IsLawful (at_moment w e.moment).table
    lawful_live = lawful_expired w.table (record { 0 = e.moment }) lawful

    outside : in_pool (at_moment w e.moment).table e.side (source_of (datagram_in e)) ≡ false
    outside = host_outside (at_moment w e.moment).table e.side (datagram_in e).source alias.0 until lawful_live own

    reach : is_reachable (at_moment w e.moment).table e.side (destination_of (datagram_in e)) ≡ true
    reach =
        subst (λ (s : Side). is_reachable (at_moment w e.moment).table s (destination_of (datagram_in e)) ≡ true) (other_other e.side)
        (known_reached (at_moment w e.moment).table (other e.side) host.0 (datagram_in e).destination until lawful_live unicast far)

    addresses : first_that_holds (address_tests (at_moment w e.moment).table e.side (datagram_in e)) ≡ None
    addresses = two_fail (in_pool (at_moment w e.moment).table e.side (source_of (datagram_in e)))
        (not (is_reachable (at_moment w e.moment).table e.side (destination_of (datagram_in e)))) SourceInPool NoBinding outside (ap not reach)

    room : needed (at_moment w e.moment).table e.side (addresses_of (datagram_in e)) ≡ 0
    room = none_needed (at_moment w e.moment).table e.side (source_of (datagram_in e)) (destination_of (datagram_in e)) alias host
        (known_seen (at_moment w e.moment).table e.side (datagram_in e).source alias.0 until lawful_live own)
        (known_back (at_moment w e.moment).table e.side host.0 (datagram_in e).destination until lawful_live far)

pub gets_through : {S : Type 0} (rules : SessionRules S) (settings : Settings) (events : List Event) (e : Event) (alias host : Addr)
    → IsSound settings → HasForms settings → IsLawful (fold (next rules) (opening_world settings) events).table
    → IsFixed settings e.side (source_of (datagram_in e)) alias → IsFixed settings (other e.side) host (destination_of (datagram_in e))
    → GetsThrough rules (fold (next rules) (opening_world settings) events) e alias host
gets_through rules settings events e alias host sound forms lawful own far =
    through rules (fold (next rules) (opening_world settings) events) e alias host (behind events e.moment).until lawful
    (fixed_unicast settings (other e.side) host (destination_of (datagram_in e)) sound forms far)
    (still_known rules settings events e.side (source_of (datagram_in e)) alias e.moment sound forms own)
    (still_known rules settings events (other e.side) host (destination_of (datagram_in e)) e.moment sound forms far)
