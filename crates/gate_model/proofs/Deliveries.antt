-- Who is reached by an alias was meant by it.
use Rattle.std.proofs.Common.{◌≡◌, ◌<◌, ◌⊎◌, true, false, not, ◌==◌, List, [], ◌∷◌, Option, Some, None, is_some, option_map, refl, sym, ◌∙◌, ap, inl, inr, fold, find}
use Rattle.std.proofs.lemmas.Bool.{and_parts, or_cases, or_right, not-false, true≢false}
use Rattle.std.proofs.lemmas.List.Elements.{All-filter}
use Rattle.gate_base.specs.Prelude.{Event, is_unicast_number, other, same_side}
use Rattle.gate_base.specs.declared.address.Addr.{Addr}
use Rattle.verdicts.specs.declared.verdict.Verdict.TheVariants.{Pass}
use Rattle.verdicts.specs.declared.refusal.Refusal.TheVariants.{SourceInPool, NoBinding}
use Rattle.gate_base.specs.declared.side.Side.{Side}
use Rattle.gate_base.proofs.Lists.{find_passes}
use Rattle.gate_base.proofs.Sides.{same_side-true}
use Rattle.gate_settings.specs.Prelude.{IsSound, HasForms}
use Rattle.gate_settings.specs.declared.settings.Settings.{Settings}
use Rattle.ipv4_frames.specs.Ipv4.{Datagram}
use Rattle.binding_table.specs.declared.binding.Binding.{Binding}
use Rattle.binding_table.specs.Bindings.{cross}
use Rattle.binding_table.specs.Prelude.{Bindings, is_same, is_live, is_of_alias, in_pool, host_of, seen, IsLawful}
use Rattle.binding_table.proofs.Kept.{lawful_expired}
use Rattle.binding_table.proofs.Once.{address_is}
use Rattle.binding_table.proofs.Used.{known_after}
use Rattle.gate_model.specs.Called.{table_by, sent_to}
use Rattle.gate_model.specs.Origins.{ComesFromUse, IsMeant}
use Rattle.gate_model.specs.Prelude.{SessionRules, World, at_moment, called, source_of, destination_of, datagram_in, kind_of, is_reachable, uses_of, verdict, next, opening_world}
use Rattle.gate_model.proofs.AliasesLast.{called_is, lawful_by}
use Rattle.gate_model.proofs.BoundTables.{find_all}
use Rattle.gate_model.proofs.BoundUses.{far_known}
use Rattle.gate_model.proofs.HostsKept.{known_back, run_hosts}
use Rattle.gate_model.proofs.HostsOpen.{opening_hosts}
use Rattle.gate_model.proofs.OriginsKept.{all_come, all_over}
use Rattle.gate_model.proofs.Passing.{passes, none_head, none_tail}

-- ## The binding of an alias that can be reached

pub record IsFound (table : Bindings) (side : Side) (alias : Addr) : Type 0 where
  pub binding : Binding
  pub found : find (is_of_alias side alias.0) table.entries ≡ Some binding
  pub seen_is : seen table side alias ≡ Some binding.host

unseen : (table : Bindings) (side : Side) (alias : Addr) → is_same table alias ≡ false → in_pool table side alias ≡ true
    → host_of side alias table.entries ≡ None → seen table side alias ≡ None
unfolding cross
unseen table side alias differs pool e = rw (differs, pool, e) refl

seen_as : (table : Bindings) (side : Side) (alias host : Addr) → is_same table alias ≡ false → in_pool table side alias ≡ true
    → host_of side alias table.entries ≡ Some host → seen table side alias ≡ Some host
unfolding cross
seen_as table side alias host differs pool e = rw (differs, pool, e) refl

found_is : (table : Bindings) (side : Side) (alias : Addr) → is_same table alias ≡ false → in_pool table side alias ≡ true
    → is_some (seen table side alias) ≡ true → IsFound table side alias
found_is table side alias differs pool some = by_found (find (is_of_alias side alias.0) table.entries) refl
  where
    by_found : (o : Option Binding) → find (is_of_alias side alias.0) table.entries ≡ o → IsFound table side alias
    by_found None e = absurd (true≢false (sym some ∙ ap is_some (unseen table side alias differs pool (ap (option_map (λ (b : Binding). b.host)) e))))
    by_found (Some b) e = record {
      binding = b;
      found = e;
      seen_is =
          seen_as table side alias b.host differs pool (ap (option_map (λ (x : Binding). x.host)) e);
    }

-- ## What passes

pub meant : {S : Type 0} (rules : SessionRules S) (settings : Settings) (events : List Event) (x : Event) → IsSound settings
    → HasForms settings → verdict rules (fold (next rules) (opening_world settings) events) x ≡ Pass
    → (is_same (at_moment (fold (next rules) (opening_world settings) events) x.moment).table (destination_of (datagram_in x)) ≡ true)
    ⊎ IsMeant rules settings events (fold (next rules) (opening_world settings) events) x
meant {S = S} rules settings events x sound forms v = elim (or_cases _ _ reach) [
  | inl same ↦ inl (or_right (not (is_unicast_number d.destination)) _ same)
  | inr pool ↦
      let parts = and_parts (in_pool live.table x.side (destination_of d)) (is_some (seen live.table x.side (destination_of d))) pool in
      let f = found_is live.table x.side (destination_of d) (lawful.pools x.side (destination_of d) parts.0) parts.0 parts.1 in
      let is = and_parts (same_side f.binding.side (other x.side)) (f.binding.alias.0 == d.destination)
      (find_passes (is_of_alias x.side d.destination) live.table.entries f.binding f.found) in
      let host : called live.table x.side (destination_of d) ≡ f.binding.host =
      called_is live.table x.side (destination_of d) f.binding.host f.seen_is in
      inr (record {
        binding = f.binding;
        side = same_side-true f.binding.side (other x.side) is.0;
        alias = address_is f.binding.alias (destination_of d) is.1;
        host = sym host ∙ sym sent;
        comes = find_all (ComesFromUse rules settings events) (is_of_alias x.side d.destination) live.table.entries f.binding f.found
            (All-filter (is_live (record { 0 = x.moment })) (ComesFromUse rules settings events) w.table.entries (all_come rules settings events));
        lives = find_all (λ (b : Binding). (b.fixed ≡ true) ⊎ (x.moment < b.until.0))
            (is_of_alias x.side d.destination) live.table.entries f.binding f.found (all_over w x.moment);
      })
]
  where
    w : World S
    w = fold (next rules) (opening_world settings) events

    live : World S
    live = at_moment (fold (next rules) (opening_world settings) events) x.moment

    d : Datagram
    d = datagram_in x

    first : IsLawful (fold (next rules) (opening_world settings) events).table
    first = (run_hosts rules events (opening_world settings) (opening_hosts settings sound forms)).lawful

    lawful : IsLawful (at_moment (fold (next rules) (opening_world settings) events) x.moment).table
    lawful = lawful_expired (fold (next rules) (opening_world settings) events).table (record { 0 = x.moment }) first

    reach : is_reachable (at_moment (fold (next rules) (opening_world settings) events) x.moment).table x.side (destination_of (datagram_in x)) ≡ true
    reach =
        let p = passes rules (fold (next rules) (opening_world settings) events) x v in
        not-false _
        (none_head {test = (not (is_reachable live.table x.side (destination_of d)), NoBinding)} {more = []}
        (none_tail {test = (in_pool live.table x.side (source_of d), SourceInPool)}
        {more = (not (is_reachable live.table x.side (destination_of d)), NoBinding) ∷ []} p.address))

    -- the destination goes on to be called so
    sent : sent_to rules (fold (next rules) (opening_world settings) events) x
        ≡ called (at_moment (fold (next rules) (opening_world settings) events) x.moment).table x.side (destination_of (datagram_in x))
    sent =
        let far = called live.table x.side (destination_of d) in
        let known = known_after (uses_of rules live x.side x.moment d (kind_of d)) live.table (other x.side) far.0 d.destination 0
        (far_known live.table x.side d.destination lawful reach) in
        called_is (table_by rules w x) x.side (destination_of d) far
        (known_back (table_by rules w x) x.side far.0 d.destination 0 (lawful_by rules w x first) known)
