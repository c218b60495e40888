-- The bindings of connections, from the opening world on.
use Rattle.std.proofs.Common.{◌≡◌, ◌≤◌, ℕ, zero, suc, ◌+◌, List, [], ◌∷◌, ◌++◌, length, map, take, get_or, Option, Some, None, sym, ◌∙◌, ap, subst, arith, IfSome}
use Rattle.std.proofs.Math.Seq.{take-length}
use Rattle.std.proofs.lemmas.List.{map-append, take_more}
use Rattle.std.proofs.lemmas.List.Elements.{All-weaker, All-nil}
use Rattle.gate_base.specs.Prelude.{other}
use Rattle.gate_base.specs.declared.address.Addr.{Addr}
use Rattle.gate_base.specs.declared.side.Side.{Side}
use Rattle.gate_base.specs.declared.side.Side.TheVariants.{Left}
use Rattle.gate_settings.specs.Prelude.{IsSound, HasForms}
use Rattle.gate_settings.specs.declared.settings.Fixed.{Fixed}
use Rattle.gate_settings.specs.declared.settings.Settings.{Settings}
use Rattle.binding_table.specs.declared.binding.Binding.{Binding}
use Rattle.binding_table.specs.Prelude.{Bindings, fixed_binding, without_bindings, opening, with_binding, seen, IsKnownAs, IsLawful}
use Rattle.binding_table.proofs.Opening.{opening_lawful, can_open}
use Rattle.binding_table.proofs.Kept.{lawful_push}
use Rattle.tcp_tracker.specs.declared.connection.Connection.{Connection}
use Rattle.gate_model.specs.Prelude.{Tracked, World, opening_world, EachTracked, host_in, IsPairOf, KeepsHosts}
use Rattle.gate_model.specs.Held.{PairCrosses}
use Rattle.gate_model.proofs.BoundTables.{known_seen}
use Rattle.gate_model.proofs.HostsKept.{KeepsAll, known_back}

-- the statics so far
abbrev first_bindings : Settings → ℕ → Bindings
first_bindings settings count = record (without_bindings settings) { entries = map fixed_binding (take count settings.statics) }

first_lawful : (settings : Settings) → IsSound settings → HasForms settings → (count : ℕ) → count ≤ length settings.statics
    → IsLawful (first_bindings settings count)
first_lawful settings sound forms zero within = opening_lawful settings sound forms
first_lawful settings sound forms (suc count) within = by_one (first (first_lawful settings sound forms count (omega arith)))
  where
    none : Fixed
    none = record { side = Left; host = record { 0 = 0 }; alias = record { 0 = 0 } }

    first : IsLawful (first_bindings settings count)
        → IsLawful (with_binding (first_bindings settings count) (fixed_binding (get_or settings.statics count none)))
    first lawful =
        lawful_push (first_bindings settings count) (fixed_binding (get_or settings.statics count none)) lawful
        (can_open settings count none sound forms (omega arith))

    by_one : IsLawful (with_binding (first_bindings settings count) (fixed_binding (get_or settings.statics count none)))
        → IsLawful (first_bindings settings (suc count))
    by_one h =
        let more : map fixed_binding (take count settings.statics) ++ fixed_binding (get_or settings.statics count none) ∷ [] ≡ map fixed_binding
        (take (count + 1) settings.statics) =
        sym (map-append fixed_binding (take count settings.statics) (get_or settings.statics count none ∷ []))
        ∙ ap (map fixed_binding) (sym (take_more settings.statics count none (omega arith))) in
        let suc_is : count + 1 ≡ suc count = omega arith in
        subst (λ (n : ℕ). IsLawful (first_bindings settings n)) suc_is
        (subst (λ (entries : List Binding). IsLawful (record (without_bindings settings) { entries = entries })) more h)

pub opening_is_lawful : (settings : Settings) → IsSound settings → HasForms settings → IsLawful (opening settings)
opening_is_lawful settings sound forms =
    subst (λ (statics : List Fixed). IsLawful (record (without_bindings settings) { entries = map fixed_binding statics }))
    (take-length settings.statics) (first_lawful settings sound forms (length settings.statics) (omega arith))

pub opening_hosts : {S : Type 0} (settings : Settings) → IsSound settings → HasForms settings → KeepsAll {S = S} (opening_world settings)
opening_hosts {S = S} settings sound forms =
    record { lawful = opening_is_lawful settings sound forms; hosts = All-nil (λ (c : Connection (Tracked S)). KeepsHosts (opening settings) c) }

-- ## What crossing gives for the pair of a session

client_crosses : (table : Bindings) (side : Side) (host alias : Addr) (h a until : ℕ) → IsLawful table → host.0 ≡ h → alias.0 ≡ a
    → IsKnownAs table side h a until → seen table side host ≡ Some alias
client_crosses table side host alias h a until lawful e f k =
    ap (λ (n : ℕ). seen table side (record { 0 = n })) e ∙ known_seen table side h a until lawful k
    ∙ ap (λ (n : ℕ). let x : Addr = record { 0 = n } in Some x) (sym f)

server_crosses : (table : Bindings) (side : Side) (host alias : Addr) (h a until : ℕ) → IsLawful table → host.0 ≡ h → alias.0 ≡ a
    → IsKnownAs table (other side) h a until → seen table side alias ≡ Some host
server_crosses table side host alias h a until lawful e f k =
    ap (λ (n : ℕ). seen table side (record { 0 = n })) f ∙ known_back table side h a until lawful k
    ∙ ap (λ (n : ℕ). let x : Addr = record { 0 = n } in Some x) (sym e)

pair_crosses : {S : Type 0} (table : Bindings) (c : Connection (Tracked S)) → IsLawful table → KeepsHosts table c
    → IfSome c.session (PairCrosses table)
pair_crosses {S = S} table c lawful k = by_session c.session k.pair
  where
    by_session : (o : Option (Tracked S)) → IfSome o (λ t. IsPairOf t.client t.pair (λ s. host_in s c.key) k.aliases) → IfSome o (PairCrosses table)
    by_session None p = tt
    by_session (Some t) p = record {
      client =
          client_crosses table t.client t.pair.client t.pair.client_alias (host_in t.client c.key)
          (k.aliases t.client) c.until.0 lawful p.client_host p.client_alias (k.known t.client);
      server =
          server_crosses table t.client t.pair.server t.pair.server_alias (host_in (other t.client) c.key)
          (k.aliases (other t.client)) c.until.0 lawful p.server_host p.server_alias (k.known (other t.client));
    }

pub pairs_cross : {S : Type 0} (w : World S) → KeepsAll w → EachTracked (PairCrosses w.table) w.connections
pairs_cross w h =
    All-weaker (KeepsHosts w.table) (λ c. IfSome c.session (PairCrosses w.table)) (λ c k. pair_crosses w.table c h.lawful k) w.connections h.hosts
