-- While a connection lives, both its hosts are reached by their aliases.
use Rattle.std.proofs.Common.{◌≡◌, ◌<◌, ℕ, All, Option, Some, None, IfSome, sym, subst, inl}
use Rattle.std.proofs.lemmas.List.Elements.{All-weaker}
use Rattle.gate_base.specs.Prelude.{other}
use Rattle.gate_base.specs.declared.address.Addr.{Addr}
use Rattle.gate_base.specs.declared.side.Side.{Side}
use Rattle.binding_table.specs.Prelude.{Bindings, expired, IsLawful, IsKnownAs}
use Rattle.binding_table.proofs.Kept.{lawful_expired}
use Rattle.tcp_tracker.specs.declared.connection.Connection.{Connection}
use Rattle.gate_model.specs.Called.{CrossBack}
use Rattle.gate_model.specs.Transparent.{ReachesHosts}
use Rattle.gate_model.specs.Prelude.{Tracked, World, at_moment, host_in, IsPairOf, KeepsHosts}
use Rattle.gate_model.proofs.AliasesLast.{cross_back}
use Rattle.gate_model.proofs.BoundTables.{known_expired}
use Rattle.gate_model.proofs.HostsKept.{KeepsAll}

crosses_as : (table : Bindings) (side : Side) (address image : Addr) (host alias until : ℕ) → IsLawful table → address.0 ≡ host
    → image.0 ≡ alias → IsKnownAs table side host alias until → CrossBack table side address image
crosses_as table side address image host alias until lawful e f h =
    subst (λ (n : ℕ). CrossBack table side address (record { 0 = n })) (sym f)
    (subst (λ (n : ℕ). CrossBack table side (record { 0 = n }) (record { 0 = alias })) (sym e)
    (cross_back table side host alias until lawful (inl h)))

reaches : {S : Type 0} (table : Bindings) (now : ℕ) (c : Connection (Tracked S)) → IsLawful table → now < c.until.0 → KeepsHosts table c
    → ReachesHosts (expired table (record { 0 = now })) c
reaches {S = S} table now c lawful less k = record {
  aliases = λ side. record { 0 = k.aliases side };
  crosses = λ side. cross_back (expired table (record { 0 = now })) side (host_in side c.key) (k.aliases side) c.until.0 later (inl (known side));
  pair = by_session c.session k.pair;
}
  where
    later : IsLawful (expired table (record { 0 = now }))
    later = lawful_expired table (record { 0 = now }) lawful

    known : (side : Side) → IsKnownAs (expired table (record { 0 = now })) side (host_in side c.key) (k.aliases side) c.until.0
    known side = known_expired table side (host_in side c.key) (k.aliases side) c.until.0 now less (k.known side)

    by_session : (o : Option (Tracked S)) → IfSome o (λ t. IsPairOf t.client t.pair (λ side. host_in side c.key) k.aliases)
        → IfSome o (λ t. CrossBack (expired table (record { 0 = now })) t.client t.pair.client t.pair.client_alias
        × CrossBack (expired table (record { 0 = now })) (other t.client) t.pair.server t.pair.server_alias)
    by_session None p = tt
    by_session (Some t) p = (
      crosses_as (expired table (record { 0 = now })) t.client t.pair.client t.pair.client_alias (host_in t.client c.key)
          (k.aliases t.client) c.until.0 later p.client_host p.client_alias (known t.client),
      crosses_as (expired table (record { 0 = now })) (other t.client) t.pair.server t.pair.server_alias (host_in (other t.client) c.key)
          (k.aliases (other t.client)) c.until.0 later p.server_host p.server_alias (known (other t.client)),
    )

pub hosts_reached : {S : Type 0} (w : World S) (now : ℕ) → KeepsAll w
    → All (λ c. now < c.until.0 → ReachesHosts (at_moment w now).table c) w.connections
hosts_reached w now h = All-weaker (KeepsHosts w.table) (λ c. now < c.until.0 → ReachesHosts (expired w.table (record { 0 = now })) c)
    (λ c k less. reaches w.table now c h.lawful less k) w.connections h.hosts
