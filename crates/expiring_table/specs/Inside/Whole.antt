-- What the chains keep.
use Rattle.std.specs.Prelude.{◌≡◌, ℕ, ◌<◌, ◌^◌, length, slice_index, slice_index_or, None, vec_capacity}
use Rattle.expiring_table.specs.Inside.Chained.{Chained, IsLast}
use Rattle.expiring_table.specs.declared.chains.Chains.TheInside.{Inside}

abbrev pub chained_of : Inside → Chained
chained_of chains = record {
  seed = chains.seed;
  width = length chains.heads.items;
  room = vec_capacity chains.buckets;
  buckets = chains.buckets.items;
}

-- each bucket has its last place, and each place the one before it
pub record AreLinked (chains : Inside) : Type 0 where
  pub few : vec_capacity chains.buckets < 2 ^ 32
  pub room : vec_capacity chains.previous ≡ vec_capacity chains.buckets
  pub places : length chains.previous.items ≡ length chains.buckets.items
  pub heads : (bucket : ℕ) → bucket < length chains.heads.items → IsLast bucket chains.buckets.items (length chains.buckets.items)
      (slice_index_or chains.heads.items bucket None)
  pub previous : (place : ℕ) → place < length chains.buckets.items → slice_index chains.buckets.items place < length chains.heads.items
      → IsLast (slice_index chains.buckets.items place) chains.buckets.items place (slice_index_or chains.previous.items place None)
