-- Blocks as ranges that rise, in which an address is found by halving.
use Rattle.std.specs.Prelude.{◌≡◌, ℕ, max, Bool, ◌&&◌, nat_le, List, [], ◌∷◌}
use Rattle.std.specs.List.{list_any}
use Rattle.std.specs.List.Sorted.{IsNonDecreasingBy}
use Rattle.gate_base.specs.declared.address.Addr.{Addr}
use Rattle.gate_settings.specs.declared.settings.Block.{Block}
use Rattle.gate_settings.specs.declared.same.SameRange.{SameRange}
use Rattle.gate_settings.specs.Cross.{block_end, is_in_same}

-- whether an address lies in a range
abbrev pub is_in_range : ℕ → SameRange → Bool
is_in_range address range = nat_le range.first address && nat_le address range.last

-- for each block its first address, and the last one of any block up to there or of earlier ones
abbrev pub ranges_from : ℕ → List Block → List SameRange
ranges_from last [] = []
ranges_from last (block ∷ blocks) = record { first = block.base.0; last = max last (block_end block) }
    ∷ ranges_from (max last (block_end block)) blocks

-- first and last addresses are in order
pub record Rise (ranges : List SameRange) : Type 0 where
  pub firsts : IsNonDecreasingBy (λ range. range.first) ranges
  pub lasts : IsNonDecreasingBy (λ range. range.last) ranges

-- and an address lies in a range exactly if it lies in a block
pub record AreRanges (blocks : List Block) (ranges : List SameRange) : Type 0 where
  pub rise : Rise ranges
  pub same : (address : Addr) → list_any (is_in_range address.0) ranges ≡ is_in_same address blocks
