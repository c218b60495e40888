-- The prefixes of rules about object identifiers, as texts.
use Rattle.std.specs.Prelude.{ℕ, zero, suc, ◌+◌, ◌*◌, ◌&&◌, ◌||◌, ◌==◌, nat_lt, nat_le, Bool, if◌then◌else◌, List, [], ◌∷◌, length, slice_index, Option, Some, None}
use Rattle.gate_base.specs.Prelude.{◌>>=◌, cut_at, digit_of, is_prefix}
use Rattle.gate_base.specs.declared.rule.TheConstants.{GREATEST_ARC}

-- the number that digits write behind those of another, where none on the way is above the greatest arc
unfoldable pub arc_behind : ℕ → List ℕ → Option ℕ
arc_behind number [] = Some number
arc_behind number (octet ∷ octets) = do
  digit ← digit_of octet
  if nat_le (10 * number + digit) GREATEST_ARC then arc_behind (10 * number + digit) octets else None

-- no digit, or a zero (48) before other digits
abbrev pub is_no_number : List ℕ → Bool
is_no_number text = length text == 0 || (nat_lt 1 (length text) && slice_index text 0 == 48)

-- an arc: a decimal number up to the greatest arc without leading zeros
abbrev pub arc_text : List ℕ → Option ℕ
arc_text text = if is_no_number text then None else arc_behind 0 text

-- the last arc, where there is no dot, or an arc and those behind its dot
abbrev pub arcs_by : (List ℕ → Option (List ℕ)) → List ℕ → Option (List ℕ × List ℕ) → Option (List ℕ)
arcs_by others text None = do
  arc ← arc_text text
  Some (arc ∷ [])
arcs_by others text (Some parts) = do
  arc ← arc_text parts.0
  arcs ← others parts.1
  Some (arc ∷ arcs)

-- up to so many arcs, joined by dots (46)
unfoldable pub arcs_text : ℕ → List ℕ → Option (List ℕ)
arcs_text zero text = None
arcs_text (suc more) text = arcs_by (arcs_text more) text (cut_at 46 text)

-- a prefix: its arcs, joined by dots
unfoldable pub prefix_text : List ℕ → Option (List ℕ)
prefix_text text = do
  arcs ← arcs_text 64 text
  if is_prefix arcs then Some arcs else None
