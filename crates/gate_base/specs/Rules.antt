-- Which rules may name addresses in object identifiers.
use Rattle.std.specs.Prelude.{ℕ, ◌==◌, ◌&&◌, ◌||◌, Bool, nat_le, List, length, slice_index, IsTrue}
use Rattle.std.specs.List.{list_all}
use Rattle.gate_base.specs.declared.rule.OidRule.{OidRule}
use Rattle.gate_base.specs.declared.rule.TheConstants.{GREATEST_ARC, MOST_ARCS}

-- a prefix has two arcs at least and MOST_ARCS at most, and its first two can stand in one sub-identifier (X.690, 8.19.4)
abbrev pub is_prefix : List ℕ → Bool
is_prefix arcs =
    let first = slice_index arcs 0 in
    let second = slice_index arcs 1 in
    (nat_le 2 (length arcs) && nat_le (length arcs) MOST_ARCS)
    && ((nat_le first 1 && nat_le second 39) || (first == 2 && nat_le second 4_294_967_215))
    && list_all (λ arc. nat_le arc GREATEST_ARC) arcs

-- at most 127 arcs are skipped
abbrev pub is_rule : OidRule → Bool
is_rule rule = is_prefix rule.prefix && nat_le rule.skip 127

-- each can be a rule
abbrev pub AreRules : List OidRule → Type 0
AreRules rules = IsTrue (list_all is_rule rules)
