use Rattle.std.proofs.Common.{◌≡◌, ◌==◌, ℕ, [], drop, take, nat_cmp}
use Rattle.std.specs.BTreeSet.{contains}
use Rattle.std.specs.List.{list_any}
use Rattle.settings_file.specs.Accepting.{first_repeated}
use Rattle.settings_file.specs.Inside.Numbers.{host_number, alias_number}
use Rattle.settings_file.proofs.cross.repeated.Given as goal

-- none so far collides with an earlier one, and both sets have their numbers
abbrev pub invariant-loop-index : goal.invariant-loop-index
invariant-loop-index l = record {
  same : first_repeated (take l.index l.statics) (drop l.index l.statics) ≡ first_repeated [] l.statics;
  hosts : (q : ℕ) → contains nat_cmp l.hosts q ≡ list_any (λ fixed. host_number fixed == q) (take l.index l.statics);
  aliases : (q : ℕ) → contains nat_cmp l.aliases q ≡ list_any (λ fixed. alias_number fixed == q) (take l.index l.statics);
}
