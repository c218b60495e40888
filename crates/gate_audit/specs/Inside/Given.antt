-- How many datagrams are put for one that is taken.
use Rattle.std.specs.Prelude.{◌≡◌, ℕ, List, [], length}
use Rattle.audit_records.specs.Cutting.{Cutting}
use Rattle.event_state.specs.declared.taken.Taken.{Taken}
use Rattle.event_state.specs.declared.taken.Taken.TheVariants.{Refused, Whole, Cut}

-- none where it is refused, and one where it goes out whole
abbrev pub IsWhole : Taken Cutting → List (List ℕ) → Type 0
IsWhole (Refused refusal) datagrams = datagrams ≡ []
IsWhole Whole datagrams = length datagrams ≡ 1
IsWhole (Cut pieces) datagrams = Unit {0}
