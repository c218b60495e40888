-- What only proofs and private contracts need beside `Steps`.
use Rattle.std.specs.Prelude.{◌≡◌, ◌≤◌, ℕ, Bool, nat_lt, List, [], ◌∷◌, length, Some, All}
use Rattle.gate_base.specs.Prelude.{other}
use Rattle.verdicts.specs.declared.refusal.Refusal.{Refusal}
use Rattle.verdicts.specs.declared.refusal.Refusal.TheVariants.{RenamesFull, PoolEmpty}
use Rattle.binding_table.specs.Prelude.{Bindings, free, needed}
use Rattle.dialogue.specs.Prelude.{Entry}
use Rattle.dns_messages.specs.Suits.{MessageSuits}
use Rattle.dns_messages.specs.declared.message.Message.{Message}
use Rattle.dns_stream.specs.Prelude.{message_in}
use Rattle.dialogue.specs.declared.TheConstants.{MOST_ENTRIES}
use Rattle.dns_plans.specs.Plans.{all_addresses}
use Rattle.dns_plans.specs.declared.named.ReadUnit.{ReadUnit}
use Rattle.dns_plans.specs.declared.plan.Endpoints.{Endpoints}

-- the tests that are left where no unit is whole
abbrev pub none_tests : Bindings → Endpoints → List Entry → List (Bool × Refusal)
none_tests table ends entries =
    (nat_lt MOST_ENTRIES (length entries), RenamesFull)
    ∷ (nat_lt (free table (other ends.side)) (needed table ends.side (all_addresses ends [])), PoolEmpty)
    ∷ []

-- the octets of a unit that is read
abbrev pub unit_of : ReadUnit → List ℕ
unit_of read = read.unit.items

-- a unit holds this message, which can be written
pub record IsReadAs (unit : List ℕ) (message : Message) : Type 0 where
  pub is : message_in unit ≡ Some message
  pub suits : MessageSuits message
  pub short : length unit ≤ 8194

abbrev pub IsRead : ReadUnit → Type 0
IsRead read = IsReadAs (unit_of read) read.message

abbrev pub AreRead : List ReadUnit → Type 0
AreRead units = All IsRead units
