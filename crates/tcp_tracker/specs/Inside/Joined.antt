-- What only proofs and private contracts need beside `Joined`.
use Rattle.std.specs.Prelude.{◌≡◌, ◌≢◌, ◌≤◌, ℕ, List, length, map, option_and_then, option_to_list, IsSome, IfSome, All, AllPairs}
use Rattle.std.specs.List.{flat_map}
use Rattle.slab.specs.Slab.{Slab, get, slab_len}
use Rattle.tcp_tracker.specs.declared.connection.Connection.{Connection}
use Rattle.tcp_tracker.specs.declared.table.TheConstants.{MOST_SESSIONS}

-- a connection with the session of its slot
abbrev pub inline : {X : Type 0} → Slab X → Connection ℕ → Connection X
inline slots c = record {
  key = c.key;
  left_acknowledges = c.left_acknowledges;
  right_acknowledges = c.right_acknowledges;
  closing = c.closing;
  session = option_and_then (get slots) c.session;
  until = c.until;
}

abbrev pub joined : {X : Type 0} → Slab X → List (Connection ℕ) → List (Connection X)
joined slots all = map (inline slots) all

-- the slot of a connection's session has one
abbrev pub IsKept : {X : Type 0} → Slab X → Connection ℕ → Type 0
IsKept slots c = IfSome c.session (λ slot. IsSome (get slots slot))

-- the slots of all sessions
abbrev pub slots_of : List (Connection ℕ) → List ℕ
slots_of all = flat_map (λ c. option_to_list c.session) all

-- each session has a slot of its own, each slot a connection, and there is room for 4,096
pub record IsJoined {X : Type 0} (all : List (Connection ℕ)) (slots : Slab X) : Type 0 where
  pub kept : All (IsKept slots) all
  pub apart : AllPairs (λ one two. one ≢ two) (slots_of all)
  pub counted : slab_len slots ≡ length (slots_of all)
  pub room : MOST_SESSIONS ≤ slots.capacity
