-- How connections are kept under numbers.
use Rattle.std.specs.Prelude.{◌≡◌, ℕ, ◌+◌, ◌*◌, ◌^◌, ◌<◌, All, Some}
use Rattle.expiring_table.specs.declared.row.Row.{Row}
use Rattle.expiring_table.specs.Prelude.{Table}
use Rattle.tcp_tracker.specs.declared.connection.ConnKey.{ConnKey}
use Rattle.tcp_tracker.specs.declared.connection.Connection.{Connection}
use Rattle.tcp_tracker.specs.declared.tracker.TheConstants.{MOST_CONNECTIONS}

-- the name of a connection as a number
abbrev pub number_of : ConnKey → ℕ
number_of key = (key.left.0 * 2 ^ 16 + key.left_port) * 2 ^ 48 + (key.right.0 * 2 ^ 16 + key.right_port)

-- a name is made of numbers of 32 and 16 bits
pub record IsKey (key : ConnKey) : Type 0 where
  pub left : key.left.0 < 2 ^ 32
  pub left_port : key.left_port < 2 ^ 16
  pub right : key.right.0 < 2 ^ 32
  pub right_port : key.right_port < 2 ^ 16

-- a connection under its number, with its end
abbrev pub filed : Connection ℕ → Row (Connection ℕ)
filed connection = record { key = number_of connection.key; end = Some connection.until.0; value = connection }

pub record IsFiled (row : Row (Connection ℕ)) : Type 0 where
  pub key : IsKey row.value.key
  pub number : row.key ≡ number_of row.value.key
  pub end : row.end ≡ Some row.value.until.0

-- there is room for 65,536 connections, and each is filed
pub record IsWhole (table : Table (Connection ℕ)) : Type 0 where
  pub most : table.most ≡ MOST_CONNECTIONS
  pub filed : All IsFiled table.rows
