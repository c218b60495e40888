-- A session of the table that is lent.
use Rattle.std.specs.Prelude.{List, Option}
use Rattle.std.specs.Borrow.{LendsIf, MutBor, Fml, RattleType}
use Rattle.tcp_tracker.specs.declared.connection.ConnKey.{ConnKey}
use Rattle.tcp_tracker.specs.declared.connection.Connection.{Connection}
use Rattle.tcp_tracker.specs.Joined.{replaced}
use Rattle.tcp_tracker.specs.contracts.table.SessionTable.{the_row}

-- once the borrow r ends, the connection of this name has the last session written through r; at `None` nothing changes
abbrev pub lends_session : (X : RattleType) → MutBor (List (Connection X.Denot)) → ConnKey → Option (MutBor X.Denot) → Fml
lends_session X s key r = LendsIf (the_row X) X s r (replaced s.now key) s.now
