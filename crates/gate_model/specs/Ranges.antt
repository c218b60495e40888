-- How much a world can hold.
use Rattle.std.specs.Prelude.{◌≤◌, length, count_by}
use Rattle.tcp_tracker.specs.Prelude.{is_tracked}
use Rattle.tcp_tracker.specs.declared.tracker.TheConstants.{MOST_CONNECTIONS}
use Rattle.tcp_tracker.specs.declared.table.TheConstants.{MOST_SESSIONS}
use Rattle.gate_model.specs.World.{World}

-- no more connections than the most, nor sessions
pub record InRange {S : Type 0} (w : World S) : Type 0 where
  pub connections : length w.connections ≤ MOST_CONNECTIONS
  pub sessions : count_by is_tracked w.connections ≤ MOST_SESSIONS
