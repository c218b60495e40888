-- Sessions of two kinds as code keeps them.
use Rattle.std.specs.Prelude.{◌≤◌, Option, Some, None, length}
use Rattle.gate_base.specs.declared.host.Host.{Host}
use Rattle.ftp_lines.specs.Renaming.{client_lines, server_lines}
use Rattle.stream_model.specs.Prelude.{Segment}
use Rattle.stream_gate.specs.Prelude.{KeptCompletes}
use Rattle.gate_model.specs.Prelude.{Lists}
use Rattle.gate_sessions.specs.Compact.{CompactSession, kept_units}

-- where a segment may want memory: it completes a line that bears an address, or a unit of DNS
abbrev pub ListedMayWant : Option Lists → Host → CompactSession → Segment → Type 0
ListedMayWant None from k g = KeptCompletes (client_lines k.pair) (server_lines k.pair) from k.kept g
ListedMayWant (Some lists) from k g = 1 ≤ length (kept_units from k g)

abbrev pub KeptMayWant : Host → CompactSession → Segment → Type 0
KeptMayWant from k g = ListedMayWant k.lists from k g
