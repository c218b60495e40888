-- What only proofs and private contracts need beside `Kept`.
use Rattle.std.specs.Prelude.{ℕ, List, [], Option, Some, None}
use Rattle.lawful_files.specs.Progress as progress
use Rattle.lawful_files.specs.Prelude.{Wanted, Exactly, Cut}
use Rattle.audit_records.specs.Cutting.{Cutting}
use Rattle.audit_records.specs.Inside.Records.{Came}
use Rattle.audit_records.specs.declared.expected.Progress.{Progress}

-- what is wanted: what a session sends, or just these datagrams
abbrev pub wanted_of : Option Cutting → List (List ℕ) → Wanted
wanted_of None datagrams = Exactly datagrams
wanted_of (Some c) datagrams = Cut c.datagram c.source c.destination c.sent

abbrev pub progress_of : Progress → progress.Progress
progress_of p = record { count = p.count; carried = p.carried; right = p.right }

-- how many octets of those that are cut a record carries
abbrev pub carried_by : Came → Option Cutting → ℕ
carried_by r c = progress.carries r.settings r.side (wanted_of c []) r.packet
