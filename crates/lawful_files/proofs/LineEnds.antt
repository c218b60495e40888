-- A line of the report tells its number of frames, and where it ends.
use Rattle.std.proofs.Common.{◌≡◌, ◌<◌, ◌+◌, ◌^◌, ℕ, List, ◌++◌}
use Rattle.frag_join.specs.Prelude.{Arrival}
use Rattle.gate_report.proofs.LineEnds.{IsSame, line_same as same_line}
use Rattle.gate_settings.specs.declared.settings.Settings.{Settings}
use Rattle.lawful_files.specs.Wanted.{event_in, verdict_of}
use Rattle.lawful_files.specs.Files.{State, line_of}

pub line_same : (settings : Settings) (k : State) (f : Arrival) (n m : ℕ) (r q : List ℕ) → n < 2 ^ 32 → m < 2 ^ 32
    → line_of settings k f n ++ r ≡ line_of settings k f m ++ q → IsSame n m r q
line_same settings k f n m r q small little e =
    same_line settings.report (k.totals.events + 1) (event_in f).side (event_in f).moment (verdict_of k.world f) n m r q small little e
