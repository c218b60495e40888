use Rattle.std.proofs.Common.{◌∙◌, sym}
use Rattle.std.proofs.lemmas.List.Sums.{length-filter}
use Rattle.tcp_tracker.specs.Prelude.{is_tracked, joined}
use Rattle.tcp_tracker.proofs.Joining.{length_slots, tracked_joined}
use Rattle.tcp_tracker.proofs.table.SessionTable.sessions.Goals as goal

pub returns : goal.returns
returns g c =
    rw (← c.self.view_is)
    (c.len.ensures ∙ c.self.invariant.counted ∙ length_slots c.self.inside.tracker
    ∙ sym (tracked_joined c.self.inside.sessions c.self.inside.tracker c.self.invariant.kept)
    ∙ length-filter is_tracked (joined c.self.inside.sessions c.self.inside.tracker))
