use Rattle.frag_join.proofs.CutSteps.{cuts-join, cuts-join-known}
use Rattle.frag_join.proofs.laws.cuts_are_joined.Goals as goal

pub returns : goal.returns
returns c = record { over_lists = cuts-join; by_what_is_known = cuts-join-known }
