use Rattle.compact_stream.proofs.PlacesKept.{rear_up_to}
use Rattle.compact_stream.proofs.HeldCover.{back_due, fore_held}
use Rattle.compact_stream.proofs.laws.kept_octets_suffice.Goals as goal

pub returns-clause-acknowledged : goal.returns-clause-acknowledged
returns-clause-acknowledged c = λ m ended s q e law l one h. rear_up_to m law ended s q e l one h

pub returns-clause-starts : goal.returns-clause-starts
returns-clause-starts c = λ m s law. back_due m law s

pub returns-clause-covered : goal.returns-clause-covered
returns-clause-covered c = λ m ended s t p law e. fore_held m law ended s t p e
