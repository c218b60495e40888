use Rattle.compact_stream.proofs.SenderLemmas.{fore-sent, rear-sent, back-sent}
use Rattle.compact_stream.proofs.PlacesKept.{sender_end, sender_forgotten}
use Rattle.compact_stream.proofs.laws.places_are_kept.Goals as goal

pub returns-clause-fore : goal.returns-clause-fore
returns-clause-fore c = λ m ended s p law. fore-sent m law ended s p

pub returns-clause-rear : goal.returns-clause-rear
returns-clause-rear c = λ m ended s e law. rear-sent m law ended s e

pub returns-clause-back : goal.returns-clause-back
returns-clause-back c = λ m ended s q law l. back-sent m law ended s q l

pub returns-clause-end : goal.returns-clause-end
returns-clause-end c = λ m h a q law k l u. sender_end m law h a q k l u

pub returns-clause-forgotten : goal.returns-clause-forgotten
returns-clause-forgotten c = λ m h a law k i. sender_forgotten m law h a k i
