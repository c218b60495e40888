use Rattle.compact_stream.proofs.RangeLemmas.{own_in_range, other_in_range}
use Rattle.compact_stream.proofs.laws.kept_stays_in_range.Goals as goal

pub returns-clause-own : goal.returns-clause-own
returns-clause-own c = λ m h b f u g law i v. own_in_range f m law h b g u i v

pub returns-clause-other : goal.returns-clause-other
returns-clause-other c = λ m h a f u g i v. other_in_range f m h a g u i v
