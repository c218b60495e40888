use Rattle.compact_stream.proofs.ReadsAlike.{keeps_alike, sender_alike, range_alike}
use Rattle.compact_stream.proofs.laws.kept_stream_reads_alike.Goals as goal

pub returns-clause-keeps : goal.returns-clause-keeps
returns-clause-keeps c = keeps_alike

pub returns-clause-sender : goal.returns-clause-sender
returns-clause-sender c = sender_alike

pub returns-clause-range : goal.returns-clause-range
returns-clause-range c = range_alike
