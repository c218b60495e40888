use Rattle.stream_model.proofs.Agreeing.{sent_agrees, end_agrees, inner_agrees}
use Rattle.stream_model.proofs.laws.who_agrees_sends_alike.Goals as goal

pub returns-clause-sent : goal.returns-clause-sent
returns-clause-sent c = sent_agrees

pub returns-clause-ends : goal.returns-clause-ends
returns-clause-ends c = end_agrees

pub returns-clause-inner : goal.returns-clause-inner
returns-clause-inner c = inner_agrees
