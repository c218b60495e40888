use Rattle.stream_model.proofs.Lacking.{carries_number, session_brings}
use Rattle.stream_model.proofs.laws.segments_bring.Goals as goal

pub returns-clause-brings : goal.returns-clause-brings
returns-clause-brings k = λ s g f law facts v d. session_brings f s g law facts v d

pub returns-clause-carries : goal.returns-clause-carries
returns-clause-carries k = λ s g f v d. carries_number f s g d
