use Rattle.stream_model.proofs.RoundsEnd.{rounds_few, rounds_raise}
use Rattle.stream_model.proofs.laws.rounds_come_to_an_end.Goals as goal

pub returns-clause-raise : goal.returns-clause-raise
returns-clause-raise k = λ s client knows had rounds law facts knows_less has all. rounds_raise client rounds s knows had
    (record { lawful = law; bound = facts.acked; below = knows_less; hears = has }) all

pub returns-clause-few : goal.returns-clause-few
returns-clause-few k = λ s client knows had rounds law facts knows_less has all. rounds_few client rounds s knows had
    (record { lawful = law; bound = facts.acked; below = knows_less; hears = has }) all
