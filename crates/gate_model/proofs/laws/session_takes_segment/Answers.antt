use Rattle.gate_model.proofs.SegmentsTaken.{taken_out, taken_next}
use Rattle.gate_model.proofs.laws.session_takes_segment.Goals as goal

pub returns : goal.returns
returns g k = record {
  out = λ rules w e t h. taken_out rules w e t h;
  next = λ rules w e t c h is. taken_next rules w e t c h is;
}
