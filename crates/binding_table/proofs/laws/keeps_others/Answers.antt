use Rattle.binding_table.specs.Prelude.{cross}
use Rattle.binding_table.proofs.SeenAfter.{seen_kept}
use Rattle.binding_table.proofs.laws.keeps_others.Goals as goal

pub returns : goal.returns
returns c = λ table one address h. seen_kept table one.side one.address address one.until (cross table one.side one.address) h
