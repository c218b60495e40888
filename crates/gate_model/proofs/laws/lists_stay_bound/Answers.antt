use Rattle.gate_model.specs.Prelude.{opening_world}
use Rattle.gate_model.proofs.ListsWorld.{whole_lists, next_lists, run_lists, opening_lists, lists_cross, lists_grow, images_stay, lists_few}
use Rattle.gate_model.proofs.laws.lists_stay_bound.Goals as goal

pub returns : goal.returns
returns g k = record {
  bound = λ rules settings events has sound forms.
      (run_lists rules has events (opening_world settings) (opening_lists rules settings sound forms)).lists;
  step = λ rules w e has h. next_lists rules has w e h;
  crosses = λ rules w h. lists_cross rules w h;
  grow = λ rules has image f s g client. lists_grow rules has image f s g client;
  image = λ rules has image f s g client number h. images_stay rules has image f s g client number h;
  few = λ rules settings events has. lists_few rules has events settings;
  whole = whole_lists;
}
