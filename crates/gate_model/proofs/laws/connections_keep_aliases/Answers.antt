use Rattle.gate_model.specs.Prelude.{opening_world}
use Rattle.gate_model.proofs.HostsKept.{run_hosts, known_stays}
use Rattle.gate_model.proofs.HostsOpen.{opening_hosts, pairs_cross}
use Rattle.gate_model.proofs.laws.connections_keep_aliases.Goals as goal

pub returns : goal.returns
returns g k = record {
  hosts = λ rules settings events sound forms. (run_hosts rules events (opening_world settings) (opening_hosts settings sound forms)).hosts;
  pairs = λ rules settings events sound forms. pairs_cross _ (run_hosts rules events (opening_world settings) (opening_hosts settings sound forms));
  stays = λ rules w e side host alias until later h. known_stays rules w e side host alias until later h;
}
