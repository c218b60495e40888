use Rattle.gate_model.specs.Prelude.{opening_world}
use Rattle.gate_model.proofs.ConnectionsReached.{hosts_reached}
use Rattle.gate_model.proofs.HostsKept.{run_hosts}
use Rattle.gate_model.proofs.HostsOpen.{opening_hosts}
use Rattle.gate_model.proofs.laws.connections_are_reached.Goals as goal

pub returns : goal.returns
returns g k = λ rules settings events now sound forms. hosts_reached _ now
    (run_hosts rules events (opening_world settings) (opening_hosts settings sound forms))
