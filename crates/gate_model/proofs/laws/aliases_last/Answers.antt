use Rattle.gate_model.specs.Prelude.{opening_world}
use Rattle.gate_model.proofs.HostsKept.{run_hosts}
use Rattle.gate_model.proofs.HostsOpen.{opening_hosts}
use Rattle.gate_model.proofs.NamesLast.{kept_stands, names_called}
use Rattle.gate_model.proofs.Transparency.{keeps_alias}
use Rattle.gate_model.proofs.laws.aliases_last.Goals as goal

pub returns : goal.returns
returns g k = record {
  lawful = λ rules settings events sound forms. (run_hosts rules events (opening_world settings) (opening_hosts settings sound forms)).lawful;
  lasts = λ rules w e x between address until lawful passes keeps before less. keeps_alias rules w e address until between x lawful passes
      (kept_stands rules w e address until lawful passes keeps) before less;
  named = λ rules w e lawful passes dns. names_called rules w e lawful passes dns;
}
