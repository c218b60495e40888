use Rattle.std.proofs.Common.{◌∙◌, ap}
use Rattle.dns_names.specs.Prelude.{reverse_in}
use Rattle.dns_names.proofs.Reversing.{reverse_in-spelled}
use Rattle.dns_names.proofs.reverse.address_of.Goals as goal

pub returns : goal.returns
returns c = c.address_in.ensures ∙ ap reverse_in c.octets.ensures.octets_are ∙ reverse_in-spelled c.args.name.now
