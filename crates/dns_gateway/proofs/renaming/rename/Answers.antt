use Rattle.dns_gateway.proofs.Fitting.{resources-suit}
use Rattle.dns_gateway.proofs.renaming.rename.Goals as goal

pub returns-clause-suits : goal.returns-clause-suits
returns-clause-suits c = λ ok. record {
  answers = rw c.in_ok-place-2.ensures.renamed (resources-suit _ _ _ ok.answers);
  authority = rw c.in_ok-place-3.ensures.renamed (resources-suit _ _ _ ok.authority);
  additional = rw c.in_ok-rename_list.ensures.renamed (resources-suit _ _ _ ok.additional);
}
