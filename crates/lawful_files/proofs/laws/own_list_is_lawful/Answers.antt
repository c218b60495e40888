use Rattle.lawful_files.proofs.SentLists.{own_lawful}
use Rattle.lawful_files.proofs.laws.own_list_is_lawful.Goals as goal

pub returns : goal.returns
returns c = own_lawful
