use Rattle.pcap_files.proofs.Joined.{reads}
use Rattle.pcap_files.proofs.Cut.{spells}
use Rattle.pcap_files.proofs.laws.reads_what_is_spelled.Goals as goal

pub returns-clause-reads : goal.returns-clause-reads
returns-clause-reads c = reads

pub returns-clause-spells : goal.returns-clause-spells
returns-clause-spells c = spells
