use Rattle.pcap_merge.proofs.Weave.{merges, moments}
use Rattle.pcap_merge.proofs.laws.merges_by_stamps.Goals as goal

pub returns-clause-merges : goal.returns-clause-merges
returns-clause-merges c = merges

pub returns-clause-moments : goal.returns-clause-moments
returns-clause-moments c = moments
