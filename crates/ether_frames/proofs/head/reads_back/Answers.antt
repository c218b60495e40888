use Rattle.ether_frames.proofs.Heads.{head_reads}
use Rattle.ether_frames.proofs.head.reads_back.Goals as goal

pub returns : goal.returns
returns c = head_reads c.args.destination.now c.args.source.now c.args.payload.now c.told-destination c.told-source
