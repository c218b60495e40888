use Rattle.compact_stream.proofs.ImageCopied.{image_copied}
use Rattle.compact_stream.proofs.laws.recent_octets_suffice.Goals as goal

pub returns : goal.returns
returns c = λ m h s lo hi law k up inside from order within. image_copied m law h s lo hi k up inside from order within
