use Rattle.twice_translate.proofs.Whole.{can_translate}
use Rattle.twice_translate.proofs.rename.translate_accepted.Goals as goal

pub split_at_mut-head-requires : goal.split_at_mut-head-requires
split_at_mut-head-requires c = (can_translate c.args.datagram.now c.requires).long

pub adjust_payload-requires-clause-header : goal.adjust_payload-requires-clause-header
adjust_payload-requires-clause-header c =
    rw (c.split_at_mut-head.ensures.front, c.split_at_mut-head.ensures.back) (can_translate c.args.datagram.now c.requires).header
