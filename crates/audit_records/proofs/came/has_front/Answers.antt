use Rattle.audit_records.proofs.Fronts.{front_by}
use Rattle.audit_records.proofs.came.has_front.Goals as goal

pub returns : goal.returns
returns c =
    front_by c.args.octets.now c.args.head.now c.args.datagram.now c.split_at.result.0.now c.split_at.result.1.now c.is_same.result c.is_same-2.result
    c.is_both.result
    c.split_at.ensures.front c.split_at.ensures.back c.is_same.ensures c.is_same-2.ensures c.is_both.ensures
