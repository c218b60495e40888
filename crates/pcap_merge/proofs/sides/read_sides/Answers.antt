use Rattle.std.proofs.Common.{Err, ap, inl, refl, subst, sym, ◌∙◌}
use Rattle.std.proofs.lemmas.Result.{err_from_is_err_and}
use Rattle.gate_base.specs.declared.side.Side.TheVariants.{Left}
use Rattle.pcap_merge.specs.Inside.Sides.{ReadsSide, ReadsSides}
use Rattle.pcap_merge.specs.Stops.{LeavesCounts}
use Rattle.pcap_merge.proofs.sides.read_sides.Goals as goal

pub returns-in_err-read_side : goal.returns-in_err-read_side
returns-in_err-read_side g c =
    let old = g.D.Desk.outside c.args.desk.now in
    let new = g.D.Desk.outside c.read_side.new.desk in
    let handed = err_from_is_err_and c.from_residual.result c.from_residual.ensures.1 in
    let is = handed.1 ∙ ap Err handed.2 in
    record {
      reads = subst (λ r. ReadsSides r c.args.last c.args.left.now c.read_side.new.reader c.args.right.now c.args.right.now old new) (sym is)
          (inl (
            subst (λ unread. ReadsSide (Err c.in_err-read_side.field-0.0) Left unread c.args.left.now c.read_side.new.reader old new)
                c.is_unread.ensures c.in_err-read_side.ensures.reads,
            refl,
          ));
      leaves = subst (λ r. LeavesCounts r old new) (sym is) c.in_err-read_side.ensures.leaves;
    }
