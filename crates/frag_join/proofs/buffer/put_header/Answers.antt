use Rattle.std.proofs.Common.{sym, ◌∙◌}
use Rattle.frag_join.proofs.FragmentLemmas.{header-put, header-rest}
use Rattle.frag_join.proofs.buffer.put_header.Goals as goal

pub returns-clause-header : goal.returns-clause-header
returns-clause-header c =
    header-put c.args.headed c.args.octets.now.items c.write.new.target.items c.header.result.now c.args.fragment.now c.if-headed.false
    (sym c.start.ensures.place ∙ c.if-start-ne0.false) c.header.ensures.octets c.header.ensures.count
    c.write.ensures

pub returns-clause-rest : goal.returns-clause-rest
returns-clause-rest c = header-rest c.args.octets.now.items c.write.new.target.items c.header.result.now c.header.ensures.count c.write.ensures
