use Rattle.std.proofs.Common.{ap, ◌∙◌, take}
use Rattle.frag_join.specs.Prelude.{whole_head}
use Rattle.frag_join.proofs.FragmentLemmas.{front-put, header-rest}
use Rattle.frag_join.proofs.buffer.seal_head.Goals as goal

pub returns-clause-header : goal.returns-clause-header
returns-clause-header c =
    front-put c.args.octets.now.items c.write.new.target.items c.put_fields.new.head (c.put_fields.auto.head ∙ c.copy_from_slice.ensures.len)
    c.write.ensures
    ∙ c.put_fields.ensures ∙ ap (λ head. whole_head head c.args.total) (c.copy_from_slice.ensures.after ∙ ap (take 20) c.deref.ensures.value)

pub returns-clause-rest : goal.returns-clause-rest
returns-clause-rest c = header-rest c.args.octets.now.items c.write.new.target.items c.put_fields.new.head
    (c.put_fields.auto.head ∙ c.copy_from_slice.ensures.len) c.write.ensures
