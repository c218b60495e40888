use Rattle.std.proofs.Common.{refl, arith}
use Rattle.dns_messages.proofs.Alone.{spelling-none, spelling-some, bare-fits}
use Rattle.dns_messages.proofs.writing.write_question.Goals as goal

pub returns-in_default-clause-written : goal.returns-in_default-clause-written
returns-in_default-clause-written c =
    rw (
      spelling-none c.args.message.now c.requires c.in_default.is,
      c.in_ok-extend_from_slice.ensures.items,
      c.in_ok-octets.ensures.items,
      c.to_be_bytes.ensures,
      c.to_be_bytes-2.ensures,
      c.asked-count.ensures,
      c.in_default.is,
    ) refl

pub returns-in_default-clause-fits : goal.returns-in_default-clause-fits
returns-in_default-clause-fits c = bare-fits c.args.message.now c.requires (omega arith) (omega arith) (rw c.in_default.is tt)

pub returns-clause-written : goal.returns-clause-written
returns-clause-written c =
    let octets = rw (
      c.in_ok-extend_from_slice-2.ensures.items,
      c.in_ok-extend_from_slice.ensures.items,
      c.in_ok-octets.ensures.items,
      c.octets.ensures.octets_are,
    ) at c.in_ok-extend_from_slice-3.ensures.items in
    rw (
      octets,
      spelling-some c.args.message.now c.in-Some.question c.requires c.in-Some.is,
      c.to_be_bytes.ensures,
      c.to_be_bytes-2.ensures,
      c.to_be_bytes-3.ensures,
      c.to_be_bytes-4.ensures,
      c.asked-count.ensures,
      c.in-Some.is,
    ) refl

pub returns-clause-fits : goal.returns-clause-fits
returns-clause-fits c =
    bare-fits c.args.message.now c.requires (omega arith) (omega arith)
    (rw c.in-Some.is record { name = c.octets.ensures.is_name; kind = omega arith; class = omega arith })
