use Rattle.std.proofs.Common.{◌∙◌, sym}
use Rattle.frag_join.proofs.FrameLemmas.{short-datagram, whole-datagram}
use Rattle.frag_join.proofs.fragment.is_fragment.Goals as goal
use Rattle.frag_join.proofs.fragment.is_fragment.Goals.{then-octets-lt20-via-then-octets-lt20, then-octets-lt20-via-else-octets-lt20+then-not-is_part}

pub returns-then-octets-lt20 : goal.returns-then-octets-lt20
returns-then-octets-lt20 c =
    elim c.then-octets-lt20.branch [
      | then-octets-lt20-via-then-octets-lt20 w ↦ sym (short-datagram c.args.octets.now w.if-octets-lt20.true)
      | then-octets-lt20-via-else-octets-lt20+then-not-is_part w ↦
          sym (whole-datagram c.args.octets.now (sym w.is_part.ensures ∙ w.if-not-is_part.true))
    ]
