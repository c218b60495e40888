use Rattle.std.proofs.Common.{◌+◌, ◌*◌, length}
use Rattle.snmp_oids.proofs.Tree.{Wrote}
use Rattle.snmp_oids.proofs.elements.+writing.Given as goal

abbrev pub decreases-put_content : goal.decreases-put_content
decreases-put_content g l = 2 * length l.element.now.content + 1

abbrev pub decreases-put_elements : goal.decreases-put_elements
decreases-put_elements g l = 2 * length l.octets.now

abbrev pub invariant-put_elements-loop-element : goal.invariant-put_elements-loop-element
invariant-put_elements-loop-element g l = Wrote (g.L.Lookup.image_of l.lookup) l.rules l.place l.octets l.fn.target l.target l.end l.rest

abbrev pub decreases-put_elements-loop-element : goal.decreases-put_elements-loop-element
decreases-put_elements-loop-element g l = length l.rest
