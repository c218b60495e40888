use Rattle.std.proofs.Common.{◌≡◌, drop}
use Rattle.snmp_gateway.specs.Parts.{behind_fields}
use Rattle.snmp_gateway.proofs.part.behind_fields.Given as goal

-- what stands behind the tags that are left is what stands behind all
abbrev pub invariant-loop-tag : goal.invariant-loop-tag
invariant-loop-tag l = behind_fields l.octets (drop l.tag-index l.tags) l.rest ≡ behind_fields l.octets l.tags l.fn.part
