-- Names of datagrams.
use Rattle.std.proofs.Common.{◌≡◌, true, ◌&&◌, eqb, refl}
use Rattle.std.proofs.lemmas.Bool.{eqb-true, eq-eqb, and_parts, and_from}
use Rattle.gate_base.specs.Prelude.{same_side}
use Rattle.gate_base.proofs.Sides.{same_side-true, same_side-itself}
use Rattle.frag_join.specs.declared.part.Name.{Name}
use Rattle.frag_join.specs.Prelude.{same_name}

-- names that are the same are equal
pub name-eq : (one other : Name) → same_name one other ≡ true → one ≡ other
name-eq one other is =
    let all = and_parts (((same_side one.side other.side && eqb one.source.0 other.source.0) && eqb one.destination.0 other.destination.0)
    && eqb one.protocol other.protocol) (eqb one.identification other.identification) is in
    let four = and_parts ((same_side one.side other.side && eqb one.source.0 other.source.0) && eqb one.destination.0 other.destination.0)
    (eqb one.protocol other.protocol) all.0 in
    let three = and_parts (same_side one.side other.side && eqb one.source.0 other.source.0) (eqb one.destination.0 other.destination.0) four.0 in
    let two = and_parts (same_side one.side other.side) (eqb one.source.0 other.source.0) three.0 in
    let side : one.side ≡ other.side = same_side-true one.side other.side two.0 in
    let source : one.source.0 ≡ other.source.0 = eqb-true one.source.0 other.source.0 two.1 in
    let destination : one.destination.0 ≡ other.destination.0 = eqb-true one.destination.0 other.destination.0 three.1 in
    let protocol : one.protocol ≡ other.protocol = eqb-true one.protocol other.protocol four.1 in
    let identification : one.identification ≡ other.identification = eqb-true one.identification other.identification all.1 in
    λ i. record {
      side = side i;
      source = record { 0 = source i };
      destination = record { 0 = destination i };
      protocol = protocol i;
      identification = identification i;
    }

pub name-same : (name : Name) → same_name name name ≡ true
name-same name =
    and_from (((same_side name.side name.side && eqb name.source.0 name.source.0) && eqb name.destination.0 name.destination.0)
    && eqb name.protocol name.protocol) (eqb name.identification name.identification)
    (and_from ((same_side name.side name.side && eqb name.source.0 name.source.0) && eqb name.destination.0 name.destination.0)
    (eqb name.protocol name.protocol)
    (and_from (same_side name.side name.side && eqb name.source.0 name.source.0) (eqb name.destination.0 name.destination.0)
    (and_from (same_side name.side name.side) (eqb name.source.0 name.source.0) (same_side-itself name.side)
    (eq-eqb name.source.0 name.source.0 refl))
    (eq-eqb name.destination.0 name.destination.0 refl))
    (eq-eqb name.protocol name.protocol refl))
    (eq-eqb name.identification name.identification refl)
