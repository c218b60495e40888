use Rattle.std.proofs.Common.{[], ◌∷◌, ap, ◌∙◌, List, ℕ}
use Rattle.gate_base.specs.declared.address.Addr.{Addr}
use Rattle.snmp_gateway.specs.Message.{places_of}
use Rattle.snmp_gateway.specs.Renaming.{renamed as renamed_message}
use Rattle.twice_translate.specs.Renamed.{datagram_of, rebuilt}
use Rattle.gate_model.specs.Prelude.{number_seen, carried}
use Rattle.event_payloads.specs.Prelude.{image_by}
use Rattle.event_payloads.proofs.SnmpTaken.{basic_is}
use Rattle.event_payloads.proofs.snmp.pass_basic.Goals as goal

pub returns-clause-out : goal.returns-clause-out
returns-clause-out c =
    let d = datagram_of c.args.datagram.now.octets.now in
    let way = c.args.way.now in
    let image = number_seen c.use_both.new.table way.side in
    let message = renamed_message image (places_of (carried d)) (carried d) in
    c.put_snmp.ensures
    ∙ ap (λ (a : Addr). rebuilt d a.0 c.destination_image.result.0 message ∷ []) c.source_image.ensures
    ∙ ap (λ (a : Addr). rebuilt d (image_by way.of_source way.source).0 a.0 message ∷ []) c.destination_image.ensures
    ∙ ap (λ (xs : List ℕ). rebuilt d (image_by way.of_source way.source).0 (image_by way.of_destination way.destination).0 xs ∷ [])
    (basic_is image c.args.datagram.now.payload.now (carried d) c.requires.message c.requires.whole.same)
