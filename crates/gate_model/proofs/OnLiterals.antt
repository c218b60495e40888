-- The words that a row unfolds to compute frames.
use Rattle.std.specs.Prelude.{⊤}
use Rattle.ether_frames.specs.Ether.{read_frame}
use Rattle.inet_sum.specs.Sum.{words, fold_of}
use Rattle.ipv4_frames.specs.Ipv4.{head_with}
use Rattle.udp_icmp.specs.Icmp.{sealed_icmp}
use Rattle.udp_icmp.specs.Udp.{sealed_udp}
use Rattle.tcp_segments.specs.Options.{options_within}
use Rattle.tcp_segments.specs.Tcp.{sealed_tcp, tcp_header_with}
use Rattle.twice_translate.specs.Renamed.{sealed_payload, renamed}
use Rattle.gate_base.specs.Address.{number_of}
use Rattle.ftp_lines.proofs.OnLiterals.{lines_on_literals}
use Rattle.binding_table.specs.Bindings.{cross}
use Rattle.gate_settings.specs.Cross.{block_end}
use Rattle.icmp_errors.specs.Inner.{inner_with}
use Rattle.dns_names.specs.Names.{piece_at}
use Rattle.dns_names.specs.Inside.Octets.{reverse_in}
use Rattle.dns_names.specs.Reverse.{full_reverse}
use Rattle.dns_names.specs.Spelling.{spell}
use Rattle.dns_names.specs.Walk.{name_at}
use Rattle.dns_messages.specs.Reading.{content_by, resource_at, resources_at, question_at, questions_at, message_at}
use Rattle.dns_messages.specs.Writing.{spelling}
use Rattle.snmp_gateway.specs.Element.{element_at}
use Rattle.snmp_gateway.specs.Message.{binding, bindings_within, outline_of, message}
use Rattle.snmp_gateway.specs.Parts.{first_of, behind_fields}
use Rattle.snmp_oids.specs.Arcs.{numbers_from}
use Rattle.snmp_oids.specs.Identifier.{place_behind}
use Rattle.snmp_oids.specs.Elements.{elements_within}
use Rattle.dns_stream.specs.Images.{renamed as unit_renamed}
use Rattle.gate_model.specs.Verdict.{verdict}

-- what a row unfolds to compute what the gateway makes of whole frames
unfoldable pub frames_on_literals : ⊤
unfolding read_frame words fold_of head_with sealed_icmp sealed_udp options_within sealed_tcp tcp_header_with sealed_payload renamed number_of cross
    block_end inner_with piece_at reverse_in full_reverse spell name_at content_by resource_at resources_at question_at questions_at message_at
    spelling element_at binding bindings_within outline_of message first_of behind_fields numbers_from place_behind elements_within unit_renamed
    lines_on_literals verdict
frames_on_literals = tt
