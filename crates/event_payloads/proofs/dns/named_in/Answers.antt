use Rattle.std.proofs.Common.{Vec, Global}
use Rattle.gate_base.specs.declared.address.Addr.{Addr}
use Rattle.dns_gateway.specs.Addresses.{message_addresses}
use Rattle.event_payloads.proofs.DnsTaken.{named_ok}
use Rattle.event_payloads.proofs.dns.named_in.Goals as goal

pub returns : goal.returns
returns c = named_ok (λ (v : Vec Addr Global). v.items) (message_addresses c.args.message.now) c.addresses_of.result c.addresses_of.ensures
