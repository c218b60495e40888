-- What only proofs and private contracts need beside `Judged`.
use Rattle.std.specs.Prelude.{◌≡◌, Option, Some, None, Result, Ok, Err}
use Rattle.verdicts.specs.Prelude.{first_that_holds}
use Rattle.verdicts.specs.declared.refusal.Refusal.{Refusal}
use Rattle.verdicts.specs.declared.refusal.Refusal.TheVariants as refusals
use Rattle.ipv4_frames.specs.Ipv4.{Datagram}
use Rattle.ipv4_frames.specs.declared.fault.IpFault.{IpFault}
use Rattle.ipv4_frames.specs.declared.fault.IpFault.TheVariants.{NotIpv4, BadHeader, BadHeaderSum, Fragment, IpOptions}
use Rattle.ipv4_frames.specs.declared.fault.TransportFault.{TransportFault}
use Rattle.ipv4_frames.specs.declared.fault.TransportFault.TheVariants.{BadTransport, BadSum}
use Rattle.gate_model.specs.Prelude.{transport_tests}
use Rattle.event_frame.specs.declared.content.Content.{Content}
use Rattle.event_frame.specs.Judged.{IsContentOf}

abbrev pub ip_refusal : IpFault → Refusal
ip_refusal NotIpv4 = refusals.NotIpv4
ip_refusal BadHeader = refusals.BadHeader
ip_refusal BadHeaderSum = refusals.BadHeaderSum
ip_refusal Fragment = refusals.Fragment
ip_refusal IpOptions = refusals.IpOptions

abbrev pub transport_refusal : TransportFault → Refusal
transport_refusal BadTransport = refusals.BadTransport
transport_refusal BadSum = refusals.BadSum

-- the datagram, where no test held
abbrev pub judged : Option Refusal → Datagram → Result Datagram Refusal
judged None d = Ok d
judged (Some refusal) d = Err refusal

-- what a datagram carries, or why it is refused for it
abbrev pub Carries : Datagram → Result Content Refusal → Type 0
Carries d (Ok content) = (first_that_holds (transport_tests d) ≡ None) × IsContentOf d content
Carries d (Err refusal) = first_that_holds (transport_tests d) ≡ Some refusal
