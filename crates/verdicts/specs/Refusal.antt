-- The names of verdicts in a report.
use Rattle.std.specs.Prelude.{ℕ, List, codes}
use Rattle.verdicts.specs.declared.verdict.Verdict.{Verdict}
use Rattle.verdicts.specs.declared.verdict.Verdict.TheVariants.{Pass, Refused, Held}
use Rattle.verdicts.specs.declared.refusal.Refusal.{Refusal}
use Rattle.verdicts.specs.declared.refusal.Refusal.TheVariants.{Snapped, NotIpv4, BadHeader, BadHeaderSum, Fragment, IpOptions, BadFragment}
use Rattle.verdicts.specs.declared.refusal.Refusal.TheVariants.{FragmentsFull, TtlSpent, NotUnicast, Protocol, BadTransport, BadSum, SourceInPool}
use Rattle.verdicts.specs.declared.refusal.Refusal.TheVariants.{NoBinding, BadInner, InnerUnbound, BadDns, DnsUnbound, BadSnmp, NoSession, SynData}
use Rattle.verdicts.specs.declared.refusal.Refusal.TheVariants.{SynInSession, NoAck, Gap, PastEnd, AckAhead, Unlike, StreamLimit, Backlog, BadUnit}
use Rattle.verdicts.specs.declared.refusal.Refusal.TheVariants.{UnitUnbound, RenamesFull, SessionsFull, PoolEmpty, UnitGrows, SnmpTooLong}

-- the refusal's name
unfoldable pub name_of : Refusal → List ℕ
name_of Snapped = codes "Snapped"
name_of NotIpv4 = codes "NotIpv4"
name_of BadHeader = codes "BadHeader"
name_of BadHeaderSum = codes "BadHeaderSum"
name_of Fragment = codes "Fragment"
name_of IpOptions = codes "IpOptions"
name_of BadFragment = codes "BadFragment"
name_of FragmentsFull = codes "FragmentsFull"
name_of TtlSpent = codes "TtlSpent"
name_of NotUnicast = codes "NotUnicast"
name_of Protocol = codes "Protocol"
name_of BadTransport = codes "BadTransport"
name_of BadSum = codes "BadSum"
name_of SourceInPool = codes "SourceInPool"
name_of NoBinding = codes "NoBinding"
name_of BadInner = codes "BadInner"
name_of InnerUnbound = codes "InnerUnbound"
name_of BadDns = codes "BadDns"
name_of DnsUnbound = codes "DnsUnbound"
name_of BadSnmp = codes "BadSnmp"
name_of NoSession = codes "NoSession"
name_of SynData = codes "SynData"
name_of SynInSession = codes "SynInSession"
name_of NoAck = codes "NoAck"
name_of Gap = codes "Gap"
name_of PastEnd = codes "PastEnd"
name_of AckAhead = codes "AckAhead"
name_of Unlike = codes "Unlike"
name_of StreamLimit = codes "StreamLimit"
name_of Backlog = codes "Backlog"
name_of BadUnit = codes "BadUnit"
name_of UnitUnbound = codes "UnitUnbound"
name_of RenamesFull = codes "RenamesFull"
name_of SessionsFull = codes "SessionsFull"
name_of PoolEmpty = codes "PoolEmpty"
name_of UnitGrows = codes "UnitGrows"
name_of SnmpTooLong = codes "SnmpTooLong"

-- `pass`, `held`, or the refusal's name
abbrev pub verdict_name : Verdict → List ℕ
verdict_name Pass = codes "pass"
verdict_name (Refused refusal) = name_of refusal
verdict_name Held = codes "held"
