use Rattle.std.proofs.Common.{ap, subst, sym, None}
use Rattle.compact_stream.specs.Prelude.{CompactState}
use Rattle.gate_sessions.specs.Inside.Directions.{DnsKept, dns_session}
use Rattle.gate_sessions.specs.Inside.Sessions.{IsSession}
use Rattle.gate_sessions.proofs.SessionLemmas.{made_session}
use Rattle.gate_sessions.proofs.session.AnySession.opened.Goals as goal

pub invariant_of-result : goal.invariant_of-result
invariant_of-result c = (
  tt,
  subst (λ (d : DnsKept). IsSession (dns_session c.args.pair d)) (sym c.in_ok-session.ensures)
      (made_session 53 c.args.pair c.args.initial c.args.mss),
)

pub invariant_of-result-2 : goal.invariant_of-result-2
invariant_of-result-2 c =
    let is = c.in_ok-ftp_session.ensures in (
      (ap (λ s. s.client_dialogue.pair) is, ap (λ s. s.server_dialogue.pair) is),
      subst (λ (h : CompactState). IsSession (record { pair = c.args.pair; lists = None; kept = h })) (sym (ap (λ s. s.kept) is))
          (made_session 21 c.args.pair c.args.initial c.args.mss),
    )
