use Rattle.std.proofs.Common.{ℕ, ap, ◌∙◌, Some, None}
use Rattle.stream_model.specs.Prelude.{segment_in, segment_refusal}
use Rattle.audit_streams.specs.Hosts.{unheard}
use Rattle.gate_base.specs.declared.host.Host.TheVariants.{Client}
use Rattle.audit_sessions.proofs.SeenSessions.{FtpHeard, lines_of}
use Rattle.audit_sessions.proofs.FreshSessions.{lines_verdict}
use Rattle.audit_sessions.proofs.engine.AuditedSessionEngine.opening_refusal.Goals as goal

pub returns : goal.returns
returns c =
    let g = segment_in c.args.segment.now in
    let tcp = c.args.segment.now in
    let pair = c.args.pair in
    let fresh : ℕ → ℕ → FtpHeard =
    λ initial mss. record {
      client_dialogue = record { pair = pair };
      server_dialogue = record { pair = pair };
      client = unheard (Some initial) mss;
      server =
          unheard None 536;
    } in
    c.refusal.ensures
    ∙ ap (λ (x : FtpHeard). segment_refusal Client (lines_of x) g) c.ftp_session-session.ensures
    ∙ ap (λ (n : ℕ). segment_refusal Client (lines_of (fresh n c.mss.result)) g) c.sequence.ensures
    ∙ ap (λ (n : ℕ). segment_refusal Client (lines_of (fresh tcp.sequence n)) g) c.mss.ensures
    ∙ lines_verdict tcp.destination_port pair tcp.sequence tcp.mss g
