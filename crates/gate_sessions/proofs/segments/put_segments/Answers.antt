use Rattle.std.proofs.Common.{◌≡◌, ℕ, List, sym, subst, ◌∙◌, None, Result, Ok, Err, IfOk, OnOk}
use Rattle.tcp_segments.specs.Prelude.{Tcp}
use Rattle.stream_model.specs.Prelude.{Segment, Outgoing, segment_in}
use Rattle.compact_stream.specs.Prelude.{kept_out, kept_ends, kept_refusal}
use Rattle.gate_sessions.proofs.Sent.{sent_same}
use Rattle.gate_sessions.proofs.segments.put_segments.Goals as goal

pub step-requires-clause-passes : goal.step-requires-clause-passes
step-requires-clause-passes g c =
    subst (λ (t : Tcp). kept_refusal c.args.passing.now.from c.args.session.now.kept (segment_in t) ≡ None) (sym c.requires.segment) c.requires.passes

sends : {X E : Type 0} → (r : Result X E) (out all same : List (List ℕ)) → OnOk r (out ≡ all) → all ≡ same → OnOk r (out ≡ same)
sends (Ok x) out all same e f = e ∙ f
sends (Err x) out all same e f = tt

pub returns-clause-out : goal.returns-clause-out
returns-clause-out g c =
    let session = c.args.session.now in
    let out : Segment → List Outgoing =
    kept_out (g.C.Dialogue.meaning session.client_dialogue) (g.S.Dialogue.meaning session.server_dialogue) c.args.passing.now.from session.kept in
    sends c.step.result _ _ _ c.step.ensures.out
    (sent_same c.args.passing.now.segment.now.datagram.now c.args.passing.now.segment.now.tcp.now c.header.result.now c.lifetime.result
    c.args.passing.now.source.0 c.args.passing.now.destination.0 out c.requires.segment c.header.ensures.octets c.lifetime.ensures)

pub returns-clause-over : goal.returns-clause-over
returns-clause-over g c =
    subst (λ (t : Tcp). IfOk c.step.result (λ b. b ≡ kept_ends c.args.passing.now.from c.args.session.now.kept (segment_in t))) c.requires.segment
    c.step.ensures.over
