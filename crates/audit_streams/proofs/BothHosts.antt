-- A session after a step, by what the functions say of its hosts.
use Rattle.std.proofs.Common.{◌≡◌, ◌∙◌, ap, Result, Ok, Err, OnOk}
use Rattle.gate_base.specs.declared.host.Host.{Host}
use Rattle.gate_base.specs.declared.host.Host.TheVariants.{Client, Server}
use Rattle.gate_base.proofs.Hosts.{at_host}
use Rattle.dialogue.specs.Prelude.{Meaning}
use Rattle.stream_model.specs.Prelude.{Sender, Session, Segment, own, other, own_after, other_after, session, session_next}
use Rattle.audit_streams.specs.Hosts.{HeardStreams, session_of}
use Rattle.audit_streams.specs.Inside.Hosts.{HeardStream, sender_of}

-- both streams side by side
abbrev pub heard_by : {C S : Type 0} → HeardStream C → HeardStream S → HeardStreams C S
heard_by x y = record { client_dialogue = x.dialogue; server_dialogue = y.dialogue; client = x.heard; server = y.heard }

-- a session whose hosts are these
parts : {X E : Type 0} (one : Host) (r : Result X E) (n : Session) (u v : Sender) → OnOk r (own one n ≡ u) → OnOk r (other one n ≡ v)
    → OnOk r (n ≡ session one u v)
parts Client (Ok x) n u v e f = ap (λ (z : Sender). session Client z n.server) e ∙ ap (session Client u) f
parts Client (Err x) n u v e f = tt
parts Server (Ok x) n u v e f = ap (λ (z : Sender). session Client n.client z) e ∙ ap (λ (z : Sender). session Client z u) f
parts Server (Err x) n u v e f = tt

-- both hosts after a segment of one
pub next_at : {X E C S : Type 0} (one host : Host) (r : Result X E) (M : C → Meaning) (N : S → Meaning) (a w : HeardStreams C S) (g : Segment)
    (x : HeardStream C) (y : HeardStream S) → host ≡ one → a ≡ w
    → (let n : Session = record { client = sender_of M x; server = sender_of N y } in OnOk r (own one n ≡ own_after (own one (session_of M N a)) g)
    → OnOk r (other one n ≡ other_after (other one (session_of M N a)) g) → OnOk r (n ≡ session_next host (session_of M N w) g))
next_at one host r M N a w g x y h e i j =
    let n : Session = record { client = sender_of M x; server = sender_of N y } in
    at_host (λ b z. OnOk r (n ≡ session_next b (session_of M N z) g)) one host a w h e
    (parts one r n (own_after (own one (session_of M N a)) g) (other_after (other one (session_of M N a)) g) i j)
