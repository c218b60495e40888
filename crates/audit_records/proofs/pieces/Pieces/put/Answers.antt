use Rattle.std.proofs.Common.{◌∙◌, ◌-◌, ℕ, List, ap}
use Rattle.tcp_segments.specs.Prelude.{spelled_segment, datagram_of}
use Rattle.gate_model.specs.Prelude.{tcp_of}
use Rattle.audit_records.proofs.pieces.Pieces.put.Goals as goal

pub returns : goal.returns
returns c =
    let p = c.args.self.now in
    let d = p.datagram in
    let P : List ℕ → List ℕ → ℕ → ℕ → ℕ → ℕ → ℕ → List ℕ =
    λ ip tcp s t l a f. datagram_of ip s t l (spelled_segment tcp s t c.args.sequence a f c.args.octets.now) in
    c.put_segment.ensures
    ∙ ap (λ (x : List ℕ). P x c.tcp.result.now c.source.result.0 c.destination.result.0 c.lifetime.result c.acknowledgement.result
    c.flags_octet.result) c.ip.ensures.octets
    ∙ ap (λ (x : List ℕ). P d.header x c.source.result.0 c.destination.result.0 c.lifetime.result c.acknowledgement.result c.flags_octet.result)
    c.tcp.ensures.octets
    ∙ ap (λ (x : ℕ). P d.header (tcp_of d).header x c.destination.result.0 c.lifetime.result c.acknowledgement.result c.flags_octet.result)
    c.source.ensures
    ∙ ap (λ (x : ℕ). P d.header (tcp_of d).header p.source x c.lifetime.result c.acknowledgement.result c.flags_octet.result) c.destination.ensures
    ∙ ap (λ (x : ℕ). P d.header (tcp_of d).header p.source p.destination x c.acknowledgement.result c.flags_octet.result) c.lifetime.ensures
    ∙ ap (λ (x : ℕ). P d.header (tcp_of d).header p.source p.destination (d.lifetime - 1) x c.flags_octet.result) c.acknowledgement.ensures
    ∙ ap (λ (x : ℕ). P d.header (tcp_of d).header p.source p.destination (d.lifetime - 1) p.sent.acknowledgement x) c.flags_octet.ensures
