use Rattle.std.proofs.Common.{◌∙◌, ℕ, List, ap}
use Rattle.ipv4_frames.specs.Ipv4.{fields_of}
use Rattle.audit_records.specs.Cutting.{Cutting, told}
use Rattle.audit_records.proofs.pieces.Pieces.of.Goals as goal

pub returns : goal.returns
returns c =
    let R : List ℕ → List ℕ → Cutting =
    λ header payload. record
    { datagram = fields_of header payload; source = c.args.source.0; destination = c.args.destination.0; sent = told c.args.sent } in
    ap (λ (x : List ℕ). R x c.in_ok-payload.payload.items) (c.in_ok-header.ensures.items ∙ c.header.ensures.octets)
    ∙ ap (λ (x : List ℕ). R c.args.datagram.now.header x) (c.in_ok-payload.ensures.items ∙ c.payload.ensures.octets)
