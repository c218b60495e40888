-- A header and what it carries.
use Rattle.std.proofs.Common.{◌≡◌, ℕ, ◌+◌, List, ◌++◌, length, drop, ap, ◌∙◌, append-nil, arith}
use Rattle.std.proofs.lemmas.List.{drop_all}
use Rattle.ipv4_frames.specs.Ipv4.{spelled_head}
use Rattle.gate_workload.specs.declared.flow.Flow.{Flow}
use Rattle.gate_workload.specs.Datagrams.{ip_model, carrying}

-- a header whose total length counts this payload, and the payload behind it
pub carried : (protocol : ℕ) (flow : Flow) (head payload whole : List ℕ) (total : ℕ)
    → head ≡ spelled_head (ip_model protocol) total 64 flow.source.0 flow.destination.0 → total ≡ 20 + length payload → payload ≡ whole
    → head ++ payload ≡ carrying protocol flow whole
carried protocol flow head payload whole total is counts same =
    let counted : head ≡ spelled_head (ip_model protocol) (20 + length payload) 64 flow.source.0 flow.destination.0 = is
    ∙ ap (λ n. spelled_head (ip_model protocol) n 64 flow.source.0 flow.destination.0) counts in
    ap (λ h. h ++ payload) counted ∙ ap (λ p. spelled_head (ip_model protocol) (20 + length p) 64 flow.source.0 flow.destination.0 ++ p) same

-- a header that fills its target, whatever its model is called
pub filled : (model other old new : List ℕ) (total source destination : ℕ) → new ≡ spelled_head model total 64 source destination ++ drop 20 old
    → length old ≡ 20 → model ≡ other → new ≡ spelled_head other total 64 source destination
filled model other old new total source destination is long same =
    is ∙ ap (λ r. spelled_head model total 64 source destination ++ r) (drop_all 20 old (omega (arith, long))) ∙ append-nil _
    ∙ ap (λ m. spelled_head m total 64 source destination) same
