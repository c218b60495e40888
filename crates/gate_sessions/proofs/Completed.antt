-- The units that a segment completes are those of what is kept.
use Rattle.std.proofs.Common.{◌≡◌, ℕ, Bool, cond, List, [], ◌++◌, drop, sym, ◌∙◌, ap, subst, inl, inr}
use Rattle.std.proofs.lemmas.Bool.{cases_Bool, cond-true, cond-false}
use Rattle.gate_base.specs.declared.host.Host.{Host}
use Rattle.dialogue.specs.Prelude.{Entry, Meaning, IsLawful, cut}
use Rattle.dns_stream.specs.Prelude.{dns_units, dns_units-lawful}
use Rattle.stream_model.specs.Prelude.{Sender, Segment, arrival, start_at, start_of, is_data}
use Rattle.stream_model.specs.declared.refusals.Extent.{Extent}
use Rattle.stream_model.proofs.Lacking.{data_of}
use Rattle.stream_model.proofs.PassLemmas.{Passes, IsData}
use Rattle.compact_stream.specs.Prelude.{CompactSender, KeepsSender, start_kept}
use Rattle.compact_stream.proofs.SessionLemmas.{extent_of_sender}
use Rattle.gate_model.specs.Prelude.{completed}
use Rattle.gate_model.proofs.Completing.{none_completed, held_completed, all_held}
use Rattle.gate_sessions.specs.Compact.{kept_completed}

data_completes : (es : List Entry) (f : Host) (h : CompactSender) (a b : Sender) (g : Segment) → KeepsSender (dns_units es) h a → Passes f a b g
    → IsData g → (cut (dns_units es) (h.rest ++ drop (start_kept h g).before g.octets)).units ≡ completed a g
data_completes es f h a b g k p d =
    let start : (start_kept h g).before ≡ (start_of a g).before =
    ap (λ (e : Extent). (start_at e (arrival g)).before) (extent_of_sender (dns_units es) h a k) in
    let meaning : a.meaning ≡ dns_units es = ap (λ (x : Sender). x.meaning) k.is in
    let ends : h.ended ≡ a.ended = sym (ap (λ (x : Sender). x.ended) k.is) in
    let held : h.rest ≡ cond a.ended [] (cut a.meaning a.octets).rest =
    k.keeps.rest
    ∙ ap (λ (r : List ℕ). cond h.ended [] r) (all_held es (cut (dns_units es) a.octets).rest)
    ∙ ap (λ (e : Bool). cond e [] (cut (dns_units es) a.octets).rest) ends
    ∙ ap (λ (m : Meaning). cond a.ended [] (cut m a.octets).rest) (sym meaning) in
    ap (λ (n : ℕ). (cut (dns_units es) (h.rest ++ drop n g.octets)).units) start
    ∙ subst (λ (m : Meaning). (cut m (h.rest ++ drop (start_of a g).before g.octets)).units ≡ completed a g) meaning
    (held_completed f a b g h.rest (subst IsLawful (sym meaning) (dns_units-lawful es)) held p d)

pub completed_is : (es : List Entry) (f : Host) (h : CompactSender) (a b : Sender) (g : Segment) → KeepsSender (dns_units es) h a → Passes f a b g
    → kept_completed (dns_units es) h g ≡ completed a g
completed_is es f h a b g k p =
    let units : List (List ℕ) = (cut (dns_units es) (h.rest ++ drop (start_kept h g).before g.octets)).units in
    elim (cases_Bool (is_data (arrival g))) [
      | inl is ↦ cond-true (is_data (arrival g)) units [] is ∙ data_completes es f h a b g k p (data_of g is)
      | inr none ↦ cond-false (is_data (arrival g)) units [] none ∙ sym (none_completed a g none)
    ]
