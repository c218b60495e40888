-- What is kept of a session answers for it, and goes on as it does.
use Rattle.std.proofs.Common.{◌≡◌, ◌≤◌, ◌+◌, Bool, sym, ◌∙◌, ap, subst, None, ℕ, List, drop}
use Rattle.gate_base.specs.declared.host.Host.{Host}
use Rattle.gate_base.specs.declared.host.Host.TheVariants.{Client, Server}
use Rattle.dialogue.specs.Prelude.{Meaning, IsLawful, is_unlike, back}
use Rattle.tcp_segments.specs.Prelude.{one_if}
use Rattle.stream_model.specs.Prelude.{Sender, Session, Segment, extent, arrival, start_at, start_of, repeats_unlike, own_after, other_after, session_next, refusal_of, segment_refusal}
use Rattle.stream_model.specs.declared.refusals.Arrival.{Arrival}
use Rattle.stream_model.specs.declared.refusals.Extent.{Extent}
use Rattle.stream_model.proofs.PassLemmas.{passes}
use Rattle.compact_stream.specs.Prelude.{CompactSender, sender_of, KeepsSender, extent_kept, unlike_kept, own_kept, other_kept, CompactState, StandsForSession, kept_refusal, kept_next}
use Rattle.compact_stream.proofs.SenderLemmas.{extent_is}
use Rattle.compact_stream.proofs.SenderSteps.{own_kept_keeps, other_kept_keeps}

pub extent_of_sender : (m : Meaning) (h : CompactSender) (a : Sender) → KeepsSender m h a → extent_kept h ≡ extent a
extent_of_sender m h a k = extent_is m h a.octets k.keeps ∙ ap extent (sym k.is)

pub own_goes_on : (f : Host) (m : Meaning) → IsLawful m → (h : CompactSender) (a b : Sender) (g : Segment)
    → h.acked ≤ h.ledger.octets_out + one_if h.ended → KeepsSender m h a → refusal_of f (extent a) (extent b) (arrival g) (repeats_unlike a g) ≡ None
    → KeepsSender m (own_kept m h g) (own_after a g)
own_goes_on f m law h a b g i k v =
    let w : refusal_of f (extent (sender_of m h a.octets)) (extent b) (arrival g) (repeats_unlike (sender_of m h a.octets) g) ≡ None =
    ap (λ (z : Sender). refusal_of f (extent z) (extent b) (arrival g) (repeats_unlike z g)) (sym k.is) ∙ v in
    subst (λ (z : Sender). KeepsSender m (own_kept m h g) (own_after z g)) (sym k.is)
    (own_kept_keeps f m law h a.octets b g (passes f (sender_of m h a.octets) b g w) i k.keeps)

pub other_goes_on : (f : Host) (m : Meaning) → IsLawful m → (h : CompactSender) (a b : Sender) (g : Segment)
    → h.acked ≤ h.ledger.octets_out + one_if h.ended → KeepsSender m h b → refusal_of f (extent a) (extent b) (arrival g) (repeats_unlike a g) ≡ None
    → KeepsSender m (other_kept h g) (other_after b g)
other_goes_on f m law h a b g i k v =
    let w : refusal_of f (extent a) (extent (sender_of m h b.octets)) (arrival g) (repeats_unlike a g) ≡ None =
    ap (λ (z : Sender). refusal_of f (extent a) (extent z) (arrival g) (repeats_unlike a g)) (sym k.is) ∙ v in
    subst (λ (z : Sender). KeepsSender m (other_kept h g) (other_after z g)) (sym k.is)
    (other_kept_keeps f m law h b.octets a g (passes f a (sender_of m h b.octets) g w) i k.keeps)

pub goes_on : (m n : Meaning) → IsLawful m → IsLawful n → (h : CompactState) (x : Session) (from : Host) (g : Segment)
    → h.client.acked ≤ h.client.ledger.octets_out + one_if h.client.ended → h.server.acked ≤ h.server.ledger.octets_out + one_if h.server.ended
    → StandsForSession m n h x → segment_refusal from x g ≡ None → StandsForSession m n (kept_next m n from h g) (session_next from x g)
goes_on m n law_m law_n h x Client g i j k v = record {
  client = own_goes_on Client m law_m h.client x.client x.server g i k.client v;
  server = other_goes_on Client n law_n h.server x.client x.server g j k.server v;
}
goes_on m n law_m law_n h x Server g i j k v = record {
  client = other_goes_on Server m law_m h.client x.server x.client g i k.client v;
  server = own_goes_on Server n law_n h.server x.server x.client g j k.server v;
}

-- and compares repeats as it does
pub unlike_is : (m : Meaning) (h : CompactSender) (a : Sender) (g : Segment) → KeepsSender m h a → unlike_kept h g ≡ repeats_unlike a g
unlike_is m h a g k =
    ap (λ (x : Extent). is_unlike h.recent (start_at x (arrival g)).before g.octets) (extent_of_sender m h a k)
    ∙ ap (λ (r : List ℕ). is_unlike r (start_of a g).before g.octets)
    (k.keeps.recent ∙ ap (λ (z : Sender). drop (back m z.ended a.octets z.acked) a.octets) (sym k.is)
    ∙ ap (λ (n : Meaning). drop (back n a.ended a.octets a.acked) a.octets) (sym (ap (λ (z : Sender). z.meaning) k.is)))

verdict_of : (f : Host) (a b c d : Extent) (g : Arrival) (u v : Bool) → a ≡ c → b ≡ d → u ≡ v → refusal_of f a b g u ≡ refusal_of f c d g v
verdict_of f a b c d g u v e h i = ap (λ (x : Extent). refusal_of f x b g u) e ∙ ap (λ (x : Extent). refusal_of f c x g u) h
    ∙ ap (refusal_of f c d g) i

pub verdict_is : (m n : Meaning) (h : CompactState) (x : Session) (from : Host) (g : Segment) → StandsForSession m n h x
    → kept_refusal from h g ≡ segment_refusal from x g
verdict_is m n h x Client g k =
    verdict_of Client (extent_kept h.client) (extent_kept h.server) (extent x.client) (extent x.server) (arrival g) (unlike_kept h.client g)
    (repeats_unlike x.client g) (extent_of_sender m h.client x.client k.client) (extent_of_sender n h.server x.server k.server)
    (unlike_is m h.client x.client g k.client)
verdict_is m n h x Server g k =
    verdict_of Server (extent_kept h.server) (extent_kept h.client) (extent x.server) (extent x.client) (arrival g) (unlike_kept h.server g)
    (repeats_unlike x.server g) (extent_of_sender n h.server x.server k.server) (extent_of_sender m h.client x.client k.client)
    (unlike_is n h.server x.server g k.server)
