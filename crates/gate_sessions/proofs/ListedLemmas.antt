-- Lists that grow, and forget what they grew by.
use Rattle.std.proofs.Common.{◌≡◌, ◌≤◌, ℕ, List, ◌++◌, length, take, refl, sym, ◌∙◌, ap, subst, arith, take_at}
use Rattle.std.specs.List.{AllByRecursion}
use Rattle.dialogue.specs.Prelude.{Cut, cut, Entry, AllListed, ReadAlike}
use Rattle.dialogue.proofs.Alike.{cut_alike, learned_alike}
use Rattle.dns_stream.specs.Prelude.{unit_addresses, dns_units, dns_units-learning}
use Rattle.compact_stream.specs.Prelude.{CompactSender, CompactState, sender_kept}
use Rattle.compact_stream.proofs.ReadsAlike.{keeps_alike}
use Rattle.stream_gate.specs.Prelude.{IsListedStream as IsStreamBy, entries_of}
use Rattle.gate_model.proofs.Entering.{listed_units_more}
use Rattle.gate_sessions.specs.Compact.{IsListedStream}
use Rattle.dns_plans.specs.Prelude.{entered_all}
use Rattle.dns_plans.proofs.EnteredLemmas.{all_grown}
use Rattle.gate_base.specs.declared.event.Pair.{Pair}
use Rattle.gate_base.specs.declared.host.Host.{Host}
use Rattle.gate_base.specs.declared.host.Host.TheVariants.{Client, Server}
use Rattle.gate_base.specs.Prelude.{peer}
use Rattle.gate_sessions.specs.Inside.Directions.{DnsKept, listed_of, IsListedSide, dns_session}
use Rattle.gate_sessions.specs.Inside.Sessions.{IsSession}

alike : (es more : List Entry) (h : CompactSender) → (i : IsListedStream es h) → ReadAlike (dns_units es) (dns_units (es ++ more)) i.octets
alike es more h i = learned_alike unit_addresses dns_units es more i.octets dns_units-learning i.listed

-- the stream of which it is kept is listed with more entries too
listed_longer : (es more : List Entry) (h : CompactSender) → IsListedStream es h → IsListedStream (es ++ more) h
listed_longer es more h i = record {
  octets = i.octets;
  keeps = keeps_alike (dns_units es) (dns_units (es ++ more)) h i.octets (alike es more h i) i.keeps;
  listed =
      subst (λ (c : Cut). AllByRecursion (λ u. AllListed (es ++ more) (unit_addresses u)) c.units)
      (cut_alike (dns_units es) (dns_units (es ++ more)) i.octets (alike es more h i))
      (listed_units_more es more (cut (dns_units es) i.octets).units i.listed);
}

pub side_longer : (b : Host) (d e : DnsKept) (more : List Entry) → IsListedSide b d → listed_of b e ≡ listed_of b d ++ more → e.kept ≡ d.kept
    → IsListedSide b e
side_longer b d e more i l k =
    subst (λ (es : List Entry). IsListedStream es (sender_kept b e.kept)) (sym l)
    (subst (λ (x : CompactState). IsListedStream (listed_of b d ++ more) (sender_kept b x)) (sym k)
    (listed_longer (listed_of b d) more (sender_kept b d.kept) i))

-- as far as the entries before a place
pub record LearnedTo (b other : Host) (old now : DnsKept) (named : List Entry) : Type 0 where
  pub grown : listed_of b now ≡ entered_all (listed_of b old) named
  pub apart : listed_of other now ≡ listed_of other old
  pub kept : now.kept ≡ old.kept
  pub stream : IsListedSide b now

same_kept : (c d s t : List Entry) (k l : CompactState) → c ≡ d → s ≡ t → k ≡ l
    → (let x : DnsKept = record { client_dialogue = c; server_dialogue = s; kept = k } in x)
    ≡ (let y : DnsKept = record { client_dialogue = d; server_dialogue = t; kept = l } in y)
same_kept c d s t k l e f h =
    ap (λ (x : List Entry). let y : DnsKept = record { client_dialogue = x; server_dialogue = s; kept = k } in y) e
    ∙ ap (λ (x : List Entry). let y : DnsKept = record { client_dialogue = d; server_dialogue = x; kept = k } in y) f
    ∙ ap (λ (x : CompactState). let y : DnsKept = record { client_dialogue = d; server_dialogue = t; kept = x } in y) h

pub front_of : (es named : List Entry) (count : ℕ) → count ≡ length es → take count (entered_all es named) ≡ es
front_of es named count is = let a = all_grown es named in ap (λ (n : ℕ). take n (entered_all es named)) is ∙ ap (take (length es)) a.1
    ∙ take_at es a.0 (length es) refl

-- what it is once it has forgotten that
pub forgotten_is : (b : Host) (old new : DnsKept) → listed_of b new ≡ listed_of b old → listed_of (peer b) new ≡ listed_of (peer b) old
    → new.kept ≡ old.kept → new ≡ old
forgotten_is Client old new e f h = same_kept new.client_dialogue old.client_dialogue new.server_dialogue old.server_dialogue new.kept old.kept e f h
forgotten_is Server old new e f h = same_kept new.client_dialogue old.client_dialogue new.server_dialogue old.server_dialogue new.kept old.kept f e h

-- the stream of which it is kept is listed by the front of a longer list
fewer : (es more : List Entry) (h : CompactSender) → IsListedStream es h → IsStreamBy unit_addresses (dns_units (es ++ more)) es h
fewer es more h i = record {
  octets = i.octets;
  keeps = keeps_alike (dns_units es) (dns_units (es ++ more)) h i.octets (alike es more h i) i.keeps;
  listed =
      subst (λ (c : Cut). AllByRecursion (λ u. AllListed es (unit_addresses u)) c.units)
      (cut_alike (dns_units es) (dns_units (es ++ more)) i.octets (alike es more h i)) i.listed;
}

-- so what was learned can be forgotten
pub can_forget : (b : Host) (old d : DnsKept) (named : List Entry) (count : ℕ) → IsListedSide b old → count ≡ length (listed_of b old)
    → listed_of b d ≡ entered_all (listed_of b old) named → d.kept ≡ old.kept
    → IsStreamBy unit_addresses (dns_units (listed_of b d)) (take count (listed_of b d)) (sender_kept b d.kept)
can_forget b old d named count i is l k =
    let es : List Entry = listed_of b old in
    let a = all_grown es named in
    let ld : listed_of b d ≡ es ++ a.0 = l ∙ a.1 in
    subst (λ (xs : List Entry). IsStreamBy unit_addresses (dns_units xs) (take count xs) (sender_kept b d.kept)) (sym ld)
    (subst (λ (x : CompactState). IsStreamBy unit_addresses (dns_units (es ++ a.0)) (take count (es ++ a.0)) (sender_kept b x)) (sym k)
    (subst (λ (xs : List Entry). IsStreamBy unit_addresses (dns_units (es ++ a.0)) xs (sender_kept b old.kept)) (sym (take_at es a.0 count (sym is)))
    (fewer es a.0 (sender_kept b old.kept) i)))

pub other_same : (b : Host) (new d : DnsKept) → (b ≡ Client → new.server_dialogue ≡ d.server_dialogue)
    → (b ≡ Server → new.client_dialogue ≡ d.client_dialogue) → listed_of (peer b) new ≡ listed_of (peer b) d
other_same Client new d s c = s refl
other_same Server new d s c = c refl

-- no list is longer than the most
few_listed : (host : Host) (n : ℕ) (gate : DnsKept) → n ≡ length (entries_of (λ (es : List Entry). es) (λ (es : List Entry). es) host gate)
    → length (listed_of host gate) ≤ 256 → n ≤ 256
few_listed Client n gate e h = omega (arith, e, h)
few_listed Server n gate e h = omega (arith, e, h)

few_by : (host : Host) (pair : Pair) (gate : DnsKept) → IsSession (dns_session pair gate) → length (listed_of host gate) ≤ 256
few_by Client pair gate h = h.few Client
few_by Server pair gate h = h.few Server

pub few_in : (pair : Pair) (gate : DnsKept) (host : Host) (n : ℕ) → IsSession (dns_session pair gate)
    → n ≡ length (entries_of (λ (es : List Entry). es) (λ (es : List Entry). es) host gate) → n ≤ 256
few_in pair gate host n h is = few_listed host n gate is (few_by host pair gate h)
