-- What holds of each session stays so.
use Rattle.std.proofs.Common.{◌≡◌, ◌≤◌, ℕ, true, List, [], ◌++◌, length, drop, min, Option, None, sym, ◌∙◌, ap, arith}
use Rattle.std.proofs.lemmas.Bool.{cond-true}
use Rattle.gate_base.specs.declared.address.Addr.{Addr}
use Rattle.gate_base.specs.declared.event.Pair.{Pair}
use Rattle.gate_base.proofs.Hosts.{both}
use Rattle.gate_base.specs.declared.host.Host.{Host}
use Rattle.gate_base.specs.declared.host.Host.TheVariants.{Client, Server}
use Rattle.gate_base.specs.Prelude.{peer}
use Rattle.dialogue.specs.Prelude.{cut}
use Rattle.dns_stream.specs.Prelude.{dns_units}
use Rattle.stream_model.specs.Prelude.{Segment, arrival, is_data}
use Rattle.compact_stream.specs.Prelude.{start_kept, sender_kept}
use Rattle.compact_stream.proofs.SessionLemmas.{verdict_is}
use Rattle.gate_model.specs.Prelude.{addresses_in, entered, whole_rules, meaning_by, whole_next}
use Rattle.dialogue.specs.declared.TheConstants.{MOST_ENTRIES}
use Rattle.gate_model.proofs.Completing.{drop-min}
use Rattle.gate_sessions.specs.Compact.{CompactSession, compact_rules, kept_units, IsOfSome}
use Rattle.gate_sessions.proofs.Agreed.{made_stands, next_stands}
use Rattle.gate_sessions.proofs.Listing.{kept_have_lists}
use Rattle.dns_plans.specs.Prelude.{whole_units}
use Rattle.gate_sessions.specs.Inside.Directions.{DnsKept, dns_session}
use Rattle.gate_sessions.specs.Inside.Sessions.{IsSession}

pub made_session : (port : ℕ) (pair : Pair) (initial mss : ℕ) → IsSession (compact_rules.made port pair initial mss)
made_session port pair initial mss = record {
  some = record { session = whole_rules.made port pair initial mss; stands = made_stands port pair initial mss };
  few = λ host. omega (arith, ap length (kept_have_lists.made port pair initial mss host));
}

some_next : (image : Addr → Option Addr) (f : Host) (k : CompactSession) (g : Segment) → IsOfSome k → compact_rules.refusal f k g ≡ None
    → IsOfSome (compact_rules.next image f k g)
some_next image f k g h v = record {
  session = whole_next image f h.session g;
  stands =
      next_stands image f h.session k g h.stands
      (sym (verdict_is (meaning_by k.lists k.pair Client) (meaning_by k.lists k.pair Server) k.kept h.session.session f g h.stands.session) ∙ v);
}

pub next_session : (image : Addr → Option Addr) (f : Host) (k : CompactSession) (g : Segment) → IsSession k → compact_rules.refusal f k g ≡ None
    → length (entered image (compact_rules.listed f k) (addresses_in (compact_rules.units f k g))) ≤ 256 → IsSession (compact_rules.next image f k g)
next_session image f k g h v few = record {
  some = some_next image f k g h.some v;
  few = both (λ (b : Host). length (compact_rules.listed b (compact_rules.next image f k g)) ≤ MOST_ENTRIES) f
      (omega (arith, few, ap length (kept_have_lists.own image f k g)))
      (omega (arith, h.few (peer f), ap length (kept_have_lists.other image f k g)));
}

-- the octets that are joined have the units that a segment completes
pub joined_units : (pair : Pair) (d : DnsKept) (f : Host) (g : Segment) → is_data (arrival g) ≡ true
    → whole_units ((sender_kept f d.kept).rest ++ drop (min (length g.octets) (start_kept (sender_kept f d.kept) g).before) g.octets) ≡ kept_units f
    (dns_session pair d) g
joined_units pair d Client g is =
    ap (λ (t : List ℕ). whole_units (d.kept.client.rest ++ t)) (drop-min (start_kept d.kept.client g).before g.octets)
    ∙ sym (cond-true (is_data (arrival g))
    (cut (dns_units d.client_dialogue) (d.kept.client.rest ++ drop (start_kept d.kept.client g).before g.octets)).units [] is)
joined_units pair d Server g is =
    ap (λ (t : List ℕ). whole_units (d.kept.server.rest ++ t)) (drop-min (start_kept d.kept.server g).before g.octets)
    ∙ sym (cond-true (is_data (arrival g))
    (cut (dns_units d.server_dialogue) (d.kept.server.rest ++ drop (start_kept d.kept.server g).before g.octets)).units [] is)
