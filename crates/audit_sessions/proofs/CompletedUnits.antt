-- The units that a segment completes end in the held rest of its sender and what goes on behind it.
use Rattle.std.proofs.Common.{◌≡◌, ℕ, Bool, true, false, cond, List, [], ◌++◌, length, drop, min, None, refl, sym, ◌∙◌, ap, subst, arith, ◌≤◌}
use Rattle.gate_base.specs.declared.host.Host.{Host}
use Rattle.gate_base.specs.declared.host.Host.TheVariants.{Client, Server}
use Rattle.dialogue.specs.Prelude.{Entry, is_held, cut}
use Rattle.dialogue.proofs.CutLemmas.{IsRest-cut}
use Rattle.dns_stream.specs.Prelude.{dns_units, dns_units-lawful, rests-short}
use Rattle.stream_model.specs.Prelude.{Sender, Segment, arrival, start_of, own, is_data, segment_refusal}
use Rattle.stream_model.proofs.PassLemmas.{Passes, IsData, passes}
use Rattle.stream_model.proofs.Lacking.{data_of}
use Rattle.audit_streams.specs.Hosts.{Heard, sender_by, held_in}
use Rattle.gate_model.specs.Prelude.{completed}
use Rattle.gate_model.proofs.Completing.{held_completed, all_held, drop-min}
use Rattle.dns_plans.specs.Prelude.{whole_units}
use Rattle.audit_sessions.specs.Inside.Sessions.{DnsHeard, streams_of}

-- what is held of a stream of DNS is its rest, until it ends
held_is : (es : List Entry) (h : Heard) → held_in (sender_by (dns_units es) h) ≡ cond h.ended [] (cut (dns_units es) h.octets).rest
held_is es h = ap (λ (r : List ℕ). cond h.ended [] r) (all_held es (cut (dns_units es) h.octets).rest)

some_completed : (es : List Entry) (f : Host) (h : Heard) (b : Sender) (g : Segment) → Passes f (sender_by (dns_units es) h) b g → IsData g
    → (let a = sender_by (dns_units es) h in whole_units (held_in a ++ drop (start_of a g).before g.octets) ≡ completed a g)
some_completed es f h b g p d =
    let a : Sender = sender_by (dns_units es) h in
    held_completed f a b g (held_in a) (dns_units-lawful es) (held_is es h) p d

-- the octets that are joined have the units that a segment completes
pub joined_completed : (d : DnsHeard) (f : Host) (g : Segment) → segment_refusal f (streams_of d) g ≡ None → is_data (arrival g) ≡ true → let a =
    own f (streams_of d) in whole_units (held_in a ++ drop (min (length g.octets) (start_of a g).before) g.octets) ≡ completed a g
joined_completed d Client g v is =
    let a : Sender = (streams_of d).client in
    ap (λ (t : List ℕ). whole_units (held_in a ++ t)) (drop-min (start_of a g).before g.octets)
    ∙ some_completed d.client_dialogue Client d.client (streams_of d).server g (passes Client a (streams_of d).server g v) (data_of g is)
joined_completed d Server g v is =
    let a : Sender = (streams_of d).server in
    ap (λ (t : List ℕ). whole_units (held_in a ++ t)) (drop-min (start_of a g).before g.octets)
    ∙ some_completed d.server_dialogue Server d.server (streams_of d).client g (passes Server a (streams_of d).client g v) (data_of g is)

-- ## A held rest is short

held_short : (es : List Entry) (h : Heard) → length (held_in (sender_by (dns_units es) h)) ≤ 8193
held_short es h = by_end h.ended
  where
    rest : List ℕ
    rest = (cut (dns_units es) h.octets).rest

    by_end : (b : Bool) → length (cond b [] (cond (is_held (dns_units es) rest) rest [])) ≤ 8193
    by_end true = omega arith
    by_end false =
        subst (λ (r : List ℕ). length r ≤ 8193) (sym (all_held es rest))
        (rests-short es rest (IsRest-cut (dns_units es) (dns_units-lawful es) h.octets) refl)

pub rest_is_short : (d : DnsHeard) (f : Host) → length (held_in (own f (streams_of d))) ≤ 8193
rest_is_short d Client = held_short d.client_dialogue d.client
rest_is_short d Server = held_short d.server_dialogue d.server
