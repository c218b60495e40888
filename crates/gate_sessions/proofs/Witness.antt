-- What is kept of a tracked session is that of some session, whatever events come.
use Rattle.std.proofs.Common.{List, Option, Some, None, sym, ◌∙◌, fold, IfSome}
use Rattle.std.proofs.lemmas.List.Elements.{All-nil}
use Rattle.gate_base.specs.Prelude.{Event}
use Rattle.gate_settings.specs.declared.settings.Settings.{Settings}
use Rattle.tcp_tracker.specs.declared.connection.Connection.{Connection}
use Rattle.gate_base.specs.declared.event.Pair.{Pair}
use Rattle.gate_base.specs.declared.host.Host.{Host}
use Rattle.gate_base.specs.declared.host.Host.TheVariants.{Client, Server}
use Rattle.stream_model.specs.Prelude.{Session, own}
use Rattle.compact_stream.specs.Prelude.{CompactState, StandsForSession, sender_kept}
use Rattle.compact_stream.proofs.SessionLemmas.{verdict_is}
use Rattle.gate_model.specs.Prelude.{Lists, list_of, whole_rules, meaning_by, whole_next, next, EachTracked, Tracked, World, opening_world}
use Rattle.gate_model.proofs.Tracking.{Keeps, next_keeps, run_keeps}
use Rattle.gate_sessions.specs.Compact.{CompactSession, compact_rules, IsOfSome, IsListedStream, AllNamesListed}
use Rattle.gate_sessions.proofs.Agreed.{made_stands, next_stands}

witness_keeps : Keeps compact_rules (λ t. IsOfSome t.session)
witness_keeps = record {
  made = λ port client pair initial mss. record { session = whole_rules.made port pair initial mss; stands = made_stands port pair initial mss };
  next = λ image f t g v fit h.
      record {
        session = whole_next image f h.session g;
        stands =
            next_stands image f h.session t.session g h.stands
            (sym (verdict_is (meaning_by t.session.lists t.session.pair Client)
            (meaning_by t.session.lists t.session.pair Server) t.session.kept h.session.session f g h.stands.session) ∙ v);
      };
}

pub witness_next : (w : World CompactSession) (e : Event) → EachTracked (λ t. IsOfSome t.session) w.connections
    → EachTracked (λ t. IsOfSome t.session) (next compact_rules w e).connections
witness_next w e h = next_keeps compact_rules (λ t. IsOfSome t.session) witness_keeps w e h

pub witness_run : (settings : Settings) (events : List Event)
    → EachTracked (λ t. IsOfSome t.session) (fold (next compact_rules) (opening_world settings) events).connections
witness_run settings events =
    run_keeps compact_rules (λ t. IsOfSome t.session) witness_keeps events (opening_world settings)
    (All-nil (λ (c : Connection (Tracked CompactSession)). IfSome c.session (λ t. IsOfSome t.session)))

-- so both directions of a DNS session have a stream whose addresses are listed
streams_at : (lists : Option Lists) (pair : Pair) (h : CompactState) (s : Session) (host : Host)
    → StandsForSession (meaning_by lists pair Client) (meaning_by lists pair Server) h s → AllNamesListed lists host (own host s).octets
    → IfSome lists (λ l. IsListedStream (list_of host l) (sender_kept host h))
streams_at None pair h s host st listed = tt
streams_at (Some l) pair h s Client st listed = record { octets = s.client.octets; keeps = st.client.keeps; listed = listed }
streams_at (Some l) pair h s Server st listed = record { octets = s.server.octets; keeps = st.server.keeps; listed = listed }

pub streams_listed : (k : CompactSession) (host : Host) → IsOfSome k → IfSome k.lists (λ l. IsListedStream (list_of host l) (sender_kept host k.kept))
streams_listed k host h = streams_at k.lists k.pair k.kept h.session.session host h.stands.session (h.stands.listed host)
