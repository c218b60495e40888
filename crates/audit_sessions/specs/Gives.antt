-- What the auditor tells of datagrams: what is wanted.
use Rattle.std.specs.Prelude.{refl}
use Rattle.lawful_files.specs.Wanted as wanted
use Rattle.lawful_files.specs.Prelude.{Wanted, Exactly, wanted_segment}
use Rattle.audit_records.specs.Cutting.{Cutting}
use Rattle.event_segments.specs.Prelude.{Tells}
use Rattle.event_state.specs.Engines.{Gives}
use Rattle.audit_sessions.specs.Heard.{HeardSession, heard_sent}

abbrev pub audit_tells : Tells HeardSession Wanted
audit_tells = record { whole = Exactly; segment = wanted_segment heard_sent; plain = λ image side d source destination. refl }

-- that of a segment is what its session sends; where memory runs out nothing is said of what has changed, and a session may want it for each segment
abbrev pub heard_gives : Gives HeardSession Cutting Wanted
heard_gives =
    record {
      tells = audit_tells;
      cut = λ p datagrams. wanted.Cut p.datagram p.source p.destination p.sent;
      Keeps = ⊥;
      MayWant =
          λ from session segment. Unit {0};
    }
