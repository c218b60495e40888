-- What no session takes is the same whatever sessions there are.
use Rattle.std.proofs.Common.{◌≡◌, ℕ, true, List, Option}
use Rattle.verdicts.specs.declared.refusal.Refusal.{Refusal}
use Rattle.gate_base.specs.declared.side.Side.{Side}
use Rattle.binding_table.specs.Prelude.{Bindings}
use Rattle.ipv4_frames.specs.Ipv4.{Datagram}
use Rattle.gate_model.specs.Prelude.{Whole, Kind, Error, Stream, SessionRules, World}
use Rattle.event_payloads.specs.Prelude.{plain_rules, asks_none, IsTaken, IsWayOf}
use Rattle.event_payloads.specs.Inside.Plain.{like}
use Rattle.event_payloads.specs.declared.addresses.Way.{Way}

pub way_like : {S : Type 0} (live : World S) (side : Side) (d : Datagram) (way : Way) → IsWayOf live side d way → IsWayOf (like live) side d way
way_like live side d way w = record {
  side_is = w.side_is;
  moment_is = w.moment_is;
  source_is = w.source_is;
  destination_is = w.destination_is;
  crossings = w.crossings;
  outside = w.outside;
  settled = w.settled;
}

pub taken_like : {S : Type 0} (rules : SessionRules S) (live : World S) (side : Side) (d : Datagram) (k : Kind) (r : Option Refusal)
    (table : Bindings) (sent : List (List ℕ)) → asks_none k ≡ true → IsTaken plain_rules (like live) side d k r table sent
    → IsTaken rules live side d k r table sent
taken_like rules live side d (Whole Error) r table sent e t = absurd cc
taken_like rules live side d Stream r table sent e t = absurd cc
taken_like rules live side d (Whole _) r table sent e t = record { answer = t.answer; bound = t.bound; gone = t.gone }
