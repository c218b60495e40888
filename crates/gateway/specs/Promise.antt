-- Where the frames and the line of each event stand in what a run writes.
use Rattle.std.specs.Prelude.{◌≡◌, ◌+◌, List, [], ◌∷◌, ◌++◌, length}
use Rattle.gate_base.specs.Prelude.{other}
use Rattle.gate_settings.specs.declared.settings.Settings.{Settings}
use Rattle.frag_join.specs.Prelude.{Arrival, ArrivalsAre, Reaches, Stopped, coming}
use Rattle.gate_desk.specs.Outside.{Trace}
use Rattle.pcap_merge.specs.Prelude.{Merged}
use Rattle.gate_model.specs.Prelude.{Promised, known_after, whole_rules, out, verdict}
use Rattle.gateway.specs.Pieces.{Piece, IsFront, wrote_pieces}
use Rattle.gateway.specs.Machine.{arrivals_by, opening, sent, event_piece, given_by_all, given_by_merged, files}
use Rattle.run_setup.specs.declared.status.Status.{Status}
use Rattle.run_setup.specs.declared.status.Status.TheVariants.{Done}

-- what is promised of a frame behind others: of one that comes to the gate its frames and its line, which names its verdict, and of one that doesn't its line alone
abbrev pub promised_of : Settings → List Arrival → Arrival → List Piece
promised_of settings done (Reaches e) =
    let known = known_after settings (coming done) in
    sent settings (other e.side) e.moment (out whole_rules known e)
    ++ event_piece settings.report (length done + 1) e.side e.moment (verdict whole_rules known e) (length (out whole_rules known e)) ∷ []
promised_of settings done (Stopped e verdict) = event_piece settings.report (length done + 1) e.side e.moment verdict 0 ∷ []

-- this stands together, behind what the frames before it give
pub record StandsBehind (settings : Settings) (all : Merged) (done : List Arrival) (a : Arrival) : Type 0 where
  pub behind : List Piece
  pub split : given_by_merged settings all ≡ given_by_all whole_rules settings (opening settings) done ++ (promised_of settings done a ++ behind)

-- so it is with each frame of both captures
abbrev pub EachStands : Settings → Merged → Type 0
EachStands settings all = (done others : List Arrival) (a : Arrival) → arrivals_by settings all.events ≡ done ++ a ∷ others
    → StandsBehind settings all done a

-- the headline, of what a run wrote by accepted settings:
pub record KeepsPromise (status : Status) (settings : Settings) (all : Merged) (old new : Trace) : Type 0 where
  -- it is a front of the files, and all of them where the run is done;
  pub front : IsFront (files settings all) old new
  pub whole : status ≡ Done → new ≡ wrote_pieces (files settings all) old
  -- in these each frame has its pieces at its place;
  pub stands : EachStands settings all
  -- each frame comes to the gate as it is, or with others as the datagram that it completes, or is held, or refused by its name;
  pub arrivals : ArrivalsAre settings.join all.events
  -- and so is what comes to the gate
  pub promised : Promised settings (coming (arrivals_by settings all.events))
