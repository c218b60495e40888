-- Segments for which memory runs out.
use Rattle.std.proofs.Common.{◌≡◌, ℕ, true, List, [], Some, None, Result, Ok, Err, refl, sym, inl, inr, IsErr}
use Rattle.gate_base.specs.declared.event.OutOfMemory.{OutOfMemory}
use Rattle.gate_base.specs.declared.side.Side.{Side}
use Rattle.ipv4_frames.specs.Ipv4.{Datagram}
use Rattle.gate_model.specs.Prelude.{Stream, SessionRules, segment_of, found_in, session_in, begins, session_refusal, Tracked, World, host_on}
use Rattle.event_segments.specs.Prelude.{CompletesUnit, stream_refusal}
use Rattle.event_state.specs.Engines.{Gives}
use Rattle.event_state.specs.Lost.{IsLost, IsSegmentDone}
use Rattle.event_state.specs.declared.taken.Taken.{Taken}

-- by its session
pub lost_in_session : {S P A : Type 0} (rules : SessionRules S) (gives : Gives S P A) (live : World S) (side : Side) (d : Datagram) (t : Tracked S)
    (after : World S) (sent : List (List ℕ)) → session_in (found_in live side d) ≡ Some t → session_refusal rules side d (Some t) ≡ None
    → gives.MayWant (host_on side t) t.session (segment_of d) → None ≡ stream_refusal rules live side d → (gives.Keeps → after ≡ live)
    → (gives.Keeps → sent ≡ []) → IsLost rules gives None Stream live side d after sent
lost_in_session rules gives live side d t after sent e verdict h p same nothing =
    record {
      same = same;
      nothing = nothing;
      allowed = refl;
      wants =
          inr (refl, inl (sym p, inr (record { tracked = t; found = e; refusal = verdict; wants = h })));
    }

pub lost_at_units : {S P A : Type 0} (rules : SessionRules S) (gives : Gives S P A) (live : World S) (side : Side) (d : Datagram) (after : World S)
    (sent : List (List ℕ)) → CompletesUnit rules live side d → (gives.Keeps → after ≡ live) → (gives.Keeps → sent ≡ [])
    → IsLost rules gives None Stream live side d after sent
lost_at_units rules gives live side d after sent h same nothing = record { same = same; nothing = nothing; allowed = refl; wants = inr (refl, inr h) }

pub lost_at_first : {S P A : Type 0} (rules : SessionRules S) (gives : Gives S P A) (live : World S) (side : Side) (d : Datagram) (after : World S)
    (sent : List (List ℕ)) → begins (found_in live side d) d ≡ true → None ≡ stream_refusal rules live side d → (gives.Keeps → after ≡ live)
    → (gives.Keeps → sent ≡ []) → IsLost rules gives None Stream live side d after sent
lost_at_first rules gives live side d after sent e p same nothing =
    record { same = same; nothing = nothing; allowed = refl; wants = inr (refl, inl (sym p, inl e)) }

-- an error that went on
pub lost_done : {S P A : Type 0} (rules : SessionRules S) (gives : Gives S P A) (live : World S) (side : Side) (d : Datagram)
    (r : Result (Taken P) OutOfMemory) (after : World S) (sent : List (List ℕ)) → IsErr r → IsLost rules gives None Stream live side d after sent
    → IsSegmentDone rules gives live side d r after sent
lost_done rules gives live side d (Ok x) later sent e h = absurd (cc)
lost_done rules gives live side d (Err x) later sent e h = h
