use Rattle.std.specs.Prelude.{◌≡◌, ◌≤◌, ◌-◌, ◌++◌, length, take}
use Rattle.audit_streams.specs.Inside.Transcripts.{IsOf}
use Rattle.audit_streams.proofs.taking.take_octets.Given as goal

-- the octets so far were taken
abbrev pub invariant-loop-at : goal.invariant-loop-at
invariant-loop-at g l = record {
  within : l.at ≤ length l.octets;
  of : IsOf (g.D.Dialogue.meaning l.dialogue) l.transcript l.released;
  taken : l.transcript.octets ≡ l.initial.transcript.octets ++ take l.at l.octets;
  same : l.dialogue ≡ l.initial.dialogue;
}

abbrev pub decreases-loop-at : goal.decreases-loop-at
decreases-loop-at g l = length l.octets - l.at
