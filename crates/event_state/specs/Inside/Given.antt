-- What only proofs and private contracts need beside `Given`.
use Rattle.std.specs.Prelude.{Option, Some, None, Result, Ok, Err}
use Rattle.gate_base.specs.declared.event.OutOfMemory.{OutOfMemory}
use Rattle.verdicts.specs.declared.refusal.Refusal.{Refusal}
use Rattle.event_state.specs.declared.taken.Taken.{Taken}
use Rattle.event_state.specs.declared.taken.Taken.TheVariants.{Refused, Whole}

-- one that no session takes
abbrev pub taken_whole : {P : Type 0} → Option Refusal → Taken P
taken_whole None = Whole
taken_whole (Some refusal) = Refused refusal

abbrev pub result_whole : {P : Type 0} → Result (Option Refusal) OutOfMemory → Result (Taken P) OutOfMemory
result_whole (Ok refusal) = Ok (taken_whole refusal)
result_whole (Err error) = Err error
