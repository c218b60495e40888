-- What a writer holds after more was written.
use Rattle.std.specs.Prelude.{◌≡◌, ◌+◌, ◌≤◌, ◌^◌, length, Result, Ok, Err}
use Rattle.dns_names.specs.Prelude.{Text, Added, add}
use Rattle.dns_messages.specs.Writing.{Writer}
use Rattle.dns_messages.specs.declared.stop.WriteStop.{WriteStop}
use Rattle.dns_messages.specs.declared.stop.WriteStop.TheVariants.{TooLong, OutOfMemory}

-- what is written behind a text
abbrev pub written : Text → Writer → Added
written text w = w text.starts (length text.octets)

-- the text with more behind it
abbrev pub wrote : Text → Writer → Text
wrote text w = add text (written text w)

-- it is too long with what is written behind it, unless memory ran out
abbrev pub Stops : WriteStop → Text → Writer → Type 0
Stops TooLong old w = 2 ^ 16 ≤ length old.octets + length (Added.octets (written old w))
Stops OutOfMemory old w = Unit {0}

-- it was written, or is too long, unless memory ran out
abbrev pub Writes : {X : Type 0} → Result X WriteStop → Text → Text → Writer → Type 0
Writes (Ok x) old new w = new ≡ wrote old w
Writes (Err s) old new w = Stops s old w
