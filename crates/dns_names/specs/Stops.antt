-- What a reader returned, against what reading gives.
use Rattle.std.specs.Prelude.{◌≡◌, Option, Some, None, Result, Ok, Err}
use Rattle.dns_names.specs.declared.stop.NameStop.{NameStop}
use Rattle.dns_names.specs.declared.stop.NameStop.TheVariants.{BadDns, OutOfMemory}

-- reading gives nothing, unless memory ran out
abbrev pub Fails : {Y : Type 0} → NameStop → Option Y → Type 0
Fails BadDns read = read ≡ None
Fails OutOfMemory read = Unit {0}

-- what was returned, seen by view, is what reading gives, unless memory ran out
abbrev pub ReturnsRead : {X Y : Type 0} → (X → Y) → Result X NameStop → Option Y → Type 0
ReturnsRead view (Ok x) read = read ≡ Some (view x)
ReturnsRead view (Err e) read = Fails e read
