-- Records that are held, or none.
use Rattle.std.specs.Prelude.{List, [], Option, Some, None}
use Rattle.std.specs.declared.vec.Vec.{Vec}
use Rattle.dns_messages.specs.declared.message.Resource.{Resource}

-- the records for which memory is held
abbrev pub held : {A : Type 0} → Option (Vec Resource A) → List Resource
held None = []
held (Some records) = records.items
