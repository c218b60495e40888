-- Octets written into others.
use Rattle.std.specs.Prelude.{ℕ, ◌+◌, List, ◌++◌, take, drop, length}

-- the octets with others at a place
abbrev pub with_octets : ℕ → List ℕ → List ℕ → List ℕ
with_octets place new octets = take place octets ++ new ++ drop (place + length new) octets
