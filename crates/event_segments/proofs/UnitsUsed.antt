-- The bindings after all uses of a segment of a session, and what addresses are called by them.
use Rattle.std.proofs.Common.{◌≡◌, ◌≢◌, ◌≤◌, ◌+◌, ℕ, List, [], ◌∷◌, ◌++◌, append_assoc, Option, Some, sym, ap, ◌∙◌, unwrap_or}
use Rattle.std.specs.List.{All, AllByRecursion}
use Rattle.std.proofs.lemmas.List.Sums.{fold-append}
use Rattle.gate_base.specs.Prelude.{other}
use Rattle.gate_base.specs.declared.address.Addr.{Addr}
use Rattle.gate_base.specs.declared.side.Side.{Side}
use Rattle.binding_table.specs.Prelude.{Bindings, cross, seen, free, IsLawful, Use, used, after_uses, needed, image_after}
use Rattle.binding_table.specs.declared.binding.Crossing.TheVariants.{Unbound}
use Rattle.ipv4_frames.specs.Ipv4.{Datagram}
use Rattle.gate_model.specs.Prelude.{Stream, found_in, session_in, stream_timeout, uses_until, names_in, uses_of_lists, table_after, Tracked, World, addresses_of, called, source_of, destination_of, SessionRules}
use Rattle.gate_model.proofs.ListsCalled.{called_alike, images_alike}
use Rattle.gate_model.proofs.ListsKept.{table_of, uses_append}
use Rattle.event_segments.specs.Prelude.{image_of, used_by}

-- the moment until which the addresses of a segment are held
abbrev pub until_of : {S : Type 0} (rules : SessionRules S) → World S → Side → Datagram → ℕ
until_of rules live side d = live.clock + stream_timeout rules live side d

-- uses of a header, of names, and others
split_at : (table : Bindings) (side : Side) (until : ℕ) (header names : List Addr) (more : List Use)
    → after_uses table (uses_until side until header ++ (uses_until side until names ++ more)) ≡ after_uses
    (table_of table side until (header ++ names)) more
split_at table side until header names more =
    ap (after_uses table)
    (sym (append_assoc (uses_until side until header) (uses_until side until names) more)
    ∙ ap (λ (us : List Use). us ++ more) (sym (uses_append side until header names)))
    ∙ fold-append used table (uses_until side until (header ++ names)) more

-- the uses of a segment whose connection has this session
abbrev uses_with : {S : Type 0} (rules : SessionRules S) → World S → Side → Datagram → Option (Tracked S) → List Use
uses_with rules live side d o =
    uses_until side (until_of rules live side d) (addresses_of d)
    ++ (uses_until side (until_of rules live side d) (names_in rules side d o) ++ uses_of_lists rules (until_of rules live side d) o)

pub table_with : {S : Type 0} (rules : SessionRules S) (live : World S) (side : Side) (d : Datagram) (t : Tracked S)
    → session_in (found_in live side d) ≡ Some t
    → table_after rules live side live.clock d Stream ≡ after_uses live.table (uses_with rules live side d (Some t))
table_with {S = S} rules live side d t found = ap (λ (o : Option (Tracked S)). after_uses live.table (uses_with rules live side d o)) found

table_named : {S : Type 0} (rules : SessionRules S) (live : World S) (side : Side) (d : Datagram) (t : Tracked S)
    → session_in (found_in live side d) ≡ Some t → table_after rules live side live.clock d Stream
    ≡ after_uses (table_of live.table side (until_of rules live side d) (used_by rules side d t))
    (uses_of_lists rules (until_of rules live side d) (Some t))
table_named rules live side d t found = table_with rules live side d t found
    ∙ split_at live.table side (until_of rules live side d) (addresses_of d) (names_in rules side d (Some t))
    (uses_of_lists rules (until_of rules live side d) (Some t))

-- what the names are called by the uses of the header and of themselves alone
pub names_called : {S : Type 0} (rules : SessionRules S) (live : World S) (side : Side) (d : Datagram) (t : Tracked S) → IsLawful live.table
    → session_in (found_in live side d) ≡ Some t → All (λ address. cross live.table side address ≢ Unbound) (used_by rules side d t)
    → needed live.table side (used_by rules side d t) ≤ free live.table (other side)
    → AllByRecursion
    (λ a. image_after live.table (table_of live.table side (until_of rules live side d) (used_by rules side d t)) side a
    ≡ image_of rules live side d a) (names_in rules side d (Some t))
names_called rules live side d t lawful found bound room =
    let until = until_of rules live side d in
    let lists = uses_of_lists rules until (Some t) in
    let alike =
    images_alike live.table (after_uses (table_of live.table side until (used_by rules side d t)) lists)
    (table_of live.table side until (used_by rules side d t)) side (used_by rules side d t)
    (called_alike lists live.table side until (used_by rules side d t) lawful bound room) in
    turned (names_in rules side d (Some t)) alike.1.1
  where
    turned : (names : List Addr)
        → AllByRecursion (λ a. image_after live.table
        (after_uses (table_of live.table side (until_of rules live side d) (used_by rules side d t))
        (uses_of_lists rules (until_of rules live side d) (Some t))) side a ≡ image_after live.table
        (table_of live.table side (until_of rules live side d) (used_by rules side d t)) side a) names
        → AllByRecursion
        (λ a. image_after live.table (table_of live.table side (until_of rules live side d) (used_by rules side d t)) side a
        ≡ image_of rules live side d a) names
    turned [] h = tt
    turned (a ∷ names) h =
        (sym h.0 ∙ ap (λ (later : Bindings). image_after live.table later side a) (sym (table_named rules live side d t found)), turned names h.1)

-- both addresses of the header are called as by their own uses alone
pub record AreCalledSo {S : Type 0} (rules : SessionRules S) (live : World S) (side : Side) (d : Datagram) : Type 0 where
  pub source : called (after_uses live.table (uses_until side (until_of rules live side d) (addresses_of d))) side (source_of d) ≡ called
      (table_after rules live side live.clock d Stream) side (source_of d)
  pub destination : called (after_uses live.table (uses_until side (until_of rules live side d) (addresses_of d))) side (destination_of d) ≡ called
      (table_after rules live side live.clock d Stream) side (destination_of d)

pub header_called : {S : Type 0} (rules : SessionRules S) (live : World S) (side : Side) (d : Datagram) (t : Tracked S) → IsLawful live.table
    → session_in (found_in live side d) ≡ Some t → All (λ address. cross live.table side address ≢ Unbound) (addresses_of d)
    → needed live.table side (addresses_of d) ≤ free live.table (other side) → AreCalledSo rules live side d
header_called rules live side d t lawful found bound room =
    let until = until_of rules live side d in
    let more = uses_until side until (names_in rules side d (Some t)) ++ uses_of_lists rules until (Some t) in
    let alike = called_alike more live.table side until (addresses_of d) lawful bound room in
    let whole : table_after rules live side live.clock d Stream ≡ after_uses (table_of live.table side until (addresses_of d)) more =
    table_with rules live side d t found ∙ fold-append used live.table (uses_until side until (addresses_of d)) more in
    record {
      source = ap (λ (o : Option Addr). unwrap_or o (source_of d)) (sym alike.0 ∙ ap (λ (x : Bindings). seen x side (source_of d)) (sym whole));
      destination =
          ap (λ (o : Option Addr). unwrap_or o (destination_of d))
          (sym alike.1.0 ∙ ap (λ (x : Bindings). seen x side (destination_of d)) (sym whole));
    }
