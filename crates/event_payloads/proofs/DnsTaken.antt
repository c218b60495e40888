-- Datagrams with a DNS message.
use Rattle.std.proofs.Common.{Fits, w8, ◌≡◌, ◌≢◌, ℕ, ◌+◌, ◌-◌, ◌/◌, ◌%◌, ◌≤◌, ◌==◌, Bool, true, false, not, ◌&&◌, ◌||◌, nat_lt, cond, if◌then◌else◌}
use Rattle.std.proofs.Common.{List, [], ◌∷◌, ◌++◌, length, map, take, drop, get_or, All, Option, Some, None, Result, Ok, Err, refl, sym, ap, subst}
use Rattle.std.proofs.Common.{◌∙◌, arith, eq-eqb, length-drop, IfOk, is_none, is_ok, take_all, take-append-drop, length-take, get_or-drop}
use Rattle.std.proofs.lemmas.Bool.{true≢false, ltb-false, le-ltb, or_parts}
use Rattle.std.proofs.lemmas.Bool.Decides.{nat_tests}
use Rattle.std.proofs.lemmas.List.Elements.{All-nil, All-cons}
use Rattle.gate_base.specs.Prelude.{u16_at, with_u16, other}
use Rattle.verdicts.specs.Prelude.{first_that_holds, unless_refused}
use Rattle.gate_base.specs.declared.address.Addr.{Addr}
use Rattle.gate_base.specs.declared.event.Moment.{Moment}
use Rattle.gate_base.specs.declared.side.Side.{Side}
use Rattle.binding_table.specs.declared.binding.Crossing.{Crossing}
use Rattle.binding_table.specs.declared.binding.Crossing.TheVariants.{Unbound}
use Rattle.binding_table.specs.Prelude.{Bindings, cross, in_pool, free, is_settled, Use, AreUsesOf, used}
use Rattle.binding_table.specs.Prelude.{after_uses, image_after, images_after, needed, needs_binding}
use Rattle.binding_table.proofs.Fresh.{fresh_cons}
use Rattle.dns_messages.specs.declared.message.Message.{Message}
use Rattle.ipv4_frames.specs.Ipv4.{Datagram, total_length_of}
use Rattle.ipv4_frames.proofs.Items.{items, front_items}
use Rattle.udp_icmp.specs.Udp.{has_bad_length, read_udp}
use Rattle.twice_translate.specs.Content.{of_udp, read_content}
use Rattle.twice_translate.specs.Renamed.{CanGoOn, datagram_of, renamed, rebuilt}
use Rattle.twice_translate.proofs.Accepted.{ok_as, reads_udp}
use Rattle.udp_icmp.proofs.Sealed.{long_segment}
use Rattle.verdicts.specs.declared.refusal.Refusal.{Refusal}
use Rattle.verdicts.specs.declared.refusal.Refusal.TheVariants.{BadDns, DnsUnbound, PoolEmpty}
use Rattle.gate_model.specs.Prelude.{Whole, Dns, Udp, carried, message_in, named_in, is_unbound, has_unbound, reply_by}
use Rattle.gate_model.specs.Prelude.{names_after, uses_until, World, source_of, destination_of, called, SessionRules}
use Rattle.gate_model.specs.declared.timeouts.TheConstants.{NAMED_TIMEOUT, UDP_TIMEOUT}
use Rattle.gate_model.proofs.ListsKept.{known_unbound}
use Rattle.gate_model.proofs.ListsBound.{not_unbound}
use Rattle.event_payloads.specs.Prelude.{named_uses, IsTaken, IsWayOf, image_by, is_empty}
use Rattle.event_payloads.specs.declared.addresses.Way.{Way}
use Rattle.event_payloads.proofs.Passes.{of_crossing, used_called, still_after, called_is, free_is}
use Rattle.event_payloads.proofs.HeadersOnly.{of_source_is, of_destination_is}

-- ## Addresses and their uses

abbrev address_by : ℕ → Addr
address_by number = record { 0 = number }

by_numbers : (addresses : List Addr) → map address_by (map (λ (a : Addr). a.0) addresses) ≡ addresses
by_numbers [] = refl
by_numbers (address ∷ rest) = ap (λ more. address ∷ more) (by_numbers rest)

-- addresses with these numbers
pub named_ok : {V E : Type 0} (items_of : V → List Addr) (numbers : List ℕ) (r : Result V E)
    → IfOk r (λ v. map (λ (a : Addr). a.0) (items_of v) ≡ numbers) → IfOk r (λ v. items_of v ≡ map address_by numbers)
named_ok items_of numbers (Ok v) h = sym (by_numbers (items_of v)) ∙ ap (map address_by) h
named_ok items_of numbers (Err e) h = tt

used_addresses : (side : Side) (until : ℕ) (addresses : List Addr) → map (λ (one : Use). one.address) (uses_until side until addresses) ≡ addresses
used_addresses side until [] = refl
used_addresses side until (address ∷ rest) = ap (λ more. address ∷ more) (used_addresses side until rest)

-- a use is of the realm
abbrev IsOf : Side → Use → Type 0
IsOf side one = one.side ≡ side

used_sides : (side : Side) (until : ℕ) (addresses : List Addr) → All (IsOf side) (uses_until side until addresses)
used_sides side until [] = All-nil (IsOf side)
used_sides side until (address ∷ rest) =
    All-cons (IsOf side) (record { side = side; address = address; until = record { 0 = until } }) (uses_until side until rest) refl
    (used_sides side until rest)

images_used : (f : Side → Addr → Option Addr) (side : Side) (until : ℕ) (addresses : List Addr)
    → map (λ (one : Use). f one.side one.address) (uses_until side until addresses) ≡ map (f side) addresses
images_used f side until [] = refl
images_used f side until (address ∷ rest) = ap (λ more. f side address ∷ more) (images_used f side until rest)

-- the uses are those of all addresses
pub all_used : (side : Side) (moment : ℕ) (source destination : Addr) (named addresses : List Addr) → addresses ≡ source ∷ destination ∷ named
    → AreUsesOf side addresses (named_uses side moment source destination named)
all_used side moment source destination named addresses e =
    let until : Moment = record { 0 = moment + UDP_TIMEOUT } in
    let rest = uses_until side (moment + NAMED_TIMEOUT) named in
    let one : Use = record { side = side; address = source; until = until } in
    let two : Use = record { side = side; address = destination; until = until } in
    record {
      sides = All-cons (IsOf side) one (two ∷ rest) refl (All-cons (IsOf side) two rest refl (used_sides side (moment + NAMED_TIMEOUT) named));
      each = ap (λ more. source ∷ destination ∷ more) (used_addresses side (moment + NAMED_TIMEOUT) named) ∙ sym e;
    }

-- the images of those in the message, once all are used
images_named : (t : Bindings) (side : Side) (moment : ℕ) (source destination : Addr) (named : List Addr) → let uses =
    named_uses side moment source destination named in
    drop 2 (images_after t uses) ≡ map (image_after t (after_uses t uses) side) named
images_named t side moment source destination named =
    images_used (image_after t (after_uses t (named_uses side moment source destination named))) side (moment + NAMED_TIMEOUT) named

-- ## None of them is unbound

abbrev IsBound : Bindings → Side → Addr → Type 0
IsBound t side address = cross t side address ≢ Unbound

named_bound : (t : Bindings) (side : Side) (named : List Addr) → has_unbound t side named ≡ false → All (IsBound t side) named
named_bound t side [] e = All-nil (IsBound t side)
named_bound t side (address ∷ rest) e =
    let parts = or_parts (is_unbound (cross t side address)) (has_unbound t side rest) e in
    All-cons (IsBound t side) address rest (not_unbound (cross t side address) parts.0) (named_bound t side rest parts.1)

pub settled_bound : (crossing : Crossing) → is_settled crossing ≡ true → crossing ≢ Unbound
settled_bound crossing s u = true≢false (sym s ∙ ap is_settled u)

pub all_bound : (t : Bindings) (side : Side) (source destination : Addr) (named addresses : List Addr) → addresses ≡ source ∷ destination ∷ named
    → in_pool t side source ≡ false → is_settled (cross t side destination) ≡ true → has_unbound t side named ≡ false
    → All (λ address. cross t side address ≢ Unbound) addresses
all_bound t side source destination named addresses e outside settled none =
    subst (All (IsBound t side)) (sym e)
    (All-cons (IsBound t side) source (destination ∷ named) (known_unbound t side source outside)
    (All-cons (IsBound t side) destination named (settled_bound (cross t side destination) settled) (named_bound t side named none)))

-- ## There is an address for the source

and_true : (b : Bool) → ◌≡◌ {A = ℕ} (cond (b && true) 1 0) (if b then 1 else 0)
and_true true = refl
and_true false = refl

has_room : (t : Bindings) (side : Side) (address : Addr) (rest : List Addr) → nat_lt (free t (other side)) (needed t side (address ∷ rest)) ≡ false
    → is_empty (cross t side address) ≡ false
has_room t side address rest room =
    let first = fresh_cons t side [] address rest in
    let one = and_true (needs_binding (cross t side address)) in
    let enough = ltb-false (free t (other side)) (needed t side (address ∷ rest)) room in
    sym (free_is t side address (cross t side address) refl)
    ∙ le-ltb (free t (other side)) (if needs_binding (cross t side address) then 1 else 0) (omega (arith, first, one, enough))

-- ## What both addresses are called after all uses

source_goes : (t : Bindings) (side : Side) (moment : ℕ) (source destination : Addr) (named : List Addr) → in_pool t side source ≡ false
    → nat_lt (free t (other side)) (needed t side (source ∷ destination ∷ named)) ≡ false →
    called (after_uses t (named_uses side moment source destination named)) side source ≡ image_by (cross t side source) source
source_goes t side moment source destination named outside room =
    let until : Moment = record { 0 = moment + UDP_TIMEOUT } in
    let one : Use = record { side = side; address = source; until = until } in
    let first =
    used_called t side source until (cross t side source) refl (known_unbound t side source outside)
    (has_room t side source (destination ∷ named) room) in
    let header = still_after (used t one) side source _ until.0 (destination ∷ []) first in
    called_is (still_after (after_uses t (uses_until side until.0 (source ∷ destination ∷ []))) side source _ (moment + NAMED_TIMEOUT) named header)

destination_goes : (t : Bindings) (side : Side) (moment : ℕ) (source destination : Addr) (named : List Addr)
    → is_settled (cross t side destination) ≡ true →
    called (after_uses t (named_uses side moment source destination named)) side destination ≡ image_by (cross t side destination) destination
destination_goes t side moment source destination named settled =
    let until : ℕ = moment + UDP_TIMEOUT in
    let header =
    still_after t side destination _ until (source ∷ destination ∷ []) (of_crossing t side destination (cross t side destination) refl settled) in
    called_is
    (still_after (after_uses t (uses_until side until (source ∷ destination ∷ []))) side destination _ (moment + NAMED_TIMEOUT) named header)

-- ## A payload that stays

udp_lengths : (protocol source destination : ℕ) (payload : List ℕ) → protocol ≡ 17 → is_ok (read_content protocol source destination payload) ≡ true
    → has_bad_length payload ≡ false
udp_lengths protocol source destination payload e ok =
    let udp : (protocol == 17) ≡ true = eq-eqb protocol 17 e in
    (reads_udp payload source destination (sym (ok_as of_udp (read_udp payload source destination)) ∙ (rw udp at ok))).lengths

length_is : (stands count : ℕ) → (nat_lt count 8 || not (stands == count)) ≡ false → stands ≡ count
length_is stands count h = grind (arith, nat_tests)

put_shown : (front rest : List ℕ) (value : ℕ) → value ≡ u16_at 4 (items 0 8 front ++ rest) → Fits w8 (get_or front 4 0) → Fits w8 (get_or front 5 0)
    → with_u16 4 value (items 0 8 front ++ rest) ≡ items 0 8 front ++ rest
put_shown front rest value e four five =
    let high : value / 256 % 256 ≡ get_or front 4 0 = omega arith in
    let low : value % 256 ≡ get_or front 5 0 = omega arith in
    rw (high, low) refl

-- the length field written again
put_again : (payload : List ℕ) (value : ℕ) → 8 ≤ length payload → value ≡ u16_at 4 payload → Fits w8 (get_or payload 4 0)
    → Fits w8 (get_or payload 5 0) → with_u16 4 value payload ≡ payload
put_again payload value long e four five =
    let P : List ℕ → Type 0 = λ xs. value ≡ u16_at 4 xs → with_u16 4 value xs ≡ xs in
    subst P (sym (front_items 8 payload long)) (λ f. put_shown payload (drop 8 payload) value f four five) e

own_payload : (payload : List ℕ) → has_bad_length payload ≡ false → Fits w8 (get_or payload 4 0) → Fits w8 (get_or payload 5 0)
    → with_u16 4 (8 + length (drop 8 payload)) (take 8 payload ++ drop 8 payload) ≡ payload
own_payload payload lengths four five =
    let long = long_segment payload lengths in
    let stands = length_is (u16_at 4 payload) (length payload) lengths in
    let value : 8 + length (drop 8 payload) ≡ u16_at 4 payload = omega (arith, length-drop 8 payload, long, stands) in
    ap (with_u16 4 (8 + length (drop 8 payload))) (take-append-drop 8 payload)
    ∙ put_again payload (8 + length (drop 8 payload)) long value four five

payload_is : (octets : List ℕ) → CanGoOn octets → (datagram_of octets).payload ≡ drop 20 octets
payload_is octets can =
    let whole = can.whole in
    take_all (total_length_of octets - 20) (drop 20 octets) (omega (arith, whole, length-drop 20 octets))

-- a UDP datagram with the payload that it has
pub rebuilt_same : (octets : List ℕ) (source destination : ℕ) → CanGoOn octets → (datagram_of octets).protocol ≡ 17
    → ((k : ℕ) → Fits w8 (get_or octets k 0))
    → renamed (datagram_of octets) source destination ≡ rebuilt (datagram_of octets) source destination (carried (datagram_of octets))
rebuilt_same octets source destination can protocol fits =
    let d = datagram_of octets in
    let lengths = udp_lengths d.protocol d.source d.destination d.payload protocol can.accepted.payload in
    let P : List ℕ → Type 0 = λ xs. (k : ℕ) → Fits w8 (get_or xs k 0) in
    let small : P d.payload =
    subst P (sym (payload_is octets can)) (λ k. subst (λ (x : ℕ). Fits w8 x) (sym (get_or-drop 20 octets k 0)) (fits (20 + k))) in
    ap (λ (xs : List ℕ). let e : Datagram = record d { payload = xs } in renamed e source destination)
    (sym (own_payload d.payload lengths (small 4) (small 5)))

-- ## Lengths

pub short_payload : (octets payload : List ℕ) → length octets ≤ 65535 → payload ≡ carried (datagram_of octets) → length payload ≤ 65507
short_payload octets payload few e =
    omega (
      arith,
      few,
      ap length e,
      length-drop 8 (datagram_of octets).payload,
      length-take (total_length_of octets - 20) (drop 20 octets),
      length-drop 20 octets,
    )

-- ## What passes

-- the addresses need more bindings than there are addresses for
abbrev lacks : Bindings → Side → Addr → Addr → List Addr → Bool
lacks t side source destination named = nat_lt (free t (other side)) (needed t side (source ∷ destination ∷ named))

uses_are : {S : Type 0} (live : World S) (side : Side) (d : Datagram) (way : Way) (named : List Addr) → IsWayOf live side d way
    → named ≡ named_in (message_in d) →
    named_uses side way.moment.0 way.source way.destination named ≡ named_uses side live.clock (source_of d) (destination_of d)
    (named_in (message_in d))
uses_are live side d way named w n =
    ap (λ (moment : ℕ). named_uses side moment way.source way.destination named) w.moment_is
    ∙ ap (λ (a : Addr). named_uses side live.clock a way.destination named) w.source_is
    ∙ ap (λ (a : Addr). named_uses side live.clock (source_of d) a named) w.destination_is
    ∙ ap (named_uses side live.clock (source_of d) (destination_of d)) n

room_is : {S : Type 0} (live : World S) (side : Side) (d : Datagram) (way : Way) (named : List Addr) → IsWayOf live side d way
    → named ≡ named_in (message_in d) →
    lacks live.table side way.source way.destination named ≡ lacks live.table side (source_of d) (destination_of d) (named_in (message_in d))
room_is live side d way named w n =
    ap (λ (a : Addr). lacks live.table side a way.destination named) w.source_is
    ∙ ap (λ (a : Addr). lacks live.table side (source_of d) a named) w.destination_is
    ∙ ap (lacks live.table side (source_of d) (destination_of d)) n

-- a datagram that passes, over what lives
passed : {S : Type 0} (rules : SessionRules S) (live : World S) (side : Side) (d : Datagram) (m : Message) (named : List Addr) (way : Way)
    (table : Bindings) (reply : List ℕ) (sent : List (List ℕ)) → IsWayOf live side d way → message_in d ≡ Some m → named ≡ named_in (Some m)
    → has_unbound live.table side named ≡ false
    → lacks live.table side way.source way.destination named ≡ false
    → table ≡ after_uses live.table (named_uses side way.moment.0 way.source way.destination named)
    → reply ≡ reply_by (drop 2 (images_after live.table (named_uses side way.moment.0 way.source way.destination named))) (carried d) (Some m)
    → sent ≡ rebuilt d (image_by way.of_source way.source).0 (image_by way.of_destination way.destination).0 reply ∷ []
    → IsTaken rules live side d (Whole Dns) None table sent
passed rules live side d m named way table reply sent w e h unbound full bound answer out =
    let n : named ≡ named_in (message_in d) = h ∙ ap named_in (sym e) in
    let s = source_of d in
    let t = destination_of d in
    let all = named_in (message_in d) in
    let uses = uses_are live side d way named w n in
    let room : lacks live.table side s t all ≡ false = sym (room_is live side d way named w n) ∙ full in
    let after = after_uses live.table (named_uses side live.clock s t all) in
    let message : is_none (message_in d) ≡ false = ap is_none e in
    let none : has_unbound live.table side all ≡ false = ap (has_unbound live.table side) (sym n) ∙ unbound in
    let octets : reply ≡ reply_by (map (image_after live.table after side) all) (carried d) (message_in d) =
    answer
    ∙ ap (λ (us : List Use). reply_by (drop 2 (images_after live.table us)) (carried d) (Some m)) uses
    ∙ ap (λ (images : List (Option Addr)). reply_by images (carried d) (Some m)) (images_named live.table side live.clock s t all)
    ∙ ap (reply_by (map (image_after live.table after side) all) (carried d)) (sym e) in
    let of_source = of_source_is live side d way w in
    let of_destination = of_destination_is live side d way w in
    let source : image_by way.of_source way.source ≡ called after side s =
    ap (λ (c : Crossing). image_by c way.source) of_source ∙ ap (image_by (cross live.table side s)) w.source_is
    ∙ sym (source_goes live.table side live.clock s t all w.outside room) in
    let destination : image_by way.of_destination way.destination ≡ called after side t =
    ap (λ (c : Crossing). image_by c way.destination) of_destination ∙ ap (image_by (cross live.table side t)) w.destination_is
    ∙ sym (destination_goes live.table side live.clock s t all (ap is_settled (sym of_destination) ∙ w.settled)) in
    record {
      answer = rw (message, none, room) refl;
      bound = bound ∙ ap (after_uses live.table) uses;
      gone =
          out
          ∙ ap (λ (xs : List ℕ). rebuilt d (image_by way.of_source way.source).0 (image_by way.of_destination way.destination).0 xs ∷ []) octets
          ∙ ap (λ (a : Addr). rebuilt d a.0 (image_by way.of_destination way.destination).0 (names_after live.table after side d) ∷ []) source
          ∙ ap (λ (a : Addr). rebuilt d (called after side s).0 a.0 (names_after live.table after side d) ∷ []) destination;
    }

-- the same over an equal table
pub names_passed : {S : Type 0} (rules : SessionRules S) (live : World S) (side : Side) (d : Datagram) (m : Message) (named : List Addr) (way : Way)
    (old table : Bindings) (reply : List ℕ) (sent : List (List ℕ)) → live.table ≡ old → IsWayOf live side d way → message_in d ≡ Some m
    → named ≡ named_in (Some m)
    → has_unbound old side named ≡ false
    → nat_lt (free old (other side)) (needed old side (way.source ∷ way.destination ∷ named)) ≡ false
    → table ≡ after_uses old (named_uses side way.moment.0 way.source way.destination named)
    → reply ≡ reply_by (drop 2 (images_after old (named_uses side way.moment.0 way.source way.destination named))) (carried d) (Some m)
    → sent ≡ rebuilt d (image_by way.of_source way.source).0 (image_by way.of_destination way.destination).0 reply ∷ []
    → IsTaken rules live side d (Whole Dns) None table sent
names_passed rules live side d m named way old table reply sent same w e h =
    let P : Bindings → Type 0 = λ t.
    has_unbound t side named ≡ false
    → lacks t side way.source way.destination named ≡ false
    → table ≡ after_uses t (named_uses side way.moment.0 way.source way.destination named)
    → reply ≡ reply_by (drop 2 (images_after t (named_uses side way.moment.0 way.source way.destination named))) (carried d) (Some m)
    → sent ≡ rebuilt d (image_by way.of_source way.source).0 (image_by way.of_destination way.destination).0 reply ∷ []
    → IsTaken rules live side d (Whole Dns) None table sent in
    subst P same (passed rules live side d m named way table reply sent w e h)

-- ## A message that names nothing

none_replied : (octets : List ℕ) (o : Option Message) → octets ≡ reply_by [] octets o
none_replied octets None = refl
none_replied octets (Some m) = refl

-- it is taken as a datagram of which only the header is renamed
pub nothing_named : {S : Type 0} (rules : SessionRules S) (live : World S) (side : Side) (d : Datagram) (r : Option Refusal) (table : Bindings)
    (sent : List (List ℕ)) → is_none (message_in d) ≡ false → named_in (message_in d) ≡ []
    → ((source destination : ℕ) → renamed d source destination ≡ rebuilt d source destination (carried d))
    → IsTaken rules live side d (Whole Udp) r table sent → IsTaken rules live side d (Whole Dns) r table sent
nothing_named {S = S} rules live side d r table sent some none same t =
    let one = source_of d in
    let two = destination_of d in
    let A : Bool → List Addr → Option Refusal =
    λ bad named. first_that_holds
    ((bad, BadDns) ∷ (has_unbound live.table side named, DnsUnbound)
    ∷ (nat_lt (free live.table (other side)) (needed live.table side (one ∷ two ∷ named)), PoolEmpty) ∷ []) in
    let after : List Addr → Bindings = λ named. after_uses live.table (named_uses side live.clock one two named) in
    let S : List ℕ → List (List ℕ) = λ payload. rebuilt d (called (after []) side one).0 (called (after []) side two).0 payload ∷ [] in
    record {
      answer = t.answer ∙ ap (A false) (sym none) ∙ ap (λ (bad : Bool). A bad (named_in (message_in d))) (sym some);
      bound = t.bound ∙ ap (λ (named : List Addr). unless_refused r (after named) live.table) (sym none);
      gone = t.gone
          ∙ ap (λ (x : List ℕ). unless_refused r (x ∷ []) []) (same (called (after []) side one).0 (called (after []) side two).0)
          ∙ ap (λ (xs : List ℕ). unless_refused r (S xs) []) (none_replied (carried d) (message_in d))
          ∙ ap (λ (named : List Addr). unless_refused r
          (rebuilt d (called (after named) side one).0 (called (after named) side two).0
          (reply_by (map (image_after live.table (after named) side) named) (carried d) (message_in d)) ∷ []) []) (sym none);
    }
