-- Datagrams with an SNMP message, refused or passed.
use Rattle.std.proofs.Common.{◌≡◌, ◌≤◌, ◌+◌, ◌==◌, inl, inr, nat_lt, length, ℕ, Bool, true, false, not, List, [], ◌∷◌, ◌++◌}
use Rattle.std.proofs.Common.{Option, Some, None, refl, sym, ap, subst, ◌∙◌, arith, option_map, is_some, is_none, IsSome}
use Rattle.std.proofs.lemmas.Bool.{cases_Bool, eqb-true, eq-eqb, false≢true, le-ltb}
use Rattle.gate_base.specs.declared.address.Addr.{Addr}
use Rattle.verdicts.specs.declared.refusal.Refusal.{Refusal}
use Rattle.verdicts.specs.declared.refusal.Refusal.TheVariants.{BadSnmp, PoolEmpty, SnmpTooLong}
use Rattle.gate_base.specs.declared.side.Side.{Side}
use Rattle.gate_base.specs.declared.event.Moment.{Moment}
use Rattle.gate_base.specs.declared.rule.OidRule.{OidRule}
use Rattle.binding_table.specs.declared.binding.Crossing.{Crossing}
use Rattle.binding_table.specs.declared.binding.Crossing.TheVariants.{Same, Bound, New, Unbound, Empty}
use Rattle.binding_table.specs.Prelude.{Bindings, cross, seen, is_settled, Use, after_uses, used, used_by}
use Rattle.binding_table.proofs.Planned.{settled_stays, used_follows}
use Rattle.binding_table.proofs.SeenAfter.{seen_kept}
use Rattle.ipv4_frames.specs.Ipv4.{Datagram}
use Rattle.snmp_gateway.specs.Message.{message, kind_of, places_of}
use Rattle.snmp_gateway.specs.Renaming.{renamed as renamed_message}
use Rattle.snmp_gateway.specs.declared.message.SnmpKind.{SnmpKind}
use Rattle.snmp_oids.specs.Elements.{oid_renamed}
use Rattle.snmp_oids.proofs.Lengths.{message_length}
use Rattle.snmp_oids.proofs.Messages.{no_rule}
use Rattle.verdicts.specs.Prelude.{first_that_holds, unless_refused}
use Rattle.twice_translate.specs.Renamed.{rebuilt}
use Rattle.gate_model.specs.Prelude.{Whole, Snmp, number_seen, management_after, carried, kind_tests, late_tests}
use Rattle.gate_model.specs.Prelude.{is_pool_empty, table_after, uses_until, World, source_of, destination_of, called, SessionRules}
use Rattle.gate_model.specs.declared.TheConstants.{MOST_CARRIED}
use Rattle.gate_model.specs.declared.timeouts.TheConstants.{UDP_TIMEOUT}
use Rattle.gate_model.proofs.ListsKept.{known_unbound}
use Rattle.event_payloads.specs.Prelude.{IsTaken, IsWayOf, image_by, is_empty, header_uses}
use Rattle.event_payloads.specs.declared.addresses.Way.{Way}
use Rattle.event_payloads.specs.Inside.Planned.{number_planned}
use Rattle.event_payloads.proofs.HeadersOnly.{are_images, empty_is, uses_are, of_source_is, of_destination_is}
use Rattle.event_payloads.proofs.Passes.{used_called, still_after}

-- octets of which a kind was told are a message
told_good : {A B : Type 0} (o : Option (A × B)) → is_some (option_map (λ m. m.0) o) ≡ true → is_none o ≡ false
told_good None told = absurd (cc)
told_good (Some found) told = refl

pub good_is : (d : Datagram) (payload : List ℕ) (kind : Option SnmpKind) (none : Bool) → payload ≡ carried d → kind ≡ kind_of payload
    → is_some kind ≡ not none → none ≡ false → is_none (message (carried d)) ≡ false
good_is d payload kind none same told tested some =
    told_good (message (carried d)) (ap (λ (xs : List ℕ). is_some (kind_of xs)) (sym same) ∙ ap is_some (sym told) ∙ tested ∙ ap not some)

abbrev first_by : Bool → Bool → Bool → Option Refusal
first_by bad empty long = first_that_holds ((bad, BadSnmp) ∷ (empty, PoolEmpty) ∷ (long, SnmpTooLong) ∷ [])

-- the first test that holds, of a message
first_is : {S : Type 0} (rules : SessionRules S) (live : World S) (side : Side) (d : Datagram) (way : Way) (long : Bool) → IsWayOf live side d way
    → is_none (message (carried d)) ≡ false
    → long ≡ nat_lt MOST_CARRIED (length (management_after (table_after rules live side live.clock d (Whole Snmp)) side d))
    → first_by false (is_empty way.of_source) long ≡ first_that_holds
    (kind_tests rules live side live.clock d (Whole Snmp)
    ++ (is_pool_empty rules live side d (Whole Snmp), PoolEmpty) ∷ late_tests rules live side live.clock d (Whole Snmp))
first_is rules live side d way long w good is =
    ap (λ (b : Bool). first_by b (is_empty way.of_source) long) (sym good)
    ∙ ap (λ (b : Bool). first_by (is_none (message (carried d))) b long) (empty_is rules live side d way w)
    ∙ ap (first_by (is_none (message (carried d))) (is_pool_empty rules live side d (Whole Snmp))) is

pub message_empty : {S : Type 0} (rules : SessionRules S) (live : World S) (side : Side) (d : Datagram) (way : Way) (table : Bindings)
    (sent : List (List ℕ)) → IsWayOf live side d way → is_none (message (carried d)) ≡ false → is_empty way.of_source ≡ true
    → table ≡ live.table → sent ≡ []
    → IsTaken rules live side d (Whole Snmp) (Some PoolEmpty) table sent
message_empty rules live side d way table sent w good empty t s =
    let long = nat_lt MOST_CARRIED (length (management_after (table_after rules live side live.clock d (Whole Snmp)) side d)) in
    record {
      answer = ap (λ (b : Bool). first_by false b long) (sym empty) ∙ first_is rules live side d way long w good refl;
      bound = t;
      gone = s;
    }

-- ## The rules stay

oids_by : (t : Bindings) (side : Side) (address : Addr) (until : Moment) (crossing : Crossing) → (used_by t side address until crossing).oids ≡ t.oids
oids_by t side address until Same = refl
oids_by t side address until (Bound image) = refl
oids_by t side address until (New alias) = refl
oids_by t side address until Unbound = refl
oids_by t side address until Empty = refl

oids_after : (t : Bindings) (uses : List Use) → (after_uses t uses).oids ≡ t.oids
oids_after t [] = refl
oids_after t (one ∷ uses) = oids_after (used t one) uses ∙ oids_by t one.side one.address one.until (cross t one.side one.address)

-- ## What its addresses are called

abbrev after_both : {S : Type 0} → World S → Side → Datagram → Bindings
after_both live side d = after_uses live.table (uses_until side (live.clock + UDP_TIMEOUT) (source_of d ∷ destination_of d ∷ []))

numbered : (address image : Addr) (table : Bindings) (side : Side) (n : ℕ) → n ≡ address.0 → seen table side address ≡ Some image
    → number_seen table side n ≡ Some image.0
numbered address image table side n is h = ap (λ (m : ℕ). number_seen table side m) is ∙ ap (option_map (λ (x : Addr). x.0)) h

-- every address is called as after both uses
planned_at : {S : Type 0} (live : World S) (side : Side) (d : Datagram) (way : Way) → IsWayOf live side d way → is_empty way.of_source ≡ false
    → (n : ℕ) → number_planned live.table way n ≡ number_seen (after_both live side d) side n
planned_at live side d way w room n = elim (cases_Bool (n == way.source.0)) [
  | inl same ↦
      let s = of_source_is live side d way w in
      let first =
      used_called live.table side (source_of d) (record { 0 = live.clock + UDP_TIMEOUT }) (cross live.table side (source_of d)) refl
      (known_unbound live.table side (source_of d) w.outside) (ap is_empty (sym s) ∙ room) in
      let both =
      still_after (used live.table (record { side = side; address = source_of d; until = record { 0 = live.clock + UDP_TIMEOUT } })) side
      (source_of d) _ (live.clock + UDP_TIMEOUT) (destination_of d ∷ []) first in
      rw same (ap (λ (c : Crossing). let o : Option ℕ = Some (image_by c way.source).0 in o) s
      ∙ ap (λ (a : Addr). let o : Option ℕ = Some (image_by (cross live.table side (source_of d)) a).0 in o) w.source_is
      ∙ sym (numbered (source_of d) _ (after_both live side d) side n (eqb-true n way.source.0 same ∙ ap (λ (a : Addr). a.0) w.source_is) both.seen))
  | inr other ↦
      let one : Addr = record { 0 = n } in
      let t = live.table in
      let until : Moment = record { 0 = live.clock + UDP_TIMEOUT } in
      let mid = used t (record { side = side; address = source_of d; until = until }) in
      let settled =
      settled_stays t mid side (destination_of d) (used_follows t (record { side = side; address = source_of d; until = until }))
      (ap is_settled (sym (of_destination_is live side d way w)) ∙ w.settled) in
      let away = other_way n way.source.0 (ap (λ (a : Addr). a.0) w.source_is) other in
      rw other (ap (λ (x : Side). number_seen t x n) w.side_is
      ∙ ap (option_map (λ (x : Addr). x.0)) (sym (seen_kept t side (source_of d) one until (cross t side (source_of d)) (inr away)))
      ∙ ap (option_map (λ (x : Addr). x.0))
      (sym (seen_kept mid side (destination_of d) one until (cross mid side (destination_of d))
      (inl (ap is_settled settled ∙ ap is_settled (sym (of_destination_is live side d way w)) ∙ w.settled)))))
]
  where
    other_way : (n m : ℕ) {k : ℕ} → m ≡ k → (n == m) ≡ false → (k == n) ≡ false
    other_way n m {k = k} e h =
        elim (cases_Bool (k == n)) [ inl same ↦ absurd (false≢true (sym h ∙ eq-eqb n m (sym (eqb-true k n same) ∙ sym e))) | inr differs ↦ differs ]

-- the message that goes on
planned_is : {S : Type 0} (rules : SessionRules S) (live : World S) (side : Side) (d : Datagram) (way : Way) → IsWayOf live side d way
    → is_empty way.of_source ≡ false → oid_renamed (number_planned live.table way) live.table.oids (carried d)
    ≡ management_after (table_after rules live side live.clock d (Whole Snmp)) side d
planned_is rules live side d way w room =
    ap (λ (image : ℕ → Option ℕ). oid_renamed image live.table.oids (carried d)) (λ i n. planned_at live side d way w room n i)
    ∙ ap (λ (rules : List OidRule). oid_renamed (number_seen (after_both live side d) side) rules (carried d))
    (sym (oids_after live.table (uses_until side (live.clock + UDP_TIMEOUT) (source_of d ∷ destination_of d ∷ []))))

-- a message that the rules rename
pub message_by_rules : {S : Type 0} (rules : SessionRules S) (live : World S) (side : Side) (d : Datagram) (way : Way) (r : Option Refusal)
    (table : Bindings) (sent : List (List ℕ)) → IsWayOf live side d way → is_none (message (carried d)) ≡ false → is_empty way.of_source ≡ false
    → r ≡ first_that_holds ((nat_lt 65507 (length (oid_renamed (number_planned live.table way) live.table.oids (carried d))), SnmpTooLong) ∷ [])
    → table ≡ unless_refused r (after_uses live.table (header_uses way UDP_TIMEOUT)) live.table
    → sent ≡ unless_refused r
    (rebuilt d (image_by way.of_source way.source).0 (image_by way.of_destination way.destination).0
    (oid_renamed (number_planned live.table way) live.table.oids (carried d)) ∷ []) [] → IsTaken rules live side d (Whole Snmp) r table sent
message_by_rules rules live side d way r table sent w good room e t s =
    let planned = oid_renamed (number_planned live.table way) live.table.oids (carried d) in
    let same = planned_is rules live side d way w room in
    let images = are_images live side d way (live.clock + UDP_TIMEOUT) w room in
    let after = after_uses live.table (uses_until side (live.clock + UDP_TIMEOUT) (source_of d ∷ destination_of d ∷ [])) in
    let R : List ℕ → Addr → Addr → List (List ℕ) = λ x a b. unless_refused r (rebuilt d a.0 b.0 x ∷ []) [] in
    record {
      answer =
          e
          ∙ ap (λ (b : Bool). first_by false b (nat_lt 65507 (length planned))) (sym room)
          ∙ first_is rules live side d way (nat_lt 65507 (length planned)) w good (ap (λ (xs : List ℕ). nat_lt 65507 (length xs)) same);
      bound = t ∙ ap (λ (x : Bindings). unless_refused r x live.table) (uses_are live side d way UDP_TIMEOUT w);
      gone = s
          ∙ ap (λ (x : List ℕ). R x (image_by way.of_source way.source) (image_by way.of_destination way.destination)) same
          ∙ ap (λ (a : Addr). R (management_after after side d) a (image_by way.of_destination way.destination)) images.source
          ∙ ap (R (management_after after side d) (called after side (source_of d))) images.destination;
    }

-- the same over an equal table and payload
pub taken_by_rules : {S : Type 0} (rules : SessionRules S) (live : World S) (side : Side) (d : Datagram) (way : Way) (old : Bindings)
    (payload : List ℕ) (r : Option Refusal) (table : Bindings) (sent : List (List ℕ)) → live.table ≡ old → payload ≡ carried d
    → IsWayOf live side d way → is_none (message (carried d)) ≡ false → is_empty way.of_source ≡ false
    → r ≡ first_that_holds ((nat_lt 65507 (length (oid_renamed (number_planned old way) old.oids payload)), SnmpTooLong) ∷ [])
    → table ≡ unless_refused r (after_uses old (header_uses way UDP_TIMEOUT)) old
    → sent ≡ unless_refused r
    (rebuilt d (image_by way.of_source way.source).0 (image_by way.of_destination way.destination).0
    (oid_renamed (number_planned old way) old.oids payload) ∷ []) [] → IsTaken rules live side d (Whole Snmp) r table sent
taken_by_rules rules live side d way old payload r table sent same p w good room =
    let P : Bindings → List ℕ → Type 0 = λ x xs.
    r ≡ first_that_holds ((nat_lt 65507 (length (oid_renamed (number_planned x way) x.oids xs)), SnmpTooLong) ∷ [])
    → table ≡ unless_refused r (after_uses x (header_uses way UDP_TIMEOUT)) x
    → sent ≡ unless_refused r
    (rebuilt d (image_by way.of_source way.source).0 (image_by way.of_destination way.destination).0
    (oid_renamed (number_planned x way) x.oids xs) ∷ []) [] → IsTaken rules live side d (Whole Snmp) r table sent in
    subst (λ (x : Bindings). P x payload) same
    (subst (λ (xs : List ℕ). P live.table xs) (sym p) (message_by_rules rules live side d way r table sent w good room))

-- one where there is no rule
pub message_basic : {S : Type 0} (rules : SessionRules S) (live : World S) (side : Side) (d : Datagram) (way : Way) (table : Bindings)
    (sent : List (List ℕ)) → IsWayOf live side d way → is_none (message (carried d)) ≡ false → is_empty way.of_source ≡ false → live.table.oids ≡ []
    → length (carried d) ≤ 65507
    → table ≡ after_uses live.table (header_uses way UDP_TIMEOUT)
    → sent ≡ rebuilt d (image_by way.of_source way.source).0 (image_by way.of_destination way.destination).0
    (oid_renamed (number_seen table way.side) [] (carried d)) ∷ [] → IsTaken rules live side d (Whole Snmp) None table sent
message_basic rules live side d way table sent w good room none few t s =
    let images = are_images live side d way (live.clock + UDP_TIMEOUT) w room in
    let after = after_uses live.table (uses_until side (live.clock + UDP_TIMEOUT) (source_of d ∷ destination_of d ∷ [])) in
    let bound = t ∙ uses_are live side d way UDP_TIMEOUT w in
    let none_left : after.oids ≡ [] = oids_after live.table (uses_until side (live.clock + UDP_TIMEOUT) (source_of d ∷ destination_of d ∷ []))
    ∙ none in
    let same : oid_renamed (number_seen table way.side) [] (carried d) ≡ management_after after side d =
    ap (λ (x : Bindings). oid_renamed (number_seen x way.side) [] (carried d)) bound
    ∙ ap (λ (x : Side). oid_renamed (number_seen after x) [] (carried d)) w.side_is
    ∙ ap (λ (x : List OidRule). oid_renamed (number_seen after side) x (carried d)) (sym none_left) in
    let short : nat_lt MOST_CARRIED (length (management_after after side d)) ≡ false =
    ap (λ (x : List OidRule). nat_lt 65507 (length (oid_renamed (number_seen after side) x (carried d)))) none_left
    ∙ ap (nat_lt 65507) (message_length (number_seen after side) (carried d))
    ∙ le-ltb 65507 (length (carried d)) few in
    let R : List ℕ → Addr → Addr → List (List ℕ) = λ x a b. rebuilt d a.0 b.0 x ∷ [] in
    record {
      answer = ap (λ (b : Bool). first_by false b false) (sym room) ∙ first_is rules live side d way false w good (sym short);
      bound = bound;
      gone = s
          ∙ ap (λ (x : List ℕ). R x (image_by way.of_source way.source) (image_by way.of_destination way.destination)) same
          ∙ ap (λ (a : Addr). R (management_after after side d) a (image_by way.of_destination way.destination)) images.source
          ∙ ap (R (management_after after side d) (called after side (source_of d))) images.destination;
    }

pub taken_basic : {S : Type 0} (rules : SessionRules S) (live : World S) (side : Side) (d : Datagram) (way : Way) (old : Bindings) (payload : List ℕ)
    (table : Bindings) (sent : List (List ℕ)) → live.table ≡ old → payload ≡ carried d → IsWayOf live side d way
    → is_none (message (carried d)) ≡ false → is_empty way.of_source ≡ false → old.oids ≡ [] → length payload ≤ 65507
    → table ≡ after_uses old (header_uses way UDP_TIMEOUT)
    → sent ≡ rebuilt d (image_by way.of_source way.source).0 (image_by way.of_destination way.destination).0
    (oid_renamed (number_seen table way.side) [] payload) ∷ [] → IsTaken rules live side d (Whole Snmp) None table sent
taken_basic rules live side d way old payload table sent same p w good room =
    let P : Bindings → List ℕ → Type 0 = λ x xs.
    x.oids ≡ [] → length xs ≤ 65507 → table ≡ after_uses x (header_uses way UDP_TIMEOUT)
    → sent ≡ rebuilt d (image_by way.of_source way.source).0 (image_by way.of_destination way.destination).0
    (oid_renamed (number_seen table way.side) [] xs) ∷ [] → IsTaken rules live side d (Whole Snmp) None table sent in
    subst (λ (x : Bindings). P x payload) same
    (subst (λ (xs : List ℕ). P live.table xs) (sym p) (message_basic rules live side d way table sent w good room))

kind_some : {A B : Type 0} (o : Option (A × B)) → IsSome o → IsSome (option_map (λ m. m.0) o)
kind_some None some = absurd (cc)
kind_some (Some found) some = refl

-- what the renaming in place makes of it
pub basic_is : (image : ℕ → Option ℕ) (payload same : List ℕ) → IsSome (message payload) → payload ≡ same
    → renamed_message image (places_of same) same ≡ oid_renamed image [] payload
basic_is image payload same some e = ap (λ (xs : List ℕ). renamed_message image (places_of xs) xs) (sym e)
    ∙ sym (no_rule image payload (kind_some (message payload) some))

pub no_items : {A : Type 0} (xs : List A) → (length xs == 0) ≡ true → xs ≡ []
no_items [] e = refl
no_items (x ∷ xs) e = absurd (omega (arith, eqb-true (length (x ∷ xs)) 0 e))
