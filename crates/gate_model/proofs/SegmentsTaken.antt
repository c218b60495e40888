-- What the world sends for a segment that a session takes is what the session says, and the session goes on by it.
use Rattle.std.proofs.Common.{◌≡◌, ◌<◌, ℕ, Bool, true, false, nat_lt, cond, List, [], ◌∷◌, length, position, Option, Some, None}
use Rattle.std.proofs.Common.{option_map, refl, sym, ◌∙◌, ap, subst, arith, option_and_then, slice_get, IfSome, ltb-true, map}
use Rattle.std.specs.List.{find, position_or_len}
use Rattle.std.specs.Option.{option_or}
use Rattle.std.proofs.lemmas.List.Folds.{find-set, find-append}
use Rattle.gate_base.specs.Prelude.{Event}
use Rattle.verdicts.specs.declared.verdict.Verdict.{Verdict}
use Rattle.tcp_tracker.specs.Prelude.{is_of, place_of, connection_of, changed}
use Rattle.tcp_tracker.specs.declared.connection.ConnKey.{ConnKey}
use Rattle.tcp_tracker.specs.declared.connection.Connection.{Connection}
use Rattle.tcp_tracker.proofs.Names.{find_by_place}
use Rattle.gate_model.specs.Prelude.{Kind, Stream, datagram_in, SessionRules, Tracked, World, at_moment, key_in, found_in}
use Rattle.gate_model.specs.Prelude.{stepped, connection_after, table_after, image_in, taker_in, stream_out, out_kind, out_by}
use Rattle.gate_model.specs.Prelude.{out, after_kind, next_by, next, TakesSegment, called, source_of, destination_of}
use Rattle.gate_model.proofs.HostsKept.{IsLeft, left_of, found_is}
use Rattle.gate_model.specs.Stream.{sent_as}
use Rattle.gate_model.specs.Taken.{segments_for, said}

kind_out : {S : Type 0} (rules : SessionRules S) (w : World S) (e : Event) (t : Tracked S) → TakesSegment rules w e t
    → out rules w e ≡ out_kind rules (at_moment w e.moment) e.side e.moment (datagram_in e) Stream
kind_out rules w e t k = ap (out_by rules (at_moment w e.moment) e) k.passes
    ∙ ap (out_kind rules (at_moment w e.moment) e.side e.moment (datagram_in e)) k.stream

pub taken_out : {S : Type 0} (rules : SessionRules S) (w : World S) (e : Event) (t : Tracked S) → TakesSegment rules w e t
    → out rules w e ≡ said rules w e t
taken_out rules w e t k =
    let live = at_moment w e.moment in
    let d = datagram_in e in
    let table = table_after rules live e.side e.moment d Stream in
    kind_out rules w e t k
    ∙ ap (stream_out rules (image_in rules live e.side e.moment d) e.side d (called table e.side (source_of d)).0
    (called table e.side (destination_of d)).0) k.taker
    ∙ ap (λ (kind : Kind). let after = table_after rules live e.side e.moment d kind in
    map (sent_as d (called after e.side (source_of d)).0 (called after e.side (destination_of d)).0) (segments_for rules w e t)) (sym k.stream)

-- ## What is found afterwards

place_is : {A : Type 0} (p : A → Bool) (xs : List A) (i : ℕ) → position p xs ≡ Some i → (i ≡ position_or_len p xs) × (i < length xs)
place_is {A = A} p xs i e = by_test (nat_lt (position_or_len p xs) (length xs)) refl e
  where
    by_test : (b : Bool) → nat_lt (position_or_len p xs) (length xs) ≡ b → cond b (Some (position_or_len p xs)) None ≡ Some i
        → (i ≡ position_or_len p xs) × (i < length xs)
    by_test true h e = let same : position_or_len p xs ≡ i = cc in (sym same, omega (arith, ltb-true (position_or_len p xs) (length xs) h))
    by_test false h e = absurd (cc)

-- a connection of this name that was put in its place is found there
changed_found : {S : Type 0} (key : ConnKey) (all : List (Connection (Tracked S))) (c : Connection (Tracked S)) → is_of key c ≡ true
    → connection_of key (changed all (place_of key all) (Some c)) ≡ Some c
changed_found {S = S} key all c named = find_by_place (is_of key) (changed all (place_of key all) (Some c)) ∙ by_place (place_of key all) refl
  where
    by_place : (o : Option ℕ) → place_of key all ≡ o → find (is_of key) (changed all o (Some c)) ≡ Some c
    by_place None e =
        let none : find (is_of key) all ≡ None = sym (find_by_place (is_of key) all) ∙ ap (option_and_then (slice_get all)) e in
        find-append (is_of key) all (c ∷ []) ∙ ap (λ (o : Option (Connection (Tracked S))). option_or o (find (is_of key) (c ∷ []))) none
        ∙ ap (λ (b : Bool). cond b (Some c) None) named
    by_place (Some i) e = let at = place_is (is_of key) all i e in find-set (is_of key) all i c at.0 at.1 named

-- the session that takes a segment goes on by it, unless it ends
connections_are : {S : Type 0} (rules : SessionRules S) (w : World S) (e : Event) (t : Tracked S) → TakesSegment rules w e t → let live =
    at_moment w e.moment in let d = datagram_in e in
    (next rules w e).connections ≡ changed live.connections (place_of (key_in live.table e.side d) live.connections)
    (connection_after rules (image_in rules live e.side e.moment d) live e.side e.moment d (taker_in rules live e.side e.moment d))
connections_are {S = S} rules w e t k =
    ap (λ (v : Verdict). (next_by rules (at_moment w e.moment) e v).connections) k.passes
    ∙ ap (λ (kind : Kind). (after_kind rules (at_moment w e.moment) e.side e.moment (datagram_in e) kind).connections) k.stream

pub taken_next : {S : Type 0} (rules : SessionRules S) (w : World S) (e : Event) (t : Tracked S) (c : Connection (Tracked S))
    → TakesSegment rules w e t → let live = at_moment w e.moment in let d = datagram_in e in
    let image = image_in rules live e.side e.moment d in
    connection_after rules image live e.side e.moment d (taker_in rules live e.side e.moment d) ≡ Some c
    → (connection_of (key_in live.table e.side d) (next rules w e).connections ≡ Some c) × (c.session ≡ Some (stepped rules image e.side d t))
taken_next {S = S} rules w e t c k is =
    let live = at_moment w e.moment in
    let d = datagram_in e in
    let key = key_in live.table e.side d in
    let taker = taker_in rules live e.side e.moment d in
    let image = image_in rules live e.side e.moment d in
    let found = found_is {S = S} (λ x. Unit {0}) key live.connections (λ n x lt. tt) in
    let left : IsLeft rules image live e.side e.moment d taker c = only (connection_after rules image live e.side e.moment d taker) is
    (left_of rules image live e.side e.moment d (table_after rules live e.side e.moment d Stream) (found_in live e.side d) refl
    (named (found_in live e.side d) found)) in (
      ap (connection_of key) (connections_are rules w e t k ∙ ap (changed live.connections (place_of key live.connections)) is)
          ∙ changed_found key live.connections c left.named,
      left.session ∙ ap (option_map (stepped rules image e.side d)) k.taker,
    )
  where
    only : (o : Option (Connection (Tracked S))) → o ≡ Some c → IfSome o
        (IsLeft rules (image_in rules (at_moment w e.moment) e.side e.moment (datagram_in e)) (at_moment w e.moment) e.side e.moment (datagram_in e)
        (taker_in rules (at_moment w e.moment) e.side e.moment (datagram_in e)))
        → IsLeft rules (image_in rules (at_moment w e.moment) e.side e.moment (datagram_in e)) (at_moment w e.moment) e.side e.moment (datagram_in e)
        (taker_in rules (at_moment w e.moment) e.side e.moment (datagram_in e)) c
    only None q h = absurd (cc)
    only (Some x) q h = let same : x ≡ c = cc in
        subst (IsLeft rules (image_in rules (at_moment w e.moment) e.side e.moment (datagram_in e)) (at_moment w e.moment) e.side e.moment
        (datagram_in e) (taker_in rules (at_moment w e.moment) e.side e.moment (datagram_in e))) same h

    named : (o : Option (Connection (Tracked S)))
        → IfSome o (λ x. Unit {0} × (is_of (key_in (at_moment w e.moment).table e.side (datagram_in e)) x ≡ true))
        → IfSome o (λ x. is_of (key_in (at_moment w e.moment).table e.side (datagram_in e)) x ≡ true)
    named None h = tt
    named (Some x) h = h.1
