-- Datagrams that go out whole, and where memory runs out for them.
use Rattle.std.proofs.Common.{◌≡◌, ℕ, false, List, [], Option, Some, None, refl, sym, ap, ◌∙◌, subst, inl, ◌==◌, Result, Ok, Err, IfOk, OnErr}
use Rattle.gate_base.specs.declared.event.OutOfMemory.{OutOfMemory}
use Rattle.verdicts.specs.declared.refusal.Refusal.{Refusal}
use Rattle.gate_base.specs.declared.side.Side.{Side}
use Rattle.binding_table.specs.Prelude.{Bindings}
use Rattle.ipv4_frames.specs.Ipv4.{Datagram}
use Rattle.verdicts.specs.Prelude.{first_that_holds}
use Rattle.gate_model.specs.Prelude.{Whole, Payload, Kind, Dns, Stream, udp_payload, icmp_payload, kind_of, SessionRules, address_tests, world_tests, World}
use Rattle.event_payloads.specs.Prelude.{IsTaken}
use Rattle.event_payloads.specs.declared.addresses.Way.{Way}
use Rattle.event_segments.specs.Prelude.{IsPassed, refusal_as}
use Rattle.event_segments.proofs.Taking.{IsAllowed, taken_as, told_kinds, udp_is, icmp_is, tcp_is}
use Rattle.event_state.specs.Engines.{Gives}
use Rattle.event_state.specs.Given.{IsGiven}
use Rattle.event_state.specs.Inside.Given.{taken_whole, result_whole}
use Rattle.event_state.specs.Lost.{IsDone, IsDoneBy, IsDoneAs}
use Rattle.event_state.specs.declared.taken.Taken.{Taken}

-- one that no session takes
pub as_whole : {S P A : Type 0} (rules : SessionRules S) (gives : Gives S P A) (told : Option Refusal) (kind : Kind) (live : World S) (side : Side)
    (d : Datagram) (r : Option Refusal) (after : World S) (sent : List (List ℕ))
    → IsPassed rules gives.tells told kind live side d r after (gives.tells.whole sent)
    → IsGiven rules gives told kind live side d (taken_whole r) after sent
as_whole rules gives told kind live side d None after sent h = h
as_whole rules gives told kind live side d (Some r) after sent h = h

taken_done : {S P A : Type 0} (rules : SessionRules S) (gives : Gives S P A) (live after : World S) (side : Side) (d : Datagram) (payload : Payload)
    (res : Result (Option Refusal) OutOfMemory) (table : Bindings) (sent : List (List ℕ)) → after ≡ record live { table = table } →
    IfOk res (λ r. IsTaken rules live side d (Whole payload) r table sent) → OnErr res ((table ≡ live.table) × (sent ≡ []))
    → OnErr res (payload ≡ Dns) → IsDoneAs rules gives (Whole payload) live side d (result_whole res) after sent
taken_done {S = S} rules gives live after side d payload (Ok r) table sent e h m n =
    subst (λ (w : World S). IsGiven rules gives (refusal_as rules (Whole payload) live side d) (Whole payload) live side d (taken_whole r) w sent)
    (sym e)
    (as_whole rules gives (refusal_as rules (Whole payload) live side d) (Whole payload) live side d r (record live { table = table }) sent
    (taken_as rules gives.tells live side d payload r table sent (gives.tells.whole sent) h refl))
taken_done {S = S} rules gives live after side d payload (Err x) table sent e h m n = record {
  same = λ keeps. e ∙ ap (λ (x : Bindings). let w : World S = record live { table = x } in w) m.0;
  nothing = λ keeps. m.1;
  allowed = refl;
  wants = inl (ap Whole n);
}

-- the tests of a datagram whose addresses are not refused are those of its kind
done_of : {S P A : Type 0} (rules : SessionRules S) (gives : Gives S P A) (live after : World S) (side : Side) (d : Datagram) (kind : Kind)
    (res : Result (Taken P) OutOfMemory) (sent : List (List ℕ)) → kind_of d ≡ kind → first_that_holds (address_tests live.table side d) ≡ None →
    IsDoneAs rules gives kind live side d res after sent
    → IsDone rules gives (first_that_holds (world_tests rules live side live.clock d (kind_of d)))
    (first_that_holds (address_tests live.table side d)) live side d res after sent
done_of rules gives live after side d kind res sent is none h =
    subst (λ (k : Kind). IsDoneBy rules gives (first_that_holds (world_tests rules live side live.clock d k))
    (first_that_holds (address_tests live.table side d)) k live side d res after sent) (sym is)
    (subst (λ (o : Option Refusal). IsDoneBy rules gives (first_that_holds (world_tests rules live side live.clock d kind)) o kind live side d res
    after sent) (sym none) (subst (λ (o : Option Refusal). IsDoneBy rules gives o None kind live side d res after sent)
    (told_kinds rules live side d kind none) h))

pub udp_done : {S P A : Type 0} (rules : SessionRules S) (gives : Gives S P A) (live after : World S) (side : Side) (one d : Datagram) (w : Way)
    (res : Result (Option Refusal) OutOfMemory) (table : Bindings) (sent : List (List ℕ)) → IsAllowed live side d w → one ≡ d → d.protocol ≡ 17
    → after ≡ record live { table = table } →
    IfOk res (λ r. IsTaken rules live w.side one (Whole (udp_payload one)) r table sent) → OnErr res ((table ≡ live.table) × (sent ≡ []))
    → OnErr res (udp_payload one ≡ Dns) → IsDone rules gives (first_that_holds (world_tests rules live side live.clock d (kind_of d)))
    (first_that_holds (address_tests live.table side d)) live side d (result_whole res) after sent
udp_done rules gives live after side one d w res table sent a same p e h m n =
    done_of rules gives live after side d (Whole (udp_payload d)) (result_whole res) sent (udp_is d p) a.none
    (subst (λ (x : Side). IsDoneAs rules gives (Whole (udp_payload d)) live x d (result_whole res) after sent) a.one_side
    (subst (λ (x : Datagram). IsDoneAs rules gives (Whole (udp_payload x)) live w.side x (result_whole res) after sent) same
    (taken_done rules gives live after w.side one (udp_payload one) res table sent e h m n)))

pub icmp_done : {S P A : Type 0} (rules : SessionRules S) (gives : Gives S P A) (live after : World S) (side : Side) (one d : Datagram) (w : Way)
    (r : Option Refusal) (table : Bindings) (sent : List (List ℕ)) → IsAllowed live side d w → one ≡ d → (d.protocol == 17) ≡ false
    → (d.protocol == 6) ≡ false → after ≡ record live { table = table } →
    IsTaken rules live w.side one (Whole (icmp_payload one)) r table sent
    → IsDone rules gives (first_that_holds (world_tests rules live side live.clock d (kind_of d)))
    (first_that_holds (address_tests live.table side d)) live side d (Ok (taken_whole r)) after sent
icmp_done rules gives live after side one d w r table sent a same p q e h =
    done_of rules gives live after side d (Whole (icmp_payload d)) (Ok (taken_whole r)) sent (icmp_is d p q) a.none
    (subst (λ (x : Side). IsDoneAs rules gives (Whole (icmp_payload d)) live x d (Ok (taken_whole r)) after sent) a.one_side
    (subst (λ (x : Datagram). IsDoneAs rules gives (Whole (icmp_payload x)) live w.side x (Ok (taken_whole r)) after sent) same
    (taken_done rules gives live after w.side one (icmp_payload one) (Ok r) table sent e h tt tt)))

pub tcp_done : {S P A : Type 0} (rules : SessionRules S) (gives : Gives S P A) (live after : World S) (side : Side) (d : Datagram) (w : Way)
    (res : Result (Taken P) OutOfMemory) (sent : List (List ℕ)) → IsAllowed live side d w → d.protocol ≡ 6 →
    IsDoneAs rules gives Stream live w.side d res after sent
    → IsDone rules gives (first_that_holds (world_tests rules live side live.clock d (kind_of d)))
    (first_that_holds (address_tests live.table side d)) live side d res after sent
tcp_done rules gives live after side d w res sent a p h =
    done_of rules gives live after side d Stream res sent (tcp_is d p) a.none
    (subst (λ (x : Side). IsDoneAs rules gives Stream live x d res after sent) a.one_side h)
