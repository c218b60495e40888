-- What a segment's session lists isn't unbound, nor are both addresses of its header.
use Rattle.std.proofs.Common.{◌≡◌, ◌≢◌, List, [], ◌∷◌, map, Option, Some, None, sym, ap, subst, ◌∙◌, IfSome, unwrap_or}
use Rattle.std.specs.List.{AllByRecursion}
use Rattle.std.proofs.lemmas.List.Elements.{All-nil, All-cons}
use Rattle.gate_base.specs.declared.address.Addr.{Addr}
use Rattle.gate_base.specs.declared.side.Side.{Side}
use Rattle.binding_table.specs.Prelude.{Bindings, cross, seen_by, is_settled}
use Rattle.binding_table.specs.declared.binding.Crossing.TheVariants.{Unbound}
use Rattle.dialogue.specs.Prelude.{Entry}
use Rattle.ipv4_frames.specs.Ipv4.{Datagram}
use Rattle.tcp_tracker.specs.Prelude.{connection_of}
use Rattle.tcp_tracker.specs.declared.connection.ConnKey.{ConnKey}
use Rattle.tcp_tracker.specs.declared.connection.Connection.{Connection}
use Rattle.gate_model.specs.Prelude.{KeepsListed, ListsCross, EntryCrosses, session_in, Tracked, World, host_on, source_of, SessionRules}
use Rattle.gate_model.proofs.ListsWorld.{lists_cross, sender_side}
use Rattle.gate_model.proofs.Tracking.{all_found}
use Rattle.gate_model.proofs.ListsKept.{known_unbound}
use Rattle.event_payloads.specs.Prelude.{IsWayOf}
use Rattle.event_payloads.specs.declared.addresses.Way.{Way}
use Rattle.event_payloads.proofs.DnsTaken.{settled_bound}
use Rattle.dns_plans.specs.Prelude.{AreBound, IsListBound}

crosses_bound : (table : Bindings) (side : Side) (entry : Entry) → EntryCrosses table side entry → cross table side entry.0 ≢ Unbound
crosses_bound table side entry h u = let none : None ≡ Some (unwrap_or entry.1 entry.0) = sym (ap (seen_by entry.0) u) ∙ h in absurd (cc)

entries_bound : (table : Bindings) (side : Side) (es : List Entry) → AllByRecursion (EntryCrosses table side) es → IsListBound table side es
entries_bound table side [] h = All-nil (λ (address : Addr). cross table side address ≢ Unbound)
entries_bound table side (e ∷ es) h =
    All-cons (λ (address : Addr). cross table side address ≢ Unbound) e.0 (map (λ (entry : Entry). entry.0) es) (crosses_bound table side e h.0)
    (entries_bound table side es h.1)

by_found : {S : Type 0} (rules : SessionRules S) (table : Bindings) (t : Tracked S) (o : Option (Connection (Tracked S)))
    → IfSome o (λ c. IfSome c.session (ListsCross rules table)) → session_in o ≡ Some t → ListsCross rules table t
by_found rules table t None h e = absurd (cc)
by_found {S = S} rules table t (Some c) h e = subst (λ (s : Option (Tracked S)). IfSome s (ListsCross rules table)) e h

pub listed_bound : {S : Type 0} (rules : SessionRules S) (live : World S) (side : Side) (key : ConnKey) (t : Tracked S) → KeepsListed rules live
    → session_in (connection_of key live.connections) ≡ Some t → IsListBound live.table side (rules.listed (host_on side t) t.session)
listed_bound rules live side key t k e =
    let crosses =
    by_found rules live.table t (connection_of key live.connections)
    (all_found (λ c. IfSome c.session (ListsCross rules live.table)) key live.connections (lists_cross rules live k)) e in
    let f = host_on side t in
    entries_bound live.table side (rules.listed f t.session)
    (subst (λ (s : Side). AllByRecursion (EntryCrosses live.table s) (rules.listed f t.session)) (sender_side t side) (crosses f))

pub header_bound : {S : Type 0} (live : World S) (d : Datagram) (way : Way) → IsWayOf live way.side d way
    → AreBound live.table way.side (way.source ∷ way.destination ∷ [])
header_bound live d way w =
    let P : Addr → Type 0 = λ address. cross live.table way.side address ≢ Unbound in
    let source = subst P (sym w.source_is) (known_unbound live.table way.side (source_of d) w.outside) in
    All-cons P way.source (way.destination ∷ []) source
    (All-cons P way.destination []
    (settled_bound (cross live.table way.side way.destination) (ap is_settled (sym w.crossings.destination) ∙ w.settled)) (All-nil P))
