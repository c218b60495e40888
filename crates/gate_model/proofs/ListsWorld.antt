-- Over all events: what the lists of sessions rename stays bound while their connections live.
use Rattle.std.proofs.Common.{◌≡◌, ◌≢◌, ◌≤◌, ◌<◌, ℕ, ◌+◌, Bool, true, false, not, nat_lt, if◌then◌else◌, cond, List, [], ◌∷◌, ◌++◌, length, All, Option, Some, None, option_map, refl, sym, ◌∙◌, ap, subst, arith, IfSome, append-nil}
use Rattle.gate_base.specs.Prelude.{Event, other, same_side, peer}
use Rattle.verdicts.specs.Prelude.{unless_refused}
use Rattle.std.specs.List.{fold, list_any, AllByRecursion}
use Rattle.std.proofs.lemmas.Bool.{and_parts, not-false, ltb-false, ltb-true, and_left}
use Rattle.std.proofs.lemmas.List.Elements.{All-weaker, All-nil, All-head, All-tail, All-cons}
use Rattle.gate_base.specs.declared.address.Addr.{Addr}
use Rattle.verdicts.specs.declared.verdict.Verdict.{Verdict}
use Rattle.verdicts.specs.declared.verdict.Verdict.TheVariants.{Pass, Refused, Held}
use Rattle.verdicts.specs.declared.refusal.Refusal.{Refusal}
use Rattle.verdicts.specs.declared.refusal.Refusal.TheVariants.{SourceInPool, NoBinding}
use Rattle.gate_base.specs.declared.side.Side.{Side}
use Rattle.gate_base.specs.declared.side.Side.TheVariants.{Left, Right}
use Rattle.gate_settings.specs.Prelude.{HasForms, IsSound}
use Rattle.gate_settings.specs.declared.settings.Settings.{Settings}
use Rattle.dialogue.specs.Prelude.{Entry, is_listed}
use Rattle.binding_table.specs.declared.binding.Crossing.TheVariants.{Unbound}
use Rattle.binding_table.specs.Prelude.{Bindings, in_pool, free, cross, seen_by, expired, opening, IsLawful, Use, after_uses, image_after, needed}
use Rattle.binding_table.proofs.Kept.{lawful_expired}
use Rattle.ipv4_frames.specs.Ipv4.{Datagram}
use Rattle.stream_model.specs.Prelude.{Segment, own}
use Rattle.tcp_segments.specs.Prelude.{flags_of}
use Rattle.tcp_tracker.specs.Prelude.{is_of, place_of, live}
use Rattle.tcp_tracker.specs.declared.connection.Connection.{Connection}
use Rattle.gate_model.specs.Prelude.{Whole, is_tracked_port, Kind, Stream, datagram_in, kind_of, IsImage, IsEntryBound, HasLists, KeepsListed}
use Rattle.gate_model.specs.Prelude.{EntryCrosses, ListsCross, Lists, with_list, addresses_in, entered, is_bad, SessionRules}
use Rattle.dialogue.specs.declared.TheConstants.{MOST_ENTRIES}
use Rattle.gate_model.specs.Prelude.{whole_rules, entries_by, units_by, completed, Tracked, World, at_moment, called, source_of, destination_of}
use Rattle.gate_model.specs.Prelude.{addresses_of, host_on, opening_world, tcp_of, segment_of, is_opening, key_in, found_in, session_in, begins}
use Rattle.gate_model.specs.Prelude.{made_by, taker_by, session_refusal, stepped, stream_timeout, connection_after, uses_until, units_in, names_in}
use Rattle.gate_model.specs.Prelude.{entries_after, uses_of_lists, is_new_unbound, unit_tests, uses_of, table_after, image_in, is_reachable, verdict}
use Rattle.gate_model.specs.Prelude.{taker_in, after_kind, next_by, next, EachTracked}
use Rattle.gate_model.specs.Held.{side_of, ListsAreBound, KeepsLists, ListsAreFew}
use Rattle.verdicts.specs.declared.refusal.Refusal.TheVariants.{BadUnit, UnitUnbound, RenamesFull}
use Rattle.gate_base.proofs.Hosts.{both}
use Rattle.gate_base.specs.declared.host.Host.{Host}
use Rattle.gate_base.specs.declared.host.Host.TheVariants.{Client, Server}
use Rattle.gate_model.proofs.BoundTables.{lawful_after}
use Rattle.gate_model.proofs.BoundUses.{far_known}
use Rattle.gate_model.proofs.HostsKept.{IsLeft, left_of, found_is, known_back, table_is}
use Rattle.gate_model.proofs.HostsOpen.{opening_is_lawful}
use Rattle.gate_model.proofs.ListsBound.{as_seen, entries_later, entries_expired, names_bound_once, seen_bound}
use Rattle.gate_model.proofs.Entering.{entered_more}
use Rattle.dns_stream.specs.Prelude.{image_in as listed_image, image-stays}
use Rattle.gate_model.proofs.ListsKept.{Listing, table_with, ListsLast, lists_last, entered_bound, same_cross, known_unbound}
use Rattle.gate_model.proofs.Passing.{NoneHolds, none_head, none_tail, Passes, passes, StreamPasses, stream_passes}
use Rattle.gate_model.proofs.Tracking.{all_changed, Keeps, run_keeps}
use Rattle.gate_model.proofs.Completing.{none_completed}

-- ## Sessions over whole lists have lists

pub made_at : (b : Bool) (host : Host) → entries_by (if b then Some (record { client = []; server = [] }) else None) host ≡ []
made_at true Client = refl
made_at true Server = refl
made_at false host = refl

pub own_at : (lists : Option Lists) (image : Addr → Option Addr) (f : Host) (units : List (List ℕ))
    → entries_by (option_map (with_list f (entered image (entries_by lists f) (addresses_in (units_by lists units)))) lists) f ≡ entered image
    (entries_by lists f) (addresses_in (units_by lists units))
own_at None image f units = refl
own_at (Some l) image Client units = refl
own_at (Some l) image Server units = refl

pub other_at : (lists : Option Lists) (f : Host) (es : List Entry)
    → entries_by (option_map (with_list f es) lists) (peer f) ≡ entries_by lists (peer f)
other_at None f es = refl
other_at (Some l) Client es = refl
other_at (Some l) Server es = refl

pub no_units : (lists : Option Lists) (units : List (List ℕ)) → units ≡ [] → units_by lists units ≡ []
no_units None units e = refl
no_units (Some l) units e = e

pub whole_lists : HasLists whole_rules
whole_lists = record {
  made = λ port pair initial mss host. made_at _ host;
  own = λ image f x g. own_at x.lists image f (completed (own f x.session) g);
  other = λ image f x g. other_at x.lists f (entered image (entries_by x.lists f) (addresses_in (units_by x.lists (completed (own f x.session) g))));
  syn = λ f x g syn. no_units x.lists (completed (own f x.session) g)
      (none_completed (own f x.session) g (and_left (not g.flags.syn) (not g.flags.reset) (ap not syn)));
}

-- ## Any connection, as time goes on and by uses

lists_expired : {S : Type 0} (rules : SessionRules S) (table : Bindings) (now : ℕ) (c : Connection (Tracked S)) → now < c.until.0
    → KeepsLists rules table c → KeepsLists rules (expired table (record { 0 = now })) c
lists_expired {S = S} rules table now c less h = by_session c.session h
  where
    by_session : (o : Option (Tracked S)) → IfSome o (ListsAreBound rules table c.until.0)
        → IfSome o (ListsAreBound rules (expired table (record { 0 = now })) c.until.0)
    by_session None k = tt
    by_session (Some t) k = λ host. entries_expired table (side_of host t) c.until.0 now (rules.listed host t.session) less (k host)

lists_live : {S : Type 0} (rules : SessionRules S) (table : Bindings) (now : ℕ) (all : List (Connection (Tracked S)))
    → All (KeepsLists rules table) all → All (KeepsLists rules (expired table (record { 0 = now }))) (live (record { 0 = now }) all)
lists_live {S = S} rules table now [] h = All-nil (KeepsLists rules (expired table (record { 0 = now })))
lists_live {S = S} rules table now (c ∷ all) h =
    by_test (nat_lt now c.until.0) refl (lists_live rules table now all (All-tail (KeepsLists rules table) c all h))
  where
    by_test : (b : Bool) → nat_lt now c.until.0 ≡ b → All (KeepsLists rules (expired table (record { 0 = now }))) (live (record { 0 = now }) all)
        → All (KeepsLists rules (expired table (record { 0 = now }))) (cond b (c ∷ live (record { 0 = now }) all) (live (record { 0 = now }) all))
    by_test true e more =
        All-cons (KeepsLists rules (expired table (record { 0 = now }))) c (live (record { 0 = now }) all)
        (lists_expired rules table now c (ltb-true now c.until.0 e) (All-head (KeepsLists rules table) c all h)) more
    by_test false e more = more

lists_later : {S : Type 0} (rules : SessionRules S) (uses : List Use) (table : Bindings) (c : Connection (Tracked S)) → IsLawful table
    → KeepsLists rules table c → KeepsLists rules (after_uses table uses) c
lists_later {S = S} rules uses table c lawful h = by_session c.session h
  where
    by_session : (o : Option (Tracked S)) → IfSome o (ListsAreBound rules table c.until.0)
        → IfSome o (ListsAreBound rules (after_uses table uses) c.until.0)
    by_session None k = tt
    by_session (Some t) k = λ host. entries_later uses table (side_of host t) c.until.0 (rules.listed host t.session) lawful (k host)

lists_used : {S : Type 0} (rules : SessionRules S) (table : Bindings) (uses : List Use) (all : List (Connection (Tracked S))) → IsLawful table
    → All (KeepsLists rules table) all → All (KeepsLists rules (after_uses table uses)) all
lists_used rules table uses all lawful h =
    All-weaker (KeepsLists rules table) (KeepsLists rules (after_uses table uses)) (λ c k. lists_later rules uses table c lawful k) all h

-- ## The lists after a segment

-- who sends it has its new list, and who takes it the old one
abbrev list_after : {S : Type 0} → SessionRules S → (Addr → Option Addr) → Host → S → Segment → List Entry
list_after rules image f s g = entered image (rules.listed f s) (addresses_in (rules.units f s g))

both_listed : {S : Type 0} (rules : SessionRules S) → HasLists rules → (P : Host → List Entry → Type 0) (image : Addr → Option Addr) (f : Host)
    (s : S) (g : Segment) → P f (list_after rules image f s g) → P (peer f) (rules.listed (peer f) s) → (host : Host)
    → P host (rules.listed host (rules.next image f s g))
both_listed rules has P image f s g mine theirs =
    both (λ (h : Host). P h (rules.listed h (rules.next image f s g))) f
    (subst (P f) (sym (has.own image f s g)) mine)
    (subst (P (peer f)) (sym (has.other image f s g)) theirs)

-- who sends a segment is of its realm
pub sender_side : {S : Type 0} (t : Tracked S) (side : Side) → side_of (host_on side t) t ≡ side
sender_side t side = by_sides t.client side
  where
    by_sides : (one two : Side) → side_of (cond (same_side one two) Client Server) (record t { client = one }) ≡ two
    by_sides Left Left = refl
    by_sides Left Right = refl
    by_sides Right Left = refl
    by_sides Right Right = refl

-- ## The connection that is left

-- a session that takes a segment, and its connection
record TakesWith {S : Type 0} (rules : SessionRules S) (live : World S) (side : Side) (moment : ℕ) (d : Datagram) (t : Tracked S)
    (sooner : ℕ) : Type 0 where
  holder : session_in (found_in live side d) ≡ Some t
  lawful : IsLawful live.table
  lists : ListsAreBound rules live.table sooner t
  bound : list_any (is_new_unbound live.table side (rules.listed (host_on side t) t.session)) (names_in rules side d (Some t)) ≡ false
  names : names_in rules side d (Some t) ≡ addresses_in (rules.units (host_on side t) t.session (segment_of d))

session_keeps : {S : Type 0} (rules : SessionRules S) → HasLists rules → (live : World S) (side : Side) (moment : ℕ) (d : Datagram)
    → Passes rules live side moment d Stream → (t : Tracked S) (sooner : ℕ) → TakesWith rules live side moment d t sooner
    → ListsAreBound rules (table_after rules live side moment d Stream) (moment + stream_timeout rules live side d)
    (stepped rules (image_in rules live side moment d) side d t)
session_keeps {S = S} rules has live side moment d p t sooner k = by_sender (host_on side t) refl
  where
    until : ℕ
    until = moment + stream_timeout rules live side d

    listing : Listing
    listing = record {
      table = live.table;
      side = side;
      until = moment + stream_timeout rules live side d;
      header = addresses_of d;
      names = names_in rules side d (Some t);
      client = t.client;
      one = rules.listed Client t.session;
      two = rules.listed Server t.session;
    }

    same_table : table_after rules live side moment d Stream ≡ table_with listing
    same_table =
        ap (λ (o : Option (Tracked S)). after_uses live.table
        (uses_until side (moment + stream_timeout rules live side d) (addresses_of d)
        ++ (uses_until side (moment + stream_timeout rules live side d) (names_in rules side d o) ++ uses_of_lists rules
        (moment + stream_timeout rules live side d) o))) k.holder

    outside : in_pool live.table side (source_of d) ≡ false
    outside =
        none_head {test = (in_pool live.table side (source_of d), SourceInPool)}
        {more = (not (is_reachable live.table side (destination_of d)), NoBinding) ∷ []} p.address

    reach : is_reachable live.table side (destination_of d) ≡ true
    reach = not-false _
        (none_head {test = (not (is_reachable live.table side (destination_of d)), NoBinding)} {more = []}
        (none_tail {test = (in_pool live.table side (source_of d), SourceInPool)}
        {more = (not (is_reachable live.table side (destination_of d)), NoBinding) ∷ []} p.address))

    far : cross live.table side (destination_of d) ≢ Unbound
    far = seen_bound live.table side (destination_of d) (called live.table side (destination_of d))
        (known_back live.table side (called live.table side (destination_of d)).0 d.destination 0 k.lawful
        (far_known live.table side d.destination k.lawful reach))

    names_bound : (f : Host) → host_on side t ≡ f → All (λ address. cross live.table side address ≢ Unbound) (names_in rules side d (Some t))
    names_bound f e =
        names_bound_once live.table side sooner (rules.listed f t.session) (names_in rules side d (Some t)) k.lawful
        (subst (λ (s : Side). AllByRecursion (IsEntryBound live.table s sooner) (rules.listed f t.session))
        (ap (λ (h : Host). side_of h t) (sym e) ∙ sender_side t side) (k.lists f))
        (subst (λ (x : Host). list_any (is_new_unbound live.table side (rules.listed x t.session)) (names_in rules side d (Some t)) ≡ false) e
        k.bound)

    room : needed live.table side (addresses_of d ++ names_in rules side d (Some t)) ≤ free live.table (other side)
    room = ltb-false _ _
        (subst (λ (o : Option (Tracked S)). nat_lt (free live.table (other side)) (needed live.table side (addresses_of d ++ names_in rules side d o))
        ≡ false) k.holder p.pool)

    last : (f : Host) → host_on side t ≡ f → ListsLast listing
    last f e =
        lists_last listing sooner k.lawful (k.lists Client) (k.lists Server)
        (All-cons (λ address. cross live.table side address ≢ Unbound) (source_of d) (destination_of d ∷ names_in rules side d (Some t))
        (known_unbound live.table side (source_of d) outside)
        (All-cons (λ address. cross live.table side address ≢ Unbound) (destination_of d) (names_in rules side d (Some t)) far (names_bound f e)))
        room

    -- what holds of both lists before the names are entered
    old : (f : Host) → host_on side t ≡ f → (host : Host)
        → AllByRecursion (IsEntryBound (table_after rules live side moment d Stream) (side_of host t) (moment + stream_timeout rules live side d))
        (rules.listed host t.session)
    old f e Client =
        subst (λ (x : Bindings). AllByRecursion (IsEntryBound x t.client (moment + stream_timeout rules live side d)) (rules.listed Client t.session))
        (sym same_table) (last f e).one
    old f e Server =
        subst (λ (x : Bindings). AllByRecursion (IsEntryBound x (other t.client) (moment + stream_timeout rules live side d))
        (rules.listed Server t.session)) (sym same_table) (last f e).two

    named : (f : Host) → host_on side t ≡ f
        → AllByRecursion
        (λ a. IsImage (table_after rules live side moment d Stream) side (moment + stream_timeout rules live side d) a
        (image_in rules live side moment d a)) (addresses_in (rules.units f t.session (segment_of d)))
    named f e =
        subst (λ (ns : List Addr). AllByRecursion
        (λ a. IsImage (table_after rules live side moment d Stream) side (moment + stream_timeout rules live side d) a
        (image_in rules live side moment d a)) ns) (k.names ∙ ap (λ (x : Host). addresses_in (rules.units x t.session (segment_of d))) e)
        (subst (λ (x : Bindings). AllByRecursion (λ a. IsImage x side (moment + stream_timeout rules live side d) a (image_after live.table x side a))
        (names_in rules side d (Some t))) (sym same_table) (last f e).names)

    mine : (f : Host) → host_on side t ≡ f
        → AllByRecursion (IsEntryBound (table_after rules live side moment d Stream) (side_of f t) (moment + stream_timeout rules live side d))
        (list_after rules (image_in rules live side moment d) f t.session (segment_of d))
    mine f e =
        subst (λ (s : Side). AllByRecursion (IsEntryBound (table_after rules live side moment d Stream) s (moment + stream_timeout rules live side d))
        (list_after rules (image_in rules live side moment d) f t.session (segment_of d)))
        (sym (ap (λ (h : Host). side_of h t) (sym e) ∙ sender_side t side))
        (entered_bound (table_after rules live side moment d Stream) side (moment + stream_timeout rules live side d)
        (image_in rules live side moment d) (rules.listed f t.session) (addresses_in (rules.units f t.session (segment_of d)))
        (subst (λ (s : Side). AllByRecursion
        (IsEntryBound (table_after rules live side moment d Stream) s (moment + stream_timeout rules live side d)) (rules.listed f t.session))
        (ap (λ (h : Host). side_of h t) (sym e) ∙ sender_side t side) (old f e f)) (named f e))

    by_sender : (f : Host) → host_on side t ≡ f → (host : Host)
        → AllByRecursion (IsEntryBound (table_after rules live side moment d Stream)
        (side_of host (stepped rules (image_in rules live side moment d) side d t)) (moment + stream_timeout rules live side d))
        (rules.listed host (rules.next (image_in rules live side moment d) (host_on side t) t.session (segment_of d)))
    by_sender f e host = subst
        (λ (x : Host). AllByRecursion
        (IsEntryBound (table_after rules live side moment d Stream) (side_of host (stepped rules (image_in rules live side moment d) side d t))
        (moment + stream_timeout rules live side d)) (rules.listed host (rules.next (image_in rules live side moment d) x t.session (segment_of d))))
        (sym e)
        (same_sides host
        (both_listed rules has
        (λ c es. AllByRecursion
        (IsEntryBound (table_after rules live side moment d Stream) (side_of c t) (moment + stream_timeout rules live side d)) es)
        (image_in rules live side moment d) f t.session (segment_of d) (mine f e) (old f e (peer f)) host))
      where
        same_sides : (c : Host)
            → AllByRecursion (IsEntryBound (table_after rules live side moment d Stream) (side_of c t) (moment + stream_timeout rules live side d))
            (rules.listed c (rules.next (image_in rules live side moment d) f t.session (segment_of d)))
            → AllByRecursion
            (IsEntryBound (table_after rules live side moment d Stream) (side_of c (stepped rules (image_in rules live side moment d) side d t))
            (moment + stream_timeout rules live side d))
            (rules.listed c (rules.next (image_in rules live side moment d) f t.session (segment_of d)))
        same_sides Client h = h
        same_sides Server h = h

-- a session that begins has no lists
begun_keeps : {S : Type 0} (rules : SessionRules S) → HasLists rules
    → (image : Addr → Option Addr) (table later : Bindings) (side : Side) (until : ℕ) (d : Datagram) (b : Bool) → begins {S = S} None d ≡ b
    → IfSome (option_map (stepped rules image side d) (if b then Some (made_by rules table side d) else None)) (ListsAreBound rules later until)
begun_keeps rules has image table later side until d false e = tt
begun_keeps {S = S} rules has image table later side until d true e =
    λ host. subst (λ (es : List Entry). AllByRecursion
    (IsEntryBound later (side_of host (stepped rules image side d (made_by rules table side d))) until) es) (sym (none host)) tt
  where
    syn : (segment_of d).flags.syn ≡ true
    syn =
        let opens = (and_parts (is_opening (tcp_of d).flags) (is_tracked_port (tcp_of d).destination_port) e).0 in
        (and_parts (flags_of (tcp_of d).flags).syn (not (flags_of (tcp_of d).flags).ack) opens).0

    made : S
    made = (made_by rules table side d).session

    empty : (host : Host) → rules.listed host (made_by rules table side d).session ≡ []
    empty host = has.made (tcp_of d).destination_port (made_by rules table side d).pair (tcp_of d).sequence (tcp_of d).mss host

    none : (host : Host)
        → rules.listed host (rules.next image (host_on side (made_by rules table side d)) (made_by rules table side d).session (segment_of d)) ≡ []
    none host =
        both_listed rules has (λ c es. es ≡ []) image (host_on side (made_by rules table side d)) (made_by rules table side d).session (segment_of d)
        (ap (λ (es : List Entry). entered image es
        (addresses_in (rules.units (host_on side (made_by rules table side d)) (made_by rules table side d).session (segment_of d))))
        (empty (host_on side (made_by rules table side d)))
        ∙ ap (λ (us : List (List ℕ)). entered image [] (addresses_in us))
        (has.syn (host_on side (made_by rules table side d)) (made_by rules table side d).session (segment_of d) syn))
        (empty (peer (host_on side (made_by rules table side d)))) host

left_lists : {S : Type 0} (rules : SessionRules S) → HasLists rules → (live : World S) (side : Side) (moment : ℕ) (d : Datagram)
    → Passes rules live side moment d Stream → IsLawful live.table → (found : Option (Connection (Tracked S))) → found_in live side d ≡ found
    → IfSome found (λ e. KeepsLists rules live.table e × (is_of (key_in live.table side d) e ≡ true)) → (c : Connection (Tracked S))
    → IsLeft rules (image_in rules live side moment d) live side moment d
    (taker_by rules (table_after rules live side moment d Stream) side d found) c
    → KeepsLists rules (table_after rules live side moment d Stream) c
left_lists {S = S} rules has live side moment d p lawful found f kept c left =
    subst (λ (o : Option (Tracked S)). IfSome o (ListsAreBound rules (table_after rules live side moment d Stream) c.until.0)) (sym left.session)
    (subst (λ (n : ℕ). IfSome
    (option_map (stepped rules (image_in rules live side moment d) side d)
    (taker_by rules (table_after rules live side moment d Stream) side d found))
    (ListsAreBound rules (table_after rules live side moment d Stream) n)) (sym left.until)
    (by_found found f kept))
  where
    s : StreamPasses rules live side moment d
    s = stream_passes rules live side moment d p.content

    by_session : (o : Option (Tracked S)) → session_in (found_in live side d) ≡ o → taker_in rules live side moment d ≡ o → (sooner : ℕ)
        → IfSome o (ListsAreBound rules live.table sooner)
        → IfSome (option_map (stepped rules (image_in rules live side moment d) side d) o)
        (ListsAreBound rules (table_after rules live side moment d Stream) (moment + stream_timeout rules live side d))
    by_session None h t sooner k = tt
    by_session (Some t) h taker sooner k =
        let passed : rules.refusal (host_on side t) t.session (segment_of d) ≡ None = ap (session_refusal rules side d) (sym taker) ∙ s.taken in
        let units : NoneHolds (unit_tests rules (image_in rules live side moment d) live.table side d (Some t)) =
        subst (λ (o : Option (Tracked S)). NoneHolds (unit_tests rules (image_in rules live side moment d) live.table side d o)) taker s.units in
        let image = image_in rules live side moment d in
        let last : List (Bool × Refusal) =
        (nat_lt MOST_ENTRIES (length (entries_after rules (image_in rules live side moment d) side d (Some t))), RenamesFull) ∷ [] in
        session_keeps rules has live side moment d p t sooner
        (record {
          holder = h;
          lawful = lawful;
          lists = k;
          bound = none_head
              {test = (
                list_any (is_new_unbound live.table side (rules.listed (host_on side t) t.session)) (names_in rules side d (Some t)),
                UnitUnbound,
              )} {more = last}
              (none_tail {test = (list_any is_bad (units_in rules side d (Some t)), BadUnit)}
              {more = (
                list_any (is_new_unbound live.table side (rules.listed (host_on side t) t.session)) (names_in rules side d (Some t)),
                UnitUnbound,
              ) ∷ last} units);
          names = ap (λ (v : Option Refusal). addresses_in (unless_refused v (rules.units (host_on side t) t.session (segment_of d)) [])) passed;
        })

    by_found : (o : Option (Connection (Tracked S))) → found_in live side d ≡ o
        → IfSome o (λ e. KeepsLists rules live.table e × (is_of (key_in live.table side d) e ≡ true))
        → IfSome
        (option_map (stepped rules (image_in rules live side moment d) side d)
        (taker_by rules (table_after rules live side moment d Stream) side d o))
        (ListsAreBound rules (table_after rules live side moment d Stream) (moment + stream_timeout rules live side d))
    by_found None h k =
        begun_keeps rules has (image_in rules live side moment d) (table_after rules live side moment d Stream)
        (table_after rules live side moment d Stream) side (moment + stream_timeout rules live side d) d (begins {S = S} None d) refl
    by_found (Some e) h k =
        by_session e.session (ap session_in h) (ap (taker_by rules (table_after rules live side moment d Stream) side d) h) e.until.0 k.0

kind_lists : {S : Type 0} (rules : SessionRules S) → HasLists rules → (live : World S) (side : Side) (moment : ℕ) (d : Datagram) (kind : Kind)
    → Passes rules live side moment d kind → IsLawful live.table → All (KeepsLists rules live.table) live.connections
    → All (KeepsLists rules (table_after rules live side moment d kind)) (after_kind rules live side moment d kind).connections
kind_lists rules has live side moment d (Whole payload) p lawful h =
    lists_used rules live.table (uses_of rules live side moment d (Whole payload)) live.connections lawful h
kind_lists {S = S} rules has live side moment d Stream p lawful h =
    let table = table_after rules live side moment d Stream in
    let key = key_in live.table side d in
    let later : All (KeepsLists rules (table_after rules live side moment d Stream)) live.connections =
    lists_used rules live.table (uses_of rules live side moment d Stream) live.connections lawful h in
    let found = found_is (KeepsLists rules live.table) key live.connections h in
    let left =
    left_of rules (image_in rules live side moment d) live side moment d table (found_in live side d) refl (only (found_in live side d) found) in
    all_changed (KeepsLists rules table) live.connections (place_of key live.connections)
    (connection_after rules (image_in rules live side moment d) live side moment d (taker_in rules live side moment d)) later
    (keeps (connection_after rules (image_in rules live side moment d) live side moment d (taker_in rules live side moment d)) left
    (left_lists rules has live side moment d p lawful (found_in live side d) refl found))
  where
    only : (o : Option (Connection (Tracked S))) → IfSome o (λ c. KeepsLists rules live.table c × (is_of (key_in live.table side d) c ≡ true))
        → IfSome o (λ c. is_of (key_in live.table side d) c ≡ true)
    only None x = tt
    only (Some c) x = x.1

    keeps : (o : Option (Connection (Tracked S)))
        → IfSome o (IsLeft rules (image_in rules live side moment d) live side moment d (taker_in rules live side moment d))
        → ((c : Connection (Tracked S)) → IsLeft rules (image_in rules live side moment d) live side moment d (taker_in rules live side moment d) c
        → KeepsLists rules (table_after rules live side moment d Stream) c)
        → IfSome o (KeepsLists rules (table_after rules live side moment d Stream))
    keeps None x f = tt
    keeps (Some c) x f = f c x

-- ## Worlds

pub moment_lists : {S : Type 0} (rules : SessionRules S) (w : World S) (moment : ℕ) → KeepsListed rules w → KeepsListed rules (at_moment w moment)
moment_lists rules w moment h =
    record { lawful = lawful_expired w.table (record { 0 = moment }) h.lawful; lists = lists_live rules w.table moment w.connections h.lists }

pub next_lists : {S : Type 0} (rules : SessionRules S) → HasLists rules → (w : World S) (e : Event) → KeepsListed rules w
    → KeepsListed rules (next rules w e)
next_lists {S = S} rules has w e h = by_verdict (verdict rules w e) refl (moment_lists rules w e.moment h)
  where
    by_verdict : (v : Verdict) → verdict rules w e ≡ v → KeepsListed rules (at_moment w e.moment)
        → KeepsListed rules (next_by rules (at_moment w e.moment) e v)
    by_verdict Pass p k =
        let live = at_moment w e.moment in
        let d = datagram_in e in
        let kind = kind_of d in
        let is = table_is rules live e.side e.moment d kind in
        record {
          lawful = subst (λ (t : Bindings). IsLawful t) (sym is) (lawful_after (uses_of rules live e.side e.moment d kind) live.table k.lawful);
          lists = subst (λ (t : Bindings). All (KeepsLists rules t) (after_kind rules live e.side e.moment d kind).connections) (sym is)
              (kind_lists rules has live e.side e.moment d kind (passes rules w e p) k.lawful k.lists);
        }
    by_verdict (Refused r) p k = k
    by_verdict Held p k = k

pub run_lists : {S : Type 0} (rules : SessionRules S) → HasLists rules → (events : List Event) (w : World S) → KeepsListed rules w
    → KeepsListed rules (fold (next rules) w events)
run_lists rules has [] w h = h
run_lists rules has (e ∷ events) w h = run_lists rules has events (next rules w e) (next_lists rules has w e h)

pub opening_lists : {S : Type 0} (rules : SessionRules S) (settings : Settings) → IsSound settings → HasForms settings
    → KeepsListed rules (opening_world {S = S} settings)
opening_lists rules settings sound forms =
    record { lawful = opening_is_lawful settings sound forms; lists = All-nil (KeepsLists rules (opening settings)) }

-- ## What follows

entry_crosses : (table : Bindings) (side : Side) (until : ℕ) (e : Entry) → IsLawful table → IsEntryBound table side until e
    → EntryCrosses table side e
entry_crosses table side until (a, None) lawful h = ap (seen_by a) (same_cross table side a h)
entry_crosses table side until (a, Some image) lawful h = as_seen table side a.0 image.0 until lawful h

entries_cross : (table : Bindings) (side : Side) (until : ℕ) (es : List Entry) → IsLawful table → AllByRecursion (IsEntryBound table side until) es
    → AllByRecursion (EntryCrosses table side) es
entries_cross table side until [] lawful h = tt
entries_cross table side until (e ∷ es) lawful h = (entry_crosses table side until e lawful h.0, entries_cross table side until es lawful h.1)

pub lists_cross : {S : Type 0} (rules : SessionRules S) (w : World S) → KeepsListed rules w → EachTracked (ListsCross rules w.table) w.connections
lists_cross {S = S} rules w h =
    All-weaker (KeepsLists rules w.table) (λ c. IfSome c.session (ListsCross rules w.table))
    (λ c k. by_session c.session c.until.0 k) w.connections h.lists
  where
    by_session : (o : Option (Tracked S)) (until : ℕ) → IfSome o (ListsAreBound rules w.table until) → IfSome o (ListsCross rules w.table)
    by_session None until k = tt
    by_session (Some t) until k = λ host. entries_cross w.table (side_of host t) until (rules.listed host t.session) h.lawful (k host)

pub lists_grow : {S : Type 0} (rules : SessionRules S) → HasLists rules → (image : Addr → Option Addr) (f : Host) (s : S) (g : Segment) (host : Host)
    → (more : List Entry) × (rules.listed host (rules.next image f s g) ≡ rules.listed host s ++ more)
lists_grow rules has image f s g host =
    both_listed rules has (λ c es. (more : List Entry) × (es ≡ rules.listed c s ++ more)) image f s g
    (entered_more image (rules.listed f s) (addresses_in (rules.units f s g))) ([], sym (append-nil (rules.listed (peer f) s))) host

-- what is listed has one image for good
pub images_stay : {S : Type 0} (rules : SessionRules S) → HasLists rules → (image : Addr → Option Addr) (f : Host) (s : S) (g : Segment) (host : Host)
    (number : ℕ) → is_listed (rules.listed host s) number ≡ true → listed_image (rules.listed host (rules.next image f s g)) number
    ≡ listed_image (rules.listed host s) number
images_stay rules has image f s g host number h =
    let more = lists_grow rules has image f s g host in
    ap (λ (es : List Entry). listed_image es number) more.1 ∙ image-stays (rules.listed host s) more.0 number h

-- ## How long they are

few_keep : {S : Type 0} (rules : SessionRules S) → HasLists rules → Keeps rules (ListsAreFew rules)
few_keep rules has = record {
  made = λ port client pair initial mss host. let none : length (rules.listed host (rules.made port pair initial mss)) ≡ 0 =
      ap length (has.made port pair initial mss host) in omega (arith, none);
  next = λ image f t g v fit h. both_listed rules has (λ c es. length es ≤ MOST_ENTRIES) image f t.session g (ltb-false _ _ fit.few) (h (peer f));
}

pub lists_few : {S : Type 0} (rules : SessionRules S) → HasLists rules → (events : List Event) (settings : Settings)
    → EachTracked (ListsAreFew rules) (fold (next rules) (opening_world settings) events).connections
lists_few {S = S} rules has events settings =
    run_keeps rules (ListsAreFew rules) (few_keep rules has) events (opening_world settings)
    (All-nil (λ (c : Connection (Tracked S)). IfSome c.session (ListsAreFew rules)))
