-- A segment of a session is refused by the plan of its units, and else by nothing.
use Rattle.std.proofs.Common.{◌≡◌, ◌≢◌, ◌≤◌, ℕ, Bool, true, false, List, [], ◌∷◌, ◌++◌, length, nat_lt, Option, Some, None, Result, Ok, Err, refl, sym, ap, subst, ◌∙◌, IfOk, IfErr, ltb-false, le-ltb}
use Rattle.std.specs.List.{All, AllByRecursion, list_any}
use Rattle.gate_base.specs.Prelude.{other}
use Rattle.verdicts.specs.Prelude.{first_that_holds, unless_refused}
use Rattle.gate_base.specs.declared.address.Addr.{Addr}
use Rattle.verdicts.specs.declared.refusal.Refusal.{Refusal}
use Rattle.verdicts.specs.declared.refusal.Refusal.TheVariants.{NoSession, BadUnit, UnitUnbound, RenamesFull, SessionsFull, PoolEmpty, UnitGrows}
use Rattle.gate_base.specs.declared.side.Side.{Side}
use Rattle.gate_base.specs.declared.host.Host.{Host}
use Rattle.binding_table.specs.Prelude.{cross, free, needed, image_after}
use Rattle.binding_table.specs.declared.binding.Crossing.TheVariants.{Unbound}
use Rattle.dialogue.specs.Prelude.{Entry, AreImages}
use Rattle.dns_stream.specs.Prelude.{dns_units}
use Rattle.ipv4_frames.specs.Ipv4.{Datagram}
use Rattle.stream_model.specs.Prelude.{Segment}
use Rattle.gate_model.specs.Prelude.{Whole, Stream, Udp, addresses_in, entered, is_bad, grows_too_much, taker_in, segment_of, found_in}
use Rattle.dialogue.specs.declared.TheConstants.{MOST_ENTRIES}
use Rattle.gate_model.specs.Prelude.{session_in, lacks_session, is_full, session_refusal, uses_until, is_new_unbound, units_in, names_in, entries_in}
use Rattle.gate_model.specs.Prelude.{entries_after, unit_tests, growth_tests, refusal_tests, is_pool_empty, Tracked, World, addresses_of, source_of}
use Rattle.gate_model.specs.Prelude.{destination_of, host_on, SessionRules}
use Rattle.gate_model.proofs.ListsKept.{table_of}
use Rattle.event_payloads.specs.Prelude.{is_empty}
use Rattle.event_payloads.specs.declared.addresses.Way.{Way}
use Rattle.event_payloads.proofs.HeadersOnly.{empty_is}
use Rattle.dns_plans.specs.Prelude.{whole_units, called_after, beside, all_addresses, plan_tests, AreBound, IsListBound, TellsFirst, entered_all}
use Rattle.dns_plans.specs.declared.plan.Endpoints.{Endpoints}
use Rattle.dns_plans.specs.declared.plan.UnitPlan.{UnitPlan}
use Rattle.dns_plans.specs.declared.stop.PlanStop.{PlanStop}
use Rattle.dns_plans.specs.declared.stop.PlanStop.TheVariants as stops
use Rattle.dns_plans.proofs.EnteredLemmas.{entered-beside}
use Rattle.dns_plans.proofs.PlannedLemmas.{used_bound}
use Rattle.event_segments.specs.Prelude.{image_of, used_by, IsStopped, CompletesUnit, stream_refusal}
use Rattle.event_segments.specs.SegmentFate.{IsUnitPlan}
use Rattle.event_segments.specs.Inside.SegmentFate.{IsOn}
use Rattle.event_segments.proofs.SegmentTests.{no_images, tests_by, lacks_none, full_none, some_session, session_takes}
use Rattle.event_segments.proofs.UnitsPlanned.{five, plans_alike, none_told, beside_alike, entered_alike}
use Rattle.event_segments.proofs.UnitsUsed.{until_of, names_called}

-- ## The refusal, by the units

order : (bad unbound full empty grows : Bool)
    → first_that_holds
    (((false, NoSession) ∷ refusal_tests None ++ (((bad, BadUnit) ∷ (unbound, UnitUnbound) ∷ (full, RenamesFull) ∷ []) ++ (false, SessionsFull) ∷ []))
    ++ (empty, PoolEmpty) ∷ (grows, UnitGrows) ∷ []) ≡ five bad unbound full empty grows
order true unbound full empty grows = refl
order false true full empty grows = refl
order false false true empty grows = refl
order false false false empty grows = refl

-- the five tests of units that name these, by a list
abbrev by_units : {S : Type 0} (rules : SessionRules S) → World S → Side → Datagram → List Entry → List (List ℕ) → Option Refusal
by_units rules live side d es us =
    five (list_any is_bad us) (list_any (is_new_unbound live.table side es) (addresses_in us))
    (nat_lt MOST_ENTRIES (length (entered (image_of rules live side d) es (addresses_in us))))
    (nat_lt (free live.table (other side)) (needed live.table side (addresses_of d ++ addresses_in us)))
    (list_any (grows_too_much (entered (image_of rules live side d) es (addresses_in us))) us)

refusal_is : {S : Type 0} (rules : SessionRules S) (live : World S) (side : Side) (d : Datagram) (t : Tracked S)
    → session_in (found_in live side d) ≡ Some t → session_refusal rules side d (Some t) ≡ None
    → stream_refusal rules live side d ≡ by_units rules live side d (entries_in rules side (Some t)) (units_in rules side d (Some t))
refusal_is {S = S} rules live side d t found verdict =
    let image = image_of rules live side d in
    let place = found_in live side d in
    let lives = some_session place t found in
    let units = unit_tests rules image live.table side d (Some t) in
    let late = growth_tests rules image side d (Some t) in
    let taker : taker_in rules live side live.clock d ≡ Some t = session_takes rules live side d t found in
    ap (λ (o : Option (Tracked S)). tests_by rules side d o (lacks_session place d) (unit_tests rules image live.table side d o)
    (is_full live.connections place d) (is_pool_empty rules live side d Stream) (growth_tests rules image side d o)) taker
    ∙ ap (λ (b : Bool). tests_by rules side d (Some t) b units (is_full live.connections place d) (is_pool_empty rules live side d Stream) late)
    (lacks_none place d lives)
    ∙ ap (λ (v : Option Refusal). first_that_holds
    (((false, NoSession) ∷ refusal_tests v ++ (units ++ (is_full live.connections place d, SessionsFull) ∷ []))
    ++ (is_pool_empty rules live side d Stream, PoolEmpty) ∷ late)) verdict
    ∙ ap (λ (b : Bool). first_that_holds
    (((false, NoSession) ∷ refusal_tests None ++ (units ++ (b, SessionsFull) ∷ [])) ++ (is_pool_empty rules live side d Stream, PoolEmpty) ∷ late))
    (full_none live.connections place d lives)
    ∙ ap (λ (o : Option (Tracked S)). first_that_holds
    (((false, NoSession) ∷ refusal_tests None ++ (units ++ (false, SessionsFull) ∷ []))
    ++ (nat_lt (free live.table (other side)) (needed live.table side (addresses_of d ++ names_in rules side d o)), PoolEmpty) ∷ late)) found
    ∙ order _ _ _ _ _

-- the units of its session
units_are : {S : Type 0} (rules : SessionRules S) (side : Side) (d : Datagram) (t : Tracked S) (us : List (List ℕ))
    → session_refusal rules side d (Some t) ≡ None → us ≡ rules.units (host_on side t) t.session (segment_of d) → units_in rules side d (Some t) ≡ us
units_are rules side d t us verdict e =
    ap (λ (v : Option Refusal). unless_refused v (rules.units (host_on side t) t.session (segment_of d)) []) verdict ∙ sym e

abbrev pub ends_of : Side → Datagram → Endpoints
ends_of side d = record { side = side; source = source_of d; destination = destination_of d }

-- the plan's tests, by what addresses are called in the end
planned_is : {S : Type 0} (rules : SessionRules S) (live : World S) (side : Side) (d : Datagram) (way : Way) (t : Tracked S) (octets : List ℕ)
    → IsOn rules live side d way t → whole_units octets ≡ rules.units (host_on side t) t.session (segment_of d)
    → stream_refusal rules live side d ≡ first_that_holds
    (plan_tests live.table (image_of rules live side d) (ends_of side d) (rules.listed (host_on side t) t.session) octets)
planned_is rules live side d way t octets on e = refusal_is rules live side d t on.found on.refusal
    ∙ ap (by_units rules live side d (rules.listed (host_on side t) t.session)) (units_are rules side d t (whole_units octets) on.refusal e)

-- ## Where no unit is whole

pub none_stopped : {S : Type 0} (rules : SessionRules S) (live : World S) (side : Side) (d : Datagram) (way : Way) (t : Tracked S) (octets : List ℕ)
    → IsOn rules live side d way t → whole_units octets ≡ rules.units (host_on side t) t.session (segment_of d) → whole_units octets ≡ []
    → length (rules.listed (host_on side t) t.session) ≤ MOST_ENTRIES
    → stream_refusal rules live side d ≡ first_that_holds ((is_empty way.of_source, PoolEmpty) ∷ [])
none_stopped rules live side d way t octets on e none few =
    let es = rules.listed (host_on side t) t.session in
    let full : nat_lt MOST_ENTRIES (length es) ≡ false = le-ltb MOST_ENTRIES (length es) few in
    planned_is rules live side d way t octets on e
    ∙ ap (λ (us : List (List ℕ)). by_units rules live side d es us) none
    ∙ ap (λ (b : Bool). five false false b (nat_lt (free live.table (other side)) (needed live.table side (addresses_of d ++ []))) false) full
    ∙ empty_one (is_pool_empty rules live side d (Whole Udp))
    ∙ ap (λ (b : Bool). first_that_holds ((b, PoolEmpty) ∷ [])) (sym (empty_is rules live side d way on.way_is))
  where
    empty_one : (b : Bool) → five false false false b false ≡ first_that_holds ((b, PoolEmpty) ∷ [])
    empty_one true = refl
    empty_one false = refl

-- ## What a plan is

-- a connection's session and the octets in which its units end; the addresses of the header aren't unbound, nor are those of the sender's list
pub record IsReady {S : Type 0} (rules : SessionRules S) (live : World S) (side : Side) (d : Datagram) (way : Way) (t : Tracked S) (octets : List ℕ)
    (ends : Endpoints) (es : List Entry) : Type 0 where
  pub on : IsOn rules live side d way t
  pub units : whole_units octets ≡ rules.units (host_on side t) t.session (segment_of d)
  pub ends_are : ends ≡ ends_of side d
  pub entries_are : es ≡ rules.listed (host_on side t) t.session
  pub header : AreBound live.table ends.side (ends.source ∷ ends.destination ∷ [])
  pub listed : IsListBound live.table ends.side es
  pub few : length (rules.listed (host_on side t) t.session) ≤ MOST_ENTRIES

names_are : {S : Type 0} (rules : SessionRules S) (live : World S) (side : Side) (d : Datagram) (way : Way) (t : Tracked S) (octets : List ℕ)
    (ends : Endpoints) (es : List Entry) → IsReady rules live side d way t octets ends es
    → addresses_in (whole_units octets) ≡ names_in rules side d (Some t)
names_are rules live side d way t octets ends es r = ap addresses_in (sym (units_are rules side d t (whole_units octets) r.on.refusal r.units))

used_is : {S : Type 0} (rules : SessionRules S) (live : World S) (side : Side) (d : Datagram) (way : Way) (t : Tracked S) (octets : List ℕ)
    (ends : Endpoints) (es : List Entry) → IsReady rules live side d way t octets ends es → all_addresses ends (addresses_in (whole_units octets))
    ≡ used_by rules side d t
used_is rules live side d way t octets ends es r =
    ap (λ (e : Endpoints). all_addresses e (addresses_in (whole_units octets))) r.ends_are
    ∙ ap (λ (ns : List Addr). source_of d ∷ destination_of d ∷ ns) (names_are rules live side d way t octets ends es r)

-- what addresses are called once those of the header and the names are used
abbrev pub called_so : {S : Type 0} (rules : SessionRules S) → World S → Side → Datagram → Endpoints → List ℕ → Addr → Option Addr
called_so rules live side d ends octets =
    called_after live.table (uses_until ends.side (until_of rules live side d) (all_addresses ends (addresses_in (whole_units octets)))) ends.side

all_called : {S : Type 0} (rules : SessionRules S) (live : World S) (side : Side) (d : Datagram) (way : Way) (t : Tracked S) (octets : List ℕ)
    (ends : Endpoints) (es : List Entry) → IsReady rules live side d way t octets ends es
    → list_any (is_new_unbound live.table ends.side es) (addresses_in (whole_units octets)) ≡ false
    → nat_lt (free live.table (other ends.side)) (needed live.table ends.side (all_addresses ends (addresses_in (whole_units octets)))) ≡ false
    → AllByRecursion (λ a. called_so rules live side d ends octets a ≡ image_of rules live side d a) (addresses_in (whole_units octets))
all_called rules live side d way t octets ends es r new room =
    let xs = all_addresses ends (addresses_in (whole_units octets)) in
    let until = until_of rules live side d in
    let same = used_is rules live side d way t octets ends es r in
    let side_is : ends.side ≡ side = ap (λ (e : Endpoints). e.side) r.ends_are in
    let bound : All (λ address. cross live.table side address ≢ Unbound) (used_by rules side d t) =
    subst (λ (ys : List Addr). All (λ address. cross live.table side address ≢ Unbound) ys) same
    (subst (λ (s : Side). AreBound live.table s xs) side_is
    (used_bound live.table ends es (addresses_in (whole_units octets)) r.header r.listed new)) in
    let fits : needed live.table side (used_by rules side d t) ≤ free live.table (other side) =
    subst (λ (ys : List Addr). needed live.table side ys ≤ free live.table (other side)) same
    (subst (λ (s : Side). needed live.table s xs ≤ free live.table (other s)) side_is (ltb-false _ _ room)) in
    let all = names_called rules live side d t r.on.lawful r.on.found bound fits in
    let named =
    subst (λ (ns : List Addr). AllByRecursion
    (λ a. image_after live.table (table_of live.table side until (used_by rules side d t)) side a ≡ image_of rules live side d a) ns)
    (sym (names_are rules live side d way t octets ends es r)) all in
    let listed =
    subst (λ (ys : List Addr). AllByRecursion
    (λ a. image_after live.table (table_of live.table side until ys) side a ≡ image_of rules live side d a)
    (addresses_in (whole_units octets))) (sym same) named in
    subst (λ (s : Side). AllByRecursion (λ a. image_after live.table (table_of live.table s until xs) s a ≡ image_of rules live side d a)
    (addresses_in (whole_units octets))) (sym side_is) listed

pub told_is : {S : Type 0} (rules : SessionRules S) (live : World S) (side : Side) (d : Datagram) (way : Way) (t : Tracked S) (octets : List ℕ)
    (ends : Endpoints) (es : List Entry) → IsReady rules live side d way t octets ends es
    → stream_refusal rules live side d ≡ first_that_holds (plan_tests live.table (called_so rules live side d ends octets) ends es octets)
told_is rules live side d way t octets ends es r =
    planned_is rules live side d way t octets r.on r.units
    ∙ ap (λ (e : Endpoints). first_that_holds (plan_tests live.table (image_of rules live side d) e (rules.listed (host_on side t) t.session) octets))
    (sym r.ends_are)
    ∙ ap (λ (xs : List Entry). first_that_holds (plan_tests live.table (image_of rules live side d) ends xs octets)) (sym r.entries_are)
    ∙ sym (plans_alike live.table (called_so rules live side d ends octets) (image_of rules live side d) ends es octets
    (all_called rules live side d way t octets ends es r))

pub some_planned : {S : Type 0} (rules : SessionRules S) (live : World S) (side : Side) (d : Datagram) (way : Way) (t : Tracked S) (octets : List ℕ)
    (ends : Endpoints) (es : List Entry) (plan : UnitPlan) → IsReady rules live side d way t octets ends es
    → first_that_holds (plan_tests live.table (called_so rules live side d ends octets) ends es octets) ≡ None
    → plan.named.items ≡ addresses_in (whole_units octets) → plan.entries.items ≡ beside (called_so rules live side d ends octets)
    (addresses_in (whole_units octets)) → AreImages (dns_units (entered_all es plan.entries.items)) plan.images.items
    → IsUnitPlan rules live side d t plan
some_planned rules live side d way t octets ends es plan r none named entries images =
    let ns = addresses_in (whole_units octets) in
    let image = image_of rules live side d in
    let told = none_told live.table (called_so rules live side d ends octets) ends es octets none in
    let alike = all_called rules live side d way t octets ends es r told.bound told.room in
    let same = used_is rules live side d way t octets ends es r in
    let names = names_are rules live side d way t octets ends es r in
    let side_is : ends.side ≡ side = ap (λ (e : Endpoints). e.side) r.ends_are in
    let after : entered (called_so rules live side d ends octets) es ns ≡ entered image (rules.listed (host_on side t) t.session)
    (names_in rules side d (Some t)) =
    entered_alike (called_so rules live side d ends octets) image es ns alike ∙ ap (λ (xs : List Entry). entered image xs ns) r.entries_are
    ∙ ap (entered image (rules.listed (host_on side t) t.session)) names in
    record {
      passes = told_is rules live side d way t octets ends es r ∙ none;
      bound = subst (λ (ys : List Addr). All (λ address. cross live.table side address ≢ Unbound) ys) same
          (subst (λ (s : Side). AreBound live.table s (all_addresses ends ns)) side_is
          (used_bound live.table ends es ns r.header r.listed told.bound));
      room = subst (λ (ys : List Addr). needed live.table side ys ≤ free live.table (other side)) same
          (subst (λ (s : Side). needed live.table s (all_addresses ends ns) ≤ free live.table (other s)) side_is (ltb-false _ _ told.room));
      few = subst (λ (xs : List Entry). length xs ≤ MOST_ENTRIES) after told.few;
      named = named ∙ names;
      entries = entries ∙ beside_alike (called_so rules live side d ends octets) image ns alike ∙ ap (beside image) names;
      images =
          subst (λ (xs : List Entry). AreImages (dns_units xs) plan.images.items)
          (ap (entered_all es) entries ∙ entered-beside (called_so rules live side d ends octets) es ns ∙ after) images;
    }

pub none_planned : {S : Type 0} (rules : SessionRules S) (live : World S) (side : Side) (d : Datagram) (way : Way) (t : Tracked S) (octets : List ℕ)
    (ends : Endpoints) (es : List Entry) (plan : UnitPlan) → IsReady rules live side d way t octets ends es
    → whole_units octets ≡ [] → is_empty way.of_source ≡ false → plan.named.items ≡ [] → plan.entries.items ≡ [] → plan.images.items ≡ []
    → IsUnitPlan rules live side d t plan
none_planned rules live side d way t octets ends es plan r none room named entries images =
    let image = image_of rules live side d in
    let listed = rules.listed (host_on side t) t.session in
    let names : names_in rules side d (Some t) ≡ [] = sym (names_are rules live side d way t octets ends es r) ∙ ap addresses_in none in
    let used : addresses_of d ≡ used_by rules side d t = ap (λ (ns : List Addr). source_of d ∷ destination_of d ∷ ns) (sym names) in
    let fits : nat_lt (free live.table (other side)) (needed live.table side (addresses_of d)) ≡ false =
    sym (empty_is rules live side d way r.on.way_is) ∙ room in
    record {
      passes = none_stopped rules live side d way t octets r.on r.units none r.few ∙ ap (λ (b : Bool). first_that_holds ((b, PoolEmpty) ∷ [])) room;
      bound = subst (λ (ys : List Addr). All (λ address. cross live.table side address ≢ Unbound) ys) used
          (subst (λ (e : Endpoints). AreBound live.table e.side (e.source ∷ e.destination ∷ [])) r.ends_are r.header);
      room = subst (λ (ys : List Addr). needed live.table side ys ≤ free live.table (other side)) used (ltb-false _ _ fits);
      few = subst (λ (ns : List Addr). length (entered image listed ns) ≤ MOST_ENTRIES) (sym names) r.few;
      named = named ∙ sym names;
      entries = entries ∙ ap (beside image) (sym names);
      images =
          subst (AreImages (dns_units (entries_after rules image side d (Some t)))) (sym images)
          (no_images (dns_units (entries_after rules image side d (Some t))));
    }

-- ## Why there is none

pub completed_unit : {S : Type 0} (rules : SessionRules S) (live : World S) (side : Side) (d : Datagram) (way : Way) (t : Tracked S) (octets : List ℕ)
    (ends : Endpoints) (es : List Entry) → IsReady rules live side d way t octets ends es → 1 ≤ length (whole_units octets)
    → CompletesUnit rules live side d
completed_unit rules live side d way t octets ends es r some =
    record {
      tracked = t;
      found = r.on.found;
      completes =
          subst (λ (us : List (List ℕ)). 1 ≤ length us) (sym (units_are rules side d t (whole_units octets) r.on.refusal r.units)) some;
    }

pub is_stopped : {S : Type 0} (rules : SessionRules S) (live : World S) (side : Side) (d : Datagram) (way : Way) (t : Tracked S) (octets : List ℕ)
    (ends : Endpoints) (es : List Entry) (stop : PlanStop) → IsReady rules live side d way t octets ends es
    → TellsFirst (first_that_holds (plan_tests live.table (called_so rules live side d ends octets) ends es octets)) stop
    → (stop ≡ stops.OutOfMemory → 1 ≤ length (whole_units octets)) → IsStopped rules live side d stop
is_stopped rules live side d way t octets ends es (stops.Refused refusal) r first some = told_is rules live side d way t octets ends es r ∙ first
is_stopped rules live side d way t octets ends es stops.OutOfMemory r first some = completed_unit rules live side d way t octets ends es r (some refl)

-- ## By what was called

abbrev pub way_ends : Way → Endpoints
way_ends way = record { side = way.side; source = way.source; destination = way.destination }

pub ready_is : {S : Type 0} (rules : SessionRules S) (live : World S) (d : Datagram) (way : Way) (t : Tracked S) (f : Host) (session : S)
    (g : Segment) (octets : List ℕ) (es : List Entry) → f ≡ host_on way.side t → session ≡ t.session → g ≡ segment_of d
    → whole_units octets ≡ rules.units f session g → es ≡ rules.listed f session
    → AreBound live.table way.side (way.source ∷ way.destination ∷ []) → IsListBound live.table way.side (rules.listed (host_on way.side t) t.session)
    → ((host : Host) → length (rules.listed host t.session) ≤ 256) → IsOn rules live way.side d way t
    → IsReady rules live way.side d way t octets (way_ends way) es
ready_is {S = S} rules live d way t f session g octets es sender same of units entries header listed few on =
    let mine = entries ∙ ap (λ (s : S). rules.listed f s) same ∙ ap (λ (b : Host). rules.listed b t.session) sender in
    record {
      on = on;
      units = units ∙ ap (λ (s : S). rules.units f s g) same ∙ ap (λ (b : Host). rules.units b t.session g) sender
          ∙ ap (rules.units (host_on way.side t) t.session) of;
      ends_are =
          ap (λ (a : Addr). let e : Endpoints = record { side = way.side; source = a; destination = way.destination } in e) on.way_is.source_is
          ∙ ap (λ (a : Addr). let e : Endpoints = record { side = way.side; source = source_of d; destination = a } in e) on.way_is.destination_is;
      entries_are = mine;
      header = header;
      listed = subst (λ (xs : List Entry). IsListBound live.table way.side xs) (sym mine) listed;
      few = few (host_on way.side t);
    }

pub by_ok : {A E : Type 0} {P Q : A → Type 0} (r : Result A E) → ((x : A) → P x → Q x) → IfOk r P → IfOk r Q
by_ok (Ok x) f p = f x p
by_ok (Err e) f p = tt

pub by_err : {A E : Type 0} {P Q : E → Type 0} (r : Result A E) → ((x : E) → r ≡ Err x → P x → Q x) → IfErr r P → IfErr r Q
by_err (Ok x) f p = tt
by_err (Err e) f p = f e refl p
