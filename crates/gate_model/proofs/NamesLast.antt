-- What a DNS message over UDP names crosses once it has passed, for as long as its names are kept.
use Rattle.std.proofs.Common.{◌≡◌, ◌≢◌, ◌≤◌, ◌<◌, ◌⊎◌, ◌+◌, ℕ, Bool, true, false, not, if◌then◌else◌, Some, None, is_none, List, [], ◌∷◌, ◌++◌, map, Option}
use Rattle.std.proofs.Common.{length, get_or, All, Contains, IsSome, refl, sym, ◌∙◌, ap, subst, append_assoc, arith, inl, inr, length-append}
use Rattle.std.specs.List.{AllByRecursion}
use Rattle.std.proofs.lemmas.Bool.{not-false, ltb-false}
use Rattle.std.proofs.lemmas.List.{map-append}
use Rattle.std.proofs.lemmas.List.Elements.{All-head, All-tail, All-cons, All-push, All-get_or, All-contains, All-from_recursion, Contains-get_or}
use Rattle.std.proofs.lemmas.List.Sums.{fold-append}
use Rattle.gate_base.specs.Prelude.{Event, other}
use Rattle.gate_base.specs.declared.address.Addr.{Addr}
use Rattle.verdicts.specs.declared.verdict.Verdict.TheVariants.{Pass}
use Rattle.verdicts.specs.declared.refusal.Refusal.TheVariants.{SourceInPool, NoBinding, BadDns, DnsUnbound}
use Rattle.gate_base.specs.declared.side.Side.{Side}
use Rattle.binding_table.specs.declared.binding.Crossing.{Crossing}
use Rattle.binding_table.specs.declared.binding.Crossing.TheVariants.{Unbound}
use Rattle.binding_table.specs.Prelude.{Bindings, is_same, in_pool, seen, unless_same, image_after}
use Rattle.binding_table.specs.Prelude.{free, IsLawful, Use, AreUsesOf, used, after_uses, needed}
use Rattle.binding_table.specs.Bindings.{cross}
use Rattle.binding_table.proofs.Kept.{lawful_expired}
use Rattle.binding_table.proofs.Used.{all_seen}
use Rattle.ipv4_frames.specs.Ipv4.{Datagram}
use Rattle.gate_model.specs.Called.{table_by, sent_from, sent_to, called_by, IsKeptUntil, header_until}
use Rattle.gate_model.specs.Prelude.{Whole, SessionRules, Kind, Dns, World, at_moment, called, source_of, destination_of, addresses_of}
use Rattle.gate_model.specs.Prelude.{datagram_in, kind_of, message_in, named_in, has_unbound, uses_until, is_reachable, table_after}
use Rattle.gate_model.specs.declared.timeouts.TheConstants.{NAMED_TIMEOUT}
use Rattle.gate_model.specs.Transparent.{NamesAreCalled, GoesOutCalled}
use Rattle.gate_model.specs.Frame.{Udp, Echo, Error, Snmp, Stream}
use Rattle.gate_model.specs.Names.{carried, names_after, reply_by}
use Rattle.gate_model.specs.Step.{out_by, out_kind}
use Rattle.gate_model.specs.Verdict.{timeout_by, verdict}
use Rattle.twice_translate.specs.Renamed.{renamed, with_payload}
use Rattle.gate_model.proofs.AliasesLast.{StandFor, cross_back, stands_as, lawful_by, HostsAre, hosts_are}
use Rattle.gate_model.proofs.BoundTables.{lawful_used, lawful_after}
use Rattle.gate_model.proofs.BoundUses.{use_of, far_known}
use Rattle.gate_model.proofs.HostsKept.{known_back}
use Rattle.gate_model.proofs.ListsBound.{Crosses, use_crosses, all_cross_later, seen_bound, names_bound_once}
use Rattle.gate_model.proofs.ListsKept.{needed_front, all_front, uses_are, known_unbound, unless, same_cross, differs_cross}
use Rattle.gate_model.proofs.Passing.{Passes, passes, none_head, none_tail}

last_of : (xs : List Addr) (x d : Addr) → get_or (xs ++ x ∷ []) (length xs) d ≡ x
last_of [] x d = refl
last_of (y ∷ xs) x d = last_of xs x d

-- ## Uses behind others, that last for another time

uses_more : (side : Side) (addresses : List Addr) (uses : List Use) (a : Addr) (until : ℕ) → AreUsesOf side addresses uses
    → AreUsesOf side (addresses ++ a ∷ []) (uses ++ use_of side a.0 until ∷ [])
uses_more side addresses uses a until h = record {
  sides = All-push (λ (one : Use). one.side ≡ side) uses (use_of side a.0 until) h.sides refl;
  each = map-append (λ (one : Use). one.address) uses (use_of side a.0 until ∷ []) ∙ ap (λ (xs : List Addr). xs ++ a ∷ []) h.each;
}

one_behind : (table : Bindings) (side : Side) (until : ℕ) (front : List Addr) (uses : List Use) (a : Addr) → IsLawful table
    → AreUsesOf side front uses → All (λ address. cross table side address ≢ Unbound) (front ++ a ∷ [])
    → needed table side (front ++ a ∷ []) ≤ free table (other side)
    → Crosses (used (after_uses table uses) (use_of side a.0 until)) side until a
one_behind table side until front uses a lawful are bound room =
    let more = uses ++ use_of side a.0 until ∷ [] in
    let seen_all = all_seen table side (front ++ a ∷ []) more lawful (uses_more side front uses a until are) bound room in
    let within : length front < length (front ++ a ∷ []) = omega (arith, length-append front (a ∷ [])) in
    let at : IsSome (seen (after_uses table more) side a) =
    subst (λ (x : Addr). IsSome (seen (after_uses table more) side x)) (last_of front a a)
    (All-get_or (λ address. IsSome (seen (after_uses table more) side address)) (front ++ a ∷ []) (length front) a within seen_all) in
    use_crosses (after_uses table uses) side a.0 until (lawful_after uses table lawful)
    (subst (λ (t : Bindings). IsSome (seen t side a)) (fold-append used table uses (use_of side a.0 until ∷ [])) at)

behind_cross : (rest : List Addr) (table : Bindings) (side : Side) (until : ℕ) (front : List Addr) (uses : List Use) → IsLawful table
    → AreUsesOf side front uses → All (λ address. cross table side address ≢ Unbound) (front ++ rest)
    → needed table side (front ++ rest) ≤ free table (other side)
    → AllByRecursion (Crosses (after_uses (after_uses table uses) (uses_until side until rest)) side until) rest
behind_cross [] table side until front uses lawful are bound room = tt
behind_cross (a ∷ rest) table side until front uses lawful are bound room =
    let same : (front ++ a ∷ []) ++ rest ≡ front ++ a ∷ rest = append_assoc front (a ∷ []) rest in
    let bound' : All (λ address. cross table side address ≢ Unbound) ((front ++ a ∷ []) ++ rest) =
    subst (λ (xs : List Addr). All (λ address. cross table side address ≢ Unbound) xs) (sym same) bound in
    let room' : needed table side ((front ++ a ∷ []) ++ rest) ≤ free table (other side) =
    subst (λ (xs : List Addr). needed table side xs ≤ free table (other side)) (sym same) room in
    let first : needed table side (front ++ a ∷ []) ≤ free table (other side) =
    omega (arith, needed_front table side (front ++ a ∷ []) rest, room') in
    let lawful_t : IsLawful (used (after_uses table uses) (use_of side a.0 until)) =
    lawful_used (after_uses table uses) (use_of side a.0 until) (lawful_after uses table lawful) in
    let one = one_behind table side until front uses a lawful are
    (all_front (λ address. cross table side address ≢ Unbound) (front ++ a ∷ []) rest bound') first in
    let more = behind_cross rest table side until (front ++ a ∷ []) (uses ++ use_of side a.0 until ∷ []) lawful
    (uses_more side front uses a until are) bound' room' in (
      (all_cross_later (uses_until side until rest) (used (after_uses table uses) (use_of side a.0 until)) side until (a ∷ []) lawful_t (one, tt)).0,
      subst (λ (x : Bindings). AllByRecursion (Crosses (after_uses x (uses_until side until rest)) side until) rest)
          (fold-append used table uses (use_of side a.0 until ∷ [])) more,
    )

-- ## What a frame keeps

crosses_stands : (table : Bindings) (side : Side) (until : ℕ) (address : Addr) → IsLawful table → Crosses table side until address
    → StandFor table side address.0 (called table side address).0 until
crosses_stands table side until address lawful (inl same) = stands_as table side address address.0 until lawful (inl (inl (same, refl)))
crosses_stands table side until address lawful (inr h) = elim h.1 [
  | inl host ↦ stands_as table side address h.0.0 until lawful (inl (inr host))
  | inr alias ↦ stands_as table side address h.0.0 until lawful (inr (inr alias))
]

-- the addresses that a message names
names_stand : {S : Type 0} (rules : SessionRules S) (live : World S) (side : Side) (moment : ℕ) (d : Datagram) → IsLawful live.table
    → Passes rules live side moment d (Whole Dns) → All (λ (a : Addr). StandFor (table_after rules live side moment d (Whole Dns)) side a.0
    (called (table_after rules live side moment d (Whole Dns)) side a).0 (moment + NAMED_TIMEOUT)) (named_in (message_in d))
names_stand rules live side moment d lawful p =
    let names = named_in (message_in d) in
    let header = uses_until side (moment + timeout_by rules live side d (Whole Dns)) (addresses_of d) in
    let table = table_after rules live side moment d (Whole Dns) in
    let outside : in_pool live.table side (source_of d) ≡ false =
    none_head {test = (in_pool live.table side (source_of d), SourceInPool)}
    {more = (not (is_reachable live.table side (destination_of d)), NoBinding) ∷ []} p.address in
    let reach : is_reachable live.table side (destination_of d) ≡ true =
    not-false _ (none_head {test = (not (is_reachable live.table side (destination_of d)), NoBinding)} {more = []}
    (none_tail {test = (in_pool live.table side (source_of d), SourceInPool)}
    {more = (not (is_reachable live.table side (destination_of d)), NoBinding) ∷ []} p.address)) in
    let far = seen_bound live.table side (destination_of d) (called live.table side (destination_of d))
    (known_back live.table side (called live.table side (destination_of d)).0 d.destination 0 lawful
    (far_known live.table side d.destination lawful reach)) in
    let unbound : has_unbound live.table side names ≡ false =
    none_head {test = (has_unbound live.table side names, DnsUnbound)} {more = []}
    (none_tail {test = (is_none (message_in d), BadDns)} {more = (has_unbound live.table side names, DnsUnbound) ∷ []} p.content) in
    let bound =
    All-cons (λ address. cross live.table side address ≢ Unbound) (source_of d) (destination_of d ∷ names)
    (known_unbound live.table side (source_of d) outside)
    (All-cons (λ address. cross live.table side address ≢ Unbound) (destination_of d) names far
    (names_bound_once live.table side 0 [] names lawful tt unbound)) in
    let room : needed live.table side (addresses_of d ++ names) ≤ free live.table (other side) = ltb-false _ _ p.pool in
    let crossing = behind_cross names live.table side (moment + NAMED_TIMEOUT) (addresses_of d) header lawful
    (uses_are side (moment + timeout_by rules live side d (Whole Dns)) (addresses_of d)) bound room in
    let is : table ≡ after_uses (after_uses live.table header) (uses_until side (moment + NAMED_TIMEOUT) names) =
    fold-append used live.table header (uses_until side (moment + NAMED_TIMEOUT) names) in
    let lawful_later : IsLawful table = lawful_after (header ++ uses_until side (moment + NAMED_TIMEOUT) names) live.table lawful in
    let all = All-from_recursion (Crosses table side (moment + NAMED_TIMEOUT)) names
    (subst (λ (t : Bindings). AllByRecursion (Crosses t side (moment + NAMED_TIMEOUT)) names) (sym is) crossing) in
    λ k a within. crosses_stands table side (moment + NAMED_TIMEOUT) (get_or names k a) lawful_later (all k a within)

-- each address that a frame keeps stands for what it is called
pub kept_stands : {S : Type 0} (rules : SessionRules S) (w : World S) (e : Event) (address : Addr) (until : ℕ) → IsLawful w.table
    → verdict rules w e ≡ Pass → IsKeptUntil rules w e address until
    → StandFor (table_by rules w e) e.side address.0 (called_by rules w e address).0 until
kept_stands {S = S} rules w e address until lawful v kept = elim kept [
  | inl header ↦ subst (λ (n : ℕ). StandFor (table_by rules w e) e.side address.0 (called_by rules w e address).0 n) (sym header.1)
      (by_place header.0)
  | inr named ↦ subst (λ (n : ℕ). StandFor (table_by rules w e) e.side address.0 (called_by rules w e address).0 n) (sym named.2)
      (by_name named.0 named.1)
]
  where
    hosts : HostsAre rules w e (table_by rules w e)
    hosts = hosts_are rules w e lawful v

    P : Addr → Type 0
    P a = StandFor (table_by rules w e) e.side a.0 (called_by rules w e a).0 (header_until rules w e)

    by_place : (address ≡ source_of (datagram_in e)) ⊎ (address ≡ destination_of (datagram_in e))
        → StandFor (table_by rules w e) e.side address.0 (called_by rules w e address).0 (header_until rules w e)
    by_place (inl source) = subst (λ (a : Addr). StandFor (table_by rules w e) e.side a.0 (called_by rules w e a).0
        (header_until rules w e)) (sym source) (inl (hosts_are rules w e lawful v).own)
    by_place (inr destination) = subst (λ (a : Addr). StandFor (table_by rules w e) e.side a.0 (called_by rules w e a).0
        (header_until rules w e)) (sym destination) (inr (hosts_are rules w e lawful v).far)

    by_name : kind_of (datagram_in e) ≡ Whole Dns → Contains (named_in (message_in (datagram_in e))) address
        → StandFor (table_by rules w e) e.side address.0 (called_by rules w e address).0 (e.moment + NAMED_TIMEOUT)
    by_name dns has =
        let live = at_moment w e.moment in
        let d = datagram_in e in
        let p = subst (Passes rules live e.side e.moment d) dns (passes rules w e v) in
        let all = names_stand rules live e.side e.moment d (lawful_expired w.table (record { 0 = e.moment }) lawful) p in
        subst (λ (kind : Kind). StandFor (table_after rules live e.side e.moment d kind) e.side address.0
        (called (table_after rules live e.side e.moment d kind) e.side address).0 (e.moment + NAMED_TIMEOUT)) (sym dns)
        (All-contains (λ (a : Addr). StandFor (table_after rules live e.side e.moment d (Whole Dns)) e.side a.0
        (called (table_after rules live e.side e.moment d (Whole Dns)) e.side a).0 (e.moment + NAMED_TIMEOUT))
        (named_in (message_in d)) address all has)

-- ## What goes out for the names

image_called : (table later : Bindings) (side : Side) (a image : Addr) → seen later side a ≡ Some image
    → image_after table later side a ≡ (if is_same table a then None else Some image)
image_called table later side a image e = by_same (is_same table a) refl
  where
    by_same : (b : Bool) → is_same table a ≡ b → image_after table later side a ≡ (if b then None else Some image)
    by_same true s = ap (λ (c : Crossing). unless_same c (seen later side a)) (same_cross table side a s)
    by_same false s = unless (cross table side a) (seen later side a) (differs_cross table side a s) ∙ e

pub names_called : {S : Type 0} (rules : SessionRules S) (w : World S) (e : Event) → IsLawful w.table → verdict rules w e ≡ Pass
    → kind_of (datagram_in e) ≡ Whole Dns → NamesAreCalled rules w e
names_called rules w e lawful v dns = λ k a within.
    let names = named_in (message_in (datagram_in e)) in
    let x : Addr = get_or names k a in
    let until = e.moment + NAMED_TIMEOUT in
    let stands = kept_stands rules w e x until lawful v (inr (dns, Contains-get_or names k a within, refl)) in
    image_called (at_moment w e.moment).table (table_by rules w e) e.side x (called_by rules w e x)
    (cross_back (table_by rules w e) e.side x.0 (called_by rules w e x).0 until (lawful_by rules w e lawful) stands).there

same_images : (f g : Addr → Option Addr) (xs : List Addr) → All (λ a. f a ≡ g a) xs → map f xs ≡ map g xs
same_images f g [] h = refl
same_images f g (x ∷ xs) h =
    ap (λ (o : Option Addr). o ∷ map f xs) (All-head (λ (a : Addr). f a ≡ g a) x xs h)
    ∙ ap (λ (os : List (Option Addr)). g x ∷ os) (same_images f g xs (All-tail (λ (a : Addr). f a ≡ g a) x xs h))

dns_out : {S : Type 0} (rules : SessionRules S) (live : World S) (side : Side) (moment : ℕ) (d : Datagram) (kind : Kind) → kind ≡ Whole Dns
    → out_kind rules live side moment d kind
    ≡ renamed (with_payload d (names_after live.table (table_after rules live side moment d kind) side d))
    (called (table_after rules live side moment d kind) side (source_of d)).0
    (called (table_after rules live side moment d kind) side (destination_of d)).0 ∷ []
dns_out rules live side moment d (Whole Dns) e = refl
dns_out rules live side moment d (Whole Udp) e = cc
dns_out rules live side moment d (Whole Echo) e = cc
dns_out rules live side moment d (Whole Error) e = cc
dns_out rules live side moment d (Whole Snmp) e = cc
dns_out rules live side moment d Stream e = cc

pub goes_out_called : {S : Type 0} (rules : SessionRules S) (w : World S) (e : Event) → verdict rules w e ≡ Pass
    → kind_of (datagram_in e) ≡ Whole Dns → NamesAreCalled rules w e → GoesOutCalled rules w e
goes_out_called rules w e passes kind named =
    let live = at_moment w e.moment in
    let d = datagram_in e in
    let m = message_in d in
    let g : Addr → Option Addr = λ a. if is_same live.table a then None else Some (called_by rules w e a) in
    ap (out_by rules live e) passes ∙ dns_out rules live e.side e.moment d (kind_of d) kind
    ∙ ap (λ (images : List (Option Addr)). renamed (with_payload d (reply_by images (carried d) m)) (sent_from rules w e).0 (sent_to rules w e).0 ∷ [])
    (same_images (image_after live.table (table_by rules w e) e.side) g (named_in m) named)
