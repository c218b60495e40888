-- A segment that no session takes, or that begins one: it completes no unit, and uses the addresses of its header alone.
use Rattle.std.proofs.Common.{◌≡◌, ℕ, ◌+◌, ◌&&◌, not, Bool, true, false, List, [], ◌∷◌, ◌++◌, length, nat_lt, Option, Some, None, refl, ap, ◌∙◌}
use Rattle.gate_base.specs.Prelude.{other}
use Rattle.verdicts.specs.Prelude.{unless_refused}
use Rattle.std.specs.List.{list_any}
use Rattle.std.proofs.lemmas.Bool.{and_parts}
use Rattle.gate_base.specs.declared.address.Addr.{Addr}
use Rattle.verdicts.specs.declared.refusal.Refusal.{Refusal}
use Rattle.verdicts.specs.declared.refusal.Refusal.TheVariants.{BadUnit, UnitUnbound, RenamesFull, UnitGrows}
use Rattle.gate_base.specs.declared.side.Side.{Side}
use Rattle.binding_table.specs.Prelude.{Bindings, free, after_uses, needed}
use Rattle.dialogue.specs.Prelude.{Entry}
use Rattle.ipv4_frames.specs.Ipv4.{Datagram}
use Rattle.tcp_segments.specs.Prelude.{flags_of}
use Rattle.gate_model.specs.Prelude.{Whole, Udp, Stream, is_tracked_port, HasLists, addresses_in, entered, is_bad, grows_too_much}
use Rattle.dialogue.specs.declared.TheConstants.{MOST_ENTRIES}
use Rattle.gate_model.specs.Prelude.{tcp_of, segment_of, is_opening, found_in, session_in, stream_timeout, made_by, pair_in, uses_until, units_in}
use Rattle.gate_model.specs.Prelude.{names_in, entries_in, uses_of_lists, is_new_unbound, unit_tests, growth_tests, is_pool_empty, table_after}
use Rattle.gate_model.specs.Prelude.{Tracked, World, addresses_of, host_on, SessionRules}

-- no unit is completed in the session that takes the segment, and nothing is listed
pub record NamesNothing {S : Type 0} (rules : SessionRules S) (side : Side) (d : Datagram) (taker : Option (Tracked S)) : Type 0 where
  pub units : units_in rules side d taker ≡ []
  pub entries : entries_in rules side taker ≡ []

pub none_names : {S : Type 0} (rules : SessionRules S) (side : Side) (d : Datagram) → NamesNothing rules side d None
none_names rules side d = record { units = refl; entries = refl }

unless : (v : Option Refusal) (us : List (List ℕ)) → us ≡ [] → unless_refused v us [] ≡ []
unless None us e = e
unless (Some r) us e = refl

pub syn_held : (syn ack : Bool) → (syn && not ack) ≡ true → syn ≡ true
syn_held true ack e = refl
syn_held false ack e = e

-- nor in a session that a SYN begins
pub made_names : {S : Type 0} (rules : SessionRules S) (lists : HasLists rules) (table : Bindings) (side : Side) (d : Datagram)
    → (is_opening (tcp_of d).flags && is_tracked_port (tcp_of d).destination_port) ≡ true
    → NamesNothing rules side d (Some (made_by rules table side d))
made_names rules lists table side d first =
    let t = made_by rules table side d in
    let f = host_on side t in
    let opens = (and_parts (is_opening (tcp_of d).flags) (is_tracked_port (tcp_of d).destination_port) first).0 in
    record {
      units = unless (rules.refusal f t.session (segment_of d)) (rules.units f t.session (segment_of d))
          (lists.syn f t.session (segment_of d) (syn_held (flags_of (tcp_of d).flags).syn (flags_of (tcp_of d).flags).ack opens));
      entries = lists.made (tcp_of d).destination_port (pair_in table side d) (tcp_of d).sequence (tcp_of d).mss f;
    }

-- ## Their tests

pub tests_none : {S : Type 0} (rules : SessionRules S) (image : Addr → Option Addr) (table : Bindings) (side : Side) (d : Datagram)
    (o : Option (Tracked S)) → NamesNothing rules side d o
    → unit_tests rules image table side d o ≡ (false, BadUnit) ∷ (false, UnitUnbound) ∷ (false, RenamesFull) ∷ []
tests_none rules image table side d o h = ap (λ (us : List (List ℕ)). T us (entries_in rules side o)) h.units ∙ ap (T []) h.entries
  where
    T : List (List ℕ) → List Entry → List (Bool × Refusal)
    T us es =
        (list_any is_bad us, BadUnit) ∷ (list_any (is_new_unbound table side es) (addresses_in us), UnitUnbound)
        ∷ (nat_lt MOST_ENTRIES (length (entered image es (addresses_in us))), RenamesFull) ∷ []

pub growth_none : {S : Type 0} (rules : SessionRules S) (image : Addr → Option Addr) (side : Side) (d : Datagram) (o : Option (Tracked S))
    → NamesNothing rules side d o → growth_tests rules image side d o ≡ (false, UnitGrows) ∷ []
growth_none rules image side d o h = ap (λ (us : List (List ℕ)). T us (entries_in rules side o)) h.units ∙ ap (T []) h.entries
  where
    T : List (List ℕ) → List Entry → List (Bool × Refusal)
    T us es = (list_any (grows_too_much (entered image es (addresses_in us))) us, UnitGrows) ∷ []

-- ## Their uses

pub pool_is : {S : Type 0} (rules : SessionRules S) (live : World S) (side : Side) (d : Datagram) → session_in (found_in live side d) ≡ None
    → is_pool_empty rules live side d Stream ≡ is_pool_empty rules live side d (Whole Udp)
pool_is {S = S} rules live side d alone =
    ap (λ (o : Option (Tracked S)). nat_lt (free live.table (other side)) (needed live.table side (addresses_of d ++ names_in rules side d o))) alone

pub table_is : {S : Type 0} (rules : SessionRules S) (live : World S) (side : Side) (d : Datagram) → session_in (found_in live side d) ≡ None
    → table_after rules live side live.clock d Stream ≡ after_uses live.table
    (uses_until side (live.clock + stream_timeout rules live side d) (addresses_of d))
table_is {S = S} rules live side d alone =
    let until = live.clock + stream_timeout rules live side d in
    ap (λ (o : Option (Tracked S)). after_uses live.table
    (uses_until side until (addresses_of d) ++ (uses_until side until (names_in rules side d o) ++ uses_of_lists rules until o))) alone
