-- For how long headers keep their addresses.
use Rattle.std.proofs.Common.{◌≡◌, ◌≤◌, ◌*◌, ℕ, Bool, true, false, if◌then◌else◌, Option, Some, None, option_map, refl, ◌∙◌, ap, arith}
use Rattle.gate_base.specs.declared.side.Side.{Side}
use Rattle.ipv4_frames.specs.Ipv4.{Datagram}
use Rattle.tcp_tracker.specs.Connections.{is_established, timeout, timeout_or_short, with_flags, kept, kept_or_begun}
use Rattle.tcp_tracker.specs.declared.connection.TheConstants.{SHORT_TIMEOUT}
use Rattle.tcp_tracker.specs.declared.connection.Connection.{Connection}
use Rattle.gate_model.specs.Called.{least_seconds}
use Rattle.gate_model.specs.Prelude.{Echo, Error, Whole, Kind, Stream, SessionRules, Tracked, World, found_in, session_in, ends_by, tcp_of, key_in}
use Rattle.gate_model.specs.Verdict.{timeout_by}

either_least : (b : Bool) → 240 * 1000000000 ≤ (if b then 7440 * 1000000000 else SHORT_TIMEOUT)
either_least true = omega arith
either_least false = omega arith

one_least : {S : Type 0} (c : Connection S) → 240 * 1000000000 ≤ timeout c
one_least c = either_least (is_established c)

least_found : {S : Type 0} (o : Option (Connection S)) → 240 * 1000000000 ≤ timeout_or_short o
least_found None = omega arith
least_found (Some c) = one_least c

least_ended : (b : Bool) (n : ℕ) → 240 * 1000000000 ≤ n → 240 * 1000000000 ≤ (if b then SHORT_TIMEOUT else n)
least_ended true n h = omega arith
least_ended false n h = h

pub least : {S : Type 0} (rules : SessionRules S) (live : World S) (side : Side) (d : Datagram) (kind : Kind)
    → least_seconds kind * 1000000000 ≤ timeout_by rules live side d kind
least rules live side d (Whole Echo) = omega arith
least rules live side d (Whole Error) = omega arith
least rules live side d (Whole _) = omega arith
least rules live side d Stream =
    least_ended (ends_by rules side d (session_in (found_in live side d)))
    (timeout_or_short (option_map (with_flags side (tcp_of d).flags)
    (kept_or_begun (key_in live.table side d) (tcp_of d).flags None (found_in live side d))))
    (least_found (option_map (with_flags side (tcp_of d).flags)
    (kept_or_begun (key_in live.table side d) (tcp_of d).flags None (found_in live side d))))

pub established_is : {S : Type 0} (rules : SessionRules S) (live : World S) (side : Side) (d : Datagram) (c : Connection (Tracked S))
    → found_in live side d ≡ Some c → ends_by rules side d c.session ≡ false → kept (tcp_of d).flags c ≡ Some c
    → is_established (with_flags side (tcp_of d).flags c) ≡ true → timeout_by rules live side d Stream ≡ 7440 * 1000000000
established_is {S = S} rules live side d c found ends stays is =
    ap by_found found ∙ by_parts (ends_by rules side d c.session) ends (kept (tcp_of d).flags c) stays
  where
    by_found : Option (Connection (Tracked S)) → ℕ
    by_found o = if ends_by rules side d (session_in o) then SHORT_TIMEOUT else timeout_or_short
        (option_map (with_flags side (tcp_of d).flags) (kept_or_begun (key_in live.table side d) (tcp_of d).flags None o))

    by_parts : (b : Bool) → b ≡ false → (o : Option (Connection (Tracked S))) → o ≡ Some c
        → (if b then SHORT_TIMEOUT else timeout_or_short (option_map (with_flags side (tcp_of d).flags) o)) ≡ 7440 * 1000000000
    by_parts b e o f = rw (e, f, is) refl
