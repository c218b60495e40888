-- Sessions with lists, computed over worlds that are given: the tests of units in their order, the most entries of a list, for how
-- long what is listed stays bound, and a list that a table contradicts.
use Rattle.std.proofs.Common.{◌≡◌, ℕ, ◌+◌, true, false, List, [], ◌∷◌, ◌++◌, map, Some, None, refl}
use Rattle.std.specs.List.{range_with_len}
use Rattle.gate_base.specs.declared.address.Addr.{Addr}
use Rattle.gate_base.specs.declared.event.Pair.{Pair}
use Rattle.verdicts.specs.declared.verdict.Verdict.TheVariants.{Pass, Refused}
use Rattle.verdicts.specs.declared.refusal.Refusal.TheVariants.{BadUnit, RenamesFull, UnitUnbound}
use Rattle.gate_base.specs.declared.side.Link.TheVariants.{Raw}
use Rattle.gate_base.specs.declared.side.Side.{Side}
use Rattle.gate_base.specs.declared.side.Side.TheVariants.{Left, Right}
use Rattle.gate_settings.specs.declared.settings.Settings.{Settings}
use Rattle.binding_table.specs.Prelude.{opening}
use Rattle.binding_table.specs.declared.binding.Binding.{Binding}
use Rattle.dialogue.specs.Prelude.{Entry}
use Rattle.dns_stream.specs.Prelude.{dns_units}
use Rattle.stream_model.specs.Prelude.{Session}
use Rattle.tcp_tracker.specs.declared.connection.Connection.{Connection}
use Rattle.gate_model.specs.Prelude.{Lists, whole_rules, WholeSession, Tracked, World, next, out}
use Rattle.gate_model.specs.Verdict.{verdict}
use Rattle.gate_model.proofs.RowWords.{hex, fixed, pool, set, event}
use Rattle.gate_model.proofs.OnLiterals.{frames_on_literals}

abbrev settings : Settings
settings = set [] (pool 0xc0a8c801 0xc0a8c8fe) (pool 0xac100901 0xac1009fe)
    (fixed Left 0x0a000005 0xac100901 ∷ fixed Right 0x0a000035 0xc0a8c835 ∷ [])

abbrev pair : Pair
pair = record { client = record { 0 = 0x0a000005 }; client_alias = record { 0 = 0xac100901 }; server = record { 0 = 0x0a000035 }; server_alias = record { 0 = 0xc0a8c835 } }

-- so many entries, each of another address
abbrev many : ℕ → List Entry
many count = map (λ n. let a : Addr = record { 0 = 0x01000000 + n } in (a, None)) (range_with_len 0 count)

-- a session behind its handshake, whose server has named so many addresses
abbrev both : ℕ → Session
both count = record {
  client = record { meaning = dns_units []; mss = 1460; initial = Some 1000; octets = []; ended = false; acked = 0 };
  server = record { meaning = dns_units (many count); mss = 1460; initial = Some 5000; octets = []; ended = false; acked = 0 };
}

-- its connection
abbrev connection : Lists → Session → Connection (Tracked WholeSession)
connection lists session = record {
  key = record { left = record { 0 = 0x0a000005 }; left_port = 40001; right = record { 0 = 0x0a000035 }; right_port = 53 };
  left_acknowledges = true;
  right_acknowledges = true;
  closing = false;
  session = Some (record { client = Left; pair = pair; session = record { lists = Some lists; session = session } });
  until = record { 0 = 7440000000000 };
}

abbrev world : ℕ → World WholeSession
world count = record {
  clock = 0;
  table = opening settings;
  connections = connection (record { client = []; server = many count }) (both count) ∷ [];
  pending = 0;
}

one_more_fits : verdict whole_rules (world 255) (event Right 1000 Raw true
    (hex 56 0x450000580002400040067b580a000035ac10090100359c4100001389000003e950182000f3140000002e0001818000000002000000000161
    ++ hex 32 0x00000100010000012c00040a000008016100000100010000012c00040a000008)) ≡ Pass
unfolding frames_on_literals
one_more_fits = refl

two_more_do_not : verdict whole_rules (world 255) (event Right 1000 Raw true
    (hex 56 0x450000580002400040067b580a000035ac10090100359c4100001389000003e950182000f3130000002e0001818000000002000000000161
    ++ hex 32 0x00000100010000012c00040a000008016100000100010000012c00040a000009)) ≡ Refused RenamesFull
unfolding frames_on_literals
two_more_do_not = refl

none_fits : verdict whole_rules (world 256) (event Right 1000 Raw true
    (hex 56 0x450000580002400040067b580a000035ac10090100359c4100001389000003e950182000f3140000002e0001818000000002000000000161
    ++ hex 32 0x00000100010000012c00040a000008016100000100010000012c00040a000008)) ≡ Refused RenamesFull
unfolding frames_on_literals
none_fits = refl

two_more_fit : verdict whole_rules (world 254) (event Right 1000 Raw true
    (hex 56 0x450000580002400040067b580a000035ac10090100359c4100001389000003e950182000f3130000002e0001818000000002000000000161
    ++ hex 32 0x00000100010000012c00040a000008016100000100010000012c00040a000009)) ≡ Pass
unfolding frames_on_literals
two_more_fit = refl

-- ## The tests of units in their order

an_unbound_name : verdict whole_rules (world 0) (event Left 1000 Raw true
    (hex 56 0x45000057000240004006a7bc0a000005c0a8c8359c410035000003e900001389501820009ab10000002d0001010000010000000000000235
    ++ hex 31 0x3003323030033136380331393207696e2d61646472046172706100000c0001)) ≡ Refused UnitUnbound
unfolding frames_on_literals
an_unbound_name = refl

behind_a_bad_unit : verdict whole_rules (world 0) (event Left 1000 Raw true
    (hex 56 0x45000059000240004006a7ba0a000005c0a8c8359c410035000003e900001389501820009aaf00000000002d000101000001000000000000
    ++ hex 33 0x02353003323030033136380331393207696e2d61646472046172706100000c0001)) ≡ Refused BadUnit
unfolding frames_on_literals
behind_a_bad_unit = refl

-- ## What is listed stays bound as long as the connection lives

-- a binding that ends at this moment
abbrev bound_until : Side → ℕ → ℕ → ℕ → Binding
bound_until side host alias moment = record { side = side; host = record { 0 = host }; alias = record { 0 = alias }; until = record { 0 = moment }; fixed = false }

-- the client has named 10.0.0.7, a host of its own realm, and the server 10.0.0.8, one of its own
abbrev both_named : World WholeSession
both_named =
    let client : List Entry = (record { 0 = 0x0a000007 }, Some (record { 0 = 0xac100902 })) ∷ [] in
    let server : List Entry = (record { 0 = 0x0a000008 }, Some (record { 0 = 0xc0a8c809 })) ∷ [] in
    record (world 0) {
      table = record (opening settings) { entries = (opening settings).entries ++ bound_until Left 0x0a000007 0xac100902 240000000000 ∷ bound_until Right 0x0a000008 0xc0a8c809 240000000000 ∷ [] };
      connections = connection (record { client = client; server = server }) (record {
        client = record { meaning = dns_units client; mss = 1460; initial = Some 1000; octets = []; ended = false; acked = 0 };
        server = record { meaning = dns_units server; mss = 1460; initial = Some 5000; octets = []; ended = false; acked = 0 };
      }) ∷ [];
    }

-- each list's addresses cross from the realm of its sender, whichever host sends
both_lists_are_used : (next whole_rules both_named (event Left 1000 Raw true
    (hex 40 0x45000028000240004006a7eb0a000005c0a8c8359c410035000003e9000013895010200049090000))).table.entries
    ≡ (opening settings).entries ++ bound_until Left 0x0a000007 0xac100902 7440000001000 ∷ bound_until Right 0x0a000008 0xc0a8c809 7440000001000 ∷ []
unfolding frames_on_literals
both_lists_are_used = refl

-- ## A unit that comes again is renamed by the list, whatever the table says at that moment

-- the server has named 10.0.0.8 as 192.168.200.9, by which no binding goes, and its unit was taken
abbrev named_before : World WholeSession
named_before =
    let server : List Entry = (record { 0 = 0x0a000008 }, Some (record { 0 = 0xc0a8c809 })) ∷ [] in
    record (world 0) {
      connections = connection (record { client = []; server = server }) (record {
        client = record { meaning = dns_units []; mss = 1460; initial = Some 1000; octets = []; ended = false; acked = 0 };
        server = record { meaning = dns_units server; mss = 1460; initial = Some 5000; octets = hex 31 0x001d000181800000000100000000016100000100010000012c00040a000008; ended = false; acked = 0 };
      }) ∷ [];
    }

by_the_list : out whole_rules named_before (event Right 1000 Raw true
    (hex 56 0x450000470002400040067b690a000035ac10090100359c4100001389000003e9501820005f730000001d0001818000000001000000000161
    ++ hex 15 0x00000100010000012c00040a000008)) ≡
    (hex 56 0x45000047000240003f06a8ccc0a8c8350a00000500359c4100001389000003e9501820000d590000001d0001818000000001000000000161
    ++ hex 15 0x0000010001000000000004c0a8c809) ∷ []
unfolding frames_on_literals
by_the_list = refl
