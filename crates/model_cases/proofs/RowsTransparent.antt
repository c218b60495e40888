-- That the premises of the laws on replies, aliases and connections are met: each by frames, computed. A law whose premise nothing meets would say nothing.
use Rattle.std.proofs.Common.{◌++◌, ◌≡◌, ◌<◌, ℕ, ap, true, false, List, [], ◌∷◌, fold, length, map, Some, None, refl, inl, inr, lit<, arith}
use Rattle.std.proofs.lemmas.Bool.{lt-ltb}
use Rattle.std.proofs.lemmas.List.Elements.{All-cons, All-nil}
use Rattle.gate_base.specs.Prelude.{Event, is_unicast_number}
use Rattle.verdicts.specs.Prelude.{first_that_holds}
use Rattle.gate_base.specs.declared.address.Addr.{Addr}
use Rattle.gate_base.specs.declared.event.Moment.{Moment}
use Rattle.verdicts.specs.declared.verdict.Verdict.TheVariants.{Pass, Refused}
use Rattle.verdicts.specs.declared.refusal.Refusal.TheVariants.{NoBinding, SnmpTooLong}
use Rattle.gate_base.specs.declared.side.Link.TheVariants.{Raw}
use Rattle.gate_base.specs.declared.side.Side.{Side}
use Rattle.gate_base.specs.declared.side.Side.TheVariants.{Left, Right}
use Rattle.gate_settings.specs.declared.settings.Settings.{Settings}
use Rattle.binding_table.specs.declared.binding.Binding.{Binding}
use Rattle.binding_table.specs.Prelude.{Bindings, Use, in_pool, image_after}
use Rattle.tcp_tracker.specs.Connections.{is_established, kept, with_flags}
use Rattle.tcp_tracker.specs.declared.connection.Connection.{Connection}
use Rattle.icmp_errors.specs.Inner.{inner_fields}
use Rattle.ipv4_frames.specs.Ipv4.{Datagram, read_datagram}
use Rattle.gate_model.specs.Called.{AllBefore, IsKeptUntil, called_by, header_until, sent_from, table_by}
use Rattle.twice_translate.specs.Renamed.{datagram_of}
use Rattle.gate_model.specs.ForGood.{IsFixed}
use Rattle.gate_model.specs.Frame.{Whole, Dns, Snmp, datagram_in, kind_of}
use Rattle.gate_model.specs.Inner.{inside, inner_session}
use Rattle.gate_model.specs.Management.{management_after}
use Rattle.gate_model.specs.Prelude.{Tracked, WholeSession, World, ends_by, found_in, source_of, tcp_of, whole_rules}
use Rattle.gate_model.specs.Octets.{GoesAsItCame, IsAnswer}
use Rattle.gate_model.specs.Origins.{ComesFromUse, IsMeant, IsUseOf}
use Rattle.gate_model.specs.Promise.{IsPlain, LaterIs}
use Rattle.gate_model.specs.Step.{next, out}
use Rattle.gate_model.specs.Stream.{has_tracked_port}
use Rattle.gate_model.specs.Transparent.{ComesBack, ComesHome, IsAbout, IsPlainKind, IsReply, IsUntracked, KeepsAlias, NamesAreCalled, ReachesHosts}
use Rattle.gate_model.specs.Transparent.{own_tests}
use Rattle.gate_model.specs.Verdict.{image_tests, verdict}
use Rattle.gate_model.specs.World.{at_moment, opening_world}
use Rattle.gate_model.proofs.RowWords.{hex, fixed, pool, set, event}
use Rattle.gate_model.proofs.OnLiterals.{frames_on_literals}

abbrev settings : Settings
settings = set [] (pool 0xc0a8c801 0xc0a8c8fe) (pool 0xac100901 0xac1009fe)
    (fixed Left 0x0a000005 0xac100901 ∷ fixed Right 0x0a000005 0xc0a8c801 ∷ fixed Right 0x0a000035 0xc0a8c835 ∷ [])

-- what is known after these frames
abbrev after : List Event → World WholeSession
after events = fold (next whole_rules) (opening_world settings) events

-- the host 10.0.0.6 of the left realm, and what it is called in the right one
abbrev host : Addr
host = record { 0 = 0x0a000006 }

abbrev alias : Addr
alias = record { 0 = 0xac100902 }

-- ## A frame, and a reply to it

-- 10.0.0.6 sends a datagram to the server,
abbrev sends : Event
sends = event Left 1000 Raw true (hex 30 0x4500001e000140004011a81e0a000006c0a8c8010fa01388000ae1986869)

-- another host does,
abbrev others : Event
others = event Left 2000 Raw true (hex 30 0x4500001e000140004011a81d0a000007c0a8c8010fa01388000ae191686f)

-- and the server answers the first one
abbrev reply : Event
reply = event Right 3000 Raw true (hex 31 0x4500001f0001400040117bb60a000005ac10090213880fa0000b3133796573)

sends_passes : verdict whole_rules (after []) sends ≡ Pass
unfolding frames_on_literals
sends_passes = refl

keeps_until : header_until whole_rules (after []) sends ≡ 300000001000
unfolding frames_on_literals
keeps_until = refl

source_is_kept : IsKeptUntil whole_rules (after []) sends host 300000001000
unfolding frames_on_literals
source_is_kept = inl (inl refl, refl)

destination_is_kept : IsKeptUntil whole_rules (after []) sends (record { 0 = 0xc0a8c801 }) 300000001000
unfolding frames_on_literals
destination_is_kept = inl (inr refl, refl)

between : AllBefore 300000001000 (others ∷ [])
between = All-cons (λ e. e.moment < 300000001000) others [] (lit< tt) (All-nil (λ e. e.moment < 300000001000))

is_called : called_by whole_rules (after []) sends host ≡ alias
unfolding frames_on_literals
is_called = refl

-- the host may be reached by others, and sends again;
is_no_alias : in_pool (at_moment (after (sends ∷ others ∷ [])) 3000).table Left host ≡ false
unfolding frames_on_literals
is_no_alias = refl

is_unicast : is_unicast_number host.0 ≡ true
unfolding frames_on_literals
is_unicast = refl

sends_again : source_of (datagram_in sends) ≡ host
unfolding frames_on_literals
sends_again = refl

-- it is a reply, of a kind of which nothing else is looked at, with nothing wrong by itself,
is_reply : IsReply whole_rules (after []) sends reply
unfolding frames_on_literals
is_reply = record { side = refl; source = refl; destination = refl }

is_plain : IsPlainKind (kind_of (datagram_in reply))
unfolding frames_on_literals
is_plain = tt

is_whole : first_that_holds (own_tests reply) ≡ None
unfolding frames_on_literals
is_whole = refl

-- and passes
reply_passes : verdict whole_rules (after (sends ∷ others ∷ [])) reply ≡ Pass
unfolding frames_on_literals
reply_passes = refl

-- what the host sends later passes too, from the same alias
abbrev again : Event
again = event Left 4000 Raw true (hex 30 0x4500001e000140004011a81e0a000006c0a8c8010fa01388000ae1986869)

again_passes : verdict whole_rules (after (sends ∷ others ∷ [])) again ≡ Pass
unfolding frames_on_literals
again_passes = refl

again_from : sent_from whole_rules (after (sends ∷ others ∷ [])) again ≡ called_by whole_rules (after []) sends host
unfolding frames_on_literals
again_from = refl

-- in octets: what goes out is read so, and the reply answers that
abbrev went_out : List ℕ
went_out = hex 30 0x4500001e000140003f117cb7ac1009020a0000050fa01388000ab5316869

goes_out : out whole_rules (after []) sends ≡ went_out ∷ []
unfolding frames_on_literals
goes_out = refl

goes_as_it_came : GoesAsItCame (after []) sends
unfolding frames_on_literals
goes_as_it_came = inl tt

is_answer : IsAnswer went_out sends reply
unfolding frames_on_literals read_datagram
is_answer = record { side = refl; read = datagram_of went_out; is_read = refl; source = refl; destination = refl }

-- ## Statics

-- both servers have one: a frame from the one to the other's alias is between what settings fix
own_is_fixed : IsFixed settings Left (record { 0 = 0x0a000005 }) (record { 0 = 0xac100901 })
own_is_fixed = inl (0, omega arith, refl)

far_is_fixed : IsFixed settings Right (record { 0 = 0x0a000005 }) (record { 0 = 0xc0a8c801 })
far_is_fixed = inl (1, omega arith, refl)

-- ## An ICMP error

-- the server's port is unreachable
abbrev error : Event
error = event Right 3000 Raw true
    (hex 56 0x4500003a0001400040017bab0a000005ac1009020303bc2f000000004500001e000140003f117cb7ac1009020a0000050fa01388000ab531
    ++ hex 2 0x6869)

is_about : IsAbout whole_rules (after []) sends error
unfolding frames_on_literals
is_about = record { side = refl; source = refl; destination = refl }

asks_no_session : inner_session (at_moment (after (sends ∷ others ∷ [])) 3000) Right (inner_fields (inside (datagram_in error))) ≡ None
unfolding frames_on_literals
asks_no_session = refl

-- ## A ping, and its answer

abbrev ping : Event
ping = event Left 1000 Raw true (hex 30 0x4500001e000100004001e82e0a000006c0a8c80108008f94000100016869)

abbrev ping_answer : Event
ping_answer = event Right 3000 Raw true (hex 30 0x4500001e000100004001bbc70a000005ac10090200009794000100016869)

ping_passes : verdict whole_rules (after []) ping ≡ Pass
unfolding frames_on_literals
ping_passes = refl

ping_until : header_until whole_rules (after []) ping ≡ 60000001000
unfolding frames_on_literals
ping_until = refl

answers_ping : IsReply whole_rules (after []) ping ping_answer
unfolding frames_on_literals
answers_ping = record { side = refl; source = refl; destination = refl }

ping_is_plain : IsPlainKind (kind_of (datagram_in ping_answer))
unfolding frames_on_literals
ping_is_plain = tt

ping_is_whole : first_that_holds (own_tests ping_answer) ≡ None
unfolding frames_on_literals
ping_is_whole = refl

-- ## A name in a DNS message

-- 10.0.0.5 asks the name server,
abbrev question : Event
question = event Left 1000000000 Raw true
    (hex 56 0x45000039000140004011a7d00a000005c0a8c8350fa000350025887700010100000100000000000003667470076578616d706c6500000100
    ++ hex 1 0x01)

-- and that names 10.0.0.7
abbrev answer : Event
answer = event Right 2000000000 Raw true
    (hex 56 0x450000490001400040117b5d0a000035ac10090100350fa0003595a700018180000100010000000003667470076578616d706c6500000100
    ++ hex 17 0x01c00c000100010000012c00040a000007)

answer_passes : verdict whole_rules (after (question ∷ [])) answer ≡ Pass
unfolding frames_on_literals
answer_passes = refl

answer_kind : kind_of (datagram_in answer) ≡ Whole Dns
unfolding frames_on_literals
answer_kind = refl

name_is_kept : IsKeptUntil whole_rules (after (question ∷ [])) answer (record { 0 = 0x0a000007 }) 62000000000
unfolding frames_on_literals
name_is_kept = inr (refl, (0, omega arith, refl), refl)

-- a question keeps both its addresses as other UDP does
question_until : header_until whole_rules (after []) question ≡ 301000000000
unfolding frames_on_literals
question_until = refl

-- ## A connection

-- 10.0.0.6 connects to port 80: no session tracks that
abbrev syn : Event
syn = event Left 5000 Raw true (hex 40 0x45000028000140004006a81f0a000006c0a8c8019c400050000003e800000000500220005cba0000)

abbrev syn_answer : Event
syn_answer = event Right 6000 Raw true (hex 40 0x450000280001400040067bb80a000005ac10090200509c4000001388000003e9501220001cba0000)

abbrev handshake : Event
handshake = event Left 7000 Raw true (hex 40 0x45000028000140004006a81f0a000006c0a8c8019c400050000003e9000013895010200049220000)

syn_passes : verdict whole_rules (after []) syn ≡ Pass
unfolding frames_on_literals
syn_passes = refl

syn_until : header_until whole_rules (after []) syn ≡ 240000005000
unfolding frames_on_literals
syn_until = refl

has_no_tracked_port : has_tracked_port (datagram_in syn_answer) ≡ false
unfolding frames_on_literals
has_no_tracked_port = refl

is_untracked : IsUntracked (after (syn ∷ [])) syn_answer
unfolding frames_on_literals
is_untracked = record { kind = refl; ports = refl; session = refl }

answers_syn : IsReply whole_rules (after []) syn syn_answer
unfolding frames_on_literals
answers_syn = record { side = refl; source = refl; destination = refl }

syn_answer_passes : verdict whole_rules (after (syn ∷ [])) syn_answer ≡ Pass
unfolding frames_on_literals
syn_answer_passes = refl

-- it lives for four minutes,
lives : map (λ c. c.until.0) (after (syn ∷ [])).connections ≡ 240000005000 ∷ []
unfolding frames_on_literals
lives = refl

abbrev connection : Connection (Tracked WholeSession)
connection = record {
  key = record { left = host; left_port = 40000; right = record { 0 = 0x0a000005 }; right_port = 80 };
  left_acknowledges = false;
  right_acknowledges = true;
  closing = false;
  session = None;
  until = record { 0 = 240000006000 };
}

-- and is established with the third segment of its handshake
is_found : found_in (at_moment (after (syn ∷ syn_answer ∷ [])) 7000) Left (datagram_in handshake) ≡ Some connection
unfolding frames_on_literals
is_found = refl

ends_not : ends_by whole_rules Left (datagram_in handshake) connection.session ≡ false
unfolding frames_on_literals
ends_not = refl

is_kept : kept (tcp_of (datagram_in handshake)).flags connection ≡ Some connection
unfolding frames_on_literals
is_kept = refl

establishes : is_established (with_flags Left (tcp_of (datagram_in handshake)).flags connection) ≡ true
unfolding frames_on_literals
establishes = refl

-- which keeps both addresses longer
handshake_until : header_until whole_rules (after (syn ∷ syn_answer ∷ [])) handshake ≡ 7440000007000
unfolding frames_on_literals
handshake_until = refl

-- no session takes it
is_no_session's : IsPlain (after (syn ∷ [])) syn_answer
unfolding frames_on_literals
is_no_session's = λ is. refl

-- ## A refusal

-- a frame to an address that stands for nobody
abbrev stray : Event
stray = event Left 1500 Raw true (hex 30 0x4500001e000140004011a7bb0a000006c0a8c8640fa01388000ae1356869)

is_refused : verdict whole_rules (after (sends ∷ [])) stray ≡ Refused NoBinding
unfolding frames_on_literals
is_refused = refl

-- ## What the conclusions say

-- a reply that comes back goes out so,
comes_so : ComesBack whole_rules sends (after (sends ∷ others ∷ [])) reply
    → out whole_rules (after (sends ∷ others ∷ [])) reply ≡ hex 31 0x4500001f000140003f11a91dc0a8c8010a00000613880fa0000b5d9a796573 ∷ []
unfolding frames_on_literals
comes_so back = back.sent is_plain is_whole

-- and none comes back where its binding isn't known
comes_not : ComesBack whole_rules sends (after []) reply → ⊥
unfolding frames_on_literals
comes_not back = let none = back.addresses in cc

-- so it is with what follows from a frame that passed
later_not : LaterIs (after []) sends (others ∷ []) (after []) reply → ⊥
later_not later = comes_not (later.replies is_reply between (lit< tt))

-- an alias that isn't known isn't kept
keeps_not : KeepsAlias whole_rules (after []) sends host (after []) again → ⊥
unfolding frames_on_literals
keeps_not keeps = let there = keeps.crosses.there in cc

-- no error comes home where the binding of its inner source isn't known
home_not : ComesHome whole_rules sends (after []) error → ⊥
unfolding frames_on_literals
home_not home = let source = home.source in cc

-- a connection's hosts aren't reached by bindings that don't have them
reaches_not : ReachesHosts (after []).table connection → ⊥
unfolding frames_on_literals
reaches_not reaches = let there = (reaches.crosses Left).there in cc

-- without statics nobody is meant by the first frame
abbrev bare : Settings
bare = set [] (pool 0xc0a8c801 0xc0a8c8fe) (pool 0xac100901 0xac1009fe) []

not_first : (before more : List Event) (e : Event) → [] ≡ before ++ e ∷ more → ⊥
not_first [] more e h = cc
not_first (x ∷ before) more e h = cc

meant_not : IsMeant whole_rules bare [] (opening_world bare) stray → ⊥
meant_not meant = by_cause meant.binding meant.comes
  where
    by_cause : (b : Binding) → ComesFromUse whole_rules bare [] b → ⊥
    by_cause b (inl fixed) = let less = fixed.1.1 in absurd (omega (arith, less))
    by_cause b (inr used) = not_first used.1.before used.1.others used.1.event used.1.split

-- of an answer that goes out, what it names is called so
says_name : NamesAreCalled whole_rules (after (question ∷ [])) answer
    → image_after (at_moment (after (question ∷ [])) 2000000000).table (table_by whole_rules (after (question ∷ [])) answer) Right
    (record { 0 = 0x0a000007 }) ≡ Some (record { 0 = 0xc0a8c802 })
unfolding frames_on_literals
says_name called = called 0 (record { 0 = 0x0a000007 }) (lit< tt)

-- a binding that ends behind a use doesn't come from it
abbrev one_use : Use
one_use = record { side = Left; address = host; until = record { 0 = 300000001000 } }

abbrev longer : Binding
longer = record { side = Left; host = host; alias = alias; until = record { 0 = 300000001001 }; fixed = false }

not_from_it : IsUseOf longer one_use → ⊥
not_from_it one = let same = ap (λ (m : Moment). m.0) one.until in absurd (omega (arith, same))

-- ## SNMP messages that grow

-- one that is longer than a datagram holds is refused for that
too_long : (table : Bindings) (side : Side) (d : Datagram) → 65507 < length (management_after table side d)
    → first_that_holds (image_tests table side d Snmp) ≡ Some SnmpTooLong
too_long table side d more = rw (lt-ltb 65507 (length (management_after table side d)) more) refl
