-- What goes out as it came is read with its new addresses, and who answers that replies to it.
use Rattle.std.proofs.Common.{Fits, w8, ◌≡◌, ◌<◌, ◌+◌, ◌^◌, ◌==◌, ◌||◌, ℕ, Bool, true, false, not, cond, nat_lt, List, [], ◌∷◌, ◌++◌, Some, None}
use Rattle.std.proofs.Common.{Result, Ok, Err, is_ok, length, take, drop, get_or, refl, sym, ◌∙◌, ap, subst, inl, inr, arith, ltb-false}
use Rattle.std.proofs.Math.Facts.{Fits-of_lt}
use Rattle.std.proofs.lemmas.Bool.{cases_Bool, cases_lt, eqb-true, not-false, or_parts}
use Rattle.std.proofs.lemmas.List.{get_or_past}
use Rattle.std.proofs.lemmas.List.Elements.{All-take, All-drop, All-nil}
use Rattle.gate_base.specs.Prelude.{Event, other, is_unicast_number}
use Rattle.verdicts.specs.Prelude.{first_that_holds}
use Rattle.gate_base.specs.declared.address.Addr.{Addr}
use Rattle.verdicts.specs.declared.verdict.Verdict.TheVariants.{Pass}
use Rattle.verdicts.specs.declared.refusal.Refusal.{Refusal}
use Rattle.verdicts.specs.declared.refusal.Refusal.TheVariants as refusals
use Rattle.gate_base.specs.declared.side.Link.{Link}
use Rattle.gate_base.specs.declared.side.Link.TheVariants.{Ethernet, Raw}
use Rattle.gate_base.specs.declared.side.Side.{Side}
use Rattle.ether_frames.specs.Ether.{octets_in, read_frame, fields_of, carried}
use Rattle.ether_frames.specs.declared.head.TheConstants.{IPV4}
use Rattle.inet_sum.specs.Sum.{is_right}
use Rattle.ipv4_frames.specs.Ipv4.{Datagram, total_length_of, read_datagram, is_not_ipv4, has_bad_header, has_bad_header_sum, is_fragment, has_options}
use Rattle.ipv4_frames.specs.Judged.{first_fault_or}
use Rattle.ipv4_frames.specs.declared.fault.IpFault.TheVariants.{NotIpv4, BadHeader, BadHeaderSum, Fragment, IpOptions}
use Rattle.ipv4_frames.specs.declared.fault.TransportFault.{TransportFault}
use Rattle.ipv4_frames.specs.declared.fault.TransportFault.TheVariants.{BadTransport, BadSum}
use Rattle.udp_icmp.specs.Udp.{Udp, has_bad_length, has_bad_sum, read_udp, udp_fields_of}
use Rattle.udp_icmp.specs.Icmp.{Icmp, read_icmp, icmp_fields_of}
use Rattle.tcp_segments.specs.Prelude.{Tcp, has_bad_offset, has_bad_options, tcp_covered}
use Rattle.tcp_segments.specs.Tcp.{read_tcp}
use Rattle.twice_translate.specs.Content.{Content, of_icmp, of_udp, of_segment, read_as, read_content}
use Rattle.twice_translate.specs.Renamed.{IsAccepted, CanGoOn, renamed, with_addresses}
use Rattle.twice_translate.proofs.Cut.{cut_goes_on, cut_same}
use Rattle.twice_translate.proofs.Sealed.{content_back}
use Rattle.twice_translate.proofs.Whole.{goes_on}
use Rattle.binding_table.specs.Prelude.{Bindings, is_same, IsLawful, IsKnownAs}
use Rattle.binding_table.proofs.Opening.{top_of}
use Rattle.gate_model.specs.Called.{table_by, sent_from, sent_to, header_until}
use Rattle.gate_model.specs.Frame.{has_other_address, is_other_protocol}
use Rattle.gate_model.specs.Prelude.{SessionRules, World, at_moment, datagram_in, kind_of, header_tests, datagram_tests, transport_tests, world_tests}
use Rattle.gate_model.specs.Prelude.{tests, tcp_of, out, out_by}
use Rattle.gate_model.specs.Verdict.{verdict}
use Rattle.gate_model.specs.Octets.{AreOctets, GoesAsItCame, IsReadAs, IsAnswer}
use Rattle.gate_model.specs.Transparent.{IsReply}
use Rattle.gate_model.proofs.AliasesLast.{hosts_are, lawful_by}
use Rattle.gate_model.proofs.BoundTables.{placed}
use Rattle.gate_model.proofs.Passing.{NoneHolds, none_head, none_left, none_right, none_tail, pass_is}
use Rattle.gate_model.proofs.Transparency.{plain_out, segment_out}

-- ## Octets

each_fits : (xs : List ℕ) → AreOctets xs → (k : ℕ) → Fits w8 (get_or xs k 0)
each_fits xs h k = elim (cases_lt k (length xs)) [
  | inl l ↦ Fits-of_lt {w = w8} (h k 0 l)
  | inr l ↦ Fits-of_lt {w = w8} (let e = get_or_past xs k 0 l in omega (arith, e))
]

carried_octets : (octets : List ℕ) → AreOctets octets → AreOctets (octets_in Ethernet octets)
unfolding read_frame
carried_octets octets h = by_test (nat_lt (length octets) 14)
  where
    by_kind : (ip : Bool) → AreOctets (cond ip (drop 14 octets) [])
    by_kind true = All-drop (λ octet. octet < 256) 14 octets h
    by_kind false = All-nil (λ octet. octet < 256)

    by_test : (short : Bool) → AreOctets (carried (cond short None (Some (fields_of octets))))
    by_test true = All-nil (λ octet. octet < 256)
    by_test false = by_kind ((fields_of octets).kind == IPV4)

in_octets : (link : Link) (octets : List ℕ) → AreOctets octets → AreOctets (octets_in link octets)
in_octets Raw octets h = h
in_octets Ethernet octets h = carried_octets octets h

-- ## What passes is accepted

good_header : (s a b c d f : Bool) (x : Datagram)
    → first_that_holds
    ((s, refusals.Snapped) ∷ (a, refusals.NotIpv4) ∷ (b, refusals.BadHeader) ∷ (c, refusals.BadHeaderSum) ∷ (d, refusals.Fragment)
    ∷ (f, refusals.IpOptions) ∷ []) ≡ None
    → is_ok (first_fault_or ((a, NotIpv4) ∷ (b, BadHeader) ∷ (c, BadHeaderSum) ∷ (d, Fragment) ∷ (f, IpOptions) ∷ []) x) ≡ true
good_header true a b c d f x e = cc
good_header false true b c d f x e = cc
good_header false false true c d f x e = cc
good_header false false false true d f x e = cc
good_header false false false false true f x e = cc
good_header false false false false false true x e = cc
good_header false false false false false false x e = refl

header_read : (e : Event) → first_that_holds (header_tests e) ≡ None → is_ok (read_datagram (octets_in e.link e.octets)) ≡ true
unfolding read_datagram
header_read e none =
    let octets = octets_in e.link e.octets in
    good_header (not e.whole) (is_not_ipv4 octets) (has_bad_header octets) (has_bad_header_sum octets) (is_fragment octets) (has_options octets)
    (datagram_in e) none

two_ok : {T : Type 0} (a b : Bool) (x : T) → first_that_holds ((a, refusals.BadTransport) ∷ (b, refusals.BadSum) ∷ []) ≡ None
    → is_ok (first_fault_or ((a, BadTransport) ∷ (b, BadSum) ∷ []) x) ≡ true
two_ok true b x e = cc
two_ok false true x e = cc
two_ok false false x e = refl

three_ok : {T : Type 0} (a b c : Bool) (x : T) → first_that_holds ((a || b, refusals.BadTransport) ∷ (c, refusals.BadSum) ∷ []) ≡ None
    → is_ok (first_fault_or ((a, BadTransport) ∷ (b, BadTransport) ∷ (c, BadSum) ∷ []) x) ≡ true
three_ok true b c x e = cc
three_ok false true c x e = cc
three_ok false false true x e = cc
three_ok false false false x e = refl

as_ok : {A : Type 0} (kind : A → Content) (r : Result A TransportFault) → is_ok r ≡ true → is_ok (read_as kind r) ≡ true
as_ok kind (Ok y) h = refl
as_ok kind (Err f) h = h

udp_ok : (d : Datagram) → d.protocol ≡ 17 → first_that_holds (transport_tests d) ≡ None → is_ok (read_udp d.payload d.source d.destination) ≡ true
unfolding read_udp
udp_ok d p = rw p (two_ok {T = Udp} (has_bad_length d.payload) (has_bad_sum d.source d.destination d.payload) (udp_fields_of d.payload))

tcp_ok : (d : Datagram) → d.protocol ≡ 6 → first_that_holds (transport_tests d) ≡ None → is_ok (read_tcp d.payload d.source d.destination) ≡ true
unfolding read_tcp
tcp_ok d p =
    rw p (three_ok {T = Tcp} (has_bad_offset d.payload) (has_bad_options d.payload) (not (is_right (tcp_covered d.source d.destination d.payload)))
    (tcp_of d))

icmp_ok : (d : Datagram) → (d.protocol == 17) ≡ false → (d.protocol == 6) ≡ false → first_that_holds (transport_tests d) ≡ None
    → is_ok (read_icmp d.payload) ≡ true
unfolding read_icmp
icmp_ok d p q = rw (p, q) (two_ok {T = Icmp} (nat_lt (length d.payload) 8) (not (is_right d.payload)) (icmp_fields_of d.payload))

known_protocol : (u t : Bool) (x y z : Bool × Refusal) → first_that_holds (x ∷ y ∷ (not (u || t), z.1) ∷ []) ≡ None → u ≡ false → t ≡ false → ⊥
known_protocol u t (false, r) (false, s) z h e f = cc (rw (e, f) at h)
known_protocol u t (true, r) y z h e f = cc
known_protocol u t (false, r) (true, s) z h e f = cc

content_read : (d : Datagram) → first_that_holds (datagram_tests d) ≡ None → first_that_holds (transport_tests d) ≡ None
    → is_ok (read_content d.protocol d.source d.destination d.payload) ≡ true
content_read d known none = elim (cases_Bool (d.protocol == 17)) [
  | inl udp ↦ rw udp (as_ok of_udp (read_udp d.payload d.source d.destination) (udp_ok d (eqb-true d.protocol 17 udp) none))
  | inr other ↦ elim (cases_Bool (d.protocol == 6)) [
    | inl tcp ↦ rw (other, tcp) (as_ok of_segment (read_tcp d.payload d.source d.destination) (tcp_ok d (eqb-true d.protocol 6 tcp) none))
    | inr neither ↦ elim (cases_Bool (d.protocol == 1)) [
      | inl icmp ↦ rw (other, neither, icmp) (as_ok of_icmp (read_icmp d.payload) (icmp_ok d other neither none))
      | inr none_of ↦ absurd
          (known_protocol (d.protocol == 6) (d.protocol == 17) (nat_lt d.lifetime 2, refusals.TtlSpent)
          (has_other_address d, refusals.NotUnicast) (true, refusals.Protocol) (rw none_of at known) neither other)
    ]
  ]
]

below_two : (n : ℕ) → nat_lt n 2 ≡ false → 1 < n
below_two n h = let least = ltb-false n 2 h in omega (arith, least)

-- what is known of the frame of a datagram that passes
pub record IsGood (e : Event) : Type 0 where
  pub accepted : IsAccepted (octets_in e.link e.octets)
  pub lifetime : 1 < (datagram_in e).lifetime
  pub source : is_unicast_number (datagram_in e).source ≡ true
  pub destination : is_unicast_number (datagram_in e).destination ≡ true

pub is_good : {S : Type 0} (rules : SessionRules S) (w : World S) (e : Event) → verdict rules w e ≡ Pass → IsGood e
unfolding verdict
is_good rules w e v =
    let live = at_moment w e.moment in
    let d = datagram_in e in
    let world = world_tests rules live e.side e.moment d (kind_of d) in
    let all : NoneHolds (tests rules live e) = record { none = pass_is (first_that_holds (tests rules live e)) v } in
    let rest : NoneHolds (datagram_tests d ++ (transport_tests d ++ world)) =
    none_right (header_tests e) (datagram_tests d ++ (transport_tests d ++ world)) all in
    let front : NoneHolds (header_tests e) = none_left (header_tests e) (datagram_tests d ++ (transport_tests d ++ world)) all in
    let mine : NoneHolds (datagram_tests d) = none_left (datagram_tests d) (transport_tests d ++ world) rest in
    let carries : NoneHolds (transport_tests d) =
    none_left (transport_tests d) world (none_right (datagram_tests d) (transport_tests d ++ world) rest) in
    let later = (has_other_address d, refusals.NotUnicast) ∷ (is_other_protocol d, refusals.Protocol) ∷ [] in
    let alive : nat_lt d.lifetime 2 ≡ false = none_head {test = (nat_lt d.lifetime 2, refusals.TtlSpent)} {more = later} mine in
    let hosts : has_other_address d ≡ false =
    none_head {test = (has_other_address d, refusals.NotUnicast)}
    {more = (is_other_protocol d, refusals.Protocol) ∷ []}
    (none_tail {test = (nat_lt d.lifetime 2, refusals.TtlSpent)} {more = later} mine) in
    let both = or_parts (not (is_unicast_number d.source)) (not (is_unicast_number d.destination)) hosts in
    record {
      accepted = record { header = header_read e front.none; payload = content_read d mine.none carries.none };
      lifetime = below_two d.lifetime alive;
      source = not-false _ both.0;
      destination = not-false _ both.1;
    }

-- ## Addresses

small : (n : ℕ) → is_unicast_number n ≡ true → n < 2 ^ 32
small n unicast = let top = (top_of n unicast).below in omega (arith, top)

unicast_by : (table : Bindings) (address : Addr) → is_same table address ≡ false → is_unicast_number address.0 ≡ true
unicast_by table address same = not-false _ (or_parts (not (is_unicast_number address.0)) _ same).0

-- the host and the alias of each other are hosts' addresses if one is
host_unicast : (table : Bindings) (side : Side) (host alias until : ℕ) → IsLawful table → IsKnownAs table side host alias until
    → is_unicast_number alias ≡ true → is_unicast_number host ≡ true
host_unicast table side host alias until lawful (inl same) unicast = ap is_unicast_number (sym same.1) ∙ unicast
host_unicast table side host alias until lawful (inr h) unicast =
    unicast_by table (record { 0 = host }) (placed table side host alias until lawful h).0

alias_unicast : (table : Bindings) (side : Side) (host alias until : ℕ) → IsLawful table → IsKnownAs table side host alias until
    → is_unicast_number host ≡ true → is_unicast_number alias ≡ true
alias_unicast table side host alias until lawful (inl same) unicast = ap is_unicast_number same.1 ∙ unicast
alias_unicast table side host alias until lawful (inr h) unicast =
    unicast_by table (record { 0 = alias })
    (lawful.pools (other side) (record { 0 = alias }) (placed table side host alias until lawful h).2)

-- ## What goes out

goes_out_as_it_came : {S : Type 0} (rules : SessionRules S) (w : World S) (e : Event) → verdict rules w e ≡ Pass → GoesAsItCame w e
    → out rules w e ≡ renamed (datagram_in e) (sent_from rules w e).0 (sent_to rules w e).0 ∷ []
goes_out_as_it_came rules w e v (inl plain) =
    let live = at_moment w e.moment in
    ap (out_by rules live e) v ∙ plain_out rules live e.side e.moment (datagram_in e) (kind_of (datagram_in e)) plain
goes_out_as_it_came rules w e v (inr segment) = ap (out_by rules (at_moment w e.moment) e) v ∙ segment_out rules w e segment

pub read_as_sent : {S : Type 0} (rules : SessionRules S) (w : World S) (e : Event) → IsLawful w.table → verdict rules w e ≡ Pass
    → GoesAsItCame w e → AreOctets e.octets → (sent : List ℕ) × (out rules w e ≡ sent ∷ [])
    × IsReadAs sent (datagram_in e) (sent_from rules w e).0 (sent_to rules w e).0
read_as_sent rules w e lawful v goes are =
    let octets = octets_in e.link e.octets in
    let d = datagram_in e in
    let from = (sent_from rules w e).0 in
    let to = (sent_to rules w e).0 in
    let until = header_until rules w e in
    let table = table_by rules w e in
    let later = lawful_by rules w e lawful in
    let good = is_good rules w e v in
    let h = hosts_are rules w e lawful v in
    let s : from < 2 ^ 32 = small from (alias_unicast table e.side d.source from until later h.own good.source) in
    let t : to < 2 ^ 32 = small to (host_unicast table (other e.side) to d.destination until later h.far good.destination) in
    let can : CanGoOn (take (total_length_of octets) octets) = cut_goes_on octets good.accepted good.lifetime in
    let whole : AreOctets octets = in_octets e.link e.octets are in
    let fits = each_fits (take (total_length_of octets) octets) (All-take (λ octet. octet < 256) (total_length_of octets) octets whole) in
    let P : Datagram → Type 0 = λ x. read_datagram (renamed x from to) ≡ Ok (with_addresses x from to) in
    let header : P d = subst P (cut_same octets good.accepted) (goes_on (take (total_length_of octets) octets) from to fits can s t) in
    let payload = each_fits d.payload (All-take (λ octet. octet < 256) _ (drop 20 octets) (All-drop (λ octet. octet < 256) 20 octets whole)) in (
      renamed d from to,
      goes_out_as_it_came rules w e v goes,
      record {
        header = header;
        content = content_back d.protocol d.source d.destination from to d.payload s t payload good.accepted.payload;
      },
    )

-- ## Answers

one_is : (a b : List ℕ) (xs : List (List ℕ)) → xs ≡ a ∷ [] → xs ≡ b ∷ [] → a ≡ b
one_is a b xs e f = cc

ok_is : {A F : Type 0} (a b : A) (r : Result A F) → r ≡ Ok a → r ≡ Ok b → a ≡ b
ok_is a b r e f = cc

pub answers_reply : {S : Type 0} (rules : SessionRules S) (w : World S) (e x : Event) (sent : List ℕ) → IsLawful w.table
    → verdict rules w e ≡ Pass → GoesAsItCame w e → AreOctets e.octets → out rules w e ≡ sent ∷ [] → IsAnswer sent e x
    → IsReply rules w e x
answers_reply rules w e x sent lawful v goes are is answer =
    let d = datagram_in e in
    let read = read_as_sent rules w e lawful v goes are in
    let same : sent ≡ read.0 = one_is sent read.0 (out rules w e) is read.1 in
    let known : answer.read ≡ with_addresses d (sent_from rules w e).0 (sent_to rules w e).0 =
    ok_is answer.read (with_addresses d (sent_from rules w e).0 (sent_to rules w e).0) (read_datagram sent) answer.is_read
    (ap read_datagram same ∙ read.2.header) in
    record {
      side = answer.side;
      source = ap (λ (n : ℕ). let a : Addr = record { 0 = n } in a) (answer.source ∙ ap (λ (y : Datagram). y.destination) known);
      destination = ap (λ (n : ℕ). let a : Addr = record { 0 = n } in a) (answer.destination ∙ ap (λ (y : Datagram). y.source) known);
    }
