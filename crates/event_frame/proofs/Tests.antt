-- Tests in their order, and faults as refusals.
use Rattle.std.proofs.Common.{◌≡◌, ℕ, ◌==◌, nat_lt, Bool, true, false, not, ◌||◌, List, [], ◌∷◌, ◌++◌, Option, Some, None, Result, Ok, Err, IfOk, IsOkAnd, IsErrAnd, MatchResult, length, refl, sym, ap, subst, ◌∙◌, inl, inr, is_ok}
use Rattle.std.specs.Option.{option_or}
use Rattle.std.proofs.lemmas.Bool.{cases_Bool, eqb-true}
use Rattle.twice_translate.specs.Content.{Content, of_icmp, of_udp, of_segment, read_as, read_content}
use Rattle.gate_base.specs.Prelude.{Event}
use Rattle.verdicts.specs.Prelude.{first_that_holds}
use Rattle.verdicts.specs.declared.refusal.Refusal.{Refusal}
use Rattle.verdicts.specs.declared.refusal.Refusal.TheVariants as refusals
use Rattle.ipv4_frames.specs.declared.fault.IpFault.{IpFault}
use Rattle.ipv4_frames.specs.declared.fault.IpFault.TheVariants.{NotIpv4, BadHeader, BadHeaderSum, Fragment, IpOptions}
use Rattle.ipv4_frames.specs.declared.fault.TransportFault.{TransportFault}
use Rattle.ipv4_frames.specs.declared.fault.TransportFault.TheVariants.{BadTransport, BadSum}
use Rattle.ipv4_frames.specs.Judged.{first_fault_or}
use Rattle.ipv4_frames.specs.Ipv4.{Datagram, is_not_ipv4, has_bad_header, has_bad_header_sum, is_fragment, has_options, read_datagram}
use Rattle.udp_icmp.specs.Udp.{Udp, has_bad_length, has_bad_sum, read_udp, udp_fields_of}
use Rattle.udp_icmp.specs.Icmp.{Icmp, read_icmp, icmp_fields_of}
use Rattle.inet_sum.specs.Sum.{is_right}
use Rattle.tcp_segments.specs.Prelude.{Tcp, has_bad_offset, has_bad_options, tcp_covered}
use Rattle.tcp_segments.specs.Tcp.{read_tcp}
use Rattle.ether_frames.specs.Ether.{octets_in}
use Rattle.gate_model.specs.Prelude.{datagram_in, header_tests, datagram_tests, transport_tests, tcp_of}
use Rattle.gate_model.specs.Frame.{has_other_address}
use Rattle.event_frame.specs.declared.content.Content.{Content as Carried}
use Rattle.event_frame.specs.Judged.{front_tests, IsContentOf}
use Rattle.event_frame.specs.Inside.Judged.{ip_refusal, transport_refusal, judged, Carries}

-- ## Headers

-- the tests of the octets of a frame that the capture kept whole
abbrev pub whole_tests : List ℕ → List (Bool × Refusal)
whole_tests octets =
    (is_not_ipv4 octets, refusals.NotIpv4) ∷ (has_bad_header octets, refusals.BadHeader) ∷ (has_bad_header_sum octets, refusals.BadHeaderSum)
    ∷ (is_fragment octets, refusals.Fragment)
    ∷ (has_options octets, refusals.IpOptions) ∷ []

-- a datagram, or its fault as a refusal
abbrev pub refused : Result Datagram IpFault → Result Datagram Refusal
refused (Ok d) = Ok d
refused (Err fault) = Err (ip_refusal fault)

-- what reading answers, with its fault as a refusal
pub refused_is : (r : Result Datagram IpFault) (s : Result Datagram Refusal) → MatchResult r (λ d. s ≡ Ok d) (λ f. IsErrAnd s (λ y. y ≡ ip_refusal f))
    → s ≡ refused r
refused_is (Ok d) s h = h
refused_is (Err f) (Ok d) h = absurd h
refused_is (Err f) (Err y) h = ap Err h

pub was_read : (r : Result Datagram IpFault) (s : Result Datagram Refusal) → MatchResult r (λ d. s ≡ Ok d) (λ f. IsErrAnd s (λ y. y ≡ ip_refusal f))
    → IfOk s (λ d. r ≡ Ok d)
was_read (Ok d) s h = rw h refl
was_read (Err f) (Ok d) h = absurd h
was_read (Err f) (Err y) h = _

five_tests : (a b c d e : Bool) (x : Datagram)
    → refused (first_fault_or ((a, NotIpv4) ∷ (b, BadHeader) ∷ (c, BadHeaderSum) ∷ (d, Fragment) ∷ (e, IpOptions) ∷ []) x)
    ≡ judged
    (first_that_holds
    ((a, refusals.NotIpv4) ∷ (b, refusals.BadHeader) ∷ (c, refusals.BadHeaderSum) ∷ (d, refusals.Fragment) ∷ (e, refusals.IpOptions) ∷ [])) x
five_tests true b c d e x = refl
five_tests false true c d e x = refl
five_tests false false true d e x = refl
five_tests false false false true e x = refl
five_tests false false false false true x = refl
five_tests false false false false false x = refl

-- a whole frame is refused as its datagram can't be read
pub read_is : (e : Event) → e.whole ≡ true
    → refused (read_datagram (octets_in e.link e.octets)) ≡ judged (first_that_holds (header_tests e)) (datagram_in e)
unfolding read_datagram
read_is e whole = five_tests _ _ _ _ _ (datagram_in e)
    ∙ ap (λ (w : Bool). judged (first_that_holds ((not w, refusals.Snapped) ∷ whole_tests (octets_in e.link e.octets))) (datagram_in e)) (sym whole)

-- ## Transport

-- what reading answers, beside the tests
abbrev pub Told : {T : Type 0} → T → Option Refusal → Result T TransportFault → Type 0
Told x tests (Ok y) = (tests ≡ None) × (y ≡ x)
Told x tests (Err f) = tests ≡ Some (transport_refusal f)

two_tests : {T : Type 0} (a b : Bool) (x : T)
    → Told x (first_that_holds ((a, refusals.BadTransport) ∷ (b, refusals.BadSum) ∷ [])) (first_fault_or ((a, BadTransport) ∷ (b, BadSum) ∷ []) x)
two_tests true b x = refl
two_tests false true x = refl
two_tests false false x = (refl, refl)

three_tests : {T : Type 0} (a b c : Bool) (x : T)
    → Told x (first_that_holds ((a || b, refusals.BadTransport) ∷ (c, refusals.BadSum) ∷ []))
    (first_fault_or ((a, BadTransport) ∷ (b, BadTransport) ∷ (c, BadSum) ∷ []) x)
three_tests true b c x = refl
three_tests false true c x = refl
three_tests false false true x = refl
three_tests false false false x = (refl, refl)

pub udp_told : (d : Datagram) → d.protocol ≡ 17
    → Told (udp_fields_of d.payload) (first_that_holds (transport_tests d)) (read_udp d.payload d.source d.destination)
unfolding read_udp
udp_told d p = rw p (two_tests {T = Udp} (has_bad_length d.payload) (has_bad_sum d.source d.destination d.payload) (udp_fields_of d.payload))

pub tcp_told : (d : Datagram) → d.protocol ≡ 6 → Told (tcp_of d) (first_that_holds (transport_tests d)) (read_tcp d.payload d.source d.destination)
unfolding read_tcp
tcp_told d p =
    rw p (three_tests {T = Tcp} (has_bad_offset d.payload) (has_bad_options d.payload) (not (is_right (tcp_covered d.source d.destination d.payload)))
    (tcp_of d))

pub icmp_told : (d : Datagram) → (d.protocol == 17) ≡ false → (d.protocol == 6) ≡ false
    → Told (icmp_fields_of d.payload) (first_that_holds (transport_tests d)) (read_icmp d.payload)
unfolding read_icmp
icmp_told d p q = rw (p, q) (two_tests {T = Icmp} (nat_lt (length d.payload) 8) (not (is_right d.payload)) (icmp_fields_of d.payload))

pub udp_read : (d : Datagram) (payload : List ℕ) (s t : ℕ) (r : Result Udp TransportFault) → d.protocol ≡ 17 → payload ≡ d.payload → s ≡ d.source
    → t ≡ d.destination → r ≡ read_udp payload s t → Told (udp_fields_of d.payload) (first_that_holds (transport_tests d)) r
udp_read d payload s t r p e f g h =
    subst (λ (x : Result Udp TransportFault). Told (udp_fields_of d.payload) (first_that_holds (transport_tests d)) x)
    (sym (h ∙ ap (λ (x : List ℕ). read_udp x s t) e ∙ ap (λ (x : ℕ). read_udp d.payload x t) f ∙ ap (read_udp d.payload d.source) g))
    (udp_told d p)

pub tcp_read : (d : Datagram) (payload : List ℕ) (s t : ℕ) (r : Result Tcp TransportFault) → d.protocol ≡ 6 → payload ≡ d.payload → s ≡ d.source
    → t ≡ d.destination → r ≡ read_tcp payload s t → Told (tcp_of d) (first_that_holds (transport_tests d)) r
tcp_read d payload s t r p e f g h =
    subst (λ (x : Result Tcp TransportFault). Told (tcp_of d) (first_that_holds (transport_tests d)) x)
    (sym (h ∙ ap (λ (x : List ℕ). read_tcp x s t) e ∙ ap (λ (x : ℕ). read_tcp d.payload x t) f ∙ ap (read_tcp d.payload d.source) g))
    (tcp_told d p)

pub icmp_read : (d : Datagram) (payload : List ℕ) (r : Result Icmp TransportFault) → (d.protocol == 17) ≡ false → (d.protocol == 6) ≡ false
    → payload ≡ d.payload → r ≡ read_icmp payload → Told (icmp_fields_of d.payload) (first_that_holds (transport_tests d)) r
icmp_read d payload r p q e h =
    subst (λ (x : Result Icmp TransportFault). Told (icmp_fields_of d.payload) (first_that_holds (transport_tests d)) x) (sym (h ∙ ap read_icmp e))
    (icmp_told d p q)

-- a view as content, and a fault as a refusal
pub carries : {V : Type 0} (d : Datagram) (kind : V → Carried) (x : V) (r : Result V TransportFault) (m : Result Carried TransportFault)
    (s : Result Carried Refusal) →
    Told x (first_that_holds (transport_tests d)) r →
    MatchResult r (λ v. IsOkAnd m (λ y. y ≡ kind v)) (λ f. m ≡ Err f) →
    MatchResult m (λ y. s ≡ Ok y) (λ f. IsErrAnd s (λ y. y ≡ transport_refusal f)) →
    IsContentOf d (kind x) → Carries d s
carries d kind x (Ok v) (Ok y) s told m e is = rw (e, m, told.1) (told.0, is)
carries d kind x (Ok v) (Err f) s told m e is = absurd m
carries d kind x (Err f) (Ok y) s told m e is = absurd (cc)
carries d kind x (Err f) (Err g) (Ok y) told m e is = absurd e
carries d kind x (Err f) (Err g) (Err y) told m e is = let same : g ≡ f = cc in told ∙ ap Some (sym (e ∙ ap transport_refusal same))

-- ## In their order

pub first-append : (xs ys : List (Bool × Refusal)) → first_that_holds (xs ++ ys) ≡ option_or (first_that_holds xs) (first_that_holds ys)
first-append [] ys = refl
first-append ((true, r) ∷ xs) ys = refl
first-append ((false, r) ∷ xs) ys = first-append xs ys

-- all tests of a frame by itself, part by part
pub front_is : (e : Event)
    → first_that_holds (front_tests e) ≡ option_or (first_that_holds (header_tests e))
    (option_or (first_that_holds (datagram_tests (datagram_in e))) (first_that_holds (transport_tests (datagram_in e))))
front_is e =
    let d = datagram_in e in
    first-append (header_tests e) (datagram_tests d ++ transport_tests d)
    ∙ ap (option_or (first_that_holds (header_tests e))) (first-append (datagram_tests d) (transport_tests d))

pub judged_err : (h : Option Refusal) (r : Refusal) (x : Datagram) → Err r ≡ judged h x → h ≡ Some r
judged_err None r x e = absurd cc
judged_err (Some s) r x e = cc

pub judged_ok : (h : Option Refusal) (d x : Datagram) → Ok d ≡ judged h x → (h ≡ None) × (d ≡ x)
judged_ok None d x e = (refl, cc)
judged_ok (Some s) d x e = absurd cc

-- ## What passes can be renamed

told_ok : {T : Type 0} (x : T) (r : Result T TransportFault) → Told x None r → is_ok r ≡ true
told_ok x (Ok y) h = refl
told_ok x (Err f) h = absurd cc

as_ok : {A : Type 0} (kind : A → Content) (r : Result A TransportFault) → is_ok r ≡ true → is_ok (read_as kind r) ≡ true
as_ok kind (Ok y) h = refl
as_ok kind (Err f) h = h

icmp_left : (known u t : Bool) (x y z : Bool × Refusal) → first_that_holds (x ∷ y ∷ (not (u || t), z.1) ∷ []) ≡ None → u ≡ false → t ≡ false → ⊥
icmp_left known u t (false, r) (false, s) z h e f = cc (rw (e, f) at h)
icmp_left known u t (true, r) y z h e f = cc
icmp_left known u t (false, r) (true, s) z h e f = cc

pub accepted : (d : Datagram) → first_that_holds (datagram_tests d) ≡ None → first_that_holds (transport_tests d) ≡ None
    → is_ok (read_content d.protocol d.source d.destination d.payload) ≡ true
accepted d known none = elim (cases_Bool (d.protocol == 17)) [
  | inl udp ↦ rw udp
      (as_ok of_udp (read_udp d.payload d.source d.destination)
      (told_ok (udp_fields_of d.payload) _
      (subst (λ (o : Option Refusal). Told (udp_fields_of d.payload) o (read_udp d.payload d.source d.destination)) none
      (udp_told d (eqb-true d.protocol 17 udp)))))
  | inr other ↦ elim (cases_Bool (d.protocol == 6)) [
    | inl tcp ↦ rw (other, tcp)
        (as_ok of_segment (read_tcp d.payload d.source d.destination)
        (told_ok (tcp_of d) _
        (subst (λ (o : Option Refusal). Told (tcp_of d) o (read_tcp d.payload d.source d.destination)) none
        (tcp_told d (eqb-true d.protocol 6 tcp)))))
    | inr neither ↦ elim (cases_Bool (d.protocol == 1)) [
      | inl icmp ↦ rw (other, neither, icmp)
          (as_ok of_icmp (read_icmp d.payload)
          (told_ok (icmp_fields_of d.payload) _
          (subst (λ (o : Option Refusal). Told (icmp_fields_of d.payload) o (read_icmp d.payload)) none (icmp_told d other neither))))
      | inr none_of ↦ absurd
          (icmp_left true (d.protocol == 6) (d.protocol == 17) (nat_lt d.lifetime 2, refusals.TtlSpent) (has_other_address d, refusals.NotUnicast)
          (true, refusals.Protocol) (rw none_of at known) neither other)
    ]
  ]
]
