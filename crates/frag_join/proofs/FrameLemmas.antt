-- The first fault of a datagram.
use Rattle.std.proofs.Common.{◌≡◌, ◌<◌, ◌||◌, ℕ, Bool, true, false, nat_lt, List, [], ◌∷◌, length, refl, subst, sym, lt-ltb}
use Rattle.ipv4_frames.specs.Judged.{first_fault_or}
use Rattle.ipv4_frames.specs.Ipv4.{Datagram, read_datagram, header_length_of, total_length_of, is_not_ipv4, has_bad_header, has_bad_header_sum, is_fragment, has_options}
use Rattle.ipv4_frames.specs.declared.fault.IpFault.TheVariants.{NotIpv4, BadHeader, BadHeaderSum, Fragment, IpOptions}
use Rattle.frag_join.specs.Fragments.{is_fragment_fault, is_fragment_at}

header_by : (other bad sum cut options : Bool) (d : Datagram)
    → is_fragment_fault (first_fault_or ((other, NotIpv4) ∷ (bad, BadHeader) ∷ (sum, BadHeaderSum) ∷ (cut, Fragment) ∷ (options, IpOptions) ∷ []) d)
    ≡ true → bad ≡ false
header_by true bad sum cut options d is = absurd cc
header_by false true sum cut options d is = absurd cc
header_by false false sum cut options d is = refl

-- a fragment has a good header
pub fragment-header : (octets : List ℕ) → is_fragment_at octets ≡ true → has_bad_header octets ≡ false
unfolding read_datagram
fragment-header octets is = header_by (is_not_ipv4 octets) (has_bad_header octets) (has_bad_header_sum octets) (is_fragment octets)
    (has_options octets) _ is

whole_by : (other bad sum cut options : Bool) (d : Datagram) → cut ≡ false
    → is_fragment_fault (first_fault_or ((other, NotIpv4) ∷ (bad, BadHeader) ∷ (sum, BadHeaderSum) ∷ (cut, Fragment) ∷ (options, IpOptions) ∷ []) d)
    ≡ false
whole_by true bad sum cut options d is = refl
whole_by false true sum cut options d is = refl
whole_by false false true cut options d is = refl
whole_by false false false true options d is = absurd cc
whole_by false false false false true d is = refl
whole_by false false false false false d is = refl

-- what is marked as whole is no fragment
pub whole-datagram : (octets : List ℕ) → is_fragment octets ≡ false → is_fragment_at octets ≡ false
unfolding read_datagram
whole-datagram octets whole = whole_by (is_not_ipv4 octets) (has_bad_header octets) (has_bad_header_sum octets) (is_fragment octets)
    (has_options octets) _ whole

bad_by : (other bad sum cut options : Bool) (d : Datagram) → bad ≡ true
    → is_fragment_fault (first_fault_or ((other, NotIpv4) ∷ (bad, BadHeader) ∷ (sum, BadHeaderSum) ∷ (cut, Fragment) ∷ (options, IpOptions) ∷ []) d)
    ≡ false
bad_by true bad sum cut options d is = refl
bad_by false true sum cut options d is = refl
bad_by false false sum cut options d is = absurd cc

-- nor are fewer octets than a header has
pub short-datagram : (octets : List ℕ) → length octets < 20 → is_fragment_at octets ≡ false
unfolding read_datagram
short-datagram octets short =
    let bad : has_bad_header octets ≡ true =
    subst (λ few. (((few || nat_lt (header_length_of octets) 20) || nat_lt (total_length_of octets) (header_length_of octets))
    || nat_lt (length octets) (total_length_of octets)) ≡ true) (sym (lt-ltb (length octets) 20 short)) refl in
    bad_by (is_not_ipv4 octets) (has_bad_header octets) (has_bad_header_sum octets) (is_fragment octets) (has_options octets) _ bad
