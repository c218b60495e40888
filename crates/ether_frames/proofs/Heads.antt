-- The head of a frame, written part by part.
use Rattle.std.proofs.Common.{◌≡◌, ℕ, false, nat_lt, Some, List, [], ◌++◌, take, drop, length, sym, ap, ◌∙◌, append_assoc, append-nil, length-append, arith, le-ltb}
use Rattle.std.proofs.lemmas.List.{length-drop, take_at, drop_at, drop_all, drop-drop}
use borrow.Rule.Slice.PartMut.{put_mid}
use Rattle.byteorder.specs.Endian.{big_bytes, big_number}
use Rattle.gate_base.specs.Prelude.{with_u16}
use Rattle.ether_frames.specs.Ether.{Ether, ipv4_head, read_frame}
use Rattle.ether_frames.specs.declared.head.TheConstants.{IPV4}

-- two addresses and what stands behind them, once the type was put there
written : (destination source rest : List ℕ) → length destination ≡ 6 → length source ≡ 6 → length rest ≡ 2
    → with_u16 12 IPV4 ((destination ++ source) ++ rest) ≡ ipv4_head destination source
written destination source rest d s r =
    let addresses = length-append destination source in
    let front : take 12 ((destination ++ source) ++ rest) ≡ destination ++ source = take_at (destination ++ source) rest 12 (omega arith) in
    let behind : drop 14 ((destination ++ source) ++ rest) ≡ [] =
    drop_all 14 ((destination ++ source) ++ rest) (omega (arith, length-append (destination ++ source) rest)) in
    ap (λ (xs : List ℕ). xs ++ big_bytes 2 IPV4 ++ drop 14 ((destination ++ source) ++ rest)) front
    ∙ ap (λ (xs : List ℕ). (destination ++ source) ++ big_bytes 2 IPV4 ++ xs) behind ∙ append-nil (ipv4_head destination source)

-- the second address, put behind the first
second : (destination source head : List ℕ) → length destination ≡ 6 → length head ≡ 14
    → take 6 (destination ++ drop 6 head) ++ (source ++ drop 12 (destination ++ drop 6 head)) ≡ (destination ++ source)
    ++ drop 12 (destination ++ drop 6 head)
second destination source head d h =
    let rest = drop 12 (destination ++ drop 6 head) in
    ap (λ (xs : List ℕ). xs ++ (source ++ rest)) (take_at destination (drop 6 head) 6 d) ∙ sym (append_assoc destination source rest)

rest_is_two : (destination head : List ℕ) → length destination ≡ 6 → length head ≡ 14 → length (drop 12 (destination ++ drop 6 head)) ≡ 2
rest_is_two destination head d h =
    omega (arith, length-drop 12 (destination ++ drop 6 head), length-append destination (drop 6 head), length-drop 6 head)

-- the head of a frame, once both addresses and the type were put in their places
pub head_written : (destination source head octets a b : List ℕ) → length destination ≡ 6 → length source ≡ 6 → length head ≡ 14 → a ≡ destination
    → b ≡ source
    → octets ≡ with_u16 12 0x0800 (put_mid 6 6 (a ++ drop 6 head) b) → octets ≡ ipv4_head destination source
head_written destination source head octets a b d s h first last put =
    let rest = drop 12 (destination ++ drop 6 head) in
    put ∙ ap (λ (xs : List ℕ). with_u16 12 0x0800 (put_mid 6 6 (xs ++ drop 6 head) b)) first
    ∙ ap (λ (xs : List ℕ). with_u16 12 0x0800 (put_mid 6 6 (destination ++ drop 6 head) xs)) last
    ∙ ap (with_u16 12 0x0800)
    (ap (λ (xs : List ℕ). take 6 (destination ++ drop 6 head) ++ (source ++ xs)) (drop-drop 6 6 (destination ++ drop 6 head))
    ∙ second destination source head d h)
    ∙ written destination source rest d s (rest_is_two destination head d h)

-- a frame with such a head is read with its type and what follows
pub head_reads : (destination source payload : List ℕ) → length destination ≡ 6 → length source ≡ 6
    → read_frame (ipv4_head destination source ++ payload) ≡ Some (record { kind = IPV4; payload = payload })
unfolding read_frame
head_reads destination source payload d s =
    let addresses = length-append destination source in
    let head = length-append (destination ++ source) (big_bytes 2 IPV4) in
    let all = length-append (ipv4_head destination source) payload in
    let enough : nat_lt (length (ipv4_head destination source ++ payload)) 14 ≡ false = le-ltb (length (ipv4_head destination source ++ payload)) 14
    (omega (arith, addresses, head, all)) in
    let behind : drop 14 (ipv4_head destination source ++ payload) ≡ payload =
    drop_at (ipv4_head destination source) payload 14 (omega (arith, addresses, head)) in
    let kind : drop 12 (ipv4_head destination source ++ payload) ≡ big_bytes 2 IPV4 ++ payload =
    ap (drop 12) (append_assoc (destination ++ source) (big_bytes 2 IPV4) payload)
    ∙ drop_at (destination ++ source) (big_bytes 2 IPV4 ++ payload) 12 (omega (arith, addresses)) in
    rw enough (ap (λ (xs : List ℕ). let e : Ether = record { kind = big_number 2 xs; payload = drop 14 (ipv4_head destination source ++ payload) } in
    Some e) kind
    ∙ ap (λ (xs : List ℕ). let e : Ether = record { kind = IPV4; payload = xs } in Some e) behind)
