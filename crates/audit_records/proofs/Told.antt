-- What is read off what a session hands on, and that each of its pieces fits a datagram.
use Rattle.std.proofs.Common.{◌≡◌, ◌≤◌, ℕ, ◌+◌, ◌-◌, ◌*◌, ◌/◌, ◌%◌, ◌<◌, Bool, true, false, ◌==◌, refl, ap, ◌∙◌, arith, min, max, length}
use Rattle.gate_base.specs.declared.host.Host.{Host}
use Rattle.tcp_segments.specs.Prelude.{flags_of, flags_octet, one_if, Tcp}
use Rattle.tcp_segments.specs.declared.flags.Flags.{Flags}
use Rattle.stream_model.specs.Prelude.{Session, other, segment_in, Sent, session_sent}
use Rattle.stream_model.proofs.Ways.{session_limit}
use Rattle.audit_streams.specs.Sending.{Handed, handed}
use Rattle.audit_records.specs.Cutting.{told}

low : (b : Bool) → one_if b < 2
low true = omega arith
low false = omega arith

test : (b : Bool) → (one_if b == 1) ≡ b
test true = refl
test false = refl

back : (a b c d e : Bool) (n : ℕ)
    → (let f : Flags = record { fin = a; syn = b; reset = c; push = d; ack = e; ecn = n } in flags_of (flags_octet f) ≡ f)
back a b c d e n =
    let o = one_if a + 2 * one_if b + 4 * one_if c + 8 * one_if d + 16 * one_if e + 64 * n in
    let R : ℕ → ℕ → ℕ → ℕ → ℕ → ℕ → Flags =
    λ u v w x y z. record { fin = u == 1; syn = v == 1; reset = w == 1; push = x == 1; ack = y == 1; ecn = z } in
    let S : Bool → Bool → Bool → Bool → Bool → Flags = λ u v w x y. record { fin = u; syn = v; reset = w; push = x; ack = y; ecn = n } in
    let one : o % 2 ≡ one_if a = omega (arith, low a) in
    let two : o / 2 % 2 ≡ one_if b = omega (arith, low a, low b) in
    let three : o / 4 % 2 ≡ one_if c = omega (arith, low a, low b, low c) in
    let four : o / 8 % 2 ≡ one_if d = omega (arith, low a, low b, low c, low d) in
    let five : o / 16 % 2 ≡ one_if e = omega (arith, low a, low b, low c, low d, low e) in
    let six : o / 64 ≡ n = omega (arith, low a, low b, low c, low d, low e) in
    ap (λ (x : ℕ). R x (o / 2 % 2) (o / 4 % 2) (o / 8 % 2) (o / 16 % 2) (o / 64)) one
    ∙ ap (λ (x : ℕ). R (one_if a) x (o / 4 % 2) (o / 8 % 2) (o / 16 % 2) (o / 64)) two
    ∙ ap (λ (x : ℕ). R (one_if a) (one_if b) x (o / 8 % 2) (o / 16 % 2) (o / 64)) three
    ∙ ap (λ (x : ℕ). R (one_if a) (one_if b) (one_if c) x (o / 16 % 2) (o / 64)) four
    ∙ ap (λ (x : ℕ). R (one_if a) (one_if b) (one_if c) (one_if d) x (o / 64)) five
    ∙ ap (R (one_if a) (one_if b) (one_if c) (one_if d) (one_if e)) six
    ∙ ap (λ (x : Bool). S x (one_if b == 1) (one_if c == 1) (one_if d == 1) (one_if e == 1)) (test a)
    ∙ ap (λ (x : Bool). S a x (one_if c == 1) (one_if d == 1) (one_if e == 1)) (test b)
    ∙ ap (λ (x : Bool). S a b x (one_if d == 1) (one_if e == 1)) (test c)
    ∙ ap (λ (x : Bool). S a b c x (one_if e == 1)) (test d)
    ∙ ap (S a b c d) (test e)

-- what is read off the value is what was handed on
pub told_back : (s : Sent) (ends : Bool) → told (handed s ends) ≡ s
told_back s ends =
    let f = s.flags in
    ap (λ (x : Flags). let r : Sent =
    record { sequence = s.sequence; acknowledgement = s.acknowledgement; flags = x; limit = s.limit; octets = s.octets } in r)
    (back f.fin f.syn f.reset f.push f.ack f.ecn)

below : (m options : ℕ) → options ≤ 65495 → min m 65495 - options + options ≤ 65495
below m options e = omega (arith, e)

-- limit and options of what a session hands on for a segment
pub fits_is : (from : Host) (s : Session) (tcp : Tcp) (ends : Bool) (sent : Handed) → sent ≡ handed (session_sent from s (segment_in tcp)) ends
    → length tcp.options ≡ length tcp.header - 20 → length tcp.header ≤ 60 → sent.limit + (length tcp.header - 20) ≤ 65495
fits_is from s tcp ends sent is_sent same few =
    let receiver = other from s in
    let is : sent.limit ≡ min (max receiver.mss 88) 65495 - length tcp.options = ap (λ (x : Handed). x.limit) is_sent
    ∙ session_limit from s (segment_in tcp) in
    let short : length tcp.options ≤ 65495 = omega (arith, same, few) in
    omega (arith, is, same, below (max receiver.mss 88) (length tcp.options) short)
