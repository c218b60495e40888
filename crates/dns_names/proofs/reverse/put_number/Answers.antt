use Rattle.std.proofs.Common.{◌≡◌, ◌∷◌, ◌++◌, ◌∙◌, ℕ, List, length, ap, append_assoc, arith, decimal}
use Rattle.dns_names.proofs.reverse.put_number.Goals as goal

pub overflow_cast-label : goal.overflow_cast-label
overflow_cast-label c = omega (arith, ap length c.as_bytes-label.ensures.value, c.format.ensures.short)

pub returns : goal.returns
returns c =
    let label : c.as_bytes-label.result.now ≡ decimal c.args.number = c.as_bytes-label.ensures.value ∙ c.format.ensures.text in
    rw (c.in_ok-extend_from_slice.ensures.items, c.in_ok-push.ensures.items, append_assoc)
    (ap (λ (x : List ℕ). c.args.octets.now.items ++ length x ∷ x) label)
