use Rattle.std.proofs.Common.{◌≡◌, ℕ, ◌++◌, ◌∷◌, [], Some, None, length, subst, sym, ap, ◌∙◌, arith}
use Rattle.expiring_table.specs.Prelude.{Table, row_of}
use Rattle.binding_table.specs.Prelude.{AreFirsts}
use Rattle.binding_table.proofs.Places.{firsts_noted}
use Rattle.binding_table.proofs.seen_addresses.first_place.Goals as goal

pub returns-else-len-ge-MOST_SEEN-clause-seen_addresses : goal.returns-else-len-ge-MOST_SEEN-clause-seen_addresses
returns-else-len-ge-MOST_SEEN-clause-seen_addresses c = λ needs are h.
    let seen_addresses = c.args.seen_addresses.now in
    let earlier = c.args.earlier.now in
    let address = c.args.address in
    let key : c.from-key.result ≡ address.0 = c.from-key.ensures in
    let absent : row_of address.0 seen_addresses.rows ≡ None = ap (λ (k : ℕ). row_of k seen_addresses.rows) (sym key) ∙ sym c.find.ensures
    ∙ sym c.copied.ensures ∙ c.in-None.is in
    let put : Table ℕ → Type 0 = λ table. AreFirsts needs (earlier ++ address ∷ []) table in
    subst put (sym (c.push.ensures
    ∙ ap (λ (k : ℕ). record seen_addresses { rows = seen_addresses.rows ++ record { key = k; end = Some 0; value = length earlier } ∷ [] }) key))
    (firsts_noted needs earlier address seen_addresses are absent (omega (arith, c.len.ensures.value, c.if-len-ge-MOST_SEEN.false, c.requires)))
