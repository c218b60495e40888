use Rattle.std.proofs.Common.{◌≡◌, ◌+◌, ◌-◌, ℕ, List, take, drop, sym, ap, subst, ◌∙◌, arith}
use Rattle.dns_names.specs.Prelude.{NameAt, spelled, Here}
use Rattle.dns_names.specs.declared.known.Known.{Known}
use Rattle.dns_names.proofs.Walking.{labels_in-spelled, IsSpelled-spelled}
use Rattle.dns_names.proofs.memo.read_on.Goals as goal

-- the copied octets spell the name
copied : (m kept lent : List ℕ) (place : ℕ) (k : Known) (octets : List ℕ) → (h : Here m kept place k) → lent ≡ kept
    → octets ≡ take (k.from + k.count - k.from) (drop k.from lent) → octets ≡ spelled h.labels
copied m kept lent place k octets h same is =
    let size : k.from + k.count - k.from ≡ k.count = omega arith in
    is ∙ ap (λ (x : List ℕ). take (k.from + k.count - k.from) (drop k.from x)) same ∙ ap (λ (n : ℕ). take n (drop k.from kept)) size ∙ h.octets_are

pub invariant_of-result : goal.invariant_of-result
invariant_of-result c =
    let h : Here c.args.message.now c.find.new.memo.kept.items c.args.place c.in_ok-known.known = c.in_ok-known.ensures.found in
    IsSpelled-spelled c.in_ok-octets.octets.items h.labels (copied _ _ _ _ _ _ h c.deref.ensures.value c.in_ok-octets.ensures.items) h.is_name

pub returns-clause-found : goal.returns-clause-found
returns-clause-found c =
    let m = c.args.message.now in
    let h : Here m c.find.new.memo.kept.items c.args.place c.in_ok-known.known = c.in_ok-known.ensures.found in
    let same = labels_in-spelled c.in_ok-octets.octets.items h.labels (copied _ _ _ _ _ _ h c.deref.ensures.value c.in_ok-octets.ensures.items) in
    subst (λ (x : List (List ℕ)). NameAt m c.args.place x c.in_ok-known.known.after) (sym same) h.name
