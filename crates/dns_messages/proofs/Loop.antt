-- Reading records one after the other, as a loop does.
use Rattle.std.proofs.Common.{◌≡◌, ℕ, suc, ◌-◌, ◌+◌, ◌≤◌, ◌<◌, List, [], ◌∷◌, ◌++◌, Option, Some, None, refl, sym, ap, ◌∙◌, append_assoc, arith, append-nil}
use Rattle.dns_names.specs.declared.stop.NameStop.{NameStop}
use Rattle.dns_names.specs.declared.stop.NameStop.TheVariants.{BadDns, OutOfMemory}
use Rattle.dns_names.specs.Prelude.{Fails}
use Rattle.dns_messages.specs.declared.message.Resource.{Resource}
use Rattle.gate_base.specs.Prelude.{◌>>=◌}
use Rattle.dns_messages.specs.Reading.{resource_at, resources_at}

-- what was read before, and what is still read
abbrev pub with_front : List Resource → Option (List Resource × ℕ) → Option (List Resource × ℕ)
with_front front read = read >>= λ x. Some (front ++ x.0, x.1)

regroup : (front : List Resource) (e : Resource) (read : Option (List Resource × ℕ)) → with_front front (read >>= λ x. Some (e ∷ x.0, x.1))
    ≡ with_front (front ++ e ∷ []) read
regroup front e (Some x) = ap (λ (es : List Resource). Some (es, x.1)) (simp append_assoc)
regroup front e None = refl

pub goes_on : (front : List Resource) (count i : ℕ) (m : List ℕ) (at : ℕ) (e : Resource) (after : ℕ) (total : Option (List Resource × ℕ)) → i < count
    → resource_at m at ≡ Some (e, after)
    → with_front front (resources_at (count - i) m at) ≡ total → with_front (front ++ e ∷ []) (resources_at (count - (i + 1)) m after) ≡ total
unfolding resources_at
goes_on front count i m at e after total lt h so_far =
    let k : count - i ≡ suc (count - (i + 1)) = omega arith in
    let one : with_front front (resources_at (count - i) m at) ≡ with_front (front ++ e ∷ []) (resources_at (count - (i + 1)) m after) =
    rw (k, h) (regroup front e (resources_at (count - (i + 1)) m after)) in
    sym one ∙ so_far

pub ends : (s : NameStop) (front : List Resource) (count i : ℕ) (m : List ℕ) (at : ℕ) (total : Option (List Resource × ℕ)) → i < count
    → Fails s (resource_at m at)
    → with_front front (resources_at (count - i) m at) ≡ total → Fails s total
unfolding resources_at
ends OutOfMemory front count i m at total lt h so_far = tt
ends BadDns front count i m at total lt h so_far =
    let k : count - i ≡ suc (count - (i + 1)) = omega arith in
    let one : with_front front (resources_at (count - i) m at) ≡ None = rw (k, h) refl in
    sym so_far ∙ one

pub is_done : (front : List Resource) (count i : ℕ) (m : List ℕ) (at : ℕ) (total : Option (List Resource × ℕ)) → count ≤ i
    → with_front front (resources_at (count - i) m at) ≡ total → total ≡ Some (front, at)
unfolding resources_at
is_done front count i m at total le so_far =
    let k : count - i ≡ 0 = omega arith in
    let one : with_front front (resources_at (count - i) m at) ≡ Some (front, at) =
    rw k (ap (λ (es : List Resource). Some (es, at)) (append-nil front)) in
    sym so_far ∙ one
