use Rattle.std.proofs.Common.{◌≡◌, ◌==◌, ◌∷◌, [], ℕ, Bool, true, false, if◌then◌else◌, List, length, Option, Some, None, option_map, refl, sym, ap, ◌∙◌}
use Rattle.gate_base.specs.Prelude.{◌>>=◌, number_of}
use Rattle.gate_base.specs.declared.address.Addr.{Addr}
use Rattle.dns_names.specs.Reverse.{full_reverse}
use Rattle.dns_names.specs.Prelude.{label_in}
use Rattle.dns_names.specs.Inside.Octets.{reverse_in}
use Rattle.dns_names.proofs.reverse.address_in.Goals as goal

always : {A B : Type 0} (found : Option A) (f : A → Option B) → ((x : A) → f x ≡ None) → (found >>= f) ≡ None
always None f none = refl
always (Some x) f none = none x

either : {A : Type 0} (test : Bool) (found : Option A) → found ≡ None → (if test then found else None) ≡ None
either true found none = none
either false found none = refl

-- a name whose first label is no number is no reverse name
no_number : (octets d rest : List ℕ) → label_in octets ≡ Some (d, rest) → number_of d ≡ None → reverse_in octets ≡ None
unfolding reverse_in full_reverse
no_number octets d rest first none =
    rw first (always (label_in rest) _
    (λ c. always (label_in c.1) _ (λ b. always (label_in b.1) _ (λ a. always (label_in a.1) _ (λ zone. always (label_in zone.1) _ (λ top.
    either (length top.1 == 0) (full_reverse (d ∷ c.0 ∷ b.0 ∷ a.0 ∷ zone.0 ∷ top.0 ∷ [])) (rw none refl)))))))

pub returns-in_err-_number : goal.returns-in_err-_number
returns-in_err-_number c =
    ap (option_map (λ (a : Addr). a.0)) c.from_residual-in_err-_number.ensures
    ∙ sym (no_number c.args.octets.now c.in_ok-d.d.now c.in_ok-d._rest.now (sym c.in_ok-d.ensures) (sym c.in_err-_number.ensures))
