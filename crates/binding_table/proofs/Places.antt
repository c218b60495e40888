-- Where addresses stand first.
use Rattle.std.proofs.Common.{◌≡◌, ◌≢◌, ℕ, ◌+◌, ◌<◌, Bool, true, false, cond, not, ◌==◌, nat_lt, List, [], ◌∷◌, ◌++◌, length, length-append, position, All, Option, Some, None, IfSome, refl, sym, ◌∙◌, subst, arith, inl, inr}
use Rattle.std.specs.List.{position_or_len}
use Rattle.std.specs.Option.{option_or, is_some}
use Rattle.std.proofs.lemmas.Bool.{cases_Bool, eq-eqb, ne_eqb, ltb-true, ltb-false, lt-ltb, le-ltb}
use Rattle.std.proofs.lemmas.List.Elements.{All-head, All-push, All-tail}
use Rattle.std.proofs.lemmas.List.Folds.{find-append, list_any_at, position_or_len_push}
use Rattle.std.proofs.lemmas.List.Quantifiers.{position-Some}
use Rattle.std.proofs.lemmas.List.Sums.{prefix_len-le-length}
use Rattle.std.proofs.lemmas.Option.{none-some}
use Rattle.gate_base.specs.declared.address.Addr.{Addr}
use Rattle.expiring_table.specs.declared.row.Row.{Row}
use Rattle.expiring_table.specs.Prelude.{Table, living, no_rows, row_of}
use Rattle.realm_pools.specs.Addresses.{Addresses}
use Rattle.binding_table.specs.declared.binding.Crossing.{Crossing}
use Rattle.binding_table.specs.declared.binding.Crossing.TheVariants.{Same, Bound, New, Unbound, Empty}
use Rattle.binding_table.specs.Prelude.{is_address, is_among, needs_binding, AreFirsts, EndsAtOnce, given_image, planned_by}
use Rattle.binding_table.proofs.Planned.{none_among}

-- ## The first place

-- the first place in a longer list
position_push : {X : Type 0} (p : X → Bool) (xs : List X) (y : X)
    → position p (xs ++ y ∷ []) ≡ option_or (position p xs) (cond (p y) (Some (length xs)) None)
position_push p xs y =
    let n = position_or_len p xs in
    let long = length-append xs (y ∷ []) in
    let last = position_or_len_push p xs y in
    elim (cases_Bool (nat_lt n (length xs))) [
      | inl within ↦
          let less = ltb-true n (length xs) within in
          let stays : position_or_len p (xs ++ y ∷ []) ≡ n = last ∙ rw (ne_eqb n (length xs) (λ e. omega arith)) refl in
          let inside : nat_lt n (length (xs ++ y ∷ [])) ≡ true = lt-ltb n (length (xs ++ y ∷ [])) (omega (arith, long)) in
          rw (within, stays) (rw inside refl)
      | inr past ↦
          let most = prefix_len-le-length (λ x. not (p x)) xs in
          let end : n ≡ length xs = omega (arith, ltb-false n (length xs) past) in
          let moves : position_or_len p (xs ++ y ∷ []) ≡ length xs + cond (p y) 0 1 = last ∙ rw (eq-eqb n (length xs) end) refl in
          elim (cases_Bool (p y)) [
            | inl passes ↦
                let here : position_or_len p (xs ++ y ∷ []) ≡ length xs = (let m = rw passes at moves in omega (arith, m)) in
                let inside : nat_lt (length xs) (length (xs ++ y ∷ [])) ≡ true = lt-ltb (length xs) (length (xs ++ y ∷ [])) (omega (arith, long)) in
                rw (past, here, passes) (rw inside refl)
            | inr fails ↦
                let beyond : position_or_len p (xs ++ y ∷ []) ≡ length xs + 1 = (let m = rw fails at moves in omega (arith, m)) in
                let outside : nat_lt (length xs + 1) (length (xs ++ y ∷ [])) ≡ false =
                le-ltb (length xs + 1) (length (xs ++ y ∷ [])) (omega (arith, long)) in
                rw (past, beyond, fails) (rw outside refl)
          ]
    ]

stays_found : (earlier : List Addr) (one address : Addr) (place : ℕ) → position (is_address one) earlier ≡ Some place
    → position (is_address one) (earlier ++ address ∷ []) ≡ Some place
stays_found earlier one address place found = position_push (is_address one) earlier address ∙ rw found refl

stays_absent : (earlier : List Addr) (one address : Addr) → position (is_address one) earlier ≡ None → is_address one address ≡ false
    → position (is_address one) (earlier ++ address ∷ []) ≡ None
stays_absent earlier one address none other = position_push (is_address one) earlier address ∙ rw (none, other) refl

found_last : (earlier : List Addr) (one address : Addr) → position (is_address one) earlier ≡ None → is_address one address ≡ true
    → position (is_address one) (earlier ++ address ∷ []) ≡ Some (length earlier)
found_last earlier one address none same = position_push (is_address one) earlier address ∙ rw (none, same) refl

pub among_is : (earlier : List Addr) (address : Addr) (found : Option ℕ) → position (is_address address) earlier ≡ found
    → is_among earlier address ≡ is_some found
among_is earlier address None e = none_among earlier address e
among_is earlier address (Some place) e = let at = position-Some (is_address address) earlier place address e in
    list_any_at (is_address address) earlier place address at.0 at.1

-- ## An address more

module _ (needs : Addr → Bool) (earlier : List Addr) (address : Addr) (seen_addresses : Table ℕ) (are : AreFirsts needs earlier seen_addresses) where
  abbrev noted : Row ℕ
  noted = record { key = address.0; end = Some 0; value = length earlier }

  found_noted : (one : Addr) (found : Option (Row ℕ)) (here : Bool) → row_of one.0 seen_addresses.rows ≡ found → is_address one address ≡ here
      → row_of one.0 (seen_addresses.rows ++ noted ∷ []) ≡ option_or found (cond here (Some noted) None)
  found_noted one found true e h = find-append (λ row. row.key == one.0) seen_addresses.rows (noted ∷ []) ∙ rw (e, h) refl
  found_noted one found false e h = find-append (λ row. row.key == one.0) seen_addresses.rows (noted ∷ []) ∙ rw (e, h) refl

  -- a new one
  pub firsts_noted : row_of address.0 seen_addresses.rows ≡ None → length seen_addresses.rows < seen_addresses.most
      → AreFirsts needs (earlier ++ address ∷ []) (record seen_addresses { rows = seen_addresses.rows ++ noted ∷ [] })
  firsts_noted absent room = record {
    most = are.most;
    ends = All-push EndsAtOnce seen_addresses.rows noted are.ends refl;
    found = λ one h. found one h _ _ refl refl;
    lacks = λ one h none more. lacks one h _ _ refl refl none (omega (arith, length-append seen_addresses.rows (noted ∷ [])));
  }
    where
      P : Addr → Row ℕ → Type 0
      P one row = position (is_address one) (earlier ++ address ∷ []) ≡ Some row.value

      found : (one : Addr) → needs one ≡ true → (before : Option (Row ℕ)) (here : Bool) → row_of one.0 seen_addresses.rows ≡ before
          → is_address one address ≡ here → IfSome (row_of one.0 (seen_addresses.rows ++ noted ∷ [])) (P one)
      found one h (Some row) here e is =
          let was = subst (λ (o : Option (Row ℕ)). IfSome o (λ r. position (is_address one) earlier ≡ Some r.value)) e (are.found one h) in
          subst (λ (o : Option (Row ℕ)). IfSome o (P one)) (sym (found_noted one (Some row) here e is))
          (stays_found earlier one address row.value was)
      found one h None true e is = subst (λ (o : Option (Row ℕ)). IfSome o (P one)) (sym (found_noted one None true e is))
          (found_last earlier one address (are.lacks one h e room) is)
      found one h None false e is = subst (λ (o : Option (Row ℕ)). IfSome o (P one)) (sym (found_noted one None false e is)) tt

      lacks : (one : Addr) → needs one ≡ true → (before : Option (Row ℕ)) (here : Bool) → row_of one.0 seen_addresses.rows ≡ before
          → is_address one address ≡ here → row_of one.0 (seen_addresses.rows ++ noted ∷ []) ≡ None → length seen_addresses.rows < seen_addresses.most
          → position (is_address one) (earlier ++ address ∷ []) ≡ None
      lacks one h (Some row) here e is none less = absurd (none-some row (sym none ∙ found_noted one (Some row) here e is))
      lacks one h None true e is none less = absurd (none-some noted (sym none ∙ found_noted one None true e is))
      lacks one h None false e is none less = stays_absent earlier one address (are.lacks one h e less) is

pub no_firsts : (needs : Addr → Bool) → AreFirsts needs [] (no_rows 8192)
no_firsts needs = record {
  most = refl;
  ends = λ k d within. absurd (omega arith);
  found = λ one h. tt;
  lacks = λ one h none room. refl;
}

-- ## What was noted is taken out

none_live : (rows : List (Row ℕ)) → All EndsAtOnce rows → living 0 rows ≡ []
none_live [] ends = refl
none_live (row ∷ rest) ends = rw (All-head EndsAtOnce row rest ends) (none_live rest (All-tail EndsAtOnce row rest ends))

pub none_left : (rows : List (Row ℕ)) → All EndsAtOnce rows → living 0 rows ≡ rows → rows ≡ []
none_left rows ends live = sym live ∙ none_live rows ends

-- ## Images

-- an address that crosses neither unchanged nor as known, nor as one that stands for no host, needs a binding
pub needs_of : (crossing : Crossing) → (crossing ≡ Same → ⊥) → ((image : Addr) → crossing ≡ Bound image → ⊥) → crossing ≢ Unbound
    → needs_binding crossing ≡ true
needs_of Same same known bound = absurd (same refl)
needs_of (Bound image) same known bound = absurd (known image refl)
needs_of (New alias) same known bound = refl
needs_of Unbound same known bound = absurd (bound refl)
needs_of Empty same known bound = refl

pub planned_fresh : (pool : Addresses) (earlier : List Addr) (images : List (Option Addr)) (given : Option Addr) (address : Addr)
    (crossing : Crossing) → needs_binding crossing ≡ true → planned_by pool earlier images given address crossing ≡ given_image pool images given
    (position (is_address address) earlier)
planned_fresh pool earlier images given address Same needs = cc
planned_fresh pool earlier images given address (Bound image) needs = cc
planned_fresh pool earlier images given address (New alias) needs = refl
planned_fresh pool earlier images given address Unbound needs = cc
planned_fresh pool earlier images given address Empty needs = refl
