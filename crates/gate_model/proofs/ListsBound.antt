-- Addresses that cross through a binding go on to do so, and as long.
use Rattle.std.proofs.Common.{◌≡◌, ◌≢◌, ◌<◌, ◌⊎◌, ℕ, true, false, List, [], ◌∷◌, ◌++◌, All, IsSome, Option, Some, None, is_some, refl, sym, ◌∙◌, ap, arith, inl, inr}
use Rattle.std.specs.List.{find, list_any, AllByRecursion}
use Rattle.std.specs.Option.{option_or}
use Rattle.std.proofs.lemmas.Bool.{cases_Bool, or_parts, eq-eqb, eqb-true, true≢false}
use Rattle.std.proofs.lemmas.List.Elements.{All-nil, All-cons}
use Rattle.std.proofs.lemmas.List.Folds.{find-append}
use Rattle.gate_base.specs.Prelude.{other}
use Rattle.gate_base.specs.declared.address.Addr.{Addr}
use Rattle.gate_base.specs.declared.side.Side.{Side}
use Rattle.gate_base.proofs.Sides.{other_other, same_side-itself}
use Rattle.gate_base.proofs.Lists.{find_filter}
use Rattle.realm_pools.specs.Addresses.{least_free}
use Rattle.dialogue.specs.Prelude.{Entry, is_of, is_listed}
use Rattle.binding_table.specs.declared.binding.Binding.{Binding}
use Rattle.binding_table.specs.declared.binding.Crossing.{Crossing}
use Rattle.binding_table.specs.declared.binding.Crossing.TheVariants.{Bound, New, Unbound, Empty}
use Rattle.binding_table.specs.Prelude.{Bindings, is_same, is_of_host, in_pool, alias_of, host_of, pool_of, seen, seen_by, new_or_empty, is_live, expired, IsBoundTo, IsLawful, Use, used, after_uses}
use Rattle.binding_table.specs.Bindings.{cross}
use Rattle.binding_table.proofs.Back.{crosses_back}
use Rattle.binding_table.proofs.Bind.{HasNoBinding, unbound_cross}
use Rattle.binding_table.proofs.Used.{known_used, same_used}
use Rattle.gate_model.specs.Prelude.{IsImage, IsEntryBound, renamed_in, is_unbound, uses_until, is_new_unbound}
use Rattle.gate_model.proofs.BoundTables.{none_alias, placed, known_seen, lives, lawful_used}
use Rattle.gate_model.proofs.BoundUses.{use_of, host_lasts, alias_lasts, bound_from, back_bound}
use Rattle.gate_model.proofs.HostsKept.{known_back}

-- ## Through uses, and as time goes on

bound_used : (table : Bindings) (side : Side) (host alias until : ℕ) (one : Use) → IsLawful table → IsBoundTo table side host alias until
    → IsBoundTo (used table one) side host alias until
bound_used table side host alias until one lawful h =
    elim (known_used table side host alias until one (inr h)) [
      | inl same ↦ absurd (true≢false (sym same.0 ∙ same_used table one (record { 0 = host }) ∙ (placed table side host alias until lawful h).0))
      | inr b ↦ b
    ]

-- an address of the realm crosses to another through a binding that is for good or lasts at least until a moment: its own, or that of the host
-- for which it stands
abbrev pub IsBoundAs : Bindings → Side → ℕ → ℕ → ℕ → Type 0
IsBoundAs table side address image until = IsBoundTo table side address image until ⊎ IsBoundTo table (other side) image address until

pub as_used : (table : Bindings) (side : Side) (address image until : ℕ) (one : Use) → IsLawful table → IsBoundAs table side address image until
    → IsBoundAs (used table one) side address image until
as_used table side address image until one lawful (inl h) = inl (bound_used table side address image until one lawful h)
as_used table side address image until one lawful (inr h) = inr (bound_used table (other side) image address until one lawful h)

pub as_after : (uses : List Use) (table : Bindings) (side : Side) (address image until : ℕ) → IsLawful table
    → IsBoundAs table side address image until → IsBoundAs (after_uses table uses) side address image until
as_after [] table side address image until lawful h = h
as_after (one ∷ uses) table side address image until lawful h =
    as_after uses (used table one) side address image until (lawful_used table one lawful) (as_used table side address image until one lawful h)

pub same_after : (uses : List Use) (table : Bindings) (address : Addr) → is_same (after_uses table uses) address ≡ is_same table address
same_after [] table address = refl
same_after (one ∷ uses) table address = same_after uses (used table one) address ∙ same_used table one address

pub image_later : (uses : List Use) (table : Bindings) (side : Side) (until : ℕ) (address : Addr) (image : Option Addr) → IsLawful table
    → IsImage table side until address image → IsImage (after_uses table uses) side until address image
image_later uses table side until address None lawful h = same_after uses table address ∙ h
image_later uses table side until address (Some image) lawful h = as_after uses table side address.0 image.0 until lawful h

pub entries_later : (uses : List Use) (table : Bindings) (side : Side) (until : ℕ) (es : List Entry) → IsLawful table
    → AllByRecursion (IsEntryBound table side until) es → AllByRecursion (IsEntryBound (after_uses table uses) side until) es
entries_later uses table side until [] lawful h = tt
entries_later uses table side until (e ∷ es) lawful h =
    (image_later uses table side until e.0 e.1 lawful h.0, entries_later uses table side until es lawful h.1)

bound_expired : (table : Bindings) (side : Side) (host alias until now : ℕ) → now < until → IsBoundTo table side host alias until
    → IsBoundTo (expired table (record { 0 = now })) side host alias until
bound_expired table side host alias until now less h = record {
  binding = h.binding;
  found = find_filter (is_of_host side host) (is_live (record { 0 = now })) table.entries h.binding h.found (lives now until h.binding less h.lasts);
  alias_is = h.alias_is;
  lasts = h.lasts;
}

image_expired : (table : Bindings) (side : Side) (until now : ℕ) (address : Addr) (image : Option Addr) → now < until
    → IsImage table side until address image → IsImage (expired table (record { 0 = now })) side until address image
image_expired table side until now address None less h = h
image_expired table side until now address (Some image) less (inl h) = inl (bound_expired table side address.0 image.0 until now less h)
image_expired table side until now address (Some image) less (inr h) = inr (bound_expired table (other side) image.0 address.0 until now less h)

pub entries_expired : (table : Bindings) (side : Side) (until now : ℕ) (es : List Entry) → now < until
    → AllByRecursion (IsEntryBound table side until) es → AllByRecursion (IsEntryBound (expired table (record { 0 = now })) side until) es
entries_expired table side until now [] less h = tt
entries_expired table side until now (e ∷ es) less h =
    (image_expired table side until now e.0 e.1 less h.0, entries_expired table side until now es less h.1)

-- ## What such an address is called

pub as_seen : (table : Bindings) (side : Side) (address image until : ℕ) → IsLawful table → IsBoundAs table side address image until
    → seen table side (record { 0 = address }) ≡ Some (record { 0 = image })
as_seen table side address image until lawful (inl h) = known_seen table side address image until lawful (inr h)
as_seen table side address image until lawful (inr h) = known_back table side image address until lawful (inr h)

pub as_differs : (table : Bindings) (side : Side) (address image until : ℕ) → IsLawful table → IsBoundAs table side address image until
    → is_same table (record { 0 = address }) ≡ false
as_differs table side address image until lawful (inl h) = (placed table side address image until lawful h).0
as_differs table side address image until lawful (inr h) =
    lawful.pools side (record { 0 = address })
    (ap (λ (s : Side). in_pool table s (record { 0 = address })) (sym (other_other side))
    ∙ (placed table (other side) image address until lawful h).2)

pub image_seen : (table : Bindings) (side : Side) (until : ℕ) (address : Addr) (image : Option Addr) → IsLawful table
    → IsImage table side until address image → (x : Addr) × (seen table side address ≡ Some x)
unfolding cross
image_seen table side until address None lawful h = (address, rw h refl)
image_seen table side until address (Some image) lawful h = (image, as_seen table side address.0 image.0 until lawful h)

pub seen_bound : (table : Bindings) (side : Side) (address x : Addr) → seen table side address ≡ Some x → cross table side address ≢ Unbound
seen_bound table side address x h e = let n : seen table side address ≡ None = ap (seen_by address) e in let f : None ≡ Some x = sym n ∙ h in
    absurd (cc)

-- what is listed isn't unbound
listed_bound : (table : Bindings) (side : Side) (until : ℕ) (es : List Entry) (address : Addr) → IsLawful table
    → AllByRecursion (IsEntryBound table side until) es → is_listed es address.0 ≡ true → cross table side address ≢ Unbound
listed_bound table side until [] address lawful h listed = absurd (cc)
listed_bound table side until (e ∷ es) address lawful h listed =
    elim (cases_Bool (is_of address.0 e)) [
      | inl this ↦
          let s = image_seen table side until e.0 e.1 lawful h.0 in
          let is : e.0.0 ≡ address.0 = eqb-true e.0.0 address.0 this in
          seen_bound table side address s.0 (ap (λ (n : ℕ). seen table side (record { 0 = n })) (sym is) ∙ s.1)
      | inr that ↦ listed_bound table side until es address lawful h.1 (rw that at listed)
    ]

pub not_unbound : (c : Crossing) → is_unbound c ≡ false → c ≢ Unbound
not_unbound c h e = let f : is_unbound c ≡ true = ap is_unbound e in true≢false (sym f ∙ h)

pub names_bound_once : (table : Bindings) (side : Side) (until : ℕ) (es : List Entry) (names : List Addr) → IsLawful table
    → AllByRecursion (IsEntryBound table side until) es → list_any (is_new_unbound table side es) names ≡ false
    → All (λ address. cross table side address ≢ Unbound) names
names_bound_once table side until es [] lawful h none = All-nil (λ (address : Addr). cross table side address ≢ Unbound)
names_bound_once table side until es (a ∷ names) lawful h none =
    let p = or_parts (is_new_unbound table side es a) (list_any (is_new_unbound table side es) names) none in
    All-cons (λ (address : Addr). cross table side address ≢ Unbound) a names
    (elim (cases_Bool (is_listed es a.0)) [
      | inl listed ↦ listed_bound table side until es a lawful h listed
      | inr new ↦ not_unbound (cross table side a) (rw new at p.0)
    ])
    (names_bound_once table side until es names lawful h p.1)

-- ## A use binds its address, and for so long

as_lasts : (table : Bindings) (side : Side) (address image sooner until : ℕ) → IsLawful table → IsBoundAs table side address image sooner
    → IsBoundAs (used table (use_of side address until)) side address image until
as_lasts table side address image sooner until lawful (inl h) = inl (host_lasts table side address image sooner until lawful h)
as_lasts table side address image sooner until lawful (inr h) = inr (alias_lasts table side image address sooner until lawful h)

-- the addresses of a list that aren't kept last as long as their uses say
pub entries_last : (table : Bindings) (side : Side) (sooner until : ℕ) (es : List Entry) → IsLawful table
    → AllByRecursion (IsEntryBound table side sooner) es
    → AllByRecursion (IsEntryBound (after_uses table (uses_until side until (renamed_in es))) side until) es
entries_last table side sooner until [] lawful h = tt
entries_last table side sooner until ((a, None) ∷ es) lawful h =
    (image_later (uses_until side until (renamed_in es)) table side until a None lawful h.0, entries_last table side sooner until es lawful h.1)
entries_last table side sooner until ((a, Some image) ∷ es) lawful h =
    let next = used table (use_of side a.0 until) in
    let later : IsLawful (used table (use_of side a.0 until)) = lawful_used table (use_of side a.0 until) lawful in (
      image_later (uses_until side until (renamed_in es)) (used table (use_of side a.0 until)) side until a (Some image) later
          (as_lasts table side a.0 image.0 sooner until lawful h.0),
      entries_last (used table (use_of side a.0 until)) side sooner until es later
          (entries_later (use_of side a.0 until ∷ []) table side sooner es lawful h.1),
    )

-- an address crosses unchanged, or through a binding that lasts
abbrev pub Crosses : Bindings → Side → ℕ → Addr → Type 0
Crosses table side until address = (is_same table address ≡ true) ⊎ ((image : Addr) × IsBoundAs table side address.0 image.0 until)

crosses_later : (uses : List Use) (table : Bindings) (side : Side) (until : ℕ) (address : Addr) → IsLawful table → Crosses table side until address
    → Crosses (after_uses table uses) side until address
crosses_later uses table side until address lawful (inl same) = inl (same_after uses table address ∙ same)
crosses_later uses table side until address lawful (inr h) = inr (h.0, as_after uses table side address.0 h.0.0 until lawful h.1)

pub all_cross_later : (uses : List Use) (table : Bindings) (side : Side) (until : ℕ) (names : List Addr) → IsLawful table
    → AllByRecursion (Crosses table side until) names → AllByRecursion (Crosses (after_uses table uses) side until) names
all_cross_later uses table side until [] lawful h = tt
all_cross_later uses table side until (a ∷ names) lawful h =
    (crosses_later uses table side until a lawful h.0, all_cross_later uses table side until names lawful h.1)

none_seen : (o : Option Addr) → o ≡ None → IsSome o → ⊥
none_seen o e s = let f : is_some o ≡ false = ap is_some e in true≢false (sym s ∙ f)

pool_unbound : (table : Bindings) (side : Side) (address : Addr) → is_same table address ≡ false → in_pool table side address ≡ true
    → host_of side address table.entries ≡ None → cross table side address ≡ Unbound
unfolding cross
pool_unbound table side address differs pool e = rw (differs, pool, e) refl

pool_known : (table : Bindings) (side : Side) (address host : Addr) → is_same table address ≡ false → in_pool table side address ≡ true
    → host_of side address table.entries ≡ Some host → cross table side address ≡ Bound host
unfolding cross
pool_known table side address host differs pool e = rw (differs, pool, e) refl

-- once an address is seen by its use, it crosses
pub use_crosses : (table : Bindings) (side : Side) (address until : ℕ) → IsLawful table
    → IsSome (seen (used table (use_of side address until)) side (record { 0 = address }))
    → Crosses (used table (use_of side address until)) side until (record { 0 = address })
use_crosses table side address until lawful some =
    elim (cases_Bool (is_same table (record { 0 = address }))) [
      | inl same ↦ inl (same_used table (use_of side address until) (record { 0 = address }) ∙ same)
      | inr differs ↦ elim (cases_Bool (in_pool table side (record { 0 = address }))) [
        | inl pool ↦ by_host differs pool (host_of side (record { 0 = address }) table.entries) refl
        | inr outside ↦ by_alias differs outside (alias_of side (record { 0 = address }) table.entries) refl
      ]
    ]
  where
    unused : cross table side (record { 0 = address }) ≡ Unbound → seen (used table (use_of side address until)) side (record { 0 = address }) ≡ None
    unused e = rw e (ap (seen_by (record { 0 = address })) e)

    unused_empty : cross table side (record { 0 = address }) ≡ Empty
        → seen (used table (use_of side address until)) side (record { 0 = address }) ≡ None
    unused_empty e = rw e (ap (seen_by (record { 0 = address })) e)

    by_least : HasNoBinding table side (record { 0 = address }) → (o : Option Addr) → least_free (pool_of table (other side)) ≡ o
        → Crosses (used table (use_of side address until)) side until (record { 0 = address })
    by_least none None e =
        let empty : cross table side (record { 0 = address }) ≡ Empty = unbound_cross table side (record { 0 = address }) none ∙ ap new_or_empty e in
        absurd (none_seen (seen (used table (use_of side address until)) side (record { 0 = address })) (unused_empty empty) some)
    by_least none (Some alias) e =
        let one : Binding = record { side = side; host = record { 0 = address }; alias = alias; until = record { 0 = until }; fixed = false } in
        let crosses : cross table side (record { 0 = address }) ≡ New alias = unbound_cross table side (record { 0 = address }) none
        ∙ ap new_or_empty e in
        let found : find (is_of_host side address) (table.entries ++ one ∷ []) ≡ Some one =
        find-append (is_of_host side address) table.entries (one ∷ [])
        ∙ ap (λ o. option_or o (find (is_of_host side address) (one ∷ []))) (none_alias (find (is_of_host side address) table.entries) none.alias)
        ∙ rw (same_side-itself side, eq-eqb address address refl) refl in
        inr (alias, inl (rw crosses (record { binding = one; found = found; alias_is = refl; lasts = inr (omega arith) })))

    by_host : is_same table (record { 0 = address }) ≡ false → in_pool table side (record { 0 = address }) ≡ true → (o : Option Addr)
        → host_of side (record { 0 = address }) table.entries ≡ o
        → Crosses (used table (use_of side address until)) side until (record { 0 = address })
    by_host differs pool None e =
        let unbound : cross table side (record { 0 = address }) ≡ Unbound = pool_unbound table side (record { 0 = address }) differs pool e in
        absurd (none_seen (seen (used table (use_of side address until)) side (record { 0 = address })) (unused unbound) some)
    by_host differs pool (Some host) e =
        let crosses : cross table side (record { 0 = address }) ≡ Bound host = pool_known table side (record { 0 = address }) host differs pool e in
        let back : cross table (other side) host ≡ Bound (record { 0 = address }) =
        crosses_back table side (record { 0 = address }) host lawful crosses in
        inr (host, as_lasts table side address host.0 0 until lawful (inr (back_bound table side address host lawful e back)))

    by_alias : is_same table (record { 0 = address }) ≡ false → in_pool table side (record { 0 = address }) ≡ false → (o : Option Addr)
        → alias_of side (record { 0 = address }) table.entries ≡ o
        → Crosses (used table (use_of side address until)) side until (record { 0 = address })
    by_alias differs outside (Some image) e =
        inr (image, as_lasts table side address image.0 0 until lawful (inl (bound_from table side address image.0 e)))
    by_alias differs outside None e =
        by_least (record { differs = differs; outside = outside; alias = e }) (least_free (pool_of table (other side))) refl
