-- The settings make a lawful table.
use Rattle.std.proofs.Common.{◌≡◌, ℕ, ◌-◌, ◌<◌, ◌≤◌, ◌/◌, ◌^◌, true, false, not, ◌&&◌, ◌||◌, ◌==◌, nat_le, nat_lt, List, [], ◌∷◌, length, map, get_or, take, refl, sym, ◌∙◌, subst, arith, inl, inr}
use Rattle.std.proofs.lemmas.List.{get_or_default, get_or-take, length-take}
use Rattle.std.proofs.lemmas.List.Elements.{All-map}
use Rattle.std.proofs.lemmas.Bool.{cases_Bool, or_parts, or_from, and_parts, and_from, not_from_true, not-false, not-true, not_from_false}
use Rattle.std.proofs.lemmas.Bool.{leb-true, leb-false, le-leb, ltb-true, ltb-false, lt-ltb, eqb-false, ne_eqb}
use Rattle.gate_base.specs.Prelude.{is_unicast_number, other}
use Rattle.gate_base.specs.declared.address.Addr.{Addr}
use Rattle.gate_base.specs.declared.side.Side.{Side}
use Rattle.gate_base.specs.declared.side.Side.TheVariants.{Left, Right}
use Rattle.gate_settings.specs.Prelude.{side_settings, is_in_pool, is_in_block, is_in_same, block_end, is_bad_pool, meets_same, HasForms, HasUnicastPool, IsSound}
use Rattle.gate_settings.specs.Cross.{meets_pool, host_is_taken, alias_is_outside}
use Rattle.gate_settings.specs.declared.settings.Block.{Block}
use Rattle.gate_settings.specs.declared.settings.Fixed.{Fixed}
use Rattle.gate_settings.specs.declared.settings.Settings.{Settings}
use Rattle.gate_settings.specs.declared.settings.SideSettings.{SideSettings}
use Rattle.binding_table.specs.Prelude.{CanHold, range_of, fixed_binding, without_bindings, in_pool, is_same, IsLawful, collides}
use Rattle.gate_base.specs.declared.address.TheConstants.{LARGEST_POOL}

-- ## No address of a pool crosses unchanged

pub record IsRange (first last : ℕ) : Type 0 where
  pub ordered : first ≤ last
  pub small : last - first < 65536

pub range_is : (side : SideSettings) → is_bad_pool side ≡ false → IsRange side.first.0 side.last.0
range_is side good =
    let parts = or_parts (nat_lt side.last.0 side.first.0) (nat_le LARGEST_POOL (side.last.0 - side.first.0)) good in
    let low = ltb-false side.last.0 side.first.0 parts.0 in
    let high = leb-false LARGEST_POOL (side.last.0 - side.first.0) parts.1 in
    record { ordered = low; small = omega arith }

pub record HasTop (top : ℕ) : Type 0 where
  pub some : 0 < top
  pub local : top ≡ 127 → ⊥
  pub below : top < 224

pub top_of : (number : ℕ) → is_unicast_number number ≡ true → HasTop (number / 2 ^ 24)
top_of number h =
    let top = number / 2 ^ 24 in
    let parts = and_parts (not (top == 0) && not (top == 127)) (nat_lt top 224) h in
    let two = and_parts (not (top == 0)) (not (top == 127)) parts.0 in
    record {
      some = let differs = eqb-false top 0 (not-true _ two.0) in omega (arith, differs);
      local = eqb-false top 127 (not-true _ two.1);
      below = ltb-true top 224 parts.1;
    }

unicast_by : (number : ℕ) → HasTop (number / 2 ^ 24) → is_unicast_number number ≡ true
unicast_by number h =
    let top = number / 2 ^ 24 in
    and_from _ _ (and_from _ _ (not_from_false _ (ne_eqb top 0 (λ e. omega (arith, h.some)))) (not_from_false _ (ne_eqb top 127 h.local)))
    (lt-ltb top 224 h.below)

-- between two addresses of hosts that are this near there are only such
unicast_between : (first last number : ℕ) → IsRange first last → first ≤ number → number ≤ last → is_unicast_number first ≡ true
    → is_unicast_number last ≡ true → is_unicast_number number ≡ true
unicast_between first last number range low high f l =
    let one = top_of first f in
    let two = top_of last l in
    unicast_by number (record {
      some = omega (arith, one.some);
      local = λ (e : number / 2 ^ 24 ≡ 127). let before = one.local in let after = two.local in let small = range.small in
          omega (arith, before, after);
      below = omega (arith, two.below);
    })

apart_block : (side : SideSettings) (address : Addr) (block : Block) → is_in_pool address side ≡ true → meets_pool side block ≡ false
    → is_in_block address block ≡ false
apart_block side address block within apart =
    let bounds = and_parts (nat_le side.first.0 address.0) (nat_le address.0 side.last.0) within in
    let low = leb-true _ _ bounds.0 in
    let high = leb-true _ _ bounds.1 in
    elim (cases_Bool (is_in_block address block)) [
      | inl inside ↦
          let parts = and_parts (nat_le block.base.0 address.0) (nat_le address.0 (block_end block)) inside in
          let from = leb-true _ _ parts.0 in
          let to = leb-true _ _ parts.1 in
          let meets = and_from (nat_le block.base.0 side.last.0) (nat_le side.first.0 (block_end block)) (le-leb _ _ (omega arith))
          (le-leb _ _ (omega arith)) in
          cc (apart, meets)
      | inr outside ↦ outside
    ]

apart_blocks : (side : SideSettings) (address : Addr) (blocks : List Block) → is_in_pool address side ≡ true → meets_same blocks side ≡ false
    → is_in_same address blocks ≡ false
apart_blocks side address [] within apart = refl
apart_blocks side address (block ∷ rest) within apart =
    let parts = or_parts (meets_pool side block) (meets_same rest side) apart in
    or_from _ _ (apart_block side address block within parts.0) (apart_blocks side address rest within parts.1)

not_same : (side : SideSettings) (blocks : List Block) (address : Addr) → is_bad_pool side ≡ false → meets_same blocks side ≡ false
    → HasUnicastPool side → is_in_pool address side ≡ true → (not (is_unicast_number address.0) || is_in_same address blocks) ≡ false
not_same side blocks address good apart unicast within =
    let bounds = and_parts (nat_le side.first.0 address.0) (nat_le address.0 side.last.0) within in
    or_from _ _ (not_from_true _
    (unicast_between side.first.0 side.last.0 address.0 (range_is side good) (leb-true _ _ bounds.0) (leb-true _ _ bounds.1) unicast.first
    unicast.last)) (apart_blocks side address blocks within apart)

-- ## The opening table

pub opening_lawful : (settings : Settings) → IsSound settings → HasForms settings → IsLawful (without_bindings settings)
opening_lawful settings sound forms = record {
  once = λ i j d before within. absurd (omega arith);
  places = λ k d within. absurd (omega arith);
  ranges = ordered;
  pools = pools;
}
  where
    ordered : (side : Side) → (range_of (without_bindings settings) side).first ≤ (range_of (without_bindings settings) side).last
    ordered Left = (range_is settings.left (sound.pools Left)).ordered
    ordered Right = (range_is settings.right (sound.pools Right)).ordered

    pools : (side : Side) (address : Addr) → in_pool (without_bindings settings) side address ≡ true → is_same (without_bindings settings) address
        ≡ false
    pools Left address within = not_same settings.left settings.same address (sound.pools Left) (sound.apart Left) forms.left within
    pools Right address within = not_same settings.right settings.same address (sound.pools Right) (sound.apart Right) forms.right within

same_pool : (settings : Settings) (side : Side) (address : Addr) → in_pool (without_bindings settings) side address
    ≡ is_in_pool address (side_settings settings side)
same_pool settings Left address = refl
same_pool settings Right address = refl

-- the table with the earlier statics can hold the next one
pub can_open : (settings : Settings) (place : ℕ) (d : Fixed) → IsSound settings → HasForms settings → place < length settings.statics
    → CanHold (record (without_bindings settings) { entries = map fixed_binding (take place settings.statics) })
    (fixed_binding (get_or settings.statics place d))
unfolding host_is_taken alias_is_outside
can_open settings place d sound forms within =
    let fixed : Fixed = get_or settings.statics place d in
    let host = or_parts _ _ (sound.hosts place d within) in
    let table = record (without_bindings settings) { entries = map fixed_binding (take place settings.statics) } in
    record {
      place = record {
        alias = same_pool settings (other fixed.side) fixed.alias ∙ not-false _ (sound.aliases place d within);
        outside = same_pool settings fixed.side fixed.host ∙ host.0;
        host = or_from _ _ (not_from_true _ (forms.statics place d within).host) host.1;
      };
      once = All-map (λ earlier. collides (fixed_binding fixed) earlier ≡ false) fixed_binding (take place settings.statics) (λ k e less.
          let short : k < place = omega (arith, length-take place settings.statics) in
          let P : Fixed → Type 0 = λ earlier. collides (fixed_binding fixed) (fixed_binding earlier) ≡ false in
          let Q : Fixed → Type 0 = λ one. collides (fixed_binding one) (fixed_binding (get_or settings.statics k e)) ≡ false in
          subst P (sym (get_or-take place settings.statics k e short))
          (subst Q (get_or_default settings.statics place e d within) (sound.once k place e short within)));
    }
