-- Rows worked by hand.
use Rattle.std.proofs.Common.{◌≡◌, ℕ, ◌+◌, ◌*◌, true, [], ◌∷◌, Some, None, refl}
use Rattle.gate_base.specs.declared.address.Addr.{Addr}
use Rattle.gate_base.specs.declared.event.Moment.{Moment}
use Rattle.gate_base.specs.declared.side.Side.TheVariants.{Left, Right}
use Rattle.gate_settings.specs.Cross.{block_end}
use Rattle.binding_table.specs.declared.binding.Binding.{Binding}
use Rattle.binding_table.specs.declared.binding.Crossing.TheVariants.{Same, Bound, New, Unbound, Empty}
use Rattle.binding_table.specs.Prelude.{Bindings, seen, bound, extended, expired, Use, needed, images_after}
use Rattle.binding_table.specs.Bindings.{cross}

abbrev address : ℕ → ℕ → ℕ → ℕ → Addr
address a b c d = record { 0 = ((a * 256 + b) * 256 + c) * 256 + d }

abbrev second : ℕ → Moment
second n = record { 0 = n * 1000000000 }

abbrev fixed : Binding
fixed = record { side = Right; host = address 10 0 0 5; alias = address 192 168 200 1; until = second 0; fixed = true }

-- 11.0.0.0/8 crosses unchanged, the right pool has one address, and a host of the right realm is bound for good
abbrev opening : Bindings
opening = record {
  same = record { base = address 11 0 0 0; bits = 8 } ∷ [];
  left = record { first = (address 192 168 200 1).0; last = (address 192 168 200 3).0 };
  right = record { first = (address 172 16 9 1).0; last = (address 172 16 9 1).0 };
  oids = [];
  entries = fixed ∷ [];
}

-- a host of the left realm is bound for 300 seconds
abbrev later : Bindings
later = bound opening Left (address 10 0 0 5) (second 301)

new_host : cross opening Left (address 10 0 0 5) ≡ New (address 172 16 9 1)
unfolding cross block_end
new_host = refl

known_host : seen later Left (address 10 0 0 5) ≡ Some (address 172 16 9 1)
unfolding cross block_end
known_host = refl

known_alias : cross opening Left (address 192 168 200 1) ≡ Bound (address 10 0 0 5)
unfolding cross block_end
known_alias = refl

unbound_alias : cross opening Left (address 192 168 200 2) ≡ Unbound
unfolding cross block_end
unbound_alias = refl

same_block : cross opening Left (address 11 1 2 3) ≡ Same
unfolding cross block_end
same_block = refl

no_host : cross opening Left (address 224 0 0 1) ≡ Same
unfolding cross block_end
no_host = refl

empty_pool : cross later Left (address 10 0 0 6) ≡ Empty
unfolding cross block_end
empty_pool = refl

lives_before_its_end : expired later (record { 0 = 300999999999 }) ≡ later
unfolding cross block_end
lives_before_its_end = refl

ends_at_its_end : expired later (second 301) ≡ opening
unfolding cross block_end
ends_at_its_end = refl

lasts_longer : expired (extended later Right (address 172 16 9 1) (second 302)) (second 301) ≡ bound opening Left (address 10 0 0 5) (second 302)
unfolding cross block_end
lasts_longer = refl

never_shorter : extended later Left (address 10 0 0 5) (second 5) ≡ later
unfolding cross block_end
never_shorter = refl

fixed_stays : extended opening Left (address 192 168 200 1) (second 5) ≡ opening
unfolding cross block_end
fixed_stays = refl

counted_once : needed opening Left (address 10 0 0 5 ∷ address 192 168 200 1 ∷ address 10 0 0 5 ∷ address 10 0 0 6 ∷ []) ≡ 2
unfolding cross block_end
counted_once = refl

abbrev use_of : Addr → Use
use_of one = record { side = Right; address = one; until = second 9 }

images : images_after opening
    (use_of (address 10 0 0 5) ∷ use_of (address 10 0 0 7) ∷ use_of (address 11 1 1 1) ∷ use_of (address 10 0 0 8) ∷ use_of (address 10 0 0 7) ∷ [])
    ≡ Some (address 192 168 200 1) ∷ Some (address 192 168 200 2) ∷ None ∷ Some (address 192 168 200 3) ∷ Some (address 192 168 200 2) ∷ []
unfolding cross block_end
images = refl
