-- Settings without a fault fit one another.
use Rattle.std.proofs.Common.{◌≡◌, ℕ, ◌+◌, ◌<◌, Bool, false, List, [], ◌∷◌, ◌++◌, length, get_or, Option, Some, None, refl, arith, All, inl, inr, nat_lt, append_assoc, append-nil}
use Rattle.std.proofs.lemmas.Bool.{cases_Bool}
use Rattle.std.proofs.lemmas.List.Folds.{list_any_at}
use Rattle.std.proofs.lemmas.List.Quantifiers.{all_pairs_push}
use Rattle.std.proofs.lemmas.List.Sums.{fails_before_first}
use borrow.Author.Tests.{ltb-false}
use Rattle.std.specs.Option.{option_or}
use Rattle.std.specs.List.{AllByRecursion, fold, AllPairs, list_any, position, position_or_len}
use Rattle.gate_base.specs.declared.side.Side.{Side}
use Rattle.gate_base.specs.declared.side.Side.TheVariants.{Left, Right}
use Rattle.gate_base.proofs.Options.{none_mapped}
use Rattle.settings_file.specs.declared.fault.SettingsFault.{SettingsFault}
use Rattle.settings_file.specs.declared.fault.SettingsFault.TheVariants.{PoolSize, SameInPool, HostInPool, StaticOutsidePool}
use Rattle.gate_settings.specs.declared.settings.Fixed.{Fixed}
use Rattle.settings_file.specs.declared.given.Given.{Given}
use Rattle.gate_settings.specs.Prelude.{collides, is_bad_pool, meets_same, host_is_taken, alias_is_outside, side_settings, IsSound}
use Rattle.settings_file.specs.Accepting.{first_side, first_static, first_repeated, first_fault, pool_size, same_in_pool, host_in_pool, static_outside_pool, static_repeated, mac_missing}

-- where no line has a fault, each line has none
no_line : (line : Option SettingsFault) (lines : List (Option SettingsFault)) → fold option_or line lines ≡ None
    → AllByRecursion (λ l. l ≡ None) (line ∷ lines)
no_line None [] h = (refl, tt)
no_line None (line ∷ lines) h = (refl, no_line line lines h)
no_line (Some fault) [] h = cc
no_line (Some fault) (line ∷ lines) h = cc (no_line (Some fault) lines h).0

no_side : (test : Side → Bool) (fault : Side → SettingsFault) → first_side test fault ≡ None → (side : Side) → test side ≡ false
no_side test fault h Left = elim (cases_Bool (test Left)) [ inl holds ↦ cc (rw holds at h) | inr fails ↦ fails ]
no_side test fault h Right =
    elim (cases_Bool (test Left)) [
      | inl holds ↦ cc (rw holds at h)
      | inr fails ↦ elim (cases_Bool (test Right)) [ inl holds ↦ cc (rw (fails, holds) at h) | inr other ↦ other ]
    ]

no_place : (test : Fixed → Bool) (statics : List Fixed) → position test statics ≡ None → All (λ fixed. test fixed ≡ false) statics
no_place test statics h k d within =
    elim (cases_Bool (nat_lt (position_or_len test statics) (length statics))) [
      | inl holds ↦ cc (rw holds at h)
      | inr fails ↦ fails_before_first test statics k d (omega (arith, ltb-false))
    ]

no_static : (test : Fixed → Bool) (fault : ℕ → SettingsFault) (statics : List Fixed) → first_static test fault statics ≡ None
    → All (λ fixed. test fixed ≡ false) statics
no_static test fault statics h = no_place test statics (none_mapped (λ place. fault (place + 1)) (position test statics) h)

none_at : (test : Fixed → Bool) (statics : List Fixed) (k : ℕ) (d : Fixed) → list_any test statics ≡ false → k < length statics
    → test (get_or statics k d) ≡ false
none_at test statics k d h within =
    elim (cases_Bool (test (get_or statics k d))) [ inl holds ↦ cc (list_any_at test statics k d within holds) | inr fails ↦ fails ]

abbrev Once : List Fixed → Type 0
Once statics = AllPairs (λ earlier fixed. collides fixed earlier ≡ false) statics

no_repeated : (earlier later : List Fixed) → Once earlier → first_repeated earlier later ≡ None → Once (earlier ++ later)
no_repeated earlier [] once h = rw append-nil once
no_repeated earlier (fixed ∷ later) once h =
    elim (cases_Bool (list_any (collides fixed) earlier)) [
      | inl holds ↦ cc (rw holds at h)
      | inr fails ↦
          let more =
          all_pairs_push (λ one two. collides two one ≡ false) earlier fixed once
          (λ k d within. none_at (collides fixed) earlier k d fails within) in
          rw append_assoc at (no_repeated (earlier ++ fixed ∷ []) later more (rw fails at h))
    ]

pub sound : (given : Given) → first_fault given ≡ None → IsSound given.settings
unfolding first_fault pool_size same_in_pool host_in_pool static_outside_pool static_repeated
sound given h =
    let s = given.settings in
    let none = no_line (pool_size s) (same_in_pool s ∷ host_in_pool s ∷ static_outside_pool s ∷ static_repeated s ∷ mac_missing given ∷ []) h in
    record {
      pools = no_side (λ side. is_bad_pool (side_settings s side)) PoolSize none.0;
      apart = no_side (λ side. meets_same s.same (side_settings s side)) SameInPool none.1.0;
      hosts = no_static (host_is_taken s) HostInPool s.statics none.1.1.0;
      aliases = no_static (alias_is_outside s) StaticOutsidePool s.statics none.1.1.1.0;
      once = no_repeated [] s.statics (λ i j d before within. absurd (omega arith)) none.1.1.1.1.0;
    }
