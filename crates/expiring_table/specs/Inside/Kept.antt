-- What a store of rows keeps.
use Rattle.std.specs.Prelude.{◌≡◌, ◌≢◌, ℕ, ◌*◌, ◌<◌, ◌≤◌, ◌^◌, Bool, false, ◌==◌, List, [], ◌∷◌, length, slice_index, slice_index_or, take, nat_le, ◌&&◌, cond, is_some, IsSome, Option, Some, None, vec_capacity}
use Rattle.std.specs.List.{Contains, sum_by}
use Rattle.std.specs.List.Sorted.{IsPermutation}
use Rattle.std.specs.declared.cmp.Reverse.{Reverse}
use Rattle.expiring_table.specs.declared.row.Row.{Row}
use Rattle.expiring_table.specs.declared.store.Store.{Store}
use Rattle.expiring_table.specs.Inside.Buckets.{bucket_in}
use Rattle.expiring_table.specs.Inside.Chained.{Chained}
use Rattle.expiring_table.specs.Inside.Armed.{alarm}
use Rattle.expiring_table.specs.Rows.{Table}

-- the bucket of a key
abbrev pub bucket_of : Chained → ℕ → ℕ
bucket_of chained key = bucket_in chained.seed chained.width key

-- the moment of the alarm of a new row
abbrev pub first_moment : Option ℕ → ℕ
first_moment None = 0
first_moment (Some end) = end

-- a new row at a place has an alarm at its end, if it has one
abbrev pub HasAlarm : Option ℕ → ℕ → List (Reverse (ℕ × ℕ)) → List (Reverse (ℕ × ℕ)) → Type 0
HasAlarm None place old new = new ≡ old
HasAlarm (Some end) place old new = IsPermutation (alarm end place ∷ old) new

-- how many alarms are due
abbrev pub count_due : ℕ → List (Reverse (ℕ × ℕ)) → ℕ
count_due now alarms = sum_by (λ one. cond (nat_le one.0.0 now) 1 0) alarms

module _ {T : Type 0} where
  -- the row in the cell, if there is one, has this key
  abbrev pub is_cell_of : ℕ → Option (Row T) → Bool
  is_cell_of key None = false
  is_cell_of key (Some row) = row.key == key

  -- the rows in cells, some of which are empty
  abbrev pub rows_in : List (Option (Row T)) → List (Row T)
  rows_in [] = []
  rows_in (None ∷ cells) = rows_in cells
  rows_in (Some row ∷ cells) = row ∷ rows_in cells

  -- how many rows there may be, and the rows
  abbrev pub table_of : Store T → Table T
  table_of store = record { most = store.most; rows = rows_in store.cells.items }

  -- the row at a place
  abbrev pub row_at : List (Option (Row T)) → ℕ → Option (Row T)
  row_at cells place = slice_index_or cells place None

  -- the place of the row with a key
  abbrev pub IsPlaceOf : ℕ → List (Option (Row T)) → Option ℕ → Type 0
  IsPlaceOf key cells None = (place : ℕ) (row : Row T) → row_at cells place ≡ Some row → row.key ≢ key
  IsPlaceOf key cells (Some place) = (place < length cells) × ((row : Row T) × (row_at cells place ≡ Some row) × (row.key ≡ key))

  -- the row had an end, and its alarm is no later than another end
  abbrev pub is_watched : ℕ → ℕ → Option (Row T) → Bool
  is_watched moment end None = false
  is_watched moment end (Some row) = is_some row.end && nat_le moment end

  -- each row's place is in the bucket of its key
  abbrev pub AreHashed : List (Option (Row T)) → Chained → Type 0
  AreHashed cells chained = (place : ℕ) (row : Row T) → row_at cells place ≡ Some row → slice_index chained.buckets place ≡ bucket_of chained row.key

  -- no two rows have one key
  abbrev pub AreOnce : List (Option (Row T)) → Type 0
  AreOnce cells = (one other : ℕ) (row next : Row T) → row_at cells one ≡ Some row → row_at cells other ≡ Some next → row.key ≡ next.key → one ≡ other

  -- each row that ends has an alarm, no later than its end
  abbrev pub AreWatched : List (Option (Row T)) → List ℕ → List (Reverse (ℕ × ℕ)) → Type 0
  AreWatched cells moments alarms = (place : ℕ) (row : Row T) (end : ℕ) → row_at cells place ≡ Some row → row.end ≡ Some end
      → (slice_index moments place ≤ end) × Contains alarms (alarm (slice_index moments place) place)

  -- the rows of these cells can be found by their keys and by their ends
  pub record IsIndexed (cells : List (Option (Row T))) (moments : List ℕ) (chained : Chained) (alarms : List (Reverse (ℕ × ℕ))) : Type 0 where
    pub watches : length moments ≡ length cells
    pub links : length chained.buckets ≡ length cells
    pub hashed : AreHashed cells chained
    pub watched : AreWatched cells moments alarms

  -- there is room for so many rows twice
  pub record HasRoom (store : Store T) : Type 0 where
    pub some : 0 < store.most
    pub few : 2 * store.most < 2 ^ 32
    pub width : store.chains.width ≡ 2 * store.most
    pub cells : 2 * store.most ≤ vec_capacity store.cells
    pub moments : 2 * store.most ≤ vec_capacity store.moments
    pub chains : 2 * store.most ≤ store.chains.room
    pub alarms : 2 * store.most ≤ store.alarms.room
    pub within : length store.cells.items ≤ 2 * store.most
    pub alarmed : length store.alarms.alarms ≤ 2 * store.most

  pub record IsWhole (store : Store T) : Type 0 where
    pub room : HasRoom store
    pub indexed : IsIndexed store.cells.items store.moments.items store.chains store.alarms.alarms
    pub once : AreOnce store.cells.items
    pub counted : store.count ≡ length (rows_in store.cells.items)
    pub few : store.count ≤ store.most

  -- a store from which an alarm was taken out, whose row was not looked at yet
  pub record IsOpen (moment place : ℕ) (store : Store T) : Type 0 where
    pub room : HasRoom store
    pub indexed : IsIndexed store.cells.items store.moments.items store.chains (alarm moment place ∷ store.alarms.alarms)
    pub once : AreOnce store.cells.items
    pub counted : store.count ≡ length (rows_in store.cells.items)
    pub few : store.count ≤ store.most
    pub spare : length store.alarms.alarms < 2 * store.most

  -- a store with room for a row at once
  pub record CanAppend (store : Store T) : Type 0 where
    pub cells : length store.cells.items < 2 * store.most
    pub alarms : length store.alarms.alarms < 2 * store.most

  -- a store without empty cells, of which so many are listed
  pub record IsListed (places : ℕ) (store : Store T) : Type 0 where
    pub room : HasRoom store
    pub indexed : IsIndexed (take places store.cells.items) store.moments.items store.chains store.alarms.alarms
    pub once : AreOnce store.cells.items
    pub full : (place : ℕ) → place < length store.cells.items → IsSome (row_at store.cells.items place)
    pub reach : places ≤ length store.cells.items
    pub alarmed : length store.alarms.alarms ≤ places
    pub counted : store.count ≡ length (rows_in store.cells.items)
    pub few : store.count ≤ store.most
