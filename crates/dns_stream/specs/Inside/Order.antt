-- A list of entries, and the same entries in the order of their addresses.
use Rattle.std.specs.Prelude.{◌≡◌, ℕ, ◌<◌, ◌≤◌, List, length, slice_index_or, None}
use Rattle.dialogue.specs.Prelude.{Entry, listed_image}
use Rattle.dialogue.specs.declared.TheConstants.{MOST_ENTRIES}

-- stands where a list has no entry
abbrev pub no_entry : Entry
no_entry = (record { 0 = 0 }, None)

-- the address of the entry at a place
abbrev pub address_at : List Entry → ℕ → ℕ
address_at l i = let entry = slice_index_or l i no_entry in entry.0.0

-- the addresses rise, so none comes twice
abbrev pub Rises : List Entry → Type 0
Rises l = (i j : ℕ) → i < j → j < length l → address_at l i < address_at l j

-- the entry at a place is of this address
pub record IsAt (l : List Entry) (address i : ℕ) : Type 0 where
  pub in_range : i < length l
  pub is_this : address_at l i ≡ address

-- the place of an address that has no entry: lower addresses before it, and higher ones from it on
pub record IsGapFor (l : List Entry) (address i : ℕ) : Type 0 where
  pub in_range : i ≤ length l
  pub lower_before : (j : ℕ) → j < i → address_at l j < address
  pub higher_after : (j : ℕ) → i ≤ j → j < length l → address < address_at l j

-- at most MOST_ENTRIES entries, and at most as many sorted ones, whose addresses rise and which give each address the same image
pub record AreOneList (entries sorted : List Entry) : Type 0 where
  pub few : length entries ≤ MOST_ENTRIES
  pub fewer : length sorted ≤ length entries
  pub rises : Rises sorted
  pub same : (a : ℕ) → listed_image sorted a ≡ listed_image entries a
