-- The search for check 13, window by window: what the contracts of private functions cite, and nothing else does.
-- A window is 16,382 bricks long; a brick has b bytes, and `os e` is the offset of entry e, or 0 where it is not stored.
use Rattle.std.specs.Prelude.{Bool, true, false, List, Option, Some, None, MatchOption, unwrap_or, ⊤, ◌≡◌, ℕ, ◌+◌, ◌*◌, ◌≤◌, ◌<◌, get_or}
use Rattle.table.specs.declared.Table.{Table}
use Rattle.table.specs.Entries.{kind_at, offset_in}

-- the offset of entry e
unfoldable pub offset_at : Table → List ℕ → ℕ → ℕ
offset_at t f e = offset_in (kind_at t f e)

-- stored bricks at the offsets v and o have a byte in common
pub record Near (b v o : ℕ) : Type 0 where
  pub left : 0 < v
  pub right : 0 < o
  pub below : v < o + b
  pub above : o < v + b

-- a stored brick at the offset o starts in the window from lo
pub record Inside (b lo o : ℕ) : Type 0 where
  pub stored : 0 < o
  pub low : lo ≤ o
  pub high : o < lo + 16382 * b

-- r is the lowest of the first `limit` entries that overlaps a lower one, of those inside the window, and none where none does; it does overlap a lower one
pub record Scanned (os : ℕ → ℕ) (b lo limit : ℕ) (r : Option ℕ) : Type 0 where
  pub clear : (i j : ℕ) → i < unwrap_or r limit → j < i → Inside b lo (os i) → Inside b lo (os j) → Near b (os j) (os i) → ⊥
  pub hit : MatchOption r ⊤ (λ e. (e < limit) × (j : ℕ) × (j < e) × Near b (os j) (os e))

-- r says whether one of the cells c to c + 2 holds an offset that overlaps o
pub record Touched (cells : List ℕ) (c b o : ℕ) (r : Bool) : Type 0 where
  pub found : r ≡ true → (s : ℕ) × Near b (get_or cells s 0) o
  pub none : r ≡ false → (s : ℕ) → c ≤ s → s ≤ c + 2 → Near b (get_or cells s 0) o → ⊥

-- r is at lo or after it, and no stored offset of the first n lies between lo and r; there is no r only where none lies at lo or after it
abbrev pub NextStart : (ℕ → ℕ) → ℕ → ℕ → Option ℕ → Type 0
NextStart os n lo None = (k : ℕ) → k < n → 0 < os k → os k < lo
NextStart os n lo (Some r) = (lo ≤ r) × ((k : ℕ) → k < n → 0 < os k → lo ≤ os k → r ≤ os k)
