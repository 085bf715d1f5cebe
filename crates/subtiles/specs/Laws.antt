-- That the version 1 order is a permutation, and that the two moves undo each other.
use Rattle.std.specs.Prelude.{false, ◌≡◌, List, [], ◌∷◌, ℕ, ◌*◌, ◌<◌, length}
use Rattle.geometry.specs.Geometry.{brick_bytes}
use Rattle.subtiles.specs.Subtiles.{subtiled_of, plain_from, subtiled_from, breaks20}

-- sides and an item width that check 20 allows
abbrev pub Allowed : ℕ → ℕ → ℕ → ℕ → Type 0
Allowed n0 n1 n2 w = breaks20 (n0 ∷ n1 ∷ n2 ∷ []) w ≡ false

-- (i, j, k) is a place in a brick of these sides
pub record Place (n0 n1 n2 i j k : ℕ) : Type 0 where
  pub inline : i < n0
  pub crossline : j < n1
  pub vertical : k < n2

-- in bricks of allowed sides, the version 1 order numbers the places one to one, from 0 on
pub record IsPermutation : Type 0 where
  -- each number is below the number of items
  pub below : (n0 n1 n2 w i j k : ℕ) → Allowed n0 n1 n2 w → Place n0 n1 n2 i j k → subtiled_of n1 n2 i j k < n0 * n1 * n2
  -- places with the same number are the same
  pub same : (n0 n1 n2 w i j k i' j' k' : ℕ) → Allowed n0 n1 n2 w → Place n0 n1 n2 i j k → Place n0 n1 n2 i' j' k'
      → subtiled_of n1 n2 i j k ≡ subtiled_of n1 n2 i' j' k' → (i ≡ i') × (j ≡ j') × (k ≡ k')
  -- each number below it is the number of a place
  pub every : (n0 n1 n2 w m : ℕ) → Allowed n0 n1 n2 w → m < n0 * n1 * n2
      → (i : ℕ) × (j : ℕ) × (k : ℕ) × Place n0 n1 n2 i j k × (subtiled_of n1 n2 i j k ≡ m)

-- a brick of allowed sides and of its bytes, moved to the other order and back, is itself
pub record ThereAndBack : Type 0 where
  pub from_subtiled : (n0 n1 n2 w : ℕ) (brick : List ℕ) → Allowed n0 n1 n2 w → length brick ≡ brick_bytes n0 n1 n2 w
      → subtiled_from n0 n1 n2 w (plain_from n0 n1 n2 w brick) ≡ brick
  pub from-plain : (n0 n1 n2 w : ℕ) (brick : List ℕ) → Allowed n0 n1 n2 w → length brick ≡ brick_bytes n0 n1 n2 w
      → plain_from n0 n1 n2 w (subtiled_from n0 n1 n2 w brick) ≡ brick
