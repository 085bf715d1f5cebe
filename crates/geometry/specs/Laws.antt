-- What the numbering of bricks and the counts of a level owe, as statements that the source's empty functions prove.
use Rattle.std.specs.Prelude.{◌≡◌, ◌⊎◌, ℕ, ◌+◌, ◌-◌, ◌*◌, ◌^◌, ◌≤◌, ◌<◌}
use Rattle.geometry.specs.Limits.{least_exponent, size_limit, level_cap}
use Rattle.geometry.specs.Geometry.{ceil_div, halved, extent, count_at, bricks_at, levels, bricks, entry_of, Brick}

-- brick (i, j, k) comes before brick (i', j', k') of the same level: vertical decides first, then crossline, then inline
abbrev pub Before : ℕ → ℕ → ℕ → ℕ → ℕ → ℕ → Type 0
Before i j k i' j' k' = (k < k') ⊎ ((k ≡ k') × ((j < j') ⊎ ((j ≡ j') × (i < i'))))

-- what every entry number owes, in a cube with a, b and c bricks at level 0
pub record EntryNumbers : Type 0 where
  -- it is below the number of all bricks
  pub below : (a b c l i j k : ℕ) → Brick a b c l i j k → entry_of a b c l i j k < bricks a b c
  -- bricks with the same number are the same brick of the same level
  pub same : (a b c l i j k l' i' j' k' : ℕ) → Brick a b c l i j k → Brick a b c l' i' j' k'
      → entry_of a b c l i j k ≡ entry_of a b c l' i' j' k' → (l ≡ l') × (i ≡ i') × (j ≡ j') × (k ≡ k')
  -- inside a level numbers ascend: inline runs fastest, vertical slowest
  pub ascending : (a b c l i j k i' j' k' : ℕ) → Brick a b c l i j k → Brick a b c l i' j' k'
      → Before i j k i' j' k' → entry_of a b c l i j k < entry_of a b c l i' j' k'
  -- every entry of a higher level comes before every entry of a lower one
  pub higher_first : (a b c l i j k l' i' j' k' : ℕ) → Brick a b c l i j k → Brick a b c l' i' j' k'
      → l' < l → entry_of a b c l i j k < entry_of a b c l' i' j' k'
  -- the highest level's brick is entry 0
  pub starts : (a b c : ℕ) → entry_of a b c (levels a b c - 1) 0 0 0 ≡ 0
  -- the last brick of level 0 is the last entry
  pub ends : (a b c : ℕ) → 1 ≤ a → 1 ≤ b → 1 ≤ c → entry_of a b c 0 (a - 1) (b - 1) (c - 1) + 1 ≡ bricks a b c

-- a size that check 6 allows, and a side no smaller than the least that check 4 allows
pub record AllowedSize (size side : ℕ) : Type 0 where
  pub some : 1 ≤ size
  pub most : size ≤ size_limit
  pub least : 2 ^ least_exponent ≤ side

-- the last level of a cube with a, b and c bricks at level 0 is the first with one brick
pub record LastLevel (a b c : ℕ) : Type 0 where
  pub one : bricks_at a b c (levels a b c - 1) ≡ 1
  pub more : (l : ℕ) → l < levels a b c - 1 → 1 < bricks_at a b c l
  -- the search for it looks at so many levels, and ends before
  pub found : levels a b c - 1 < level_cap

-- what the levels' brick counts owe, in a direction of this size and brick side, and in all three
pub record LevelsCover : Type 0 where
  -- the bricks of a level cover its extent
  pub covers : (size side l : ℕ) → 0 < side → extent size l ≤ halved (ceil_div size side) l * side
  -- halving level by level is one division of the size
  pub by_size : (size side l : ℕ) → 0 < side → halved (ceil_div size side) l ≡ count_at size side l
  -- and it is the level's extent / side, rounded up
  pub by-extent : (size side l : ℕ) → 0 < side → halved (ceil_div size side) l ≡ ceil_div (extent size l) side
  -- levels go to the first with one brick
  pub last : (n0 n1 n2 s0 s1 s2 : ℕ) → AllowedSize n0 s0 → AllowedSize n1 s1 → AllowedSize n2 s2 → LastLevel (ceil_div n0 s0) (ceil_div n1 s1) (ceil_div n2 s2)

-- the bricks of level l in a direction, three ways
pub record OneCount (size side l : ℕ) : Type 0 where
  -- size / (side x 2^l), rounded up, is the halving of FORMAT 4.2 from level to level
  pub halving : count_at size side l ≡ halved (ceil_div size side) l
  -- and the level's extent / side, rounded up
  pub extents : count_at size side l ≡ ceil_div (extent size l) side

-- for every allowed size and side, at every level that a cube with them has, they are one number in each direction
abbrev pub HalvingRule : Type 0
HalvingRule = (n0 n1 n2 s0 s1 s2 l : ℕ) → AllowedSize n0 s0 → AllowedSize n1 s1 → AllowedSize n2 s2
    → l < levels (ceil_div n0 s0) (ceil_div n1 s1) (ceil_div n2 s2)
    → OneCount n0 s0 l × OneCount n1 s1 l × OneCount n2 s2 l
