-- Boxes of a region, each in one brick: the buffer of a read is filled box by box. It holds the items of an l x m x n region, w elements each,
-- vertical fastest and inline slowest.
use Rattle.std.specs.Prelude.{Bool, ◌&&◌, cond, List, ◌≡◌, ℕ, ◌+◌, ◌*◌, ◌%◌, ◌≤◌, ◌<◌, length, take, drop}
use Rattle.endian.specs.Loops.{tri}
use Rattle.record.specs.Record.{side_of}
use Rattle.record.specs.declared.Record.{Record}
use Rattle.table.specs.declared.Kind.{Kind}
use Rattle.cube.specs.declared.Region.{Region}
use Rattle.cube.specs.Places.{kind_in, brick_of, item_no}
use Rattle.cube.specs.Regions.{start_of, run_of, place, between}
use Rattle.runs.specs.declared.Lattice.{Lattice}
use Rattle.runs.specs.Runs.{Ready}

-- n samples along direction d, from the at-th of the region on, that lie in one brick
pub record Along (r : Record) (g : Region) (d at n : ℕ) : Type 0 where
  pub some : 0 < n
  pub within : at + n ≤ run_of g d
  pub brick : (start_of g d + at) % side_of r.description d + n ≤ side_of r.description d

-- the box of ni x nj x nk items from i, j, k on has the item x, y, z
abbrev pub in_box : ℕ → ℕ → ℕ → ℕ → ℕ → ℕ → ℕ → ℕ → ℕ → Bool
in_box i ni j nj k nk x y z = between i ni x && (between j nj y && between k nk z)

module _ {A : Type 0} where
  -- the t-th item of w elements
  abbrev pub item_at : ℕ → List A → ℕ → List A
  item_at w d t = take w (drop (t * w) d)

  -- new is old, but that the items of a box are g's
  pub record Boxed (w l m n : ℕ) (g : ℕ → ℕ → ℕ → List A) (i ni j nj k nk : ℕ) (old new : List A) : Type 0 where
    pub size : length new ≡ length old
    pub items : (x y z : ℕ) → x < l → y < m → z < n → item_at w new (tri m n x y z) ≡ cond (in_box i ni j nj k nk x y z) (g x y z) (item_at w old (tri m n x y z))

-- the rows of a box on one inline: nj of them, of nk samples each, from i, j, k past the region's start on, which is item m of a brick of kind κ
pub record Rows (r : Record) (f : List ℕ) (g : Region) (q : Lattice) (κ : Kind) (m i j k nj nk : ℕ) : Type 0 where
  pub ready : Ready r f g q
  pub in_i : i < run_of g 0
  pub in_j : Along r g 1 j nj
  pub in_k : Along r g 2 k nk
  pub kind : κ ≡ kind_in r f (brick_of r (place g i j k))
  pub item : m ≡ item_no r (place g i j k)

-- a box of one brick: ni inlines of such rows
pub record Block (r : Record) (f : List ℕ) (g : Region) (q : Lattice) (κ : Kind) (m i ni j nj k nk : ℕ) : Type 0 where
  pub ready : Ready r f g q
  pub in_i : Along r g 0 i ni
  pub in_j : Along r g 1 j nj
  pub in_k : Along r g 2 k nk
  pub kind : κ ≡ kind_in r f (brick_of r (place g i j k))
  pub item : m ≡ item_no r (place g i j k)
