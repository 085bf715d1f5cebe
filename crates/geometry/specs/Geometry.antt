-- Levels, brick counts, extents, entry numbers, item numbers and the header's end, as FORMAT 4, 5 and 7 say them.
-- A cube has a, b and c bricks in the inline, crossline and vertical direction at level 0.
use Rattle.std.specs.Prelude.{List, ◌≡◌, ℕ, zero, suc, ◌+◌, ◌-◌, ◌*◌, ◌/◌, ◌^◌, ◌≤◌, ◌<◌, eqb, get_or}
use Rattle.std.specs.Int.Count.{count_trailing_zeros}
use Rattle.endian.specs.Loops.{first, sum_to, tri}
use Rattle.geometry.specs.Limits.{text_start, least_exponent, size_limit, level_cap, count_room, exponent_room, side_room}
use Rattle.geometry.specs.declared.Shape.{Shape}
use Rattle.geometry.specs.declared.Level.{Level}

-- n / d, rounded up
abbrev pub ceil_div : ℕ → ℕ → ℕ
ceil_div n d = (n + (d - 1)) / d

-- the bricks of level l in a direction that has n at level 0: each next level has half, rounded up
unfoldable pub halved : ℕ → ℕ → ℕ
halved n zero = n
halved n (suc l) = (halved n l + 1) / 2

-- a level's extent in samples, in a direction
abbrev pub extent : ℕ → ℕ → ℕ
extent size l = ceil_div size (2 ^ l)

-- the bricks of level l in a direction, worked out directly: size / (side x 2^l), rounded up
abbrev pub count_at : ℕ → ℕ → ℕ → ℕ
count_at size side l = ceil_div size (side * 2 ^ l)

-- the bricks of level l
abbrev pub bricks_at : ℕ → ℕ → ℕ → ℕ → ℕ
bricks_at a b c l = halved a l * halved b l * halved c l

-- levels, to the first with one brick. The cap is past the last level of any allowed size (law `last` of `LevelsCover`)
abbrev pub levels : ℕ → ℕ → ℕ → ℕ
levels a b c = first (λ l. eqb (bricks_at a b c l) 1) level_cap + 1

-- the bricks of all levels
abbrev pub bricks : ℕ → ℕ → ℕ → ℕ
bricks a b c = sum_to (bricks_at a b c) (levels a b c)

-- the alpha tiles of all levels: inline x crossline bricks over the same levels
abbrev pub alphas : ℕ → ℕ → ℕ → ℕ
alphas a b c = sum_to (λ l. halved a l * halved b l) (levels a b c)

-- the entries before those of level l: the highest level comes first, so they are the bricks of all higher levels
unfoldable pub level_base : ℕ → ℕ → ℕ → ℕ → ℕ
level_base a b c l = sum_to (λ m. bricks_at a b c (l + 1 + m)) (levels a b c - (l + 1))

-- what numbers the bricks of level l: the entries before it, and its bricks inline and crossline
abbrev pub level_of : ℕ → ℕ → ℕ → ℕ → Level
level_of a b c l = record { base = level_base a b c l; inline = halved a l; crossline = halved b l }

-- the entry number of brick (i, j, k) of a level: inside a level inline runs fastest and vertical slowest
abbrev pub entry_at : Level → ℕ → ℕ → ℕ → ℕ
entry_at v i j k = v.base + tri v.crossline v.inline k j i

-- the entry number of brick (i, j, k) of level l
unfoldable pub entry_of : ℕ → ℕ → ℕ → ℕ → ℕ → ℕ → ℕ → ℕ
entry_of a b c l i j k = entry_at (level_of a b c l) i j k

-- the item number of (i, j, k) inside a brick whose second and third sides are s1 and s2: vertical runs fastest
abbrev pub item_of : ℕ → ℕ → ℕ → ℕ → ℕ → ℕ
item_of s1 s2 i j k = tri s1 s2 i j k

-- the bytes of a brick with these sides and items of w bytes
abbrev pub brick_bytes : ℕ → ℕ → ℕ → ℕ → ℕ
brick_bytes s0 s1 s2 w = s0 * s1 * s2 * w

-- where the brick table starts: after the text, the histogram and the alpha table
abbrev pub table_start : ℕ → ℕ → ℕ
table_start text alpha = text_start + text + 2064 + 8 * alpha

-- the end of the headers
abbrev pub header_end : ℕ → ℕ → ℕ → ℕ
header_end text alpha brick = table_start text alpha + 8 * brick

-- the levels and the bricks and alpha tiles of all levels
abbrev pub shape_of : ℕ → ℕ → ℕ → Shape
shape_of a b c = record { levels = levels a b c; bricks = bricks a b c; alphas = alphas a b c }

-- of three sizes and three sides: the bricks of level 0 in direction i, the bricks of level l, its alpha tiles and what numbers them, and the shape
abbrev pub count_in : List ℕ → List ℕ → ℕ → ℕ
count_in size side i = ceil_div (get_or size i 0) (get_or side i 0)

abbrev pub bricks_in : List ℕ → List ℕ → ℕ → ℕ
bricks_in size side = bricks_at (count_in size side 0) (count_in size side 1) (count_in size side 2)

abbrev pub alphas_in : List ℕ → List ℕ → ℕ → ℕ
alphas_in size side l = halved (count_in size side 0) l * halved (count_in size side 1) l

abbrev pub level_at : List ℕ → List ℕ → ℕ → Level
level_at size side = level_of (count_in size side 0) (count_in size side 1) (count_in size side 2)

abbrev pub shape_in : List ℕ → List ℕ → Shape
shape_in size side = shape_of (count_in size side 0) (count_in size side 1) (count_in size side 2)

-- counts so small that no product or sum of them wraps
pub record Small (a b c : ℕ) : Type 0 where
  pub inline : a ≤ count_room
  pub crossline : b ≤ count_room
  pub vertical : c ≤ count_room

-- n lies from a to b
pub record Between (a b n : ℕ) : Type 0 where
  pub low : a ≤ n
  pub high : n ≤ b

-- n is the power of two that its trailing zeros say
pub record Power (n : ℕ) : Type 0 where
  pub exponent : 2 ^ count_trailing_zeros 64 n ≡ n
  pub small : count_trailing_zeros 64 n ≤ exponent_room

-- what keeps every count, sum and product of three sizes and three sides from wrapping, and makes a quotient by a side a shift
pub record Sizes (size side : List ℕ) : Type 0 where
  pub side0 : Between (2 ^ least_exponent) side_room (get_or side 0 0)
  pub side1 : Between (2 ^ least_exponent) side_room (get_or side 1 0)
  pub side2 : Between (2 ^ least_exponent) side_room (get_or side 2 0)
  pub size0 : Between 1 size_limit (get_or size 0 0)
  pub size1 : Between 1 size_limit (get_or size 1 0)
  pub size2 : Between 1 size_limit (get_or size 2 0)
  pub power0 : Power (get_or side 0 0)
  pub power1 : Power (get_or side 1 0)
  pub power2 : Power (get_or side 2 0)

-- brick (i, j, k) of level l is one of the cube's
pub record Brick (a b c l i j k : ℕ) : Type 0 where
  pub level : l < levels a b c
  pub inline : i < halved a l
  pub crossline : j < halved b l
  pub vertical : k < halved c l
