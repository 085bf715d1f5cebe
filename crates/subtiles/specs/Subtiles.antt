-- The version 1 brick order (FORMAT 13): a brick of sides n0, n1, n2 is cut into subtiles of 8 x 8 x n2. Check 20.
use Rattle.std.specs.Prelude.{Bool, not, ◌&&◌, ◌||◌, List, ℕ, ◌+◌, ◌*◌, ◌/◌, ◌%◌, eqb, get_or}
use Rattle.endian.specs.Loops.{cat}
use Rattle.endian.specs.Bytes.{peek}
use Rattle.geometry.specs.Limits.{least_exponent, power_in}
use Rattle.geometry.specs.Geometry.{item_of}

-- the item number of (i, j, k) in the version 1 order
abbrev pub subtiled_of : ℕ → ℕ → ℕ → ℕ → ℕ → ℕ
subtiled_of n1 n2 i j k = i / 8 * (8 * n1 * n2) + j / 8 * (64 * n2) + i % 8 * (8 * n2) + j % 8 * n2 + k

-- item m of a brick whose items have w bytes
abbrev pub item_at : ℕ → List ℕ → ℕ → List ℕ
item_at w brick m = peek brick (m * w) w

-- a brick in plain order, from one in the version 1 order
unfoldable pub plain_from : ℕ → ℕ → ℕ → ℕ → List ℕ → List ℕ
plain_from n0 n1 n2 w brick = cat n0 (λ i. cat n1 (λ j. cat n2 (λ k. item_at w brick (subtiled_of n1 n2 i j k))))

-- a brick in the version 1 order, from one in plain order: subtile by subtile, each in plain order
unfoldable pub subtiled_from : ℕ → ℕ → ℕ → ℕ → List ℕ → List ℕ
subtiled_from n0 n1 n2 w brick =
    cat (n0 / 8) (λ x. cat (n1 / 8) (λ y. cat 8 (λ i. cat 8 (λ j. cat n2 (λ k. item_at w brick (item_of n1 n2 (8 * x + i) (8 * y + j) k))))))

-- whole subtiles fill a side of 2^3 and more
abbrev pub tile_exponent : ℕ
tile_exponent = 3

-- check 20: the first two sides are filled by whole subtiles, the third is any side, and an item has 1, 2 or 4 bytes
unfoldable pub breaks20 : List ℕ → ℕ → Bool
breaks20 sides w =
    not (power_in tile_exponent (get_or sides 0 0) && power_in tile_exponent (get_or sides 1 0)
    && power_in least_exponent (get_or sides 2 0)
    && (eqb w 1 || eqb w 2 || eqb w 4))
