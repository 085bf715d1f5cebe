-- Rounding up, halving, the last level, and what the counts of all levels are bounded by. Assumes nothing.
use mathlib.Core.Path.{◌≡◌, refl, sym, ap, ◌∙◌}
use mathlib.Core.Logic.{⊎_elim}
use mathlib.Core.Bool.{Bool, true, false}
use mathlib.Core.List.{List}
use Prim.Native.Nat.{ℕ, zero, suc, min, ◌+◌, ◌-◌, ◌*◌, ◌/◌, ◌%◌, ◌^◌, ◌≤◌, ◌<◌, zero-le}
use native.Mathlib.Nat.{eq-or-lt_of_le, le_refl, le_antisymm, le_trans, div-lt_iff_lt-mul, mul_assoc, mul_comm, mul-pos, pow-suc, add-mul, one-mul, mul-le-mul, one-le-mul, le-mul_of_pos_right, lt_of_mul-lt-mul_right}
use native.Mathlib.Omega.{arith}
use lib.Pow.{pow_pos}
use lib.Dec.{eqb}
use lib.ListN.{get_or}
use borrow.Author.Tests.{eqb-true, eq-eqb}
use Rattle.std.proofs.lemmas.Bool.{both_ways}
use Rattle.std.specs.Int.{div_ceil}
use Rattle.std.proofs.lemmas.Grind.{div_ceil_times}
use Rattle.endian.specs.Loops.{first, first_from, sum_to}
use Rattle.endian.proofs.Search.{first-le, first_upto, first_at, first_before, first-is}
use Rattle.geometry.specs.Limits.{least_exponent, size_limit, level_cap, count_room}
use Rattle.geometry.specs.Geometry.{ceil_div, halved, extent, count_at, count_in, bricks_at, bricks_in, levels, bricks, alphas, Small, Sizes}
use Rattle.geometry.specs.Laws.{AllowedSize, LastLevel, LevelsCover, OneCount, HalvingRule}

-- n / d rounded up is at most m exactly where n is at most m * d
pub ceil_le : (n d m : ℕ) → 0 < d → n ≤ m * d → ceil_div n d ≤ m
ceil_le n d m pos h =
    let t : n + (d - 1) < (m + 1) * d = omega (arith, add-mul m 1 d, one-mul d) in
    let u : (n + (d - 1)) / d < m + 1 = (div-lt_iff_lt-mul pos).1 t in
    omega arith

pub ceil_le⁻¹ : (n d m : ℕ) → 0 < d → ceil_div n d ≤ m → n ≤ m * d
ceil_le⁻¹ n d m pos h =
    let u : (n + (d - 1)) / d < m + 1 = omega arith in
    let t : n + (d - 1) < (m + 1) * d = (div-lt_iff_lt-mul pos).0 u in
    omega (arith, add-mul m 1 d, one-mul d)

-- the library's quotient, rounded up
pub div_ceil-is : (n d : ℕ) → 0 < d → div_ceil n d ≡ ceil_div n d
div_ceil-is n d pos =
    let t = div_ceil_times n d pos in
    let m = n / d + min 1 (n % d) in
    let below : ceil_div n d ≤ m = ceil_le n d m pos t.0 in
    let q = ceil_div n d in
    let b : n ≤ q * d = ceil_le⁻¹ n d q pos (le_refl q) in
    let s : m * d < (q + 1) * d = omega (arith, add-mul q 1 d, one-mul d, t.1) in
    let above : m < q + 1 = lt_of_mul-lt-mul_right d s in
    omega (arith, below, above)

-- rounding up twice is rounding up once
pub ceil_ceil : (n d e : ℕ) → 0 < d → 0 < e → ceil_div (ceil_div n d) e ≡ ceil_div n (d * e)
ceil_ceil n d e pd pe =
    le_antisymm
    (ceil_le (ceil_div n d) e y pe (ceil_le n d (y * e) pd (rw (swap y) (ceil_le⁻¹ n (d * e) y (mul-pos pd pe) (le_refl y)))))
    (ceil_le n (d * e) x (mul-pos pd pe) (rw (← swap x) (ceil_le⁻¹ n d (x * e) pd (ceil_le⁻¹ (ceil_div n d) e x pe (le_refl x)))))
  where
    x : ℕ
    x = ceil_div (ceil_div n d) e

    y : ℕ
    y = ceil_div n (d * e)

    swap : (m : ℕ) → m * e * d ≡ m * (d * e)
    swap m = mul_assoc m e d ∙ ap (λ (z : ℕ). m * z) (mul_comm e d)

-- an allowed size and side give a small count
pub ceil_small : (s d : ℕ) → s ≤ size_limit → 2 ^ least_exponent ≤ d → ceil_div s d ≤ count_room
ceil_small s d hs hd = ceil_le s d count_room (omega arith) (omega arith)

-- and at least one brick
pub ceil_pos : (s d : ℕ) → 1 ≤ s → 0 < d → 1 ≤ ceil_div s d
ceil_pos s d hs hd = go (ceil_div s d) (ceil_le⁻¹ s d (ceil_div s d) hd (le_refl (ceil_div s d)))
  where
    go : (m : ℕ) → s ≤ m * d → 1 ≤ m
    go zero h = absurd (omega arith)
    go (suc m) h = omega arith

-- halving level by level is one division
pub at_direct : (n l : ℕ) → halved n l ≡ ceil_div n (2 ^ l)
unfolding halved
at_direct n zero = omega arith
at_direct n (suc l) = rw (at_direct n l, pow-suc 2 l) (ceil_ceil n (2 ^ l) 2 (pow_pos l) (omega arith))

-- the bricks of a level, of the size directly, and of the level's extent
pub count_direct : (size side l : ℕ) → 0 < side
    → (halved (ceil_div size side) l ≡ count_at size side l) × (halved (ceil_div size side) l ≡ ceil_div (extent size l) side)
count_direct size side l pos = (direct, direct ∙ sym (ceil_ceil size (2 ^ l) side (pow_pos l) pos ∙ ap (λ (z : ℕ). ceil_div size z) (mul_comm (2 ^ l) side)))
  where
    direct : halved (ceil_div size side) l ≡ count_at size side l
    direct = at_direct (ceil_div size side) l ∙ ceil_ceil size side (2 ^ l) pos (pow_pos l)

-- the bricks of a level cover its extent
pub covers : (size side l : ℕ) → 0 < side → extent size l ≤ halved (ceil_div size side) l * side
covers size side l pos =
    rw (count_direct size side l pos).1 (ceil_le⁻¹ (extent size l) side (ceil_div (extent size l) side) pos (le_refl (ceil_div (extent size l) side)))

pub half_le : (n l : ℕ) → halved n l ≤ n
unfolding halved
half_le n zero = le_refl n
half_le n (suc l) = omega (arith, half_le n l)

pub half_pos : (n l : ℕ) → 1 ≤ n → 1 ≤ halved n l
unfolding halved
half_pos n zero h = h
half_pos n (suc l) h = omega (arith, half_pos n l h)

-- at this level one brick is left in a direction
abbrev pub top_level : ℕ
top_level = level_cap - least_exponent

half_top : (n : ℕ) → 1 ≤ n → n ≤ count_room → halved n top_level ≡ 1
half_top n lo hi = le_antisymm (rw (at_direct n top_level) (ceil_le n (2 ^ top_level) 1 (pow_pos top_level) (omega arith))) (half_pos n top_level lo)

at_top : {a b c : ℕ} → 1 ≤ a → 1 ≤ b → 1 ≤ c → Small a b c → bricks_at a b c top_level ≡ 1
at_top {a} {b} {c} la lb lc small = rw (half_top a la small.inline, half_top b lb small.crossline, half_top c lc small.vertical)

-- the last level is the first with one brick: the cap in `levels` is never met
module _ (a b c : ℕ) (la : 1 ≤ a) (lb : 1 ≤ b) (lc : 1 ≤ c) (small : Small a b c) where
  abbrev single : ℕ → Bool
  single l = eqb (bricks_at a b c l) 1

  last-level : LastLevel a b c
  last-level =
      let early : first single level_cap ≤ top_level = first_upto single level_cap top_level (eq-eqb (bricks_at a b c top_level) 1 (at_top la lb lc small)) in
      let top : levels a b c - 1 ≡ first single level_cap = omega arith in
      record { one = rw top (eqb-true (bricks_at a b c (first single level_cap)) 1 (first_at single level_cap (omega arith))); more = above-one; found = omega arith }
    where
      above-one : (l : ℕ) → l < levels a b c - 1 → 1 < bricks_at a b c l
      above-one l h =
          ⊎_elim
          (λ (e : 1 ≡ bricks_at a b c l). absurd (both_ways (single l) (first_before single level_cap l (omega arith)) (eq-eqb (bricks_at a b c l) 1 (sym e))))
          (λ (g : 1 < bricks_at a b c l). g)
          (eq-or-lt_of_le (one-le-mul (one-le-mul (half_pos a l la) (half_pos b l lb)) (half_pos c l lc)))

allowed_some : {size side : ℕ} → AllowedSize size side → 1 ≤ ceil_div size side
allowed_some {size} {side} h = ceil_pos size side h.some (omega arith)

allowed_small : {n0 n1 n2 s0 s1 s2 : ℕ} → AllowedSize n0 s0 → AllowedSize n1 s1 → AllowedSize n2 s2 → Small (ceil_div n0 s0) (ceil_div n1 s1) (ceil_div n2 s2)
allowed_small {n0} {n1} {n2} {s0} {s1} {s2} h0 h1 h2 =
    record { inline = ceil_small n0 s0 h0.most h0.least; crossline = ceil_small n1 s1 h1.most h1.least; vertical = ceil_small n2 s2 h2.most h2.least }

pub levels_cover : LevelsCover
levels_cover =
    record {
      covers = covers;
      by_size = λ size side l pos. (count_direct size side l pos).0;
      by-extent = λ size side l pos. (count_direct size side l pos).1;
      last = λ n0 n1 n2 s0 s1 s2 h0 h1 h2. last-level _ _ _ (allowed_some h0) (allowed_some h1) (allowed_some h2) (allowed_small h0 h1 h2);
    }

-- the direct count, the halving and the extent's count are one number
one-count : {size side : ℕ} (l : ℕ) → AllowedSize size side → OneCount size side l
one-count {size} {side} l h =
    let by_size = levels_cover.by_size size side l (omega (arith, h.least)) in
    let by-extent = levels_cover.by-extent size side l (omega (arith, h.least)) in
    record { halving = sym by_size; extents = sym by_size ∙ by-extent }

pub halving_rule : HalvingRule
halving_rule n0 n1 n2 s0 s1 s2 l h0 h1 h2 _ = (one-count l h0, one-count l h1, one-count l h2)

-- what the rule asks for can be met: sizes (9,4,4) and sides of 4, at the last of three levels
halving_met : OneCount 9 4 2 × OneCount 4 4 2 × OneCount 4 4 2
unfolding first_from halved
halving_met =
    let three : levels (ceil_div 9 4) (ceil_div 4 4) (ceil_div 4 4) ≡ 3 = refl in
    let nine : AllowedSize 9 4 = record { some = omega arith; most = omega arith; least = omega arith } in
    let four : AllowedSize 4 4 = record { some = omega arith; most = omega arith; least = omega arith } in
    halving_rule 9 4 4 4 4 4 2 nine four four (omega (arith, three))

pub levels-le : (a b c : ℕ) → levels a b c ≤ level_cap + 1
levels-le a b c = omega (arith, first-le (λ m. eqb (bricks_at a b c m) 1) level_cap)

pub levels-pos : (a b c : ℕ) → 1 ≤ levels a b c
levels-pos a b c = omega arith

-- what the search for the last level has found
pub levels_at : (a b c l : ℕ) → l ≤ level_cap → ((j : ℕ) → j < l → eqb (bricks_at a b c j) 1 ≡ false) → (l < level_cap → eqb (bricks_at a b c l) 1 ≡ true)
    → l + 1 ≡ levels a b c
levels_at a b c l h no-j yes-l = ap (λ (n : ℕ). n + 1) (sym (first-is (λ m. eqb (bricks_at a b c m) 1) level_cap l h no-j yes-l))

sum-le : (f g : ℕ → ℕ) → ((l : ℕ) → f l ≤ g l) → (n : ℕ) → sum_to f n ≤ sum_to g n
unfolding sum_to
sum-le f g h zero = le_refl 0
sum-le f g h (suc n) = omega (arith, sum-le f g h n, h n)

pub alphas-le : (a b c : ℕ) → 1 ≤ c → alphas a b c ≤ bricks a b c
alphas-le a b c h =
    sum-le (λ l. halved a l * halved b l) (bricks_at a b c) (λ l. le-mul_of_pos_right (halved a l * halved b l) (half_pos c l h)) (levels a b c)

-- the counts of a level are no larger than those of level 0
pub halved-small : {a b c : ℕ} (l : ℕ) → Small a b c → Small (halved a l) (halved b l) (halved c l)
halved-small {a} {b} {c} l s =
    record { inline = le_trans (half_le a l) s.inline; crossline = le_trans (half_le b l) s.crossline; vertical = le_trans (half_le c l) s.vertical }

-- products of small counts
abbrev pub tiles_room : ℕ
tiles_room = count_room * count_room

abbrev pub bricks_room : ℕ
bricks_room = tiles_room * count_room

pub small-two : {x y : ℕ} → x ≤ count_room → y ≤ count_room → x * y ≤ tiles_room
small-two hx hy = mul-le-mul hx hy

pub small-three : {x y z : ℕ} → Small x y z → x * y * z ≤ bricks_room
small-three h = mul-le-mul (small-two h.inline h.crossline) h.vertical

-- a level's bricks and alpha tiles, and those of the first n levels
pub tiles_few : {a b c : ℕ} (l : ℕ) → Small a b c → halved a l * halved b l ≤ tiles_room
tiles_few l s = let m = halved-small l s in small-two m.inline m.crossline

pub bricks-few : {a b c : ℕ} (l : ℕ) → Small a b c → bricks_at a b c l ≤ bricks_room
bricks-few l s = small-three (halved-small l s)

pub sum-most : (f : ℕ → ℕ) (m : ℕ) → ((l : ℕ) → f l ≤ m) → (n : ℕ) → sum_to f n ≤ n * m
unfolding sum_to
sum-most f m h zero = zero-le
sum-most f m h (suc n) = omega (arith, sum-most f m h n, h n)

-- ---- what sizes and sides say of the counts

module _ {size side : List ℕ} (s : Sizes size side) where
  pub sizes_allowed : AllowedSize (get_or size 0 0) (get_or side 0 0) × AllowedSize (get_or size 1 0) (get_or side 1 0) × AllowedSize (get_or size 2 0) (get_or side 2 0)
  sizes_allowed = (
    record { some = s.size0.low; most = s.size0.high; least = s.side0.low },
    record { some = s.size1.low; most = s.size1.high; least = s.side1.low },
    record { some = s.size2.low; most = s.size2.high; least = s.side2.low },
  )

  pub sizes_small : Small (count_in size side 0) (count_in size side 1) (count_in size side 2)
  sizes_small = let h = sizes_allowed in allowed_small h.0 h.1 h.2

  -- the code's counts are the halving's
  pub halvings : (l : ℕ) → (count_at (get_or size 0 0) (get_or side 0 0) l ≡ halved (count_in size side 0) l)
      × (count_at (get_or size 1 0) (get_or side 1 0) l ≡ halved (count_in size side 1) l)
      × (count_at (get_or size 2 0) (get_or side 2 0) l ≡ halved (count_in size side 2) l)
  halvings l = ((one-count l sizes_allowed.0).halving, (one-count l sizes_allowed.1).halving, (one-count l sizes_allowed.2).halving)

  -- the top level has one brick
  pub sizes_single : bricks_in size side top_level ≡ 1
  sizes_single = let h = sizes_allowed in at_top (allowed_some h.0) (allowed_some h.1) (allowed_some h.2) sizes_small
