-- The laws of entry numbers. Nothing else reasons from the text of `level_base` and `entry_of`. Assumes nothing.
use mathlib.Core.Path.{◌≡◌, refl, ap}
use mathlib.Core.Logic.{◌⊎◌, ⊎_elim}
use Prim.Native.Nat.{ℕ, zero, suc, ◌+◌, ◌-◌, ◌*◌, ◌≤◌, ◌<◌}
use native.Mathlib.Nat.{eq-or-lt_of_le, lt_of_not-le, mul_assoc, mul_comm, add_left_cancel}
use native.Mathlib.Decide.{dec_le}
use native.Mathlib.Omega.{arith}
use lib.Arith.{digits_lt}
use Rattle.endian.specs.Loops.{sum_to, tri}
use Rattle.endian.proofs.Search.{sum_cut, sum_more, sum_part}
use Rattle.endian.proofs.Digits.{tri_inj, tri-lt, tri-last}
use Rattle.geometry.specs.Geometry.{halved, bricks_at, levels, bricks, level_base, level_of, entry_at, entry_of, Brick}
use Rattle.geometry.specs.Laws.{Before, EntryNumbers}
use Rattle.geometry.proofs.Levels.{levels-pos}

-- numbers of three digits ascend: the first digit decides, then the second, then the third
pub tri_ascends : (m n a b c a' b' c' : ℕ) → b < m → c < n → Before c b a c' b' a' → tri m n a b c < tri m n a' b' c'
tri_ascends m n a b c a' b' c' hb hc h =
    ⊎_elim
    (λ (p : a < a'). above (pair_ascends m a b a' b' hb p))
    (λ (p : (a ≡ a') × ((b < b') ⊎ ((b ≡ b') × (c < c')))).
    ⊎_elim
    (λ (q : b < b'). above (rw p.0 (omega arith)))
    (λ (q : (b ≡ b') × (c < c')). rw (p.0, q.0) (omega (arith, q.1)))
    p.1)
    h
  where
    pair_ascends : (d x y x' y' : ℕ) → y < d → x < x' → x * d + y < x' * d + y'
    pair_ascends d x y x' y' hy hx = omega (arith, digits_lt hx hy)

    above : a * m + b < a' * m + b' → tri m n a b c < tri m n a' b' c'
    above g = pair_ascends n (a * m + b) c (a' * m + b') c' hc g

-- a block of z by y by x bricks, counted inline first and vertical first
turned : (x y z : ℕ) → x * y * z ≡ z * y * x
turned x y z = rw (mul_comm (x * y) z, mul_comm x y, ← mul_assoc z y x)

module _ (a b c : ℕ) where
  -- a brick's entry is the one that its level gives
  pub entry_is : (l i j k : ℕ) → entry_of a b c l i j k ≡ entry_at (level_of a b c l) i j k
  unfolding entry_of
  entry_is l i j k = refl

  -- the entries before level l and those of the levels up to it are all entries
  pub base_rest : (l : ℕ) → l < levels a b c → level_base a b c l + sum_to (bricks_at a b c) (l + 1) ≡ bricks a b c
  unfolding level_base
  base_rest l h =
      let e : l + 1 + (levels a b c - (l + 1)) ≡ levels a b c = omega arith in
      omega (arith, sum_cut (bricks_at a b c) (l + 1) (levels a b c - (l + 1)), ap (sum_to (bricks_at a b c)) e)

  -- each level's entries are a part of all
  base_part : (l : ℕ) → l < levels a b c → level_base a b c l + bricks_at a b c l ≤ bricks a b c
  base_part l h = omega (arith, base_rest l h, sum_more (bricks_at a b c) l)

  -- a level's entries end before those of every lower level start
  base_order : (l m : ℕ) → l < levels a b c → m < l → level_base a b c l + bricks_at a b c l ≤ level_base a b c m
  base_order l m h g =
      let f = bricks_at a b c in
      omega (arith, base_rest l h, base_rest m (omega arith), sum_more f l, sum_more f m, sum_part f m l g)

  -- a brick's place among those of its level
  in_level : {l i j k : ℕ} → Brick a b c l i j k → tri (halved b l) (halved a l) k j i < bricks_at a b c l
  in_level {l} {i} {j} {k} h =
      rw (turned (halved a l) (halved b l) (halved c l))
      (tri-lt (halved c l) (halved b l) (halved a l) k j i h.vertical h.crossline h.inline)

  -- an entry number is below the number of all bricks
  pub entry_below : {l i j k : ℕ} → Brick a b c l i j k → entry_of a b c l i j k < bricks a b c
  entry_below {l} {i} {j} {k} h = omega (arith, entry_is l i j k, base_part l h.level, in_level h)

  -- the entries of a higher level come before those of a lower one
  pub entry_higher : {l i j k l' i' j' k' : ℕ} → Brick a b c l i j k → Brick a b c l' i' j' k' → l' < l
      → entry_of a b c l i j k < entry_of a b c l' i' j' k'
  entry_higher {l} {i} {j} {k} {l'} {i'} {j'} {k'} h h' g =
      omega (arith, entry_is l i j k, entry_is l' i' j' k', in_level h, base_order l l' h.level g)

  -- equal numbers are of the same level and brick
  pub entry_same : {l i j k l' i' j' k' : ℕ} → Brick a b c l i j k → Brick a b c l' i' j' k' → entry_of a b c l i j k ≡ entry_of a b c l' i' j' k'
      → (l ≡ l') × (i ≡ i') × (j ≡ j') × (k ≡ k')
  unfolding entry_of
  entry_same {l} {i} {j} {k} {l'} {i'} {j'} {k'} h h' e =
      elim (dec_le l l') [
        | yes g ↦ ⊎_elim same-level (λ (q : l < l'). absurd (omega (arith, entry_higher h' h q))) (eq-or-lt_of_le g)
        | no g ↦ absurd (omega (arith, entry_higher h h' (lt_of_not-le g)))
      ]
    where
      same-level : l ≡ l' → (l ≡ l') × (i ≡ i') × (j ≡ j') × (k ≡ k')
      same-level q =
          let s = tri_inj (halved b l') (halved a l') k j i k' j' i' (rw q at h.crossline) h'.crossline (rw q at h.inline) h'.inline (add_left_cancel (level_base a b c l') (rw q at e)) in
          (q, s.2, s.1, s.0)

  -- inside a level numbers ascend by vertical, then crossline, then inline
  pub entry_ascends : {l i j k i' j' k' : ℕ} → Brick a b c l i j k → Brick a b c l i' j' k' → Before i j k i' j' k' → entry_of a b c l i j k < entry_of a b c l i' j' k'
  entry_ascends {l} {i} {j} {k} {i'} {j'} {k'} h h' g =
      omega (arith, entry_is l i j k, entry_is l i' j' k', tri_ascends (halved b l) (halved a l) k j i k' j' i' h.crossline h.inline g)

  -- the highest level comes first
  entry_starts : entry_of a b c (levels a b c - 1) 0 0 0 ≡ 0
  entry_starts =
      let top = levels a b c - 1 in
      let e : top + 1 ≡ levels a b c = omega (arith, levels-pos a b c) in
      omega (arith, entry_is top 0 0 0, base_rest top (omega (arith, levels-pos a b c)), ap (sum_to (bricks_at a b c)) e)

-- the last brick of level 0 comes last
entry_ends : (a b c : ℕ) → 1 ≤ a → 1 ≤ b → 1 ≤ c → entry_of a b c 0 (a - 1) (b - 1) (c - 1) + 1 ≡ bricks a b c
unfolding sum_to halved
entry_ends zero b c ha hb hc = absurd (omega arith)
entry_ends (suc a) zero c ha hb hc = absurd (omega arith)
entry_ends (suc a) (suc b) zero ha hb hc = absurd (omega arith)
entry_ends (suc a) (suc b) (suc c) ha hb hc =
    let i : suc a - 1 ≡ a = omega arith in
    let j : suc b - 1 ≡ b = omega arith in
    let k : suc c - 1 ≡ c = omega arith in
    let all = base_rest (suc a) (suc b) (suc c) 0 (levels-pos (suc a) (suc b) (suc c)) in
    let own = sum_more (bricks_at (suc a) (suc b) (suc c)) 0 in
    rw (i, j, k) (omega (arith, entry_is (suc a) (suc b) (suc c) 0 a b c, all, own, tri-last c b a, turned (suc a) (suc b) (suc c)))

pub entry_numbers : EntryNumbers
entry_numbers =
    record {
      below = λ a b c l i j k h. entry_below a b c h;
      same = λ a b c l i j k l' i' j' k' h h' e. entry_same a b c h h' e;
      ascending = λ a b c l i j k i' j' k' h h' g. entry_ascends a b c h h' g;
      higher_first = λ a b c l i j k l' i' j' k' h h' g. entry_higher a b c h h' g;
      starts = entry_starts;
      ends = entry_ends;
    }
