-- `Volume::shape` meets its contract. The loop's invariant: no level before this one has one brick, and the sums are those of the levels before it. Assumes nothing.
use Prim.Native.Nat.{ℕ, ◌+◌, ◌*◌, ◌≤◌, ◌<◌}
use mathlib.Core.Bool.{false}
use mathlib.Core.List.{List}
use mathlib.Core.Path.{◌≡◌, sym, ◌∙◌}
use native.Mathlib.Decide.{dec_le}
use native.Mathlib.Nat.{lt_of_not-le}
use native.Mathlib.Omega.{arith}
use lib.Dec.{eqb}
use borrow.Author.Count.{below_more}
use borrow.Author.Tests.{eq-eqb, ne_eqb}
use Rattle.std.proofs.lemmas.Bool.{both_ways}
use Rattle.endian.specs.Loops.{sum_to}
use Rattle.endian.proofs.Search.{sum-none, sum_more}
use Rattle.geometry.specs.Geometry.{bricks_in, alphas_in, shape_in, Sizes}
use Rattle.geometry.specs.declared.Shape.{Shape}
use Rattle.geometry.proofs.Levels.{top_level, tiles_room, bricks_room, levels_at, sizes_small, sizes_single, tiles_few, bricks-few, sum-most}

pub record Counted (size side : List ℕ) (l bricks alphas : ℕ) : Type 0 where
  pub many : (j : ℕ) → j < l → eqb (bricks_in size side j) 1 ≡ false
  pub bricks-sum : bricks ≡ sum_to (bricks_in size side) l
  pub alphas-sum : alphas ≡ sum_to (alphas_in size side) l

module _ {size side : List ℕ} (s : Sizes size side) where
  pub counted_start : Counted size side 0 0 0
  counted_start = record { many = λ j h. absurd (omega arith); bricks-sum = sym (sum-none (bricks_in size side)); alphas-sum = sym (sum-none (alphas_in size side)) }

  module _ {l bricks alphas : ℕ} (h : Counted size side l bricks alphas) where
    -- the top level has one brick, so the search has not passed it
    pub counted-few : l ≤ top_level
    counted-few =
        elim (dec_le l top_level) [
          | yes g ↦ g
          | no g ↦ absurd (both_ways _ (h.many top_level (lt_of_not-le g)) (eq-eqb (bricks_in size side top_level) 1 (sizes_single s)))
        ]

    pub counted-small : (bricks + bricks_in size side l ≤ (top_level + 1) * bricks_room) × (alphas + alphas_in size side l ≤ (top_level + 1) * tiles_room)
    counted-small = (
      omega (arith, h.bricks-sum, counted-few, bricks-few l (sizes_small s), sum-most (bricks_in size side) bricks_room (λ m. bricks-few m (sizes_small s)) l),
      omega (arith, h.alphas-sum, counted-few, tiles_few l (sizes_small s), sum-most (alphas_in size side) tiles_room (λ m. tiles_few m (sizes_small s)) l),
    )

    pub counted-more : {x y : ℕ} → x ≡ bricks_in size side l → y ≡ alphas_in size side l → (x ≡ 1 → ⊥) → Counted size side (l + 1) (bricks + x) (alphas + y)
    counted-more ex ey n =
        record {
          many = below_more _ _ h.many (ne_eqb (bricks_in size side l) 1 (λ e. n (ex ∙ e)));
          bricks-sum = omega (arith, h.bricks-sum, ex, sum_more (bricks_in size side) l);
          alphas-sum = omega (arith, h.alphas-sum, ey, sum_more (alphas_in size side) l);
        }

    pub counted-last : {x y : ℕ} → x ≡ bricks_in size side l → y ≡ alphas_in size side l → x ≡ 1
        → ◌≡◌ {A = Shape} (record { levels = l + 1; bricks = bricks + x; alphas = alphas + y }) (shape_in size side)
    counted-last {x} {y} ex ey one =
        let n : l + 1 ≡ (shape_in size side).levels = levels_at _ _ _ l (omega (arith, counted-few)) h.many (λ _. eq-eqb _ 1 (sym ex ∙ one)) in
        let p : bricks + x ≡ sum_to (bricks_in size side) (l + 1) = omega (arith, h.bricks-sum, ex, sum_more (bricks_in size side) l) in
        let q : alphas + y ≡ sum_to (alphas_in size side) (l + 1) = omega (arith, h.alphas-sum, ey, sum_more (alphas_in size side) l) in
        rw (p, q, n)
