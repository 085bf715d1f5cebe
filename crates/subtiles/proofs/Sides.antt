-- What check 20 leaves of a brick's sides and its item's width. Assumes nothing.
use mathlib.Core.Bool.{true, false, ◌||◌}
use mathlib.Core.Logic.{⊎_elim}
use mathlib.Core.Path.{◌≡◌, sym, ap, ◌∙◌}
use mathlib.Core.List.{List}
use Prim.Native.Nat.{ℕ, ◌+◌, ◌-◌, ◌*◌, ◌/◌, ◌^◌, ◌≤◌}
use native.Mathlib.Nat.{le_trans, pow-le-pow_right}
use native.Mathlib.Omega.{arith}
use lib.Dec.{eqb, lit≤}
use lib.ListN.{get_or}
use lib.Pow.{pow-add}
use borrow.Author.Tests.{eqb-true, not-false}
use Rattle.std.proofs.lemmas.Bool.{and_parts, or_cases}
use Rattle.geometry.specs.Limits.{least_exponent, greatest_exponent, power_in, side_room}
use Rattle.geometry.proofs.Powers.{power_of}
use Rattle.subtiles.specs.Subtiles.{tile_exponent, breaks20}

-- a side that is a power of two from 2^a on
side-range : (a n : ℕ) → a ≤ greatest_exponent → power_in a n ≡ true → (2 ^ a ≤ n) × (n ≤ side_room)
side-range a n h e =
    let p = power_of a n h e in
    rw p.power (pow-le-pow_right (omega arith) p.least, le_trans (pow-le-pow_right (omega arith) p.greatest) (omega arith))

-- a side of whole subtiles
pub record Tiled (n : ℕ) : Type 0 where
  pub eights : n / 8 * 8 ≡ n
  pub low : 8 ≤ n
  pub high : n ≤ side_room

tiled : (n : ℕ) → power_in tile_exponent n ≡ true → Tiled n
tiled n e =
    let p = power_of tile_exponent n (omega arith) e in
    let split : p.exponent - tile_exponent + tile_exponent ≡ p.exponent = omega (arith, p.least) in
    let times : n ≡ 2 ^ (p.exponent - tile_exponent) * 8 = p.power ∙ ap (λ (x : ℕ). 2 ^ x) (sym split) ∙ pow-add 2 (p.exponent - tile_exponent) tile_exponent in
    let range = side-range tile_exponent n (omega arith) e in
    record { eights = omega (arith, times); low = range.0; high = range.1 }

pub record Sides (n0 n1 n2 w : ℕ) : Type 0 where
  pub inline : Tiled n0
  pub crossline : Tiled n1
  pub vertical : n2 ≤ side_room
  pub deep : 2 ^ least_exponent ≤ n2
  pub item : w ≤ 4
  pub wide : 1 ≤ w

-- the sides that check 20 allows
pub sides : (side : List ℕ) (w : ℕ) → breaks20 side w ≡ false → Sides (get_or side 0 0) (get_or side 1 0) (get_or side 2 0) w
unfolding breaks20
sides side w e =
    let all = and_parts _ _ (not-false _ e) in
    let three = and_parts _ _ all.0 in
    let two = and_parts _ _ three.0 in
    let third = side-range least_exponent (get_or side 2 0) (lit≤ tt) three.1 in
    let width = bytes all.1 in
    record { inline = tiled _ two.0; crossline = tiled _ two.1; vertical = third.1; deep = third.0; item = width.1; wide = width.0 }
  where
    bytes : (eqb w 1 || eqb w 2 || eqb w 4) ≡ true → (1 ≤ w) × (w ≤ 4)
    bytes p =
        ⊎_elim
        (λ (q : (eqb w 1 || eqb w 2) ≡ true). ⊎_elim (λ (o : eqb w 1 ≡ true). omega (arith, eqb-true w 1 o)) (λ (o : eqb w 2 ≡ true). omega (arith, eqb-true w 2 o)) (or_cases _ _ q))
        (λ (q : eqb w 4 ≡ true). omega (arith, eqb-true w 4 q))
        (or_cases _ _ p)
