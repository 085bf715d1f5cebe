-- The signed number of an item, and the lowest and highest of its type. Assumes nothing.
use Rattle.std.proofs.Common.{◌≡◌, ℕ, zero, suc, ◌+◌, ◌-◌, ◌*◌, ◌%◌, ◌<◌, ◌≤◌, Bool, cond, ℤ, pos, ◌-ℤ◌, neg_ℤ, sym, ap, ◌∙◌, subst, mod-lt, mod-eq_of_lt, arith, w32, SFits, to_z, of_z, le-ltb, lt-ltb}
use native.Mathlib.Nat.{mod-eq-sub-mod}
use lib.Signed.{mag}
use mir.ValLaws.{to_z_pos, to_z-of_z}
use borrow.Author.Rules.{sfits_of}
use Rattle.floats.specs.Rules.{signed_of}
use Rattle.floats.proofs.Rounding.{split}
use Rattle.floats.proofs.Sums.{less, more}

-- ---- a difference of two small numbers fits an i32
module _ (a b : ℕ) (a_small : a ≤ 65536) (b-small : b ≤ 65536) where
  mag_neg : (n : ℕ) → n ≤ 65536 → mag (neg_ℤ (pos n)) < 2147483648
  mag_neg zero h = omega arith
  mag_neg (suc n) h = omega arith

  plain_fits : SFits w32 (pos a -ℤ pos b)
  plain_fits =
      split a b
      (λ (h : a < b). subst (λ (z : ℤ). SFits w32 z) (sym (more a b (omega arith))) (sfits_of (mag_neg (b - a) (omega arith))))
      (λ (h : b ≤ a). subst (λ (z : ℤ). SFits w32 z) (sym (less a b h)) (sfits_of (omega arith)))

  plain : to_z w32 a -ℤ to_z w32 b ≡ pos a -ℤ pos b
  plain = ap (λ (z : ℤ). z -ℤ to_z w32 b) (to_z_pos w32 a (omega arith)) ∙ ap (λ (z : ℤ). pos a -ℤ z) (to_z_pos w32 b (omega arith))

  pub minus_fits : SFits w32 (to_z w32 a -ℤ to_z w32 b)
  minus_fits = subst (λ (z : ℤ). SFits w32 z) (sym plain) plain_fits

  pub minus_is : to_z w32 (of_z w32 (to_z w32 a -ℤ to_z w32 b)) ≡ pos a -ℤ pos b
  minus_is = to_z-of_z w32 (to_z w32 a -ℤ to_z w32 b) minus_fits ∙ plain

-- ---- raw + 3 x half around 2 x half, less half
module _ (raw half : ℕ) (some : 0 < half) (in_range : raw < 2 * half) where
  pub turned_lt : (raw + 3 * half) % (2 * half) < 2 * half
  turned_lt = mod-lt (raw + 3 * half) (omega arith)

  once : (raw + 3 * half) % (2 * half) ≡ (raw + half) % (2 * half)
  once =
      let less-once : raw + 3 * half - 2 * half ≡ raw + half = omega arith in
      mod-eq-sub-mod (omega arith) ∙ ap (λ (n : ℕ). n % (2 * half)) less-once

  low_turned : raw < half → (raw + 3 * half) % (2 * half) ≡ raw + half
  low_turned h = once ∙ mod-eq_of_lt (omega arith)

  high_turned : half ≤ raw → (raw + 3 * half) % (2 * half) ≡ raw - half
  high_turned h = once ∙ mod-eq-sub-mod (omega arith) ∙ mod-eq_of_lt (omega arith) ∙ omega arith

  low-is : raw < half → pos ((raw + 3 * half) % (2 * half)) -ℤ pos half ≡ signed_of half raw
  low-is h =
      ap (λ (n : ℕ). pos n -ℤ pos half) (low_turned h)
      ∙ less (raw + half) half (omega arith)
      ∙ ap pos (omega arith)
      ∙ sym (ap (λ (t : Bool). cond t (pos raw) (pos raw -ℤ pos (2 * half))) (lt-ltb raw half h))

  high_is : half ≤ raw → pos ((raw + 3 * half) % (2 * half)) -ℤ pos half ≡ signed_of half raw
  high_is h =
      let less-half : half - (raw - half) ≡ 2 * half - raw = omega arith in
      ap (λ (n : ℕ). pos n -ℤ pos half) (high_turned h)
      ∙ more (raw - half) half (omega arith)
      ∙ ap (λ (n : ℕ). neg_ℤ (pos n)) less-half
      ∙ sym (more raw (2 * half) (omega arith))
      ∙ sym (ap (λ (t : Bool). cond t (pos raw) (pos raw -ℤ pos (2 * half))) (le-ltb raw half h))

  pub turned_is : pos ((raw + 3 * half) % (2 * half)) -ℤ pos half ≡ signed_of half raw
  turned_is = split raw half low-is high_is
