-- Where a string ends: the first zero byte, and what stands before it. Assumes nothing.
use mathlib.Core.Bool.{Bool, true, false, not, cond}
use mathlib.Core.List.{List}
use mathlib.Core.Path.{◌≡◌, refl, sym, ap, ◌∙◌}
use Prim.Native.Nat.{ℕ, ◌+◌, ◌≤◌, ◌<◌}
use native.Mathlib.Omega.{arith}
use lib.Dec.{eqb, ltb}
use lib.ListN.{get_or, length, drop, length-drop}
use lib.Seq.{get_or-drop}
use borrow.Author.Tests.{eqb-true, ltb-false}
use Rattle.std.proofs.Common.{Option, Some, None}
use Rattle.std.specs.List.{position}
use Rattle.std.proofs.lemmas.List.Sums.{prefix_len-le-length, prefix_len_passes, prefix_len_stops}
use Rattle.std.proofs.lemmas.Bool.{false≢true, not-false}
use Rattle.strings.specs.Strings.{index_of, end_of}

index-le : (l : List ℕ) → index_of 0 l ≤ length l
index-le l = prefix_len-le-length (λ y. not (eqb y 0)) l

index_at : (l : List ℕ) → index_of 0 l < length l → get_or l (index_of 0 l) 0 ≡ 0
index_at l h = eqb-true _ 0 (not-false _ (prefix_len_stops (λ y. not (eqb y 0)) l 0 h))

index_before : (l : List ℕ) (j : ℕ) → j < index_of 0 l → get_or l j 0 ≡ 0 → ⊥
index_before l j h z = false≢true (rw z at (prefix_len_passes (λ y. not (eqb y 0)) l j 0 h))

-- what the search of a text from a place on finds
module _ (t : List ℕ) (at : ℕ) {r : Option ℕ} (e : r ≡ position (λ y. eqb y 0) (drop at t)) where
  pub found_some : {n : ℕ} → r ≡ Some n → at + n ≡ end_of t at
  unfolding end_of
  found_some {n} s = ap (λ k. at + k) (sym (is_some (ltb (index_of 0 (drop at t)) (length (drop at t))) (sym e ∙ s)))
    where
      is_some : (b : Bool) → cond b (Some (index_of 0 (drop at t))) None ≡ Some n → index_of 0 (drop at t) ≡ n
      is_some true q = cc
      is_some false q = absurd (let z : ◌≡◌ {A = ℕ} 0 1 = cc in omega arith)

  pub found_none : r ≡ None → at ≤ length t → length t ≡ end_of t at
  unfolding end_of
  found_none s h = omega (arith, index-le (drop at t), length-drop at t, none (ltb (index_of 0 (drop at t)) (length (drop at t))) refl (sym e ∙ s))
    where
      none : (b : Bool) → ltb (index_of 0 (drop at t)) (length (drop at t)) ≡ b → cond b (Some (index_of 0 (drop at t))) None ≡ None → length (drop at t) ≤ index_of 0 (drop at t)
      none true q g = absurd (let z : ◌≡◌ {A = ℕ} 0 1 = cc in omega arith)
      none false q g = ltb-false _ _ q

module _ (t : List ℕ) (at : ℕ) where
  pub end_low : at ≤ end_of t at
  unfolding end_of
  end_low = omega arith

  pub end_high : at ≤ length t → end_of t at ≤ length t
  unfolding end_of
  end_high h = omega (arith, index-le (drop at t), length-drop at t)

  -- a string that ends before the text does ends at a zero
  pub end_zero : end_of t at < length t → get_or t (end_of t at) 0 ≡ 0
  unfolding end_of
  end_zero h = sym (get_or-drop at t (index_of 0 (drop at t)) 0) ∙ index_at (drop at t) (omega (arith, length-drop at t))

  -- and has none before it
  pub end_before : (k : ℕ) → at + k < end_of t at → get_or t (at + k) 0 ≡ 0 → ⊥
  unfolding end_of
  end_before k h z = index_before (drop at t) k (omega arith) (get_or-drop at t k 0 ∙ z)
