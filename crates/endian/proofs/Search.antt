-- Laws of `first` and `sum_to`. Assumes nothing.
use mathlib.Core.Path.{◌≡◌, refl, ◌∙◌}
use mathlib.Core.Logic.{⊎_elim}
use mathlib.Core.Bool.{Bool, true, false}
use Prim.Native.Nat.{ℕ, zero, suc, ◌+◌, ◌≤◌, ◌<◌, zero-le}
use native.Mathlib.Decide.{dec_le}
use native.Mathlib.Nat.{eq-or-lt_of_le, lt_of_not-le, not-suc-le-zero, le_refl, add-suc, add-zero}
use native.Mathlib.Numerals.{add-one}
use native.Mathlib.Omega.{arith}
use borrow.Author.Tests.{ltb-true, lt-ltb}
use Rattle.std.proofs.lemmas.Bool.{both_ways}
use Rattle.endian.specs.Loops.{first_from, first, any, sum_to}

from-true : (p : ℕ → Bool) (k fuel : ℕ) → p k ≡ true → first_from p k (suc fuel) ≡ k
unfolding first_from
from-true p k fuel e = rw (e, first_from)

from_false : (p : ℕ → Bool) (k fuel : ℕ) → p k ≡ false → first_from p k (suc fuel) ≡ first_from p (suc k) fuel
unfolding first_from
from_false p k fuel e = rw (e, first_from)

-- the first that passes, by its two properties
from_is : (p : ℕ → Bool) (fuel k m : ℕ) → k ≤ m → m ≤ k + fuel → ((j : ℕ) → k ≤ j → j < m → p j ≡ false) → (m < k + fuel → p m ≡ true) → first_from p k fuel ≡ m
unfolding first_from
from_is p zero k m lo hi no-j yes-m = omega arith
from_is p (suc fuel) k m lo hi no-j yes-m =
    ⊎_elim
    (λ (e : k ≡ m). from-true p k fuel (rw e (yes-m (omega arith))) ∙ e)
    (λ (h : k < m). from_false p k fuel (no-j k (le_refl k) h) ∙ from_is p fuel (suc k) m h (omega arith) (λ j g. no-j j (omega arith)) (λ g. yes-m (omega arith)))
    (eq-or-lt_of_le lo)

pub first-is : (p : ℕ → Bool) (n m : ℕ) → m ≤ n → ((j : ℕ) → j < m → p j ≡ false) → (m < n → p m ≡ true) → first p n ≡ m
first-is p n m hi no-j yes-m = from_is p n 0 m zero-le (omega arith) (λ j g. no-j j) (λ g. yes-m (omega arith))

from_le : (p : ℕ → Bool) (fuel k : ℕ) → first_from p k fuel ≤ k + fuel
unfolding first_from
from_le p zero k = omega arith
from_le p (suc fuel) k = go (p k) refl (from_le p fuel (suc k))
  where
    go : (b : Bool) → p k ≡ b → first_from p (suc k) fuel ≤ suc k + fuel → first_from p k (suc fuel) ≤ k + suc fuel
    go true e ih = omega (arith, from-true p k fuel e)
    go false e ih = omega (arith, from_false p k fuel e)

pub first-le : (p : ℕ → Bool) (n : ℕ) → first p n ≤ n
first-le p n = omega (arith, from_le p n 0)

from_at : (p : ℕ → Bool) (fuel k : ℕ) → first_from p k fuel < k + fuel → p (first_from p k fuel) ≡ true
unfolding first_from
from_at p zero k h = absurd (omega arith)
from_at p (suc fuel) k h = go (p k) refl (from_at p fuel (suc k))
  where
    go : (b : Bool) → p k ≡ b → (first_from p (suc k) fuel < suc k + fuel → p (first_from p (suc k) fuel) ≡ true) → p (first_from p k (suc fuel)) ≡ true
    go true e ih = rw (from-true p k fuel e) e
    go false e ih = rw (from_false p k fuel e) (ih (omega (arith, from_false p k fuel e)))

-- below n, the first that passes does pass
pub first_at : (p : ℕ → Bool) (n : ℕ) → first p n < n → p (first p n) ≡ true
first_at p n h = from_at p n 0 (omega arith)

from_before : (p : ℕ → Bool) (fuel k j : ℕ) → k ≤ j → j < first_from p k fuel → p j ≡ false
unfolding first_from
from_before p zero k j g h = absurd (omega arith)
from_before p (suc fuel) k j g h = go (p k) refl (from_before p fuel (suc k) j)
  where
    go : (b : Bool) → p k ≡ b → (suc k ≤ j → j < first_from p (suc k) fuel → p j ≡ false) → p j ≡ false
    go true e ih = absurd (omega (arith, from-true p k fuel e))
    go false e ih = ⊎_elim (λ (q : k ≡ j). rw (← q) e) (λ (q : k < j). ih q (omega (arith, from_false p k fuel e))) (eq-or-lt_of_le g)

-- none before it does
pub first_before : (p : ℕ → Bool) (n j : ℕ) → j < first p n → p j ≡ false
first_before p n j h = from_before p n 0 j zero-le h

-- so the first is no later than any that passes
pub first_upto : (p : ℕ → Bool) (n m : ℕ) → p m ≡ true → first p n ≤ m
first_upto p n m e =
    elim (dec_le (first p n) m) [
      | yes h ↦ h
      | no h ↦ absurd (both_ways (p m) (first_before p n m (lt_of_not-le h)) e)
    ]

-- one of n numbers passes: some number does, and any that does
pub any_at : (p : ℕ → Bool) (n : ℕ) → any p n ≡ true → (i : ℕ) × (i < n) × (p i ≡ true)
any_at p n e = let l : first p n < n = ltb-true (first p n) n e in (first p n, l, first_at p n l)

pub any-is : (p : ℕ → Bool) (n i : ℕ) → i < n → p i ≡ true → any p n ≡ true
any-is p n i l e = lt-ltb (first p n) n (omega (arith, first_upto p n i e))

pub sum-none : (f : ℕ → ℕ) → sum_to f 0 ≡ 0
unfolding sum_to
sum-none f = refl

-- a sum with one term more, at the code's i + 1
pub sum_more : (f : ℕ → ℕ) (n : ℕ) → sum_to f (n + 1) ≡ sum_to f n + f n
unfolding sum_to
sum_more f n = rw add-one

-- the terms before l and the term l are part of the sum
pub sum_part : (f : ℕ → ℕ) (l n : ℕ) → l < n → sum_to f l + f l ≤ sum_to f n
unfolding sum_to
sum_part f l zero h = absurd (not-suc-le-zero h)
sum_part f l (suc n) h =
    ⊎_elim
    (λ (e : suc l ≡ suc n). let q : l ≡ n = omega arith in rw q (le_refl (sum_to f n + f n)))
    (λ (g : suc l < suc n). omega (arith, sum_part f l n (omega arith)))
    (eq-or-lt_of_le h)

-- a sum, cut after its first m terms
pub sum_cut : (f : ℕ → ℕ) (m n : ℕ) → sum_to f (m + n) ≡ sum_to f m + sum_to (λ t. f (m + t)) n
unfolding sum_to
sum_cut f m zero = rw add-zero (omega arith)
sum_cut f m (suc n) = rw (add-suc, sum_to) (omega (arith, sum_cut f m n))
