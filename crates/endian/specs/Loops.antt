-- Loops that count up, searches and sums, and numbers of three digits.
use Rattle.std.specs.Prelude.{Bool, true, false, List, [], ◌++◌, ℕ, zero, suc, ◌+◌, ◌*◌, ltb}

module _ {A : Type 0} where
  -- g 0, g 1 .. g (n - 1), one after the other
  unfoldable pub cat : ℕ → (ℕ → List A) → List A
  cat zero g = []
  cat (suc n) g = cat n g ++ g n

  -- h 0, then h 1, .. then h (n - 1)
  unfoldable pub up : ℕ → (ℕ → A → A) → A → A
  up zero h s = s
  up (suc n) h s = h n (up n h s)

-- the first of k, k + 1, .. that passes, or k + fuel where none of these fuel numbers does
unfoldable pub first_from : (ℕ → Bool) → ℕ → ℕ → ℕ
first_from p k zero = k
first_from p k (suc fuel) = elim (p k) [ true ↦ k | false ↦ first_from p (suc k) fuel ]

-- the lowest number below n that passes, or n where none does
abbrev pub first : (ℕ → Bool) → ℕ → ℕ
first p n = first_from p 0 n

-- one of the numbers below n passes
abbrev pub any : (ℕ → Bool) → ℕ → Bool
any p n = ltb (first p n) n

-- f 0 + .. + f (n - 1)
unfoldable pub sum_to : (ℕ → ℕ) → ℕ → ℕ
sum_to f zero = zero
sum_to f (suc n) = sum_to f n + f n

-- the number with the digits a, b, c, of which b is below m and c below n
abbrev pub tri : ℕ → ℕ → ℕ → ℕ → ℕ → ℕ
tri m n a b c = (a * m + b) * n + c
