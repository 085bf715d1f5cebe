-- Laws of numbers in decimal: a number of one digit, of more, and a signed one. Assumes nothing.
use mathlib.Core.List.{List, [], ◌∷◌, ◌++◌}
use mathlib.Core.Path.{◌≡◌, refl, sym, ap, ◌∙◌}
use Prim.Native.Nat.{ℕ, zero, suc, ◌+◌, ◌-◌, ◌*◌, ◌/◌, ◌%◌, ◌^◌, ◌≤◌, ◌<◌}
use native.Mathlib.Omega.{arith}
use lib.IntN.{pos, neg_ℤ}
use borrow.Author.Tests.{lt-ltb, le-ltb}
use Rattle.std.specs.Fmt as std
use Rattle.std.proofs.lemmas.Fmt.{AppendsLastDigit, decimal_from_appends, length-decimal-le, decimal_digit, decimal_step}
use Rattle.floats.specs.Rules.{signed_of}
use Rattle.floats.proofs.Sums.{less, more}
use Rattle.text.specs.Text.{digit, digits, decimal, signed_decimal}

-- k digits at most
abbrev last_digits : ℕ → ℕ → List ℕ
last_digits zero n = []
last_digits (suc k) n = digits k n

by_last : AppendsLastDigit last_digits
unfolding digits
by_last = record { one = one; more = more }
  where
    one : (k n : ℕ) → n < 10 → digits k n ≡ (48 + n) ∷ []
    one zero n h = ap (λ (m : ℕ). m ∷ []) (omega arith)
    one (suc k) n h = rw (lt-ltb n 10 h) (ap (λ (m : ℕ). m ∷ []) (omega arith))

    more : (k n : ℕ) → 10 ≤ n → digits k n ≡ last_digits k (n / 10) ++ ((48 + n % 10) ∷ [])
    more zero n h = refl
    more (suc k) n h = rw (le-ltb n 10 h)

-- std's text of a number
pub decimal_is : (n : ℕ) → n < 2 ^ 64 → decimal n ≡ std.decimal n
unfolding decimal
decimal_is n h = decimal_from_appends last_digits by_last 20 n h (length-decimal-le 20 n (omega arith) (omega arith) h)

pub decimal_short : (n : ℕ) → n < 10 → decimal n ≡ digit n ∷ []
decimal_short n h = decimal_is n (omega arith) ∙ decimal_digit n h ∙ ap (λ (m : ℕ). m ∷ []) (omega arith)

pub decimal-long : (n : ℕ) → 10 ≤ n → n < 2 ^ 64 → decimal n ≡ decimal (n / 10) ++ (digit n ∷ [])
decimal-long n l h =
    decimal_is n h ∙ decimal_step n l h ∙ ap (λ (ds : List ℕ). ds ++ (digit n ∷ [])) (sym (decimal_is (n / 10) (omega arith)))

-- ---- the signed number that n stands for
pub signed_positive : (h n : ℕ) → n < h → signed_decimal (signed_of h n) ≡ decimal n
unfolding signed_decimal
signed_positive h n l = rw (lt-ltb n h l)

pub signed_past : (h n : ℕ) → h ≤ n → 2 * h ≤ n → signed_decimal (signed_of h n) ≡ decimal (n - 2 * h)
unfolding signed_decimal
signed_past h n l m = rw (le-ltb n h l, less n (2 * h) m)

pub signed_negative : (h n : ℕ) → h ≤ n → n < 2 * h → signed_decimal (signed_of h n) ≡ 45 ∷ decimal (2 * h - n)
unfolding signed_decimal
signed_negative h n l m = rw (le-ltb n h l, more n (2 * h) (omega arith)) (go (2 * h - n) (omega arith))
  where
    go : (k : ℕ) → 0 < k → signed_decimal (neg_ℤ (pos k)) ≡ 45 ∷ decimal k
    go zero p = absurd (omega arith)
    go (suc k) p = refl
