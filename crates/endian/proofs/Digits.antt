-- Numbers of two and three digits, as entry numbers, item numbers and places in a region are. Assumes nothing.
use Prim.Native.Nat.{ℕ, zero, suc, ◌+◌, ◌*◌, ◌/◌, ◌%◌, ◌≤◌, ◌<◌}
use mathlib.Core.Path.{◌≡◌, sym, ap, ◌∙◌}
use native.Mathlib.Nat.{suc-mul, mul-le-mul_right, div-add-mod', add-zero, add-suc, mul-zero, not-suc-le-zero}
use native.Mathlib.Omega.{arith}
use lib.Arith.{digits_lt, digits_div, digits_mod}
use Rattle.endian.specs.Loops.{tri}

pub pair_inj : (m q r q' r' : ℕ) → r < m → r' < m → q * m + r ≡ q' * m + r' → (q ≡ q') × (r ≡ r')
pair_inj m q r q' r' h h' e = (
  sym (digits_div q h) ∙ ap (λ (x : ℕ). x / m) e ∙ digits_div q' h',
  sym (digits_mod q h) ∙ ap (λ (x : ℕ). x % m) e ∙ digits_mod q' h',
)

pub tri_inj : (m n a b c a' b' c' : ℕ) → b < m → b' < m → c < n → c' < n → tri m n a b c ≡ tri m n a' b' c'
    → (a ≡ a') × (b ≡ b') × (c ≡ c')
tri_inj m n a b c a' b' c' hb hb' hc hc' e =
    let lo : (a * m + b ≡ a' * m + b') × (c ≡ c') = pair_inj n (a * m + b) c (a' * m + b') c' hc hc' e in
    let hi : (a ≡ a') × (b ≡ b') = pair_inj m a b a' b' hb hb' lo.0 in
    (hi.0, hi.1, lo.1)

pub tri-lt : (l m n a b c : ℕ) → a < l → b < m → c < n → tri m n a b c < l * m * n
tri-lt l m n a b c ha hb hc = digits_lt (digits_lt ha hb) hc

-- the last digit, the second, the first go up by one
pub tri-suc : (m n a b c : ℕ) → tri m n a b (suc c) ≡ suc (tri m n a b c)
tri-suc m n a b c = add-suc ((a * m + b) * n) c

pub tri_carry : (m n a b : ℕ) → tri m n a b n ≡ tri m n a (suc b) 0
tri_carry m n a b = simp (add-suc, suc-mul, add-zero)

pub tri_carry_2 : (m n a : ℕ) → tri m n a m 0 ≡ tri m n (suc a) 0 0
tri_carry_2 m n a = simp (suc-mul, add-zero)

-- the largest number of three digits
pub tri-last : (l m n : ℕ) → suc (tri (suc m) (suc n) l m n) ≡ suc l * suc m * suc n
tri-last l m n =
    sym (tri-suc (suc m) (suc n) l m n) ∙ tri_carry (suc m) (suc n) l m ∙ tri_carry_2 (suc m) (suc n) l ∙ simp add-zero

-- what is below a product has factors that are not 0
pub pos-right : (a b t : ℕ) → t < a * b → 0 < b
pos-right a zero t h = absurd (not-suc-le-zero (rw mul-zero at h))
pos-right a (suc b) t h = omega arith

-- items of w bytes, one after the other
pub next_item : (w a b : ℕ) → a < b → a * w + w ≤ b * w
next_item w a b h = rw (← suc-mul a w) (mul-le-mul_right w h)

pub by_parts : (x y s : ℕ) → x / s ≡ y / s → x % s ≡ y % s → x ≡ y
by_parts x y s d m = cc (div-add-mod' x s, div-add-mod' y s)
