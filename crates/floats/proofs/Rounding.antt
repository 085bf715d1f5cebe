-- One rounding: the value that `round` gives is within one part in 2 ^ prec of the fraction, in the normal range. Assumes nothing.
use Rattle.std.proofs.Common.{◌≡◌, ℕ, suc, ◌+◌, ◌-◌, ◌*◌, ◌/◌, ◌%◌, ◌^◌, ◌<◌, ◌≤◌, Bool, true, false, not, T, eqb, ltb, sym, ap, ◌∙◌, subst, le_trans, le_of_eq, mul-le-mul_right, mod-lt, mul_assoc, suc-mul, mul_comm, add-mul, mul-le-mul_left, mul-pos, div-add-mod', le-div_iff_mul-le, mul-add, mul_left_comm, arith, eqb→eq, ltb→lt, leb→le, nltb→le, pow_pos, pow-add}
use Prim.Native.Nat.{compare, Ordering}
use native.Mathlib.Nat.{pow-succ'}
use lib.Dec.{is_le, compare_is_eq, nleb→lt, eqb_refl}
use lib.Arith.{lt_of_le-ne}
use lib.Ieee.{Float, Format, prec, low, size, nearest, round}
use lib.Ieee.Digits.{size_reaches}
use lib.Ieee.Fits.{round_is, two, two-le_pos}
use lib.Ieee.Exact.{HasValue, units_val}
use lib.Ieee.Nearest.{closest}
use lib.Ieee.Order.{drop, kept}
use lib.Ieee.Scale.{grid, overflow}

-- by the order of two numbers
pub split : {X : Type 0} (a b : ℕ) → (a < b → X) → (b ≤ a → X) → X
split {X} a b f g = go (ltb a b) (ltb→lt a b) (nltb→le a b)
  where
    go : (t : Bool) → (T t → a < b) → (T (not t) → b ≤ a) → X
    go true p q = f (p tt)
    go false p q = g (q tt)

abbrev Cmp : Ordering → ℕ → ℕ → Type 0
Cmp Ordering.lt a b = a < b
Cmp Ordering.eq a b = a ≡ b
Cmp Ordering.gt a b = b < a

cmp : (a b : ℕ) → Cmp (compare a b) a b
cmp a b = go (compare a b) (leb→le a b) (nleb→lt a b) (eqb→eq a b) (λ (e : a ≡ b). subst (λ (x : ℕ). T (eqb a x)) e (eqb_refl a))
  where
    go : (o : Ordering) → (T (is_le o) → a ≤ b) → (T (not (is_le o)) → b < a) → (T (compare_is_eq o) → a ≡ b) → (a ≡ b → T (compare_is_eq o)) → Cmp o a b
    go Ordering.lt h k e n = lt_of_le-ne (h tt) n
    go Ordering.eq h k e n = e tt
    go Ordering.gt h k e n = k tt

-- ---- the nearest whole number to a / b is within a half of it
tie_le : (q : ℕ) → q % 2 ≤ 1
tie_le q = omega arith

half_off : (o : Ordering) (a b q r : ℕ) → Cmp o (r * 2) b → r < b → q * b + r ≡ a → (nearest q o * b * 2 ≤ a * 2 + b) × (a * 2 ≤ nearest q o * b * 2 + b)
half_off Ordering.lt a b q r c h e = omega arith
half_off Ordering.eq a b q r c h e =
    let s : (q + q % 2) * b ≡ q * b + q % 2 * b = add-mul q (q % 2) b in
    let t : q % 2 * b ≤ 1 * b = mul-le-mul_right b (tie_le q) in
    omega arith
half_off Ordering.gt a b q r c h e =
    let s : suc q * b ≡ q * b + b = suc-mul q b in
    omega arith

pub closest_err : (a b : ℕ) → 0 < b → (closest a b * b * 2 ≤ a * 2 + b) × (a * 2 ≤ closest a b * b * 2 + b)
closest_err a b h = half_off (compare (a % b * 2) b) a b (a / b) (a % b) (cmp (a % b * 2) b) (mod-lt a h) (div-add-mod' a b)

-- ---- as a part of the fraction: g is within n / (2 * h) of n where 2 * g is within u of 2 * n, and h * u is at most n
scaled : (h g n u : ℕ) → h * u ≤ n → (g * 2 ≤ n * 2 + u) → (n * 2 ≤ g * 2 + u) → (2 * h * g ≤ 2 * h * n + n) × (2 * h * n ≤ 2 * h * g + n)
scaled h g n u w a b =
    let x : 2 * h * g ≤ 2 * h * n + h * u = simp mul_assoc (simp (mul_comm, mul_left_comm, mul-add) at (mul-le-mul_left h a)) in
    let y : 2 * h * n ≤ 2 * h * g + h * u = simp mul_assoc (simp (mul_comm, mul_left_comm, mul-add) at (mul-le-mul_left h b)) in
    omega arith

all_in_use : (z p : ℕ) → 0 < p → p ≤ z → p - 1 + (z - p) < z
all_in_use z p P h = omega arith

suc_pred : (p : ℕ) → 0 < p → suc (p - 1) ≡ p
suc_pred p h = omega arith

pub twice_hid : (p : ℕ) → 0 < p → 2 ^ p ≡ 2 * 2 ^ (p - 1)
twice_hid p h = ap (λ (x : ℕ). 2 ^ x) (sym (suc_pred p h)) ∙ pow-succ' 2 (p - 1)

-- within one part in 2 ^ prec of the fraction, for a / c in the normal range: n is a / c times c in units of the format's smallest value
pub grid_err : (f : Format) (a c : ℕ) → 0 < c → prec f ≤ size (a * 2 ^ low f / c)
    → (2 ^ prec f * (grid f a c * c) ≤ 2 ^ prec f * (a * 2 ^ low f) + a * 2 ^ low f) × (2 ^ prec f * (a * 2 ^ low f) ≤ 2 ^ prec f * (grid f a c * c) + a * 2 ^ low f)
grid_err f a c C N =
    let p = prec f in
    let P : 0 < p = two-le_pos p (two f) in
    let n = a * 2 ^ low f in
    let k = drop p n c in
    let u = c * 2 ^ k in
    let q = kept p n c in
    let g : grid f a c * c ≡ q * u = mul_assoc q (2 ^ k) c ∙ ap (λ (x : ℕ). q * x) (mul_comm (2 ^ k) c) in
    let w : 2 ^ (p - 1) * u ≤ n =
    le_trans (le_of_eq (ap (λ (x : ℕ). 2 ^ (p - 1) * x) (mul_comm c (2 ^ k)) ∙ sym (mul_assoc (2 ^ (p - 1)) (2 ^ k) c) ∙ ap (λ (x : ℕ). x * c) (sym (pow-add 2 (p - 1) k))))
    ((le-div_iff_mul-le C).0 (size_reaches (n / c) (p - 1 + k) (all_in_use (size (n / c)) p P N))) in
    let e = closest_err n u (mul-pos C (pow_pos k)) in
    let z = scaled (2 ^ (p - 1)) (q * u) n u w e.0 e.1 in
    subst (λ (x : ℕ). (x * (grid f a c * c) ≤ x * n + n) × (x * n ≤ x * (grid f a c * c) + n)) (sym (twice_hid p P))
    (subst (λ (x : ℕ). (2 * 2 ^ (p - 1) * x ≤ 2 * 2 ^ (p - 1) * n + n) × (2 * 2 ^ (p - 1) * n ≤ 2 * 2 ^ (p - 1) * x + n)) (sym g) z)

-- the value of a rounded fraction, of either sign
pub round_at : (f : Format) (s : Bool) (a c : ℕ) → grid f a c < overflow f → HasValue (round f s a c) s (grid f a c) (2 ^ low f)
round_at f s a c h = subst (λ (z : Float). HasValue z s (grid f a c) (2 ^ low f)) (sym (round_is f s a c)) (units_val f s (kept (prec f) (a * 2 ^ low f) c) (drop (prec f) (a * 2 ^ low f) c) h)
