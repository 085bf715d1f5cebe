-- Which patterns and values are finite, and when a value has a pattern. Assumes nothing.
use Rattle.std.proofs.Common.{◌≡◌, ℕ, zero, suc, ◌+◌, ◌*◌, ◌/◌, ◌%◌, ◌^◌, ◌<◌, ◌≤◌, Bool, true, false, cond, not, ◌&&◌, T, eqb, ltb, leb, pos, sym, refl, ap, ◌∙◌, subst, true≢false, mod-lt, arith, lit<, eqb→eq, le-ltb, lt-ltb, eq-eqb, ne_eqb}
use mathlib.Core.Bool.{false≢true, and-false}
use lib.Ieee.{Float, nan, inf, fin, Format, binary32, odd, of_fields, of_bits, to_bits, is_nan, fits, ne, lt, mul, of_int, round, units, unlike, prec, emax, low, up, down}
use lib.Ieee.Fits.{and_l, and_r, round_is}
use lib.Ieee.Exact.{HasValue}
use lib.Ieee.Back.{round_whole}
use lib.Ieee.Order.{drop, kept}
use lib.Ieee.Bits.{nan_bits_is, nan_bits_above, of_bits-to_bits, of_bits-fits, to_bits-of_bits, is_true}
use lib.Ieee.Compare.{nan_differs}
use Rattle.std.proofs.lemmas.Float.{not_nan_f32_bits}
use Rattle.floats.specs.Rules.{finite, finite_bits, same_bits, range_ok}
use Rattle.floats.proofs.Rounding.{split}

-- ---- values
pub finite_no_nan : (x : Float) → T (finite x) → T (not (is_nan x))
unfolding finite is_nan
finite_no_nan nan t = t
finite_no_nan (inf s) t = tt
finite_no_nan (fin s m e) t = tt

-- ---- patterns: the exponent's field is not all ones
odd-finite : (d : ℕ) (s : Bool) (q k l : ℕ) → finite (odd d s q k l) ≡ true
unfolding odd finite
odd-finite d s zero k l = refl
odd-finite d s (suc q) k l = refl

fields_finite : (a b s : Bool) (v : Float) → finite v ≡ true → finite (cond a (cond b (inf s) nan) v) ≡ not a
unfolding finite
fields_finite true true s v h = refl
fields_finite true false s v h = refl
fields_finite false b s v h = h

of_fields-finite : (s : Bool) (x t : ℕ) → finite (of_fields binary32 s x t) ≡ not (eqb x 255)
unfolding of_fields
of_fields-finite s zero t = odd-finite 24 s t 0 149
of_fields-finite s (suc x) t = fields_finite (eqb (suc x) 255) (eqb t 0) s (odd 24 s (8388608 + t) x 149) (odd-finite 24 s (8388608 + t) x 149)

of_bits_is : (b : ℕ) → of_bits binary32 b ≡ of_fields binary32 (leb 2147483648 b) (b % 2147483648 / 8388608) (b % 8388608)
unfolding of_bits
of_bits_is b = refl

field_is : (r : ℕ) → r < 2147483648 → ltb r 2139095040 ≡ not (eqb (r / 8388608) 255)
field_is r h =
    split r 2139095040
    (λ (k : r < 2139095040). lt-ltb r 2139095040 k ∙ sym (ap not (ne_eqb (r / 8388608) 255 (low r k))))
    (λ (k : 2139095040 ≤ r). le-ltb r 2139095040 k ∙ sym (ap not (eq-eqb (r / 8388608) 255 (high r h k))))
  where
    low : (r : ℕ) → r < 2139095040 → r / 8388608 ≡ 255 → ⊥
    low r a b = omega arith

    high : (r : ℕ) → r < 2147483648 → 2139095040 ≤ r → r / 8388608 ≡ 255
    high r a b = omega arith

pub finite_pattern : (b : ℕ) → ltb (b % 2147483648) 2139095040 ≡ finite (of_bits binary32 b)
finite_pattern b =
    field_is (b % 2147483648) (mod-lt b (lit< tt)) ∙ sym (ap finite (of_bits_is b) ∙ of_fields-finite (leb 2147483648 b) (b % 2147483648 / 8388608) (b % 8388608))

-- ---- the patterns of a NaN
nan_of : (x : Float) → is_nan x ≡ true → x ≡ nan
unfolding is_nan
nan_of nan e = refl
nan_of (inf s) e = absurd (false≢true e)
nan_of (fin s m e') e = absurd (false≢true e)

pub nan_pattern : (b : ℕ) → 2139095040 < b % 2147483648 → of_bits binary32 b ≡ nan
nan_pattern b h = nan_of (of_bits binary32 b) (sym (nan_bits_is binary32 b) ∙ nan_bits_above binary32 b ∙ lt-ltb 2139095040 (b % 2147483648) h)

pub no_nan_value : (b : ℕ) → b % 2147483648 ≤ 2139095040 → T (not (is_nan (of_bits binary32 b)))
no_nan_value b h = subst (λ (t : Bool). T (not t)) (nan_bits_is binary32 b) (not_nan_f32_bits b h)

-- ---- a value and a pattern
pub equals_itself : (x : Float) → ne x x ≡ false → T (not (is_nan x))
unfolding is_nan
equals_itself nan e = absurd (true≢false (sym nan_differs ∙ e))
equals_itself (inf s) e = tt
equals_itself (fin s m e') e = tt

-- what `same_bits` answers, where x is a NaN and where it is none
pub same-nan : (x : Float) (b : ℕ) → is_nan x ≡ true → false ≡ same_bits x b
unfolding same_bits
same-nan x b e = sym (rw e (and-false (fits binary32 x)))

pub same_number : (x : Float) (b : ℕ) → T (fits binary32 x) → T (not (is_nan x)) → eqb (to_bits binary32 x) b ≡ same_bits x b
unfolding same_bits
same_number x b h n = sym (rw (is_true (fits binary32 x) h, is_true (not (is_nan x)) n))

-- by bits, as callers use it
pub same_float : (x : Float) (b : ℕ) → same_bits x b ≡ true → x ≡ of_bits binary32 b
unfolding same_bits
same_float x b e =
    let t : T (same_bits x b) = subst T (sym e) tt in
    let n = and_r (fits binary32 x) (not (is_nan x) && eqb (to_bits binary32 x) b) t in
    sym (of_bits-to_bits binary32 x (and_l (fits binary32 x) (not (is_nan x) && eqb (to_bits binary32 x) b) t))
    ∙ ap (λ (z : ℕ). of_bits binary32 z) (eqb→eq (to_bits binary32 x) b (and_r (not (is_nan x)) (eqb (to_bits binary32 x) b) n))

pub same_of : (b : ℕ) → b < 4294967296 → finite_bits b ≡ true → same_bits (of_bits binary32 b) b ≡ true
same_of b l e =
    let x = of_bits binary32 b in
    let n = finite_no_nan x (subst T (sym e) tt) in
    sym (same_number x b (of_bits-fits binary32 b) n) ∙ eq-eqb (to_bits binary32 x) b (to_bits-of_bits binary32 b l n)

pub same-zero : same_bits (of_bits binary32 0) 0 ≡ true
same-zero = same_of 0 (lit< tt) (sym (finite_pattern 0))

-- what position asks of a field whose bits are finite
pub finite-fits : (x : Float) (b : ℕ) → finite_bits b ≡ true → x ≡ of_bits binary32 b → T (finite x) × T (fits binary32 x)
finite-fits x b e s = (subst (λ (z : Float). T (finite z)) (sym s) (subst T (sym e) tt), subst (λ (z : Float). T (fits binary32 z)) (sym s) (of_bits-fits binary32 b))

-- ---- the coding range
pub range-finite : (a b : ℕ) → range_ok a b ≡ true → (finite_bits a ≡ true) × (finite_bits b ≡ true) × (lt (of_bits binary32 a) (of_bits binary32 b) ≡ true)
unfolding range_ok
range-finite a b e =
    let l = lt (of_bits binary32 a) (of_bits binary32 b) in
    let t : T (finite_bits a && (finite_bits b && l)) = subst T (sym e) tt in
    let u = and_r (finite_bits a) (finite_bits b && l) t in
    (is_true (finite_bits a) (and_l (finite_bits a) (finite_bits b && l) t), is_true (finite_bits b) (and_l (finite_bits b) l u), is_true l (and_r (finite_bits b) l u))

-- ---- a product of finite values is no NaN
units_no_nan : (f : Format) (s : Bool) (q k : ℕ) → T (not (is_nan (units f s q k)))
unfolding units odd is_nan
units_no_nan f s zero k = go (ltb (zero * 2 ^ k) (2 ^ (low f + suc (emax f))))
  where
    go : (b : Bool) → T (not (is_nan (cond b (odd (suc (prec f)) s zero k (low f)) (inf s))))
    go true = tt
    go false = tt
units_no_nan f s (suc q) k = go (ltb (suc q * 2 ^ k) (2 ^ (low f + suc (emax f))))
  where
    go : (b : Bool) → T (not (is_nan (cond b (odd (suc (prec f)) s (suc q) k (low f)) (inf s))))
    go true = tt
    go false = tt

pub round_no_nan : (f : Format) (s : Bool) (a c : ℕ) → T (not (is_nan (round f s a c)))
round_no_nan f s a c = subst (λ (z : Float). T (not (is_nan z))) (sym (round_is f s a c)) (units_no_nan f s (kept (prec f) (a * 2 ^ low f) c) (drop (prec f) (a * 2 ^ low f) c))

pub mul_no_nan : (f : Format) (x y : Float) → T (finite x) → T (finite y) → T (not (is_nan (mul f x y)))
unfolding mul finite
mul_no_nan f nan y p q = absurd p
mul_no_nan f (inf s) y p q = absurd p
mul_no_nan f (fin s m e) nan p q = absurd q
mul_no_nan f (fin s m e) (inf t) p q = absurd q
mul_no_nan f (fin s m e) (fin t n d) p q = round_no_nan f (unlike s t) (m * up e * (n * up d)) (down e * down d)

value_finite : (x : Float) (s : Bool) (a c : ℕ) → HasValue x s a c → T (finite x)
unfolding finite
value_finite nan s a c v = v
value_finite (inf t) s a c v = v
value_finite (fin t m e) s a c v = tt

pub int_finite : (f : Format) (n : ℕ) → n ≤ 2 ^ prec f → T (finite (of_int f (pos n)))
unfolding of_int
int_finite f n h = value_finite (round f false n 1) false n 1 (round_whole f false n h)
