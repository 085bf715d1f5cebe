-- A position's error: orig + i x inc, with one product that is exact and one sum that is rounded once, is within one part in 2 ^ 53 of the exact value, in whole units of 2 ^ -149. Assumes nothing.
use Rattle.std.proofs.Common.{◌≡◌, ℕ, zero, suc, ◌+◌, ◌-◌, ◌*◌, ◌/◌, ◌%◌, ◌^◌, ◌<◌, ◌≤◌, Bool, true, false, ◌&&◌, T, eqb, ltb, leb, ℤ, pos, negsuc, ◌+ℤ◌, ◌-ℤ◌, ◌*ℤ◌, nat_abs, sym, refl, ap, ◌∙◌, subst, le_trans, le_of_eq, lt_of_lt_of_le, lt_of_le_of_lt, le_of_lt, mul-le-mul_right, zero-lt-suc, mul_assoc, add-mul, mul-le-mul, lt_of_mul-lt-mul_right, mul-lt-mul_of_pos_right, mul-pos, one-mul, le-div_iff_mul-le, zero-mul, mul-one, mul_right_comm, le_of_mul-le-mul_right, mul-div_cancel, arith, lit<, lit≤, eqb→eq, ltb→lt, leb→le, pow_pos, pow_mono, pow-add}
use native.Mathlib.Nat.{mul-mul-mul_comm, mul-lt-mul_of_pos_left, mul-mod_left, pow-succ'}
use lib.Ieee.{Float, nan, inf, fin, Format, binary32, binary64, prec, emax, low, up, down, unlike, size, round, mul, of_int, fits}
use lib.Ieee.Digits.{size-lt}
use lib.Ieee.Fits.{up_pos, down_pos, and_l, and_r, eq→eqb}
use lib.Ieee.Exact.{HasValue, round_exact}
use lib.Ieee.Back.{round_whole}
use lib.Ieee.Order.{drop, kept}
use lib.Ieee.Scale.{round_same, grid, overflow, normal_of_fraction}
use Rattle.geometry.specs.Limits.{size_limit}
use Rattle.floats.specs.Rules.{finite}
use Rattle.floats.specs.Position.{position_of, signed, whole149, units149, exact_at, Near}
use Rattle.floats.proofs.Rounding.{split, grid_err, round_at}
use Rattle.floats.proofs.Sums.{rescale, Close, same-close, signed_abs, signed_apart, times_signed, add_rounded}

not_both : (a b : ℕ) → a < b → b ≤ a → ⊥
not_both a b p q = omega arith

-- ---- a whole number of units, rounded to binary64
size_gt : (n j : ℕ) → 2 ^ j ≤ n → j < size n
size_gt n j h =
    split j (size n)
    (λ (k : j < size n). k)
    (λ (k : size n ≤ j). absurd (not_both n (2 ^ j) (lt_of_lt_of_le (size-lt n) (pow_mono k)) h))

deep : (z : ℕ) → 978 < z → 925 ≤ z - 53
deep z h = omega arith

back : (k d : ℕ) → d ≤ k → k - d + d ≡ k
back k d h = omega arith

double : (p n : ℕ) → 9007199254740992 * p ≤ 9007199254740992 * n + n → p ≤ 2 * n
double p n h = omega arith

-- n whole units, n of 54 digits or more
large : (s : Bool) (n : ℕ) → 2 ^ 53 ≤ n → n < 2 ^ 300 → (p : ℕ) × HasValue (round binary64 s n (2 ^ 149)) s p (2 ^ 149) × Close p n
large s n lo hi =
    let c = 2 ^ 149 in
    let C : 0 < c = pow_pos 149 in
    let N = n * 2 ^ 1074 in
    let normal : 53 ≤ size (N / c) = normal_of_fraction binary64 n c C (le_trans (lit≤ tt) (mul-le-mul_right (2 ^ 1074) lo)) in
    let k = drop 53 N c in
    let k-ge : 925 ≤ k = deep (size (N / c)) (size_gt (N / c) 978 ((le-div_iff_mul-le C).1 (le_trans (lit≤ tt) (mul-le-mul_right (2 ^ 1074) lo)))) in
    let q = kept 53 N c in
    let p = q * 2 ^ (k - 925) in
    let G = grid binary64 n c in
    let g : p * 2 ^ 925 ≡ G = mul_assoc q (2 ^ (k - 925)) (2 ^ 925) ∙ ap (λ (x : ℕ). q * x) (sym (pow-add 2 (k - 925) 925) ∙ ap (λ (x : ℕ). 2 ^ x) (back k 925 k-ge)) in
    let gc : G * c ≡ p * 2 ^ 1074 = ap (λ (x : ℕ). x * c) (sym g) ∙ mul_assoc p (2 ^ 925) c in
    let e = grid_err binary64 n c C normal in
    let near : Close p n = (
      le_of_mul-le-mul_right (le_trans (le_of_eq (mul_assoc (2 ^ 53) p (2 ^ 1074) ∙ ap (λ (x : ℕ). 2 ^ 53 * x) (sym gc))) (le_trans e.0 (le_of_eq (over n n)))) (pow_pos 1074),
      le_of_mul-le-mul_right (le_trans (le_of_eq (mul_assoc (2 ^ 53) n (2 ^ 1074))) (le_trans e.1 (le_of_eq (ap (λ (x : ℕ). 2 ^ 53 * x + N) gc ∙ over p n)))) (pow_pos 1074),
    ) in
    let fine : G < overflow binary64 =
    subst (λ (x : ℕ). x < overflow binary64) g
    (lt_of_le_of_lt (mul-le-mul_right (2 ^ 925) (double p n near.0)) (lt_of_lt_of_le (mul-lt-mul_of_pos_right (mul-lt-mul_of_pos_left hi (zero-lt-suc 1)) (pow_pos 925)) (lit≤ tt))) in
    (p, rescale (round binary64 s n c) s G (2 ^ 1074) p c (pow_pos 1074) (sym gc) (round_at binary64 s n c fine), near)
  where
    over : (a b : ℕ) → 2 ^ 53 * (a * 2 ^ 1074) + b * 2 ^ 1074 ≡ (2 ^ 53 * a + b) * 2 ^ 1074
    over a b = ap (λ (x : ℕ). x + b * 2 ^ 1074) (sym (mul_assoc (2 ^ 53) a (2 ^ 1074))) ∙ sym (add-mul (2 ^ 53 * a) b (2 ^ 1074))

small : (s : Bool) (n : ℕ) → n < 2 ^ 53 → HasValue (round binary64 s n (2 ^ 149)) s n (2 ^ 149)
small s n h =
    round_exact binary64 s n (2 ^ 149) n 925 (pow_pos 149) h (lt_of_lt_of_le (mul-lt-mul_of_pos_right h (pow_pos 925)) (lit≤ tt)) (sym (mul_assoc n (2 ^ 925) (2 ^ 149)))

pub rounded : (s : Bool) (n : ℕ) → n < 2 ^ 300 → (p : ℕ) × HasValue (round binary64 s n (2 ^ 149)) s p (2 ^ 149) × Close p n
rounded s n hi = split n (2 ^ 53) (λ (h : n < 2 ^ 53). (n, small s n h, same-close n)) (λ (h : 2 ^ 53 ≤ n). large s n h hi)

-- ---- a finite f32 is a whole number of units: m * 2 ^ j of them, with m of 24 digits at most
pub place : (l : ℕ) (e : ℤ) → down e ≤ 2 ^ l → (j : ℕ) × (up e * 2 ^ l ≡ 2 ^ j * down e)
place l (pos a) h = (a + l, sym (pow-add 2 a l) ∙ sym (mul-one (2 ^ (a + l))))
place l (negsuc a) h =
    let le : suc a ≤ l = exponent (suc a) l h in
    (l - suc a, one-mul (2 ^ l) ∙ ap (λ (x : ℕ). 2 ^ x) (sym (back l (suc a) le)) ∙ pow-add 2 (l - suc a) (suc a))
  where
    grow : (x : ℕ) → 0 < x → x < 2 * x
    grow x p = omega arith

    exponent : (a l : ℕ) → 2 ^ a ≤ 2 ^ l → a ≤ l
    exponent a l h =
        split l a
        (λ (k : l < a). absurd (not_both (2 ^ l) (2 ^ a) (lt_of_lt_of_le (grow (2 ^ l) (pow_pos l)) (le_trans (le_of_eq (sym (pow-succ' 2 l))) (pow_mono k))) h))
        (λ (k : a ≤ l). k)

-- what `fits` says of an exponent and a size
pub fits-down : (f : Format) (s : Bool) (m : ℕ) (e : ℤ) → T (fits f (fin s m e)) → down e ≤ 2 ^ low f
unfolding fits
fits-down f s zero e t = le_trans (le_trans (le_of_eq (sym (one-mul (down e)))) (le_trans (mul-le-mul_right (down e) (up_pos e)) (le_of_eq (eqb→eq (up e * down e) 1 t)))) (pow_pos (low f))
fits-down f s (suc m) e t =
    let a : Bool = eqb (suc m % 2) 1 && ltb (suc m) (2 ^ prec f) in
    let b : Bool = leb (down e) (2 ^ low f) in
    leb→le (down e) (2 ^ low f) (and_r a b (and_l (a && b) (ltb (suc m * up e) (2 ^ suc (emax f) * down e)) t))

fits-digits : (s : Bool) (m : ℕ) (e : ℤ) → T (fits binary32 (fin s m e)) → m < 2 ^ 24
unfolding fits
fits-digits s zero e t = lit< tt
fits-digits s (suc m) e t =
    let a : Bool = eqb (suc m % 2) 1 in
    let b : Bool = ltb (suc m) (2 ^ 24) in
    let c : Bool = leb (down e) (2 ^ 149) in
    ltb→lt (suc m) (2 ^ 24) (and_r a b (and_l (a && b) c (and_l (a && b && c) (ltb (suc m * up e) (2 ^ 128 * down e)) t)))

fits-size : (s : Bool) (m : ℕ) (e : ℤ) → T (fits binary32 (fin s m e)) → m * up e < 2 ^ 128 * down e
unfolding fits
fits-size s zero e t = lt_of_le_of_lt (le_of_eq (zero-mul (up e))) (mul-pos (pow_pos 128) (down_pos e))
fits-size s (suc m) e t =
    let a : Bool = eqb (suc m % 2) 1 && ltb (suc m) (2 ^ 24) && leb (down e) (2 ^ 149) in
    let b : Bool = ltb (suc m * up e) (2 ^ 128 * down e) in
    ltb→lt (suc m * up e) (2 ^ 128 * down e) (and_r a b t)

-- x is m * 2 ^ j units
pub record Whole (x : Float) : Type 0 where
  pub s : Bool
  pub m : ℕ
  pub j : ℕ
  pub value : HasValue x s (m * 2 ^ j) (2 ^ 149)
  pub digits : m < 2 ^ 24
  pub size : m * 2 ^ j < 2 ^ 277

pub whole_of : (x : Float) → T (fits binary32 x) → T (finite x) → Whole x
unfolding finite
whole_of nan t f = absurd f
whole_of (inf s) t f = absurd f
whole_of (fin s m e) t f =
    let p = place 149 e (fits-down binary32 s m e t) in
    let v : m * up e * 2 ^ 149 ≡ m * 2 ^ p.0 * down e = mul_assoc m (up e) (2 ^ 149) ∙ ap (λ (x : ℕ). m * x) p.1 ∙ sym (mul_assoc m (2 ^ p.0) (down e)) in
    record {
      s = s;
      m = m;
      j = p.0;
      value = (refl, v);
      digits = fits-digits s m e t;
      size = lt_of_mul-lt-mul_right (down e) (subst (λ (x : ℕ). x < 2 ^ 277 * down e) v (subst (λ (x : ℕ). m * up e * 2 ^ 149 < x) (mul_right_comm (2 ^ 128) (down e) (2 ^ 149)) (mul-lt-mul_of_pos_right (fits-size s m e t) (pow_pos 149))));
    }

-- ---- the product of a whole number below 2 ^ 20 and such a value is exact
times : (s : Bool) → unlike false s ≡ s
times true = refl
times false = refl

mul_value : (x y : Float) (s : Bool) (i b : ℕ) → HasValue x false i 1 → HasValue y s b (2 ^ 149) → mul binary64 x y ≡ round binary64 s (i * b) (2 ^ 149)
unfolding mul
mul_value nan y s i b p q = absurd p
mul_value (inf t) y s i b p q = absurd p
mul_value (fin t m e) nan s i b p q = absurd q
mul_value (fin t m e) (inf u) s i b p q = absurd q
mul_value (fin t m e) (fin u n d) s i b p q =
    let same : m * up e * (n * up d) * (1 * 2 ^ 149) ≡ i * b * (down e * down d) =
    mul-mul-mul_comm (m * up e) (n * up d) 1 (2 ^ 149) ∙ ap (λ (z : ℕ). z * (n * up d * 2 ^ 149)) p.1 ∙ ap (λ (z : ℕ). i * down e * z) q.1 ∙ mul-mul-mul_comm i (down e) b (down d) in
    ap (λ (z : Bool). round binary64 z (m * up e * (n * up d)) (down e * down d)) (ap (λ (z : Bool). unlike z u) p.0 ∙ ap (λ (z : Bool). unlike false z) q.0 ∙ times s)
    ∙ round_same binary64 s (m * up e * (n * up d)) (down e * down d) (i * b) (2 ^ 149) (mul-pos (down_pos e) (down_pos d)) (pow_pos 149)
    (subst (λ (z : ℕ). m * up e * (n * up d) * z ≡ i * b * (down e * down d)) (one-mul (2 ^ 149)) same)

pub product : (i : ℕ) (y : Float) (w : Whole y) → i < size_limit → HasValue (mul binary64 (of_int binary64 (pos i)) y) w.s (i * (w.m * 2 ^ w.j)) (2 ^ 149)
unfolding of_int
product i y w h =
    let m = w.m in
    let j = w.j in
    let b = m * 2 ^ j in
    let x : HasValue (round binary64 false i 1) false i 1 = round_whole binary64 false i (le_trans (le_of_lt h) (lit≤ tt)) in
    subst (λ (z : Float). HasValue z w.s (i * b) (2 ^ 149)) (sym (mul_value (round binary64 false i 1) y w.s i b x w.value))
    (round_exact binary64 w.s (i * b) (2 ^ 149) (i * m) (j + 925) (pow_pos 149)
    (lt_of_le_of_lt (mul-le-mul (le_of_lt h) (le_of_lt w.digits)) (lit< tt))
    (lt_of_le_of_lt (le_of_eq (shape i m j)) (lt_of_le_of_lt (mul-le-mul_right (2 ^ 925) (mul-le-mul (le_of_lt h) (le_of_lt w.size))) (lit< tt)))
    (ap (λ (z : ℕ). i * b * z) (pow-add 2 925 149) ∙ sym (mul_assoc (i * b) (2 ^ 925) (2 ^ 149)) ∙ ap (λ (z : ℕ). z * 2 ^ 149) (sym (shape i m j))))
  where
    shape : (i m j : ℕ) → i * m * 2 ^ (j + 925) ≡ i * (m * 2 ^ j) * 2 ^ 925
    shape i m j = ap (λ (z : ℕ). i * m * z) (pow-add 2 j 925) ∙ sym (mul_assoc (i * m) (2 ^ j) (2 ^ 925)) ∙ ap (λ (z : ℕ). z * 2 ^ 925) (mul_assoc i m (2 ^ j))

-- ---- what the contract says of a value
pub value_whole : (x : Float) (s : Bool) (p : ℕ) → HasValue x s p (2 ^ 149) → T (whole149 x)
unfolding whole149
value_whole nan s p v = absurd v
value_whole (inf t) s p v = absurd v
value_whole (fin t m e) s p v = eq→eqb (ap (λ (z : ℕ). z % down e) v.1 ∙ mul-mod_left p (down e))

pub value_units : (x : Float) (s : Bool) (p : ℕ) → HasValue x s p (2 ^ 149) → units149 x ≡ signed s p
unfolding units149
value_units nan s p v = absurd v
value_units (inf t) s p v = absurd v
value_units (fin t m e) s p v = ap (λ (z : Bool). signed z (m * up e * 2 ^ 149 / down e)) v.0 ∙ ap (signed s) (ap (λ (z : ℕ). z / down e) v.1 ∙ mul-div_cancel p (down_pos e))

pub near : (orig inc : Float) (i : ℕ) → T (fits binary32 orig) → T (fits binary32 inc) → T (finite orig) → T (finite inc) → i < size_limit → Near orig inc i (position_of orig inc i)
unfolding position_of
near orig inc i fo fi go gi h =
    let a = whole_of orig fo go in
    let b = whole_of inc fi gi in
    let A = a.m * 2 ^ a.j in
    let B = b.m * 2 ^ b.j in
    let r = add_rounded (2 ^ 149) (2 ^ 300) (pow_pos 149) rounded orig (mul binary64 (of_int binary64 (pos i)) inc) a.s b.s A (i * B) a.value (product i inc b h) (fine A (i * B) a.size (mul-le-mul (le_of_lt h) (le_of_lt b.size))) in
    let e : exact_at orig inc i ≡ signed r.s r.n =
    ap (λ (z : ℤ). z +ℤ pos i *ℤ units149 inc) (value_units orig a.s A a.value)
    ∙ ap (λ (z : ℤ). signed a.s A +ℤ pos i *ℤ z) (value_units inc b.s B b.value)
    ∙ ap (λ (z : ℤ). signed a.s A +ℤ z) (times_signed i b.s B)
    ∙ r.is in
    record {
      orig-whole = value_whole orig a.s A a.value;
      inc-whole = value_whole inc b.s B b.value;
      whole = value_whole (position_of orig inc i) r.s r.p r.value;
      close = subst (λ (z : ℤ). 2 ^ 53 * nat_abs (units149 (position_of orig inc i) -ℤ z) ≤ nat_abs z) (sym e)
          (subst (λ (z : ℤ). 2 ^ 53 * nat_abs (z -ℤ signed r.s r.n) ≤ nat_abs (signed r.s r.n)) (sym (value_units (position_of orig inc i) r.s r.p r.value))
          (subst (λ (z : ℕ). 2 ^ 53 * nat_abs (signed r.s r.p -ℤ signed r.s r.n) ≤ z) (sym (signed_abs r.s r.n)) (signed_apart r.s r.p r.n r.close)));
    }
  where
    both : (a b c d : ℕ) → a < c → b ≤ d → a + b < c + d
    both a b c d p q = omega arith

    fine : (a b : ℕ) → a < 2 ^ 277 → b ≤ size_limit * 2 ^ 277 → a + b < 2 ^ 300
    fine a b p q = lt_of_lt_of_le (both a b (2 ^ 277) (size_limit * 2 ^ 277) p q) (lit≤ tt)
