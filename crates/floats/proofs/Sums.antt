-- Sums of whole numbers of units, rounded once. Assumes nothing.
use Rattle.std.proofs.Common.{◌≡◌, ℕ, zero, suc, ◌+◌, ◌-◌, ◌*◌, ◌^◌, ◌<◌, ◌≤◌, Bool, true, false, cond, not, ◌&&◌, T, ltb, ℤ, pos, negsuc, ◌+ℤ◌, ◌-ℤ◌, ◌*ℤ◌, neg_ℤ, nat_abs, sym, refl, ap, ◌∙◌, subst, le_trans, le_of_eq, le_of_lt, mul-le-mul_right, mul_assoc, mul_comm, add-mul, mul-pos, mul-zero, mul_right_comm, le_of_mul-le-mul_right, arith, ltb→lt, nltb→le}
use native.Mathlib.Nat.{mul-sub, eq_of_mul-eq-mul_right}
use lib.IntN.{neg_ℤ-+ℤ, neg_ℤ-neg_ℤ, +ℤ_comm}
use lib.Ieee.{Float, nan, inf, fin, binary64, up, down, round, sum, add}
use lib.Ieee.Fits.{down_pos}
use lib.Ieee.Exact.{HasValue}
use lib.Ieee.Scale.{round_same}
use Rattle.floats.specs.Position.{signed}
use Rattle.floats.proofs.Rounding.{split}

-- ---- from one fraction to another of the same size
pub rescale : (x : Float) (s : Bool) (w l num den : ℕ) → 0 < l → num * l ≡ w * den → HasValue x s w l → HasValue x s num den
rescale nan s w l num den p h v = v
rescale (inf t) s w l num den p h v = v
rescale (fin t m e) s w l num den p h v = (
  v.0,
  eq_of_mul-eq-mul_right l p (m * up e * den) (num * down e)
      (mul_right_comm (m * up e) den l
      ∙ ap (λ (x : ℕ). x * den) v.1
      ∙ mul_right_comm w (down e) den
      ∙ ap (λ (x : ℕ). x * down e) (sym h)
      ∙ mul_right_comm num l (down e)),
)

-- p is within one part in 2 ^ 53 of n
abbrev pub Close : ℕ → ℕ → Type 0
Close p n = (2 ^ 53 * p ≤ 2 ^ 53 * n + n) × (2 ^ 53 * n ≤ 2 ^ 53 * p + n)

pub same-close : (n : ℕ) → Close n n
same-close n = (omega arith, omega arith)

pub less : (a b : ℕ) → b ≤ a → pos a +ℤ neg_ℤ (pos b) ≡ pos (a - b)
less a zero h = ap pos (none a)
  where
    none : (a : ℕ) → a + 0 ≡ a - 0
    none a = omega arith
less a (suc b) h = go (ltb a (suc b)) (ltb→lt a (suc b))
  where
    no : (x y : ℕ) → x < y → y ≤ x → ⊥
    no x y p q = omega arith

    go : (t : Bool) → (T t → a < suc b) → cond t (negsuc (suc b - suc a)) (pos (a - suc b)) ≡ pos (a - suc b)
    go true k = absurd (no a (suc b) (k tt) h)
    go false k = refl

pub more : (a b : ℕ) → a ≤ b → pos a +ℤ neg_ℤ (pos b) ≡ neg_ℤ (pos (b - a))
more a b h = sym (neg_ℤ-neg_ℤ (pos a +ℤ neg_ℤ (pos b))) ∙ ap neg_ℤ (neg_ℤ-+ℤ (pos a) (neg_ℤ (pos b)) ∙ ap (λ (z : ℤ). neg_ℤ (pos a) +ℤ z) (neg_ℤ-neg_ℤ (pos b)) ∙ +ℤ_comm (neg_ℤ (pos a)) (pos b) ∙ less b a h)

-- sums and differences in other units: a of them are x, where x * l is a * c
plus_times : (x y a b l c : ℕ) → x * l ≡ a * c → y * l ≡ b * c → (x + y) * l ≡ (a + b) * c
plus_times x y a b l c p q = add-mul x y l ∙ ap (λ (z : ℕ). z + y * l) p ∙ ap (λ (z : ℕ). a * c + z) q ∙ sym (add-mul a b c)

minus_times : (x y a b l c : ℕ) → x * l ≡ a * c → y * l ≡ b * c → (x - y) * l ≡ (a - b) * c
minus_times x y a b l c p q =
    mul_comm (x - y) l ∙ mul-sub l x y ∙ ap (λ (z : ℕ). z - l * y) (mul_comm l x ∙ p) ∙ ap (λ (z : ℕ). a * c - z) (mul_comm l y ∙ q)
    ∙ sym (mul_comm (a - b) c ∙ mul-sub c a b ∙ ap (λ (z : ℕ). z - c * b) (mul_comm c a) ∙ ap (λ (z : ℕ). a * c - z) (mul_comm c b))

order_le : (x y a b l c : ℕ) → 0 < c → x * l ≡ a * c → y * l ≡ b * c → x ≤ y → a ≤ b
order_le x y a b l c C p q h = le_of_mul-le-mul_right (le_trans (le_of_eq (sym p)) (le_trans (mul-le-mul_right l h) (le_of_eq q))) C

left : (a b c : ℕ) → a + b < c → a - b < c
left a b c h = omega arith

right : (a b c : ℕ) → a + b < c → b - a < c
right a b c h = omega arith

pub neg_abs : (n : ℕ) → nat_abs (neg_ℤ (pos n)) ≡ n
neg_abs zero = refl
neg_abs (suc n) = refl

pub signed_abs : (s : Bool) (n : ℕ) → nat_abs (signed s n) ≡ n
signed_abs true n = neg_abs n
signed_abs false n = refl

above : (p n : ℕ) → 9007199254740992 * p ≤ 9007199254740992 * n + n → 9007199254740992 * (p - n) ≤ n
above p n h = omega arith

under : (p n : ℕ) → 9007199254740992 * n ≤ 9007199254740992 * p + n → 9007199254740992 * (n - p) ≤ n
under p n h = omega arith

apart : (p n : ℕ) → Close p n → 2 ^ 53 * nat_abs (pos p +ℤ neg_ℤ (pos n)) ≤ n
apart p n c =
    split p n
    (λ (h : p < n). subst (λ (w : ℤ). 2 ^ 53 * nat_abs w ≤ n) (sym (more p n (le_of_lt h))) (subst (λ (w : ℕ). 2 ^ 53 * w ≤ n) (sym (neg_abs (n - p))) (under p n c.1)))
    (λ (h : n ≤ p). subst (λ (w : ℤ). 2 ^ 53 * nat_abs w ≤ n) (sym (less p n h)) (above p n c.0))

pub abs_neg : (z : ℤ) → nat_abs (neg_ℤ z) ≡ nat_abs z
abs_neg (pos zero) = refl
abs_neg (pos (suc n)) = refl
abs_neg (negsuc n) = refl

pub signed_apart : (s : Bool) (p n : ℕ) → Close p n → 2 ^ 53 * nat_abs (signed s p -ℤ signed s n) ≤ n
signed_apart false p n c = apart p n c
signed_apart true p n c =
    subst (λ (w : ℕ). 2 ^ 53 * w ≤ n) (sym (abs_neg (pos p +ℤ neg_ℤ (pos n))) ∙ ap nat_abs (neg_ℤ-+ℤ (pos p) (neg_ℤ (pos n)))) (apart p n c)

pub times_signed : (i : ℕ) (s : Bool) (b : ℕ) → pos i *ℤ signed s b ≡ signed s (i * b)
times_signed i false b = refl
times_signed i true zero = ap pos (mul-zero i) ∙ sym (ap (λ (z : ℕ). neg_ℤ (pos z)) (mul-zero i))
times_signed i true (suc b) = refl

-- ---- the sum, rounded once
-- r is the whole number that is p units with the sign of exact, n units with a sign, and p is close to n
pub record Rounded (U : ℕ) (r : Float) (exact : ℤ) : Type 0 where
  pub s : Bool
  pub n : ℕ
  pub p : ℕ
  pub value : HasValue r s p U
  pub is : exact ≡ signed s n
  pub close : Close p n

-- over a unit 1 / U of which `round` gives a whole number close to the whole number that it is handed, below H
module _ (U H : ℕ) (U_pos : 0 < U) (rounded : (s : Bool) (n : ℕ) → n < H → (p : ℕ) × HasValue (round binary64 s n U) s p U × Close p n) where
  by-round : (s : Bool) (num den n : ℕ) (z : ℤ) → 0 < den → num * U ≡ n * den → n < H → z ≡ signed s n → Rounded U (round binary64 s num den) z
  by-round s num den n z D e hi is =
      let r = rounded s n hi in
      record {
        s = s;
        n = n;
        p = r.0;
        value = subst (λ (x : Float). HasValue x s r.0 U) (sym (round_same binary64 s num den n U D U_pos e)) r.1;
        is = is;
        close = r.2;
      }

  sum_rounded : (s : Bool) (x : ℕ) (t : Bool) (y c a b : ℕ) → 0 < c → x * U ≡ a * c → y * U ≡ b * c → a + b < H → Rounded U (sum binary64 s x t y c) (signed s a +ℤ signed t b)
  unfolding sum
  sum_rounded false x false y c a b C p q hi = by-round false (x + y) c (a + b) (pos a +ℤ pos b) C (plus_times x y a b U c p q) hi refl
  sum_rounded true x true y c a b C p q hi = by-round true (x + y) c (a + b) (neg_ℤ (pos a) +ℤ neg_ℤ (pos b)) C (plus_times x y a b U c p q) hi (sym (neg_ℤ-+ℤ (pos a) (pos b)))
  sum_rounded false x true y c a b C p q hi = go (ltb x y) (ltb→lt x y) (nltb→le x y)
    where
      go : (k : Bool) → (T k → x < y) → (T (not k) → y ≤ x) → Rounded U (cond k (round binary64 true (y - x) c) (round binary64 false (x - y) c)) (pos a +ℤ neg_ℤ (pos b))
      go true h n = by-round true (y - x) c (b - a) (pos a +ℤ neg_ℤ (pos b)) C (minus_times y x b a U c q p) (right a b H hi) (more a b (order_le x y a b U c C p q (le_of_lt (h tt))))
      go false h n = by-round false (x - y) c (a - b) (pos a +ℤ neg_ℤ (pos b)) C (minus_times x y a b U c p q) (left a b H hi) (less a b (order_le y x b a U c C q p (n tt)))
  sum_rounded true x false y c a b C p q hi = go (ltb x y) (ltb y x) (ltb→lt x y) (nltb→le x y) (nltb→le y x)
    where
      gone : (a b : ℕ) → a ≤ b → a - b ≡ 0
      gone a b h = omega arith

      flip : neg_ℤ (pos a) +ℤ pos b ≡ pos b +ℤ neg_ℤ (pos a)
      flip = +ℤ_comm (neg_ℤ (pos a)) (pos b)

      go : (k z : Bool) → (T k → x < y) → (T (not k) → y ≤ x) → (T (not z) → x ≤ y) → Rounded U (cond k (round binary64 false (y - x) c) (round binary64 (true && z) (x - y) c)) (neg_ℤ (pos a) +ℤ pos b)
      go true z h n k = by-round false (y - x) c (b - a) (neg_ℤ (pos a) +ℤ pos b) C (minus_times y x b a U c q p) (right a b H hi) (flip ∙ less b a (order_le x y a b U c C p q (le_of_lt (h tt))))
      go false true h n k = by-round true (x - y) c (a - b) (neg_ℤ (pos a) +ℤ pos b) C (minus_times x y a b U c p q) (left a b H hi) (flip ∙ more b a (order_le y x b a U c C q p (n tt)))
      go false false h n k =
          by-round false (x - y) c (a - b) (neg_ℤ (pos a) +ℤ pos b) C (minus_times x y a b U c p q) (left a b H hi)
          (flip ∙ more b a (order_le y x b a U c C q p (n tt)) ∙ ap (λ (w : ℕ). neg_ℤ (pos w)) (gone a b (order_le x y a b U c C p q (k tt))) ∙ ap pos (sym (gone a b (order_le x y a b U c C p q (k tt)))))

  pub add_rounded : (x y : Float) (s t : Bool) (a b : ℕ) → HasValue x s a U → HasValue y t b U → a + b < H → Rounded U (add binary64 x y) (signed s a +ℤ signed t b)
  unfolding add
  add_rounded nan y s t a b p q h = absurd p
  add_rounded (inf u) y s t a b p q h = absurd p
  add_rounded (fin u m e) nan s t a b p q h = absurd q
  add_rounded (fin u m e) (inf v) s t a b p q h = absurd q
  add_rounded (fin u m e) (fin v n d) s t a b p q h =
      let C : 0 < down e * down d = mul-pos (down_pos e) (down_pos d) in
      let x : m * up e * down d * U ≡ a * (down e * down d) = mul_right_comm (m * up e) (down d) U ∙ ap (λ (z : ℕ). z * down d) p.1 ∙ mul_assoc a (down e) (down d) in
      let y : n * up d * down e * U ≡ b * (down e * down d) = mul_right_comm (n * up d) (down e) U ∙ ap (λ (z : ℕ). z * down e) q.1 ∙ mul_right_comm b (down d) (down e) ∙ mul_assoc b (down e) (down d) in
      subst (λ (w : Bool). Rounded U (sum binary64 w (m * up e * down d) v (n * up d * down e) (down e * down d)) (signed s a +ℤ signed t b)) (sym p.0)
      (subst (λ (w : Bool). Rounded U (sum binary64 s (m * up e * down d) w (n * up d * down e) (down e * down d)) (signed s a +ℤ signed t b)) (sym q.0)
      (sum_rounded s (m * up e * down d) t (n * up d * down e) (down e * down d) a b C x y h))
