-- Laws of numbers written as bytes, the lowest first, and read again. Assumes nothing.
use mathlib.Core.List.{List, [], ◌∷◌, ◌++◌, append_assoc}
use mathlib.Core.Logic.{⊎_elim}
use mathlib.Core.Path.{◌≡◌, refl, ap, ◌∙◌}
use Prim.Native.Nat.{ℕ, zero, suc, ◌+◌, ◌-◌, ◌*◌, ◌/◌, ◌%◌, ◌^◌, ◌≤◌, ◌<◌}
use native.Mathlib.Nat.{pow-suc, one-le-pow, eq-or-lt_of_le, mod-lt}
use native.Mathlib.Omega.{arith}
use lib.Arith.{mod-mul, digits_mod, digits_div}
use lib.ListN.{length, get_or, take, drop, length-replicate, replicate-append-replicate, get_or-append}
use lib.Seq.{take_at, drop_at}
use Rattle.endian.specs.Loops.{cat}
use Rattle.endian.specs.Bytes.{Bytes, le, lows}
use Rattle.endian.proofs.Bytes.{le_same, le_cons}
use Rattle.endian.proofs.Cats.{length-cat}
use Rattle.making.specs.Making.{zero_bytes}

-- the low bytes depend on the number's rest alone
pub lows_mod : (j v : ℕ) → lows j (v % 256 ^ j) ≡ lows j v
unfolding lows
lows_mod zero v = refl
lows_mod (suc j) v =
    let r : v % 256 < 256 = mod-lt v (omega arith) in
    let high : 0 < 256 ^ j = one-le-pow j 256 (omega arith) in
    let low : 0 < 256 = omega arith in
    rw (pow-suc 256 j, mod-mul v {c = 256} high low, digits_mod (v / 256 % 256 ^ j) r, digits_div (v / 256 % 256 ^ j) r, lows_mod j (v / 256))

-- a number past other bytes
pub le-after : (k : ℕ) (xs ys : List ℕ) (a m : ℕ) → a ≡ length xs + m → le k (xs ++ ys) a ≡ le k ys m
le-after k [] ys a m e = ap (le k ys) (omega arith)
le-after k (x ∷ xs) ys a m e =
    let b : ℕ = length xs + m in
    let s : a ≡ suc b = omega arith in
    rw s (le_cons k x (xs ++ ys) b ∙ le-after k xs ys b m refl)

-- a number inside the first bytes
pub le-within : (k : ℕ) (xs ys : List ℕ) (a : ℕ) → a + k ≤ length xs → le k (xs ++ ys) a ≡ le k xs a
le-within k xs ys a h = le_same k (xs ++ ys) xs a (λ i lo hi. get_or-append xs ys 0 i (omega arith))

-- the number in piece e of pieces of k bytes each
pub le-cat : (k m e : ℕ) (g : ℕ → List ℕ) (rest : List ℕ) → ((i : ℕ) → length (g i) ≡ k) → e < m → le k (cat m g ++ rest) (e * k) ≡ le k (g e) 0
unfolding cat
le-cat k zero e g rest h l = absurd (omega arith)
le-cat k (suc m) e g rest h l =
    rw (append_assoc (cat m g) (g m) rest)
    (⊎_elim
    (λ (q : suc e ≡ suc m).
    let p : e ≡ m = omega arith in
    rw p (le-after k (cat m g) (g m ++ rest) (m * k) 0 (omega (arith, length-cat m k g (λ i _. h i))) ∙ le-within k (g m) rest 0 (omega (arith, h m))))
    (λ (q : suc e < suc m). le-cat k m e g (g m ++ rest) h (omega arith))
    (eq-or-lt_of_le l))

-- a part of zeros is zeros
pub peek-zeros : (k b r : ℕ) → k + b ≤ r → take b (drop k (zero_bytes r)) ≡ zero_bytes b
peek-zeros k b r h =
    let q : ℕ = r - (k + b) in
    let n : k + (b + q) ≡ r = omega arith in
    let split : zero_bytes k ++ (zero_bytes b ++ zero_bytes q) ≡ zero_bytes r =
    rw (replicate-append-replicate {A = ℕ} b q 0, replicate-append-replicate {A = ℕ} k (b + q) 0, n) in
    rw (← split, drop_at (zero_bytes k) (zero_bytes b ++ zero_bytes q) k (length-replicate {A = ℕ} k 0)) (take_at (zero_bytes b) (zero_bytes q) b (length-replicate {A = ℕ} b 0))

-- ---- lists of bytes

-- the numbers of l are bytes
pub record IsBytes (l : List ℕ) : Type 0 where
  pub each : Bytes l

pub none-bytes : IsBytes []
none-bytes = record { each = λ i. omega arith }

pub cons_bytes : {x : ℕ} {l : List ℕ} → x < 256 → IsBytes l → IsBytes (x ∷ l)
cons_bytes {x} {l} h b = record { each = go }
  where
    go : (i : ℕ) → get_or (x ∷ l) i 0 < 256
    go zero = h
    go (suc i) = b.each i

pub one_byte : {x : ℕ} → x < 256 → IsBytes (x ∷ [])
one_byte h = cons_bytes h none-bytes

infixl 65 ◌and◌
pub ◌and◌ : {a b : List ℕ} → IsBytes a → IsBytes b → IsBytes (a ++ b)
◌and◌ {a} {b} p q = record { each = go a p.each }
  where
    go : (l : List ℕ) → Bytes l → Bytes (l ++ b)
    go [] h i = q.each i
    go (x ∷ l) h zero = h zero
    go (x ∷ l) h (suc i) = go l (λ j. h (suc j)) i

pub lows-bytes : (k v : ℕ) → IsBytes (lows k v)
unfolding lows
lows-bytes zero v = none-bytes
lows-bytes (suc k) v = cons_bytes (mod-lt v (omega arith)) (lows-bytes k (v / 256))

pub zeros-bytes : (n : ℕ) → IsBytes (zero_bytes n)
zeros-bytes zero = none-bytes
zeros-bytes (suc n) = cons_bytes (omega arith) (zeros-bytes n)

pub cat-bytes : (m : ℕ) (g : ℕ → List ℕ) → ((e : ℕ) → IsBytes (g e)) → IsBytes (cat m g)
unfolding cat
cat-bytes zero g h = none-bytes
cat-bytes (suc m) g h = cat-bytes m g h and h m
