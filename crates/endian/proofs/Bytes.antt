-- Laws of little-endian numbers: their bound, what they depend on, and their bytes. Assumes nothing.
use Prim.Native.Nat.{ℕ, zero, suc, ◌+◌, ◌*◌, ◌/◌, ◌%◌, ◌^◌, ◌≤◌, ◌<◌}
use mathlib.Core.Path.{◌≡◌, refl, sym, ap, ap₂, ◌∙◌}
use mathlib.Core.List.{List, ◌∷◌}
use native.Mathlib.Nat.{pow-suc, add-zero, add_assoc, div-lt_iff_lt-mul, div-one, div-div-eq-div-mul}
use native.Mathlib.Numerals.{add-one}
use native.Mathlib.Omega.{arith}
use lib.ListN.{get_or, take, drop}
use lib.Seq.{get_or-take, get_or-drop}
use Rattle.std.specs.Int.{w32, w64, byte_at, bytes_low_first, to_le_bytes}
use Rattle.endian.specs.Bytes.{Bytes, peek, le, lows}

-- a number of k bytes is below 256 ^ k
pub le_bound : (k : ℕ) (f : List ℕ) (a : ℕ) → Bytes f → le k f a < 256 ^ k
unfolding le
le_bound zero f a h = omega arith
le_bound (suc k) f a h = rw (pow-suc 256 k) (omega (arith, h a, le_bound k f (a + 1) h))

-- it depends on its own k bytes alone
pub le_same : (k : ℕ) (f g : List ℕ) (a : ℕ) → ((i : ℕ) → a ≤ i → i < a + k → get_or f i 0 ≡ get_or g i 0) → le k f a ≡ le k g a
unfolding le
le_same zero f g a e = refl
le_same (suc k) f g a e = omega (arith, e a (omega arith) (omega arith), le_same k f g (a + 1) (λ i lo hi. e i (omega arith) (omega arith)))

le-drop : (k : ℕ) (f : List ℕ) (a b : ℕ) → le k (drop a f) b ≡ le k f (a + b)
unfolding le
le-drop zero f a b = refl
le-drop (suc k) f a b = ap₂ (λ (x y : ℕ). x + 256 * y) (get_or-drop a f b 0) (le-drop k f a (b + 1) ∙ ap (le k f) (sym (add_assoc a b 1)))

-- the number in a part is the number there
pub le-peek : (k : ℕ) (f : List ℕ) (a : ℕ) → le k (peek f a k) 0 ≡ le k f a
le-peek k f a = le_same k (peek f a k) (drop a f) 0 (λ i lo hi. get_or-take k (drop a f) i 0 (omega arith)) ∙ le-drop k f a 0 ∙ ap (le k f) (add-zero a)

pub le_cons : (k x : ℕ) (l : List ℕ) (b : ℕ) → le k (x ∷ l) (suc b) ≡ le k l b
unfolding le
le_cons zero x l b = refl
le_cons (suc k) x l b = ap (λ (y : ℕ). get_or l b 0 + 256 * y) (rw (add-one (suc b), add-one b) (le_cons k x l (suc b)))

-- the low k bytes of a number below 256 ^ k are that number
pub le-lows : (k v : ℕ) → v < 256 ^ k → le k (lows k v) 0 ≡ v
unfolding le lows
le-lows zero v h = omega arith
le-lows (suc k) v h =
    let s : v < 256 ^ k * 256 = rw (pow-suc 256 k) at h in
    let pos : 0 < 256 = omega arith in
    let l : v / 256 < 256 ^ k = (div-lt_iff_lt-mul pos).1 s in
    omega (arith, le_cons k (v % 256) (lows k (v / 256)) 0, le-lows k (v / 256) l)

-- std's words for the bytes of a number, in the words of the format
byte_low : (i v : ℕ) → byte_at i v ≡ v / 256 ^ i % 256
byte_low zero v = ap (λ (n : ℕ). n % 256) (sym (div-one v))
byte_low (suc i) v = refl

low_first : (i k v : ℕ) → bytes_low_first i k v ≡ lows k (v / 256 ^ i)
unfolding lows
low_first i zero v = refl
low_first i (suc k) v = rw (byte_low i v, low_first (suc i) k v, pow-suc 256 i, div-div-eq-div-mul v (256 ^ i) 256)

pub lows_32 : (v : ℕ) {l : List ℕ} → l ≡ to_le_bytes w32 v → l ≡ lows 4 v
lows_32 v e = e ∙ low_first 0 4 v ∙ ap (lows 4) (div-one v)

pub lows_64 : (v : ℕ) {l : List ℕ} → l ≡ to_le_bytes w64 v → l ≡ lows 8 v
lows_64 v e = e ∙ low_first 0 8 v ∙ ap (lows 8) (div-one v)

-- the first of them
pub lows-front : (w k v : ℕ) → w ≤ k → take w (lows k v) ≡ lows w v
unfolding lows
lows-front zero k v h = refl
lows-front (suc w) zero v h = absurd (omega arith)
lows-front (suc w) (suc k) v h = ap (λ (l : List ℕ). v % 256 ∷ l) (lows-front w k (v / 256) (omega arith))
