-- Words of four bytes that are all the same, gathered without an early exit, and what they say of the bytes. Assumes nothing.
use mathlib.Core.Bool.{Bool, true, false, not}
use mathlib.Core.List.{List, [], ◌∷◌}
use mathlib.Core.Logic.{⊎_elim}
use mathlib.Core.Path.{◌≡◌, refl, sym, ap, ◌∙◌}
use Prim.Native.Nat.{ℕ, zero, suc, ◌+◌, ◌*◌, ◌/◌, ◌%◌, ◌≤◌, ◌<◌}
use native.Mathlib.Omega.{arith}
use lib.Bits.{bit_or, bit_xor, or_add_and, xor_add_and, and_le_l, and_le_r, xor_self}
use lib.Dec.{eqb}
use lib.ListN.{get_or, length, take, drop}
use lib.Seq.{drop-drop}
use borrow.Author.Count.{below_more}
use borrow.Author.Tests.{eq-eqb, eqb-true, not-false}
use Rattle.std.specs.Simd.{first_chunks}
use Rattle.std.proofs.lemmas.List.{get_or-take, length-take-le}
use Rattle.endian.specs.Bytes.{Bytes, le, lows, peek}
use Rattle.endian.proofs.Bytes.{le_same, le-peek}
use Rattle.endian.proofs.Loads.{four}
use Rattle.endian.proofs.Search.{first-is, first_before}
use Rattle.table.specs.Entries.{Width}
use Rattle.bricks.specs.Bricks.{filled_with}
use Rattle.bricks.specs.Filler.{Repeats, Words, Same}

-- ---- differences, gathered
or_none : (a b : ℕ) → bit_or a b ≡ 0 → (a ≡ 0) × (b ≡ 0)
or_none a b e = (omega (arith, or_add_and a b, and_le_l a b, and_le_r a b), omega (arith, or_add_and a b, and_le_l a b, and_le_r a b))

xor_none : (a b : ℕ) → bit_xor a b ≡ 0 → a ≡ b
xor_none a b e = omega (arith, xor_add_and a b, and_le_l a b, and_le_r a b)

-- d is 0 exactly where the first i words are all this word
pub record Gathered (f : List ℕ) (word i d : ℕ) : Type 0 where
  pub same : d ≡ 0 → Words f word i
  pub none : Words f word i → d ≡ 0

pub gathered_more : (f : List ℕ) (word i d x : ℕ) → x ≡ le 4 f (4 * i) → Gathered f word i d → Gathered f word (i + 1) (bit_or d (bit_xor x word))
gathered_more f word i d x e g = record {
  same = λ z.
      let p = or_none d (bit_xor x word) z in
      below_more _ _ (g.same p.0) (sym e ∙ xor_none x word p.1);
  none = λ all.
      let y : x ≡ word = e ∙ all i (omega arith) in
      rw (g.none (λ k h. all k (omega arith)), y) (xor_self word);
}

-- the n-th of the chunks of four bytes, and the number in it
chunk_at : (k n : ℕ) (f : List ℕ) → n < k → get_or (first_chunks 4 k f) n [] ≡ peek f (4 * n) 4
chunk_at zero n f h = elim h [ ]
chunk_at (suc k) zero f h = refl
chunk_at (suc k) (suc n) f h =
    let e : 4 + 4 * n ≡ 4 * suc n = omega arith in
    chunk_at k n (drop 4 f) (omega arith) ∙ ap (take 4) (drop-drop (4 * n) 4 f ∙ ap (λ (x : ℕ). drop x f) e)

pub chunk-is : (k n : ℕ) (f : List ℕ) (c : List (List ℕ)) (x : ℕ) → c ≡ first_chunks 4 k f → n < k → x ≡ le 4 (get_or c n []) 0 → x ≡ le 4 f (4 * n)
chunk-is k n f c x e h q = q ∙ rw (e, chunk_at k n f h) (le-peek 4 f (4 * n))

-- words of the front are words of the whole
pub same_front : (f : List ℕ) (word m : ℕ) (b : Bool) → m ≤ length f → Same (take m f) word (length (take m f) / 4) b → Same f word (m / 4) b
same_front f word m b l s =
    let n : length (take m f) ≡ m = length-take-le m f l in
    let same : (i : ℕ) → i < m / 4 → le 4 (take m f) (4 * i) ≡ le 4 f (4 * i) = λ i h. le_same 4 (take m f) f (4 * i) (λ j p q. get_or-take m f j 0 (omega arith)) in
    record {
      holds = λ t i h. sym (same i h) ∙ s.holds t i (rw n h);
      fails = λ t all. s.fails t (λ i h. let h' : i < m / 4 = rw n at h in same i h' ∙ all i h');
    }

-- ---- a word and its bytes
-- what holds of 0 to 3 holds of each byte of a word
each : (P : ℕ → Type 0) → P 0 → P 1 → P 2 → P 3 → (j : ℕ) → j < 4 → P j
each P p0 p1 p2 p3 zero h = p0
each P p0 p1 p2 p3 (suc zero) h = p1
each P p0 p1 p2 p3 (suc (suc zero)) h = p2
each P p0 p1 p2 p3 (suc (suc (suc zero))) h = p3
each P p0 p1 p2 p3 (suc (suc (suc (suc j)))) h = absurd (omega arith)

-- the low bytes of a number given by its bytes
lows_step : (k a x : ℕ) → a < 256 → lows (suc k) (a + 256 * x) ≡ (a ∷ lows k x)
unfolding lows
lows_step k a x h =
    let m : (a + 256 * x) % 256 ≡ a = omega arith in
    let q : (a + 256 * x) / 256 ≡ x = omega arith in
    rw (m, q)

lows-one : (d : ℕ) → d < 256 → lows 1 d ≡ (d ∷ [])
unfolding lows
lows-one d h = let m : d % 256 ≡ d = omega arith in rw m

lows_four : (a b c d : ℕ) → a < 256 → b < 256 → c < 256 → d < 256 → lows 4 (a + 256 * (b + 256 * (c + 256 * d))) ≡ (a ∷ b ∷ c ∷ d ∷ [])
lows_four a b c d ha hb hc hd = simp (lows_step 3 a (b + 256 * (c + 256 * d)) ha, lows_step 2 b (c + 256 * d) hb, lows_step 1 c d hc, lows-one d hd)

-- a value of 1, 2 and 4 bytes, repeated to four
pub repeats_1 : (v : ℕ) → v < 256 → Repeats 1 v (v * 16843009)
unfolding lows
repeats_1 v h i l =
    let e : v * 16843009 ≡ v + 256 * (v + 256 * (v + 256 * v)) = omega arith in
    let f : v ≡ v % 256 = omega arith in
    ap (λ (d : List ℕ). get_or d i 0) (ap (lows 4) e ∙ lows_four v v v v h h h h)
    ∙ each (λ i. get_or (v ∷ v ∷ v ∷ v ∷ []) i 0 ≡ get_or (lows 1 v) (i % 1) 0) f f f f i l

pub repeats_2 : (v : ℕ) → v < 65536 → Repeats 2 v (v * 65537)
unfolding lows
repeats_2 v h i l =
    let a : ℕ = v % 256 in
    let b : ℕ = v / 256 in
    let e : v * 65537 ≡ a + 256 * (b + 256 * (a + 256 * b)) = omega arith in
    let f : b ≡ b % 256 = omega arith in
    let ha : a < 256 = omega arith in
    let hb : b < 256 = omega arith in
    ap (λ (d : List ℕ). get_or d i 0) (ap (lows 4) e ∙ lows_four a b a b ha hb ha hb)
    ∙ each (λ i. get_or (a ∷ b ∷ a ∷ b ∷ []) i 0 ≡ get_or (lows 2 v) (i % 2) 0) refl f refl f i l

module _ (f : List ℕ) (word a : ℕ) where
  word_bytes : Bytes f → le 4 f a ≡ word → (j : ℕ) → j < 4 → get_or f (a + j) 0 ≡ get_or (lows 4 word) j 0
  unfolding lows
  word_bytes b e =
      let s = four f a ∙ e in
      let z : get_or f (a + 0) 0 ≡ get_or f a 0 = ap (λ (x : ℕ). get_or f x 0) (omega arith) in
      each (λ j. get_or f (a + j) 0 ≡ get_or (lows 4 word) j 0)
      (omega (arith, b a, s, z))
      (omega (arith, b a, b (a + 1), s))
      (omega (arith, b a, b (a + 1), b (a + 2), s))
      (omega (arith, b a, b (a + 1), b (a + 2), b (a + 3), s))

  bytes_word : word < 4294967296 → ((j : ℕ) → j < 4 → get_or f (a + j) 0 ≡ get_or (lows 4 word) j 0) → le 4 f a ≡ word
  unfolding lows
  bytes_word h all =
      let z : get_or f (a + 0) 0 ≡ get_or f a 0 = ap (λ (x : ℕ). get_or f x 0) (omega arith) in
      sym (four f a) ∙ omega (arith, z, all 0 (omega arith), all 1 (omega arith), all 2 (omega arith), all 3 (omega arith))

-- ---- bytes of w in turn, as words
turn : (w q j : ℕ) → Width w → (4 * q + j) % w ≡ j % w
turn w q j h = ⊎_elim (λ (e : w ≡ 1). rw e (omega arith)) (⊎_elim (λ (e : w ≡ 2). rw e (omega arith)) (λ (e : w ≡ 4). rw e (omega arith))) h

module _ (f : List ℕ) (w v word : ℕ) (width : Width w) (repeats : Repeats w v word) where
  -- each of the first n bytes is the value's, in turn
  Turns : ℕ → Type 0
  Turns n = (i : ℕ) → i < n → get_or f i 0 ≡ get_or (lows w v) (i % w) 0

  in_bytes : (q : ℕ) → Bytes f → Words f word q → Turns (4 * q)
  unfolding Turns
  in_bytes q b all i h =
      let e : 4 * (i / 4) + i % 4 ≡ i = omega arith in
      sym (ap (λ (x : ℕ). get_or f x 0) e)
      ∙ word_bytes f word (4 * (i / 4)) b (all (i / 4) (omega arith)) (i % 4) (omega arith)
      ∙ repeats (i % 4) (omega arith)
      ∙ ap (λ (x : ℕ). get_or (lows w v) x 0) (sym (turn w (i / 4) (i % 4) width) ∙ ap (λ (x : ℕ). x % w) e)

  in_words : (q : ℕ) → word < 4294967296 → Turns (4 * q) → Words f word q
  unfolding Turns
  in_words q b all k h =
      bytes_word f word (4 * k) b
      (λ j g. all (4 * k + j) (omega arith) ∙ ap (λ (x : ℕ). get_or (lows w v) x 0) (turn w k j width) ∙ sym (repeats j g))

  filled_of : (n : ℕ) → Turns n → filled_with (lows w v) f w n ≡ true
  unfolding filled_with Turns
  filled_of n all =
      eq-eqb _ n (first-is _ n n (omega arith) (λ i h. ap not (eq-eqb (get_or f i 0) (get_or (lows w v) (i % w) 0) (all i h))) (λ h. absurd (omega arith)))

  filled_each : (n : ℕ) → filled_with (lows w v) f w n ≡ true → Turns n
  unfolding filled_with Turns
  filled_each n e i h =
      let m = eqb-true _ n e in
      eqb-true (get_or f i 0) (get_or (lows w v) (i % w) 0) (not-false _ (first_before (λ i. not (eqb (get_or f i 0) (get_or (lows w v) (i % w) 0))) n i (rw m h)))

  -- whether the words are all this word is whether the bytes are the value's throughout
  pub filled_is : (q n : ℕ) (b : Bool) → Bytes f → word < 4294967296 → n ≡ 4 * q → Same f word q b → b ≡ filled_with (lows w v) f w n
  filled_is q n true bs small e d = rw e (sym (filled_of (4 * q) (in_bytes q bs (d.holds refl))))
  filled_is q n false bs small e d = rw e (go (filled_with (lows w v) f w (4 * q)) refl)
    where
      go : (t : Bool) → filled_with (lows w v) f w (4 * q) ≡ t → false ≡ t
      go true z = absurd (d.fails refl (in_words q small (filled_each (4 * q) z)))
      go false z = refl
