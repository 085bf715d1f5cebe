-- Laws of the loops that count up, `cat` and `up`. Assumes nothing.
use Prim.Native.Nat.{ℕ, zero, suc, ◌+◌, ◌*◌, ◌/◌, ◌%◌, ◌<◌}
use mathlib.Core.Path.{◌≡◌, refl, sym, ap, ap₂, ◌∙◌}
use mathlib.Core.List.{List, ◌++◌, append_assoc, append-nil}
use native.Mathlib.Omega.{arith}
use native.Mathlib.Nat.{zero-mul, suc-mul, add-zero, add-suc, le_refl, le_step}
use native.Mathlib.Numerals.{add-one}
use native.Mathlib.Decide.{dec_lt}
use lib.Arith.{digits_div, digits_mod}
use lib.ListN.{length, take, drop, length-append, length-drop}
use lib.Seq.{take-add, drop-drop, drop_at, take-append-le, drop-append-le, take_all}
use Rattle.endian.specs.Loops.{cat, up}
use Rattle.endian.specs.Bytes.{peek}
use Rattle.endian.proofs.Digits.{next_item}

module _ {A : Type 0} where
  -- the rule of a loop that counts up
  pub up_rule : (P : ℕ → A → Type 0) (n : ℕ) (h : ℕ → A → A) (s : A) → P zero s
      → ((i : ℕ) (x : A) → i < n → P i x → P (suc i) (h i x)) → P n (up n h s)
  unfolding up
  up_rule P zero h s z step = z
  up_rule P (suc n) h s z step = step n (up n h s) (le_refl (suc n)) (up_rule P n h s z (λ i x l. step i x (le_step l)))

  pub cat-same : (n : ℕ) (g h : ℕ → List A) → ((i : ℕ) → i < n → g i ≡ h i) → cat n g ≡ cat n h
  unfolding cat
  cat-same zero g h e = refl
  cat-same (suc n) g h e = ap₂ ◌++◌ (cat-same n g h (λ i l. e i (le_step l))) (e n (le_refl (suc n)))

  pub length-cat : (n m : ℕ) (g : ℕ → List A) → ((i : ℕ) → i < n → length (g i) ≡ m) → length (cat n g) ≡ n * m
  unfolding cat
  length-cat zero m g e = sym (zero-mul m)
  length-cat (suc n) m g e =
      length-append (cat n g) (g n)
      ∙ ap₂ ◌+◌ (length-cat n m g (λ i l. e i (le_step l))) (e n (le_refl (suc n)))
      ∙ sym (suc-mul n m)

  -- a loop cut in two
  pub cat-add : (n m : ℕ) (g : ℕ → List A) → cat (n + m) g ≡ cat n g ++ cat m (λ i. g (n + i))
  unfolding cat
  cat-add n zero g = rw add-zero (sym (append-nil (cat n g)))
  cat-add n (suc m) g = rw add-suc (ap (λ (x : List A). x ++ g (n + m)) (cat-add n m g) ∙ append_assoc (cat n g) (cat m (λ i. g (n + i))) (g (n + m)))

  pub up-add : (n m : ℕ) (h : ℕ → A → A) (s : A) → up (n + m) h s ≡ up m (λ i. h (n + i)) (up n h s)
  unfolding up
  up-add n zero h s = rw add-zero
  up-add n (suc m) h s = rw add-suc (ap (h (n + m)) (up-add n m h s))

  pub cat-more : (n : ℕ) (g : ℕ → List A) → cat (n + 1) g ≡ cat n g ++ g n
  unfolding cat
  cat-more n g = rw add-one

  -- two loops, one inside the other, as one
  pub cat-cat : (m n : ℕ) (g : ℕ → ℕ → List A) → cat m (λ i. cat n (g i)) ≡ cat (m * n) (λ r. g (r / n) (r % n))
  unfolding cat
  cat-cat zero n g = rw zero-mul
  cat-cat (suc m) n g =
      rw (suc-mul, cat-add (m * n) n (λ r. g (r / n) (r % n)), cat-cat m n g)
      (ap (λ (x : List A). cat (m * n) (λ r. g (r / n) (r % n)) ++ x)
      (cat-same n (g m) (λ t. g ((m * n + t) / n) ((m * n + t) % n)) (λ t l. rw (digits_div m l, digits_mod m l))))

  pub up_same : (n : ℕ) (g h : ℕ → A → A) (s : A) → ((i : ℕ) → i < n → (x : A) → g i x ≡ h i x) → up n g s ≡ up n h s
  unfolding up
  up_same zero g h s e = refl
  up_same (suc n) g h s e = ap (g n) (up_same n g h s (λ i l. e i (le_step l))) ∙ e n (le_refl (suc n)) (up n h s)

  pub up_up : (m n : ℕ) (h : ℕ → ℕ → A → A) (s : A) → up m (λ i. up n (h i)) s ≡ up (m * n) (λ t. h (t / n) (t % n)) s
  unfolding up
  up_up zero n h s = rw zero-mul
  up_up (suc m) n h s =
      rw (suc-mul, up-add (m * n) n (λ t. h (t / n) (t % n)) s, up_up m n h s)
      (up_same n (h m) (λ t. h ((m * n + t) / n) ((m * n + t) % n)) _ (λ t l x. rw (digits_div m l, digits_mod m l)))

  -- the m-th of n lists of w items each
  pub cat_part : (n w m : ℕ) (g : ℕ → List A) → ((t : ℕ) → t < n → length (g t) ≡ w) → m < n → take w (drop (m * w) (cat n g)) ≡ g m
  unfolding cat
  cat_part zero w m g e l = absurd (omega arith)
  cat_part (suc n) w m g e l = go (dec_lt m n) (λ k. cat_part n w m g (λ t h. e t (omega arith)) k)
    where
      long : length (cat n g) ≡ n * w
      long = length-cat n w g (λ t k. e t (omega arith))

      go : Dec (m < n) → (m < n → take w (drop (m * w) (cat n g)) ≡ g m) → take w (drop (m * w) (cat n g ++ g n)) ≡ g m
      go (yes k) before =
          rw (drop-append-le (m * w) (cat n g) (g n) (omega (arith, next_item w m n k, long)), take-append-le w (drop (m * w) (cat n g)) (g n) (rw length-drop (omega (arith, next_item w m n k, long))))
          (before k)
      go (no k) before =
          let q : m ≡ n = omega arith in
          rw (q, drop_at (cat n g) (g n) (n * w) long) (take_all w (g n) (omega (arith, e n (omega arith))))

-- items that stand one after the other, read one by one, are one part
pub cat-peek : (f : List ℕ) (a w n : ℕ) → cat n (λ k. peek f (a + k * w) w) ≡ peek f a (n * w)
unfolding cat
cat-peek f a w zero = rw zero-mul
cat-peek f a w (suc n) =
    rw (suc-mul n w, take-add (n * w) w (drop a f), drop-drop (n * w) a f)
    (ap (λ (x : List ℕ). x ++ peek f (a + n * w) w) (cat-peek f a w n))
