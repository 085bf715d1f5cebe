-- The entries of a block are those that its region touches, and they ascend: the first that fails is the lowest that is touched and bad.
-- Assumes nothing.
use Prim.Native.Nat.{ℕ, zero, suc, ◌+◌, ◌-◌, ◌*◌, ◌/◌, ◌≤◌, ◌<◌}
use mathlib.Core.Path.{◌≡◌, refl, sym, ap, ◌∙◌}
use mathlib.Core.Logic.{◌⊎◌, inl, inr}
use mathlib.Core.Bool.{Bool, true, false, ◌&&◌, cond, false≢true}
use Rattle.std.specs.Prelude.{None, Some}
use Rattle.std.specs.List.{find}
use mathlib.Core.List.{List, [], ◌∷◌, ◌++◌}
use native.Mathlib.Omega.{arith}
use native.Mathlib.Nat.{le_refl, le_trans, le_step, add-zero, add-mul, add-sub_of_le, not-suc-le-zero, eq-or-lt_of_le, le_of_suc-le-suc, lt-div-mul-add, le-div_iff_mul-le, div-lt_iff_lt-mul, div-mul-le_self, mul-le-mul_right}
use lib.Arith.{digits_div}
use Rattle.endian.specs.Loops.{cat, first}
use Rattle.endian.proofs.Search.{first-is}
use Rattle.geometry.specs.Laws.{Before}
use Rattle.geometry.proofs.Entries.{entry_ascends}
use Rattle.record.specs.Record.{side_of, levels_of}
use Rattle.record.specs.declared.Record.{Record}
use Rattle.checks.proofs.Records.{Fit}
use Rattle.cube.specs.declared.Region.{Region}
use Rattle.cube.specs.Places.{entry_in, brick_of}
use Rattle.cube.specs.Regions.{start_of, run_of, place, touches}
use Rattle.cube.proofs.Valid.{entries}
use Rattle.cube.proofs.Places.{BrickIn, sides, cover, inside, brick-lt}
use Rattle.cube.proofs.Regions.{Within, extents, digits_in, touches-place, touches_at}
use Rattle.regions.specs.Search.{span}

-- ---- lists that ascend

-- l ascends, from a on and below b
abbrev Asc : ℕ → ℕ → List ℕ → Type 0
Asc a b [] = a ≤ b
Asc a b (x ∷ xs) = (a ≤ x) × Asc (suc x) b xs

asc_wider : (a b b' : ℕ) (l : List ℕ) → Asc a b l → b ≤ b' → Asc a b' l
asc_wider a b b' [] h w = le_trans h w
asc_wider a b b' (x ∷ xs) h w = (h.0, asc_wider (suc x) b b' xs h.1 w)

asc_later : (a a' b : ℕ) (l : List ℕ) → a' ≤ a → Asc a b l → Asc a' b l
asc_later a a' b [] w h = le_trans w h
asc_later a a' b (x ∷ xs) w h = (le_trans w h.0, h.1)

asc_append : (a b c : ℕ) (l m : List ℕ) → Asc a b l → Asc b c m → Asc a c (l ++ m)
asc_append a b c [] m h k = asc_later b a c m h k
asc_append a b c (x ∷ xs) m h k = (h.0, asc_append (suc x) b c xs m h.1 k)

-- parts that ascend one after the other
asc_cat : (a b : ℕ → ℕ) (n : ℕ) (g : ℕ → List ℕ) → ((i : ℕ) → i < suc n → Asc (a i) (b i) (g i)) → ((i : ℕ) → suc i < suc n → b i ≤ a (suc i)) → Asc (a 0) (b n) (cat (suc n) g)
unfolding cat
asc_cat a b zero g h k = h 0 (le_refl 1)
asc_cat a b (suc n) g h k =
    asc_append (a 0) (a (suc n)) (b (suc n)) (cat (suc n) g) (g (suc n))
    (asc_wider (a 0) (b n) (a (suc n)) (cat (suc n) g) (asc_cat a b n g (λ i l. h i (le_step l)) (λ i l. k i (le_step l))) (k n (le_refl (suc (suc n)))))
    (h (suc n) (le_refl (suc (suc n))))

-- e is one of the list
abbrev Mem : ℕ → List ℕ → Type 0
Mem e [] = ⊥
Mem e (x ∷ xs) = (e ≡ x) ⊎ Mem e xs

asc_mem : (a b : ℕ) (l : List ℕ) → Asc a b l → (e : ℕ) → Mem e l → a ≤ e
asc_mem a b [] h e m = absurd m
asc_mem a b (x ∷ xs) h e (inl q) = omega (arith, h.0)
asc_mem a b (x ∷ xs) h e (inr m) = omega (arith, h.0, asc_mem (suc x) b xs h.1 e m)

-- ---- what is found is one of the list, passes, and is the lowest of those that pass

record FirstOf (t : ℕ → Bool) (l : List ℕ) (e : ℕ) : Type 0 where
  among : Mem e l
  passes : t e ≡ true
  lowest : (e' : ℕ) → Mem e' l → t e' ≡ true → e ≤ e'

first_of : (t : ℕ → Bool) (a b : ℕ) (l : List ℕ) → Asc a b l → (e : ℕ) → find t l ≡ Some e → FirstOf t l e
first_of t a b [] h e f = let z : ◌≡◌ {A = ℕ} 0 1 = cc in absurd (omega arith)
first_of t a b (x ∷ xs) h e f = go (t x) refl f (first_of t (suc x) b xs h.1 e)
  where
    go : (c : Bool) → t x ≡ c → cond c (Some x) (find t xs) ≡ Some e → (find t xs ≡ Some e → FirstOf t xs e) → FirstOf t (x ∷ xs) e
    go true s k ih =
        let y : x ≡ e = cc in
        record { among = inl (sym y); passes = ap t (sym y) ∙ s; lowest = low y }
      where
        low : x ≡ e → (e' : ℕ) → (e' ≡ x) ⊎ Mem e' xs → t e' ≡ true → e ≤ e'
        low y e' (inl p) q = omega arith
        low y e' (inr p) q = omega (arith, asc_mem (suc x) b xs h.1 e' p)
    go false s k ih =
        let o = ih k in
        record { among = inr o.among; passes = o.passes; lowest = low o }
      where
        low : FirstOf t xs e → (e' : ℕ) → (e' ≡ x) ⊎ Mem e' xs → t e' ≡ true → e ≤ e'
        low o e' (inl p) q = absurd (false≢true (sym s ∙ ap t (sym p) ∙ q))
        low o e' (inr p) q = o.lowest e' p q

-- what is found in no element of a list
none_of : (t : ℕ → Bool) (l : List ℕ) → find t l ≡ None → (e : ℕ) → Mem e l → t e ≡ false
none_of t [] f e m = absurd m
none_of t (x ∷ xs) f e m = go (t x) refl f m (λ k h. none_of t xs k e h)
  where
    go : (c : Bool) → t x ≡ c → cond c (Some x) (find t xs) ≡ None → (e ≡ x) ⊎ Mem e xs → (find t xs ≡ None → Mem e xs → t e ≡ false) → t e ≡ false
    go true s k m ih = let z : ◌≡◌ {A = ℕ} 0 1 = cc in absurd (omega arith)
    go false s k (inl q) ih = ap t q ∙ s
    go false s k (inr h) ih = ih k h

-- ---- runs along a direction, and the bricks that they touch

pub div_mono : (s a b : ℕ) → 0 < s → a ≤ b → a / s ≤ b / s
div_mono s a b h l = (le-div_iff_mul-le h).1 (le_trans (div-mul-le_self a s) l)

-- an index of a run lies in one of the bricks that the run touches
span-has : (s a c i : ℕ) → 0 < s → i < c → ((a + i) / s - a / s < span s a c) × (a / s + ((a + i) / s - a / s) ≡ (a + i) / s)
span-has s a c i h l =
    let lo : a / s ≤ (a + i) / s = div_mono s a (a + i) h (omega arith) in
    let hi : (a + i) / s ≤ (a + c - 1) / s = div_mono s (a + i) (a + c - 1) h (omega arith) in
    (omega arith, add-sub_of_le lo)

-- and every brick that it touches is one of the n of the level
span_below : (s a c x n : ℕ) → 0 < s → x < span s a c → 1 ≤ c → a + c ≤ n * s → a / s + x < n
span_below s a c x n h l p e =
    let hi : (a + c - 1) / s < n = (div-lt_iff_lt-mul h).1 (omega arith) in
    let lo : a / s ≤ (a + c - 1) / s = div_mono s a (a + c - 1) h (omega arith) in
    omega arith

module _ (r : Record) (g : Region) where
  -- the entry of the brick that is x, y, z past the first
  abbrev pub past : ℕ → ℕ → ℕ → ℕ
  past x y z = entry_in r g.level (start_of g 0 / side_of r.description 0 + x) (start_of g 1 / side_of r.description 1 + y) (start_of g 2 / side_of r.description 2 + z)

  -- the entries of all bricks that the region's runs touch
  unfoldable pub touched : List ℕ
  touched =
      cat (span (side_of r.description 2) (start_of g 2) (run_of g 2))
      (λ z. cat (span (side_of r.description 1) (start_of g 1) (run_of g 1)) (λ y. cat (span (side_of r.description 0) (start_of g 0) (run_of g 0)) (λ x. past x y z ∷ [])))

  -- a brick that the region touches is one of the cube's
  pub brick_in : Fit r → Within r g → (x y z : ℕ)
      → x < span (side_of r.description 0) (start_of g 0) (run_of g 0)
      → y < span (side_of r.description 1) (start_of g 1) (run_of g 1)
      → z < span (side_of r.description 2) (start_of g 2) (run_of g 2)
      → BrickIn r g.level (start_of g 0 / side_of r.description 0 + x) (start_of g 1 / side_of r.description 1 + y) (start_of g 2 / side_of r.description 2 + z)
  unfolding levels_of
  brick_in ok w x y z hx hy hz =
      record {
        level = w.level;
        inline = span_below _ (start_of g 0) (run_of g 0) x _ (sides r ok).0 hx w.run0.0 (le_trans w.run0.1 (cover r g.level 0 (sides r ok).0));
        crossline = span_below _ (start_of g 1) (run_of g 1) y _ (sides r ok).1 hy w.run1.0 (le_trans w.run1.1 (cover r g.level 1 (sides r ok).1));
        vertical = span_below _ (start_of g 2) (run_of g 2) z _ (sides r ok).2 hz w.run2.0 (le_trans w.run2.1 (cover r g.level 2 (sides r ok).2));
      }

module _ (r : Record) (ok : Fit r) (g : Region) (w : Within r g) where
  -- the last brick past the first, in each direction
  abbrev x1 : ℕ
  x1 = (start_of g 0 + run_of g 0 - 1) / side_of r.description 0 - start_of g 0 / side_of r.description 0

  abbrev y1 : ℕ
  y1 = (start_of g 1 + run_of g 1 - 1) / side_of r.description 1 - start_of g 1 / side_of r.description 1

  abbrev z1 : ℕ
  z1 = (start_of g 2 + run_of g 2 - 1) / side_of r.description 2 - start_of g 2 / side_of r.description 2

  past_ascends : (x y z x' y' z' : ℕ) → x < suc x1 → y < suc y1 → z < suc z1 → x' < suc x1 → y' < suc y1 → z' < suc z1 → Before x y z x' y' z' → past r g x y z < past r g x' y' z'
  unfolding entry_in
  past_ascends x y z x' y' z' hx hy hz hx' hy' hz' b = entry_ascends _ _ _ (brick_in r g ok w x y z hx hy hz) (brick_in r g ok w x' y' z' hx' hy' hz') (shift b)
    where
      shift : Before x y z x' y' z'
          → Before (start_of g 0 / side_of r.description 0 + x) (start_of g 1 / side_of r.description 1 + y) (start_of g 2 / side_of r.description 2 + z) (start_of g 0 / side_of r.description 0 + x') (start_of g 1 / side_of r.description 1 + y') (start_of g 2 / side_of r.description 2 + z')
      shift (inl h) = inl (omega arith)
      shift (inr (e, inl h)) = inr (omega arith, inl (omega arith))
      shift (inr (e, inr (d, h))) = inr (omega arith, inr (omega arith, omega arith))

  line : ℕ → ℕ → List ℕ
  line y z = cat (suc x1) (λ x. past r g x y z ∷ [])

  plane : ℕ → List ℕ
  plane z = cat (suc y1) (λ y. line y z)

  line_ascends : (y z : ℕ) → y < suc y1 → z < suc z1 → Asc (past r g 0 y z) (suc (past r g x1 y z)) (line y z)
  unfolding line
  line_ascends y z hy hz =
      asc_cat (λ x. past r g x y z) (λ x. suc (past r g x y z)) x1 _ (λ x hx. (le_refl (past r g x y z), le_refl (suc (past r g x y z))))
      (λ x hx. past_ascends x y z (suc x) y z (omega arith) hy hz hx hy hz (inr (refl, inr (refl, le_refl (suc x)))))

  plane_ascends : (z : ℕ) → z < suc z1 → Asc (past r g 0 0 z) (suc (past r g x1 y1 z)) (plane z)
  unfolding plane
  plane_ascends z hz =
      asc_cat (λ y. past r g 0 y z) (λ y. suc (past r g x1 y z)) y1 _ (λ y hy. line_ascends y z hy hz)
      (λ y hy. past_ascends x1 y z 0 (suc y) z (omega arith) (omega arith) hz (omega arith) hy hz (inr (refl, inl (le_refl (suc y)))))

  touched_ascends : Asc (past r g 0 0 0) (suc (past r g x1 y1 z1)) (touched r g)
  unfolding touched line plane
  touched_ascends =
      asc_cat (λ z. past r g 0 0 z) (λ z. suc (past r g x1 y1 z)) z1 _ plane_ascends
      (λ z hz. past_ascends x1 y1 z 0 0 (suc z) (omega arith) (omega arith) (omega arith) (omega arith) (omega arith) hz (inl (le_refl (suc z))))

-- ---- the touched entries are the entries of the region's places

mem_left : (e : ℕ) (l m : List ℕ) → Mem e l → Mem e (l ++ m)
mem_left e [] m h = absurd h
mem_left e (x ∷ xs) m (inl q) = inl q
mem_left e (x ∷ xs) m (inr q) = inr (mem_left e xs m q)

mem_right : (e : ℕ) (l m : List ℕ) → Mem e m → Mem e (l ++ m)
mem_right e [] m h = h
mem_right e (x ∷ xs) m h = inr (mem_right e xs m h)

mem_either : (e : ℕ) (l m : List ℕ) → Mem e (l ++ m) → Mem e l ⊎ Mem e m
mem_either e [] m h = inr h
mem_either e (x ∷ xs) m (inl q) = inl (inl q)
mem_either e (x ∷ xs) m (inr q) = go (mem_either e xs m q)
  where
    go : Mem e xs ⊎ Mem e m → Mem e (x ∷ xs) ⊎ Mem e m
    go (inl h) = inl (inr h)
    go (inr h) = inr h

mem_cat : (e n : ℕ) (g : ℕ → List ℕ) (i : ℕ) → i < n → Mem e (g i) → Mem e (cat n g)
unfolding cat
mem_cat e zero g i h m = absurd (not-suc-le-zero h)
mem_cat e (suc n) g i h m = go (eq-or-lt_of_le (le_of_suc-le-suc h)) (mem_cat e n g i)
  where
    go : (i ≡ n) ⊎ (i < n) → (i < n → Mem e (g i) → Mem e (cat n g)) → Mem e (cat n g ++ g n)
    go (inl q) ih = mem_right e (cat n g) (g n) (rw q at m)
    go (inr l) ih = mem_left e (cat n g) (g n) (ih l m)

mem_part : (e n : ℕ) (g : ℕ → List ℕ) → Mem e (cat n g) → (i : ℕ) × (i < n) × Mem e (g i)
unfolding cat
mem_part e zero g m = absurd m
mem_part e (suc n) g m = go (mem_either e (cat n g) (g n) m) (mem_part e n g)
  where
    go : Mem e (cat n g) ⊎ Mem e (g n) → (Mem e (cat n g) → (i : ℕ) × (i < n) × Mem e (g i)) → (i : ℕ) × (i < suc n) × Mem e (g i)
    go (inl h) ih = let p = ih h in (p.0, le_step p.1, p.2)
    go (inr h) ih = (n, le_refl (suc n), h)

-- each brick that a run touches has an index of the run
span-place : (s a c x : ℕ) → 0 < s → 1 ≤ c → x < span s a c → (i : ℕ) × (i < c) × ((a + i) / s ≡ a / s + x)
span-place s a c zero h p l = (0, p, simp add-zero)
span-place s a c (suc x) h p l =
    let q : ℕ = a / s + suc x in
    let top : q ≤ (a + c - 1) / s = omega arith in
    let hi : q * s ≤ a + c - 1 = le_trans (mul-le-mul_right s top) (div-mul-le_self (a + c - 1) s) in
    let lo : a ≤ q * s = omega (arith, lt-div-mul-add {a = a} h, mul-le-mul_right s (le_refl (a / s + suc x)), add-mul (a / s) (suc x) s, add-mul x 1 s) in
    let e : a + (q * s - a) ≡ q * s + 0 = omega arith in
    (q * s - a, omega arith, ap (λ (n : ℕ). n / s) e ∙ digits_div q h)

module _ (r : Record) (ok : Fit r) (g : Region) where
  touched_has : (i j k : ℕ) → i < run_of g 0 → j < run_of g 1 → k < run_of g 2 → Mem (brick_of r (place g i j k)) (touched r g)
  unfolding touched brick_of
  touched_has i j k hi hj hk =
      let b0 = span-has (side_of r.description 0) (start_of g 0) (run_of g 0) i (sides r ok).0 hi in
      let b1 = span-has (side_of r.description 1) (start_of g 1) (run_of g 1) j (sides r ok).1 hj in
      let b2 = span-has (side_of r.description 2) (start_of g 2) (run_of g 2) k (sides r ok).2 hk in
      mem_cat _ _ _ _ b2.0 (mem_cat _ _ _ _ b1.0 (mem_cat _ _ _ _ b0.0 (inl (rw (b2.1, b1.1, b0.1)))))

  touched_only : Within r g → (e : ℕ) → Mem e (touched r g) → (i : ℕ) × (j : ℕ) × (k : ℕ) × (i < run_of g 0) × (j < run_of g 1) × (k < run_of g 2) × (e ≡ brick_of r (place g i j k))
  unfolding touched brick_of
  touched_only w e m =
      let z = mem_part e _ _ m in
      let y = mem_part e _ _ z.2 in
      let x = mem_part e _ _ y.2 in
      let i = span-place (side_of r.description 0) (start_of g 0) (run_of g 0) x.0 (sides r ok).0 w.run0.0 x.1 in
      let j = span-place (side_of r.description 1) (start_of g 1) (run_of g 1) y.0 (sides r ok).1 w.run1.0 y.1 in
      let k = span-place (side_of r.description 2) (start_of g 2) (run_of g 2) z.0 (sides r ok).2 w.run2.0 z.1 in
      (i.0, j.0, k.0, i.1, j.1, k.1, only x.2 ∙ rw (i.2, j.2, k.2))
    where
      only : {a : ℕ} → (e ≡ a) ⊎ ⊥ → e ≡ a
      only (inl q) = q
      only (inr z) = absurd z

  -- ---- so the search finds the lowest that is touched and bad

  module _ (w : Within r g) (bad : ℕ → Bool) where
    abbrev both : ℕ → Bool
    both e = touches r g e && bad e

    is_touched : (e : ℕ) → Mem e (touched r g) → touches r g e ≡ true
    is_touched e m = let p = touched_only w e m in ap (touches r g) p.6 ∙ touches-place r g p.0 p.1 p.2 p.3 p.4 p.5

    is_below : (e : ℕ) → Mem e (touched r g) → e < entries r
    is_below e m =
        let p = touched_only w e m in
        let q = place g p.0 p.1 p.2 in
        omega (arith, p.6, brick-lt r ok q (inside r ok q (extents r g w p.0 p.1 p.2 p.3 p.4 p.5)))

    -- an entry that is not bad where it is one of the list is not both
    passes : (e : ℕ) → (Mem e (touched r g) → bad e ≡ false) → both e ≡ false
    passes e h = go (touches r g e) refl
      where
        go : (c : Bool) → touches r g e ≡ c → c && bad e ≡ false
        go false q = refl
        go true q =
            let t = touches_at r g e q in
            let d = digits_in g t.0 t.1 in
            h (rw t.2 at (touched_has _ _ _ d.0 d.1 d.2))

    pub lowest-found : (e : ℕ) → find bad (touched r g) ≡ Some e → (first both (entries r) ≡ e) × (e < entries r)
    lowest-found e f =
        let l : FirstOf bad (touched r g) e = first_of bad _ _ (touched r g) (touched_ascends r ok g w) e f in
        let b : e < entries r = is_below e l.among in
        (first-is both (entries r) e (omega arith) (λ j h. passes j (λ m. not_bad l j h m (bad j) refl)) (λ h. rw (is_touched e l.among, l.passes)), b)
      where
        not_bad : FirstOf bad (touched r g) e → (j : ℕ) → j < e → Mem j (touched r g) → (c : Bool) → bad j ≡ c → bad j ≡ false
        not_bad l j h m true q = absurd (omega (arith, l.lowest j m q))
        not_bad l j h m false q = q

    pub lowest-none : find bad (touched r g) ≡ None → first both (entries r) ≡ entries r
    lowest-none f = first-is both (entries r) (entries r) (le_refl (entries r)) (λ j h. passes j (none_of bad (touched r g) f j)) (λ h. absurd (omega arith))
