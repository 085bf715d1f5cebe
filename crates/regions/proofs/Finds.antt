-- The first that passes in a list of parts, as the loops search it. Assumes nothing.
use mathlib.Core.Bool.{Bool, true, false, cond, false≢true}
use mathlib.Core.List.{List, [], ◌∷◌, ◌++◌}
use mathlib.Core.Logic.{⊎_elim}
use Rattle.std.specs.Prelude.{Option, None, Some, is_some}
use Rattle.std.specs.List.{find}
use mathlib.Core.Path.{◌≡◌, refl, sym, ◌∙◌}
use Prim.Native.Nat.{ℕ, zero, suc, ◌+◌, ◌<◌}
use native.Mathlib.Nat.{eq-or-lt_of_le, not-suc-le-zero, le_of_suc-le-suc}
use native.Mathlib.Numerals.{add-one}
use Rattle.endian.specs.Loops.{cat}
use Rattle.regions.specs.Search.{row_from}

-- the first of two finds
abbrev or_else : {A : Type 0} → Option A → Option A → Option A
or_else None b = b
or_else (Some a) b = Some a

-- what is found in a list of parts
find_append : (t : ℕ → Bool) (a b : List ℕ) → find t (a ++ b) ≡ or_else (find t a) (find t b)
find_append t [] b = refl
find_append t (x ∷ xs) b = go (t x) (find_append t xs b)
  where
    go : (c : Bool) → find t (xs ++ b) ≡ or_else (find t xs) (find t b) → cond c (Some x) (find t (xs ++ b)) ≡ or_else (cond c (Some x) (find t xs)) (find t b)
    go true ih = refl
    go false ih = ih

-- one number that passes, one that does not
find-one : (t : ℕ → Bool) (x : ℕ) → t x ≡ true → find t (x ∷ []) ≡ Some x
find-one t x e = rw e

find-not : (t : ℕ → Bool) (x : ℕ) → t x ≡ false → find t (x ∷ []) ≡ None
find-not t x e = rw e

module _ (t : ℕ → Bool) where
  module _ (g : ℕ → List ℕ) where
    pub find_start : find t (cat 0 g) ≡ None
    unfolding cat
    find_start = refl

    cat_next : (n : ℕ) → find t (cat (suc n) g) ≡ or_else (find t (cat n g)) (find t (g n))
    unfolding cat
    cat_next n = find_append t (cat n g) (g n)

    -- nothing is found in one part more
    pub find-more : (n : ℕ) → find t (cat n g) ≡ None → find t (g n) ≡ None → find t (cat (n + 1) g) ≡ None
    find-more n a b = rw (add-one n) (cat_next n ∙ rw (a, b))

    -- what is found in a part, with nothing before it, is found in all
    pub find-hit : (n i e : ℕ) → i < n → find t (cat i g) ≡ None → find t (g i) ≡ Some e → find t (cat n g) ≡ Some e
    find-hit zero i e h a b = absurd (not-suc-le-zero h)
    find-hit (suc n) i e h a b =
        cat_next n
        ∙ ⊎_elim
        (λ (q : i ≡ n). let a' : find t (cat n g) ≡ None = rw (← q) a in let b' : find t (g n) ≡ Some e = rw (← q) b in rw (a', b'))
        (λ (l : i < n). rw (find-hit n i e l a b))
        (eq-or-lt_of_le (le_of_suc-le-suc h))

-- tests that agree find the same
pub find_agree : (t u : ℕ → Bool) → ((e : ℕ) → t e ≡ u e) → (l : List ℕ) → find t l ≡ find u l
find_agree t u q [] = refl
find_agree t u q (x ∷ xs) = rw (q x, find_agree t u q xs)

-- a search over parts, one call for each: it stops at the first part in which something is found, or after the last
module _ (t : ℕ → Bool) (g : ℕ → List ℕ) where
  pub part_hit : (n i : ℕ) (answer : Option ℕ) → i < n → find t (cat i g) ≡ None → answer ≡ find t (g i) → is_some answer ≡ true → answer ≡ find t (cat n g)
  part_hit n i (Some e) h before q found = sym (find-hit t g n i e h before (sym q))
  part_hit n i None h before q found = absurd (false≢true found)

  pub part_more : (i : ℕ) (answer : Option ℕ) → find t (cat i g) ≡ None → answer ≡ find t (g i) → is_some answer ≡ false → find t (cat (i + 1) g) ≡ None
  part_more i None before q found = find-more t g i before (sym q)
  part_more i (Some e) before q found = absurd (false≢true (sym found))

  pub part_none : (n i : ℕ) → i ≡ n → find t (cat i g) ≡ None → None ≡ find t (cat n g)
  part_none n i e before = rw (← e) (sym before)

-- the same where each part is one entry
module _ (t : ℕ → Bool) (a : ℕ) where
  abbrev one : ℕ → List ℕ
  one x = (a + x) ∷ []

  pub row_hit : (n x : ℕ) → x < n → find t (row_from a x) ≡ None → t (a + x) ≡ true → Some (a + x) ≡ find t (row_from a n)
  row_hit n x h before q = part_hit t one n x (Some (a + x)) h before (sym (find-one t (a + x) q)) refl

  pub row_more : (x : ℕ) → find t (row_from a x) ≡ None → t (a + x) ≡ false → find t (row_from a (x + 1)) ≡ None
  row_more x before q = part_more t one x None before (sym (find-not t (a + x) q)) refl
