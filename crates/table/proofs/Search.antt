-- Where a search loop stops, and a search that is cut short. Assumes nothing.
use Rattle.std.specs.Bool.{⊤}
use Rattle.std.specs.Option.{MatchOption, unwrap_or, option_or}
use Rattle.std.proofs.Common.{Option, Some, None}
use mathlib.Core.Path.{◌≡◌, refl, sym}
use mathlib.Core.Bool.{Bool, true, false, cond}
use Prim.Native.Nat.{ℕ, ◌≤◌, ◌<◌, zero-le}
use native.Mathlib.Omega.{arith}
use borrow.Author.Tests.{ltb-true, ltb-false, lt-ltb, le-ltb}
use Rattle.endian.specs.Loops.{first, any}
use Rattle.endian.proofs.Search.{first-is, first_at, first_before}
use Rattle.table.specs.Entries.{lowest}

module _ (p : ℕ → Bool) (n : ℕ) where
  -- a search that passes none stops at the end
  pub missed : (m : ℕ) → m ≡ n → ((j : ℕ) → j < m → p j ≡ false) → m ≡ first p n
  missed m e no-j = sym (first-is p n m (omega arith) no-j (λ g. absurd (omega arith)))

  -- what the lowest number is, where there is one, and what it means that there is none
  abbrev pub IsLowest : Option ℕ → Type 0
  IsLowest r = MatchOption r ((k : ℕ) → k < n → p k ≡ false) (λ m. (m < n) × (p m ≡ true) × ((k : ℕ) → k < m → p k ≡ false))

  pub lowest-is : (r : Option ℕ) → IsLowest r → r ≡ lowest p n
  unfolding lowest
  lowest-is None h = let e = missed n refl h in simp (le-ltb (first p n) n (omega arith))
  lowest-is (Some m) h =
      let e : first p n ≡ m = first-is p n m (omega (arith, h.0)) h.2 (λ _. h.1) in
      rw (e, lt-ltb m n h.0)

  -- as a search over a range says it
  pub lowest_found : (r : Option ℕ) → MatchOption r ((k : ℕ) → 0 ≤ k → k < n → p k ≡ false) (λ m. (0 ≤ m) × (m < n) × (p m ≡ true) × ((k : ℕ) → 0 ≤ k → k < m → p k ≡ false))
      → r ≡ lowest p n
  lowest_found None h = lowest-is None (λ k. h k zero-le)
  lowest_found (Some m) h = lowest-is (Some m) (h.1, h.2, λ k. h.3 k zero-le)

  pub lowest_says : IsLowest (lowest p n)
  unfolding lowest
  lowest_says = go (any p n) refl
    where
      go : (b : Bool) → any p n ≡ b → IsLowest (cond b (Some (first p n)) None)
      go true e = let l : first p n < n = ltb-true (first p n) n e in (l, first_at p n l, first_before p n)
      go false e = λ k g. first_before p n k (omega (arith, ltb-false (first p n) n e))

  pub lowest_none : lowest p n ≡ None → (k : ℕ) → k < n → p k ≡ false
  lowest_none e = rw e at lowest_says

  pub first_none : lowest p n ≡ None → first p n ≡ n
  first_none e = sym (missed n refl (lowest_none e))

  pub first_some : (m : ℕ) → lowest p n ≡ Some m → (m ≡ first p n) × (m < n)
  first_some m e =
      let l = rw e at lowest_says in
      (sym (first-is p n m (omega (arith, l.0)) l.2 (λ _. l.1)), l.0)

-- where one that passes is known, only those below it are left to search
pub lowest-or : (p : ℕ → Bool) (n : ℕ) (best : Option ℕ) → MatchOption best ⊤ (λ m. (m < n) × (p m ≡ true)) → option_or (lowest p (unwrap_or best n)) best ≡ lowest p n
lowest-or p n best h = go best (lowest p (unwrap_or best n)) h (lowest_says p (unwrap_or best n))
  where
    go : (best r : Option ℕ) → MatchOption best ⊤ (λ m. (m < n) × (p m ≡ true)) → IsLowest p (unwrap_or best n) r → option_or r best ≡ lowest p n
    go None None h l = lowest-is p n None l
    go None (Some m) h l = lowest-is p n (Some m) l
    go (Some e) None h l = lowest-is p n (Some e) (h.0, h.1, l)
    go (Some e) (Some m) h l = lowest-is p n (Some m) (omega (arith, l.0, h.0), l.1, l.2)
