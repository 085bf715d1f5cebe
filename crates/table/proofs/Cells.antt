-- The cells of a window, and the windows one after the other. Assumes nothing.
use Rattle.std.specs.Bool.{⊤, MatchBool, then_some}
use Rattle.std.specs.Option.{MatchOption, unwrap_or, option_or}
use Rattle.std.specs.List.{AllWithin, HoldsAt}
use Rattle.std.proofs.lemmas.List.{get_or-take, get_or-drop, length-take, length-drop}
use Rattle.std.proofs.Common.{Option, Some, None}
use mathlib.Core.Path.{◌≡◌, refl, sym, ap, ◌∙◌}
use mathlib.Core.Logic.{◌⊎◌, inl, inr, ⊎_elim}
use mathlib.Core.Bool.{Bool, true, false}
use mathlib.Core.List.{List}
use Prim.Native.Nat.{ℕ, zero, suc, ◌+◌, ◌-◌, ◌*◌, ◌/◌, ◌≤◌, ◌<◌, min, ◌^◌}
use native.Mathlib.Nat.{le_refl, lt_of_lt_of_le, lt_of_not-le, div-lt_iff_lt-mul, lt-div-mul-add, div-mul-le_self, add-mul}
use native.Mathlib.Decide.{ℕ_discrete, dec_le}
use native.Mathlib.Omega.{arith}
use lib.Dec.{ltb}
use lib.ListN.{length, get_or, take, drop, set, replicate, length-set, length-replicate}
use lib.Seq.{get_or-set_same, get_or-set_other}
use borrow.Author.Tests.{ltb-true, ltb-false}
use borrow.Author.Count.{below_more}
use Rattle.std.proofs.lemmas.Bool.{both_ways}
use Rattle.table.specs.declared.Table.{Table}
use Rattle.table.specs.Entries.{outside_at, lowest}
use Rattle.table.proofs.Search.{lowest_none}
use Rattle.table.proofs.Words.{at_stored, offset_stored}
use Rattle.table.proofs.Range.{at_fits}
use Rattle.table.specs.Windows.{offset_at, Near, Inside, Scanned, Touched, NextStart}

-- offsets less than b apart fall in one cell or in neighbours
slot_step : (b x y : ℕ) → 0 < b → x < y + b → x / b ≤ y / b + 1
slot_step b x y pos h =
    let t : x < (y / b + 2) * b = omega (arith, add-mul (y / b) 2 b, lt-div-mul-add {a = y} pos) in
    let u : x / b < y / b + 2 = (div-lt_iff_lt-mul pos).1 t in
    omega arith

-- offsets in one cell are less than b apart
slot_same : (b x y : ℕ) → 0 < b → x / b ≡ y / b → x < y + b
slot_same b x y pos e =
    let t : x / b * b ≡ y / b * b = ap (λ (n : ℕ). n * b) e in
    omega (arith, lt-div-mul-add {a = x} pos, div-mul-le_self y b)

zeros : (n s : ℕ) → ◌≡◌ {A = ℕ} (get_or (replicate n 0) s 0) 0
zeros zero s = refl
zeros (suc n) zero = refl
zeros (suc n) (suc s) = zeros n s

-- the cell of an offset
abbrev pub slot : ℕ → ℕ → ℕ → ℕ
slot b lo o = (o - lo) / b + 1

-- the cells after the first i entries
pub record Filled (os : ℕ → ℕ) (b lo i : ℕ) (cells : List ℕ) : Type 0 where
  pub size : length cells ≡ 16384
  pub held : (j : ℕ) → j < i → Inside b lo (os j) → get_or cells (slot b lo (os j)) 0 ≡ os j
  pub real : (s : ℕ) → 0 < get_or cells s 0 → (j : ℕ) × (j < i) × (os j ≡ get_or cells s 0)

-- no overlap inside the window among the first n entries
abbrev pub Clear : (ℕ → ℕ) → ℕ → ℕ → ℕ → Type 0
Clear os b lo n = (i : ℕ) → i < n → (j : ℕ) → j < i → Inside b lo (os i) → Inside b lo (os j) → Near b (os j) (os i) → ⊥

module _ (os : ℕ → ℕ) (b lo : ℕ) where
  pub table_start_lem : Filled os b lo 0 (replicate 16384 0)
  table_start_lem =
      record { size = length-replicate {A = ℕ} 16384 0; held = λ j h. absurd (omega arith); real = λ s h. absurd (omega (arith, zeros 16384 s)) }

  pub table_skip : {i : ℕ} {cells : List ℕ} → Filled os b lo i cells → (Inside b lo (os i) → ⊥) → Filled os b lo (i + 1) cells
  table_skip {i} {cells} t out =
      record { size = t.size; held = below_more _ i t.held (λ h. absurd (out h)); real = λ s h. let r = t.real s h in (r.0, omega arith, r.2) }

  pub clear_skip : {i : ℕ} → Clear os b lo i → (Inside b lo (os i) → ⊥) → Clear os b lo (i + 1)
  clear_skip {i} h out = below_more _ i h (λ j g a. absurd (out a))

  module _ (i : ℕ) (cells : List ℕ) (pos : 0 < b) (t : Filled os b lo i cells) (here : Inside b lo (os i)) (c : ℕ) (is_c : c ≡ (os i - lo) / b)
      (small : c < 16382) (none : (s : ℕ) → c ≤ s → s ≤ c + 2 → Near b (get_or cells s 0) (os i) → ⊥) where
    -- an earlier offset that overlaps would stand in one of the three cells
    apart : (j : ℕ) → j < i → Inside b lo (os j) → Near b (os j) (os i) → ⊥
    apart j g a n =
        none (slot b lo (os j))
        (omega (arith, slot_step b (os i - lo) (os j - lo) pos (omega (arith, n, a, here))))
        (omega (arith, slot_step b (os j - lo) (os i - lo) pos (omega (arith, n, a, here))))
        (rw (t.held j g a) n)

    other : (j : ℕ) → j < i → Inside b lo (os j) → slot b lo (os j) ≡ c + 1 → ⊥
    other j g a e =
        let q : (os j - lo) / b ≡ (os i - lo) / b = omega arith in
        apart j g a (record { left = a.stored; right = here.stored; below = omega (arith, slot_same b (os j - lo) (os i - lo) pos q, a, here); above = omega (arith, slot_same b (os i - lo) (os j - lo) pos (sym q), a, here) })

    pub clear-put : Clear os b lo i → Clear os b lo (i + 1)
    clear-put h = below_more _ i h (λ j g a d. apart j g d)

    new : (s : ℕ) → s ≡ c + 1 → (j : ℕ) × (j < i + 1) × (os j ≡ get_or (set cells (c + 1) (os i)) s 0)
    new s e = (i, omega arith, rw e (sym (get_or-set_same cells (c + 1) (os i) 0 (omega (arith, t.size)))))

    old : (s : ℕ) → (s ≡ c + 1 → ⊥) → 0 < get_or (set cells (c + 1) (os i)) s 0 → (j : ℕ) × (j < i + 1) × (os j ≡ get_or (set cells (c + 1) (os i)) s 0)
    old s e h =
        let q = get_or-set_other cells (c + 1) s (os i) 0 e in
        let r = t.real s (omega (arith, q)) in
        (r.0, omega arith, r.2 ∙ sym q)

    pub table_put : Filled os b lo (i + 1) (set cells (c + 1) (os i))
    table_put =
        record {
          size = length-set cells (c + 1) (os i) ∙ t.size;
          held = below_more _ i (λ j g a. get_or-set_other cells (c + 1) (slot b lo (os j)) (os i) 0 (other j g a) ∙ t.held j g a) (λ a. rw (← is_c) (get_or-set_same cells (c + 1) (os i) 0 (omega (arith, t.size))));
          real = λ s h. elim (ℕ_discrete s (c + 1)) [ yes e ↦ new s e | no e ↦ old s e h ];
        }

-- what a search of the three cells says
pub touched : (cells : List ℕ) (c b o : ℕ) (r : Bool) → c < 16382 → length cells ≡ 16384 → let three = take (c + 3 - c) (drop c cells) in
    MatchBool r ((k : ℕ) × (k < length three) × HoldsAt (λ v. Near b v o) three k) (AllWithin (λ v. Near b v o → ⊥) three 0 (length three)) → Touched cells c b o r
touched cells c b o r low size = by r
  where
    three : List ℕ
    three = take (c + 3 - c) (drop c cells)

    long : length three ≡ 3
    long = simp (length-take, length-drop) (omega arith)

    at : (k : ℕ) → k < 3 → get_or three k 0 ≡ get_or cells (c + k) 0
    at k g = get_or-take (c + 3 - c) (drop c cells) k 0 (omega arith) ∙ get_or-drop c cells k 0

    by : (r : Bool) → MatchBool r ((k : ℕ) × (k < length three) × HoldsAt (λ v. Near b v o) three k) (AllWithin (λ v. Near b v o → ⊥) three 0 (length three))
        → Touched cells c b o r
    by true h = record { found = λ e. (c + h.0, rw (← at h.0 (omega (arith, h.1, long))) (h.2 0)); none = λ e. absurd (both_ways true e refl) }
    by false h =
        record {
          found = λ e. absurd (both_ways false refl e);
          none = λ e s l g n. let q : c + (s - c) ≡ s = omega arith in h (s - c) 0 (omega arith) (omega (arith, long)) (rw (at (s - c) (omega arith), q) n);
        }

-- of the first n entries, those that overlap a lower one lie at lo or after it, both of them
abbrev pub Left : (ℕ → ℕ) → ℕ → ℕ → ℕ → Type 0
Left os b lo n = (i j : ℕ) → i < n → j < i → Near b (os j) (os i) → (lo ≤ os i) × (lo ≤ os j)

-- the entry that was found, where one was, is one of the first n and overlaps a lower one
abbrev pub Hit : (ℕ → ℕ) → ℕ → ℕ → Option ℕ → Type 0
Hit os b n r = MatchOption r ⊤ (λ e. (e < n) × (j : ℕ) × (j < e) × Near b (os j) (os e))

-- what check 12 leaves: a stored offset is at `from` or after it
abbrev pub Placed : (ℕ → ℕ) → ℕ → ℕ → Type 0
Placed os n from = (k : ℕ) → k < n → 0 < os k → from ≤ os k

pub placed : (t : Table) (f : List ℕ) → lowest (outside_at t f) t.count ≡ None → Placed (offset_at t f) t.count t.header
placed t f none k g s =
    (at_fits t f k (lowest_none (outside_at t f) t.count none k g) (offset_at t f k) (offset_stored t f k s)).0

pub hit_le : (os : ℕ → ℕ) (b n : ℕ) (r : Option ℕ) → Hit os b n r → unwrap_or r n ≤ n
hit_le os b n None h = le_refl n
hit_le os b n (Some e) h = omega (arith, h.0)

-- of what a search found and what was found before
pub or_limit : (n : ℕ) (r best : Option ℕ) → unwrap_or (option_or r best) n ≡ unwrap_or r (unwrap_or best n)
or_limit n None best = refl
or_limit n (Some e) best = refl

module _ (os : ℕ → ℕ) (n b : ℕ) where
  pub left_start : (from : ℕ) → Placed os n from → Left os b from n
  left_start from p i j g k m = (p i g m.right, p j (omega arith) m.left)

  pub left_less : (lo less limit : ℕ) → less ≤ lo → Left os b lo limit → Left os b less limit
  left_less lo less limit le h i j g k m = let l = h i j g k m in (omega (arith, l.0), omega (arith, l.1))

  pub left-more : (lo limit : ℕ) (r : Option ℕ) → Left os b lo limit → Scanned os b lo limit r → Left os b (lo + 16381 * b) (unwrap_or r limit)
  left-more lo limit r h s i j g k m =
      elim (dec_le (lo + 16381 * b) (os i)) [ yes p ↦ elim (dec_le (lo + 16381 * b) (os j)) [ yes q ↦ (p, q) | no q ↦ absurd (never (inr q)) ] | no p ↦ absurd (never (inl p)) ]
    where
      l : (lo ≤ os i) × (lo ≤ os j)
      l = h i j (lt_of_lt_of_le g (hit_le os b limit r s.hit)) k m

      never : ((lo + 16381 * b ≤ os i → ⊥) ⊎ (lo + 16381 * b ≤ os j → ⊥)) → ⊥
      never =
          ⊎_elim
          (λ (p : lo + 16381 * b ≤ os i → ⊥). s.clear i j g k (record { stored = m.right; low = l.0; high = omega arith }) (record { stored = m.left; low = l.1; high = omega (arith, m.below) }) m)
          (λ (q : lo + 16381 * b ≤ os j → ⊥). s.clear i j g k (record { stored = m.right; low = l.0; high = omega (arith, m.above) }) (record { stored = m.left; low = l.1; high = omega arith }) m)

  pub left_next : (lo limit r : ℕ) → limit ≤ n → Left os b lo limit → NextStart os n lo (Some r) → Left os b r limit
  left_next lo limit r hi h s i j g k m =
      let l = h i j g k m in
      (s.1 i (lt_of_lt_of_le g hi) m.right l.0, s.1 j (omega arith) m.left l.1)

  -- past the last offset no brick is left
  pub left_end : (lo limit : ℕ) → limit ≤ n → Left os b lo limit → NextStart os n lo None → (i j : ℕ) → i < limit → j < i → Near b (os j) (os i) → ⊥
  left_end lo limit hi h s i j g k m = omega (arith, s i (lt_of_lt_of_le g hi) m.right, h i j g k m)

  pub hit-or : (limit : ℕ) (r best : Option ℕ) → limit ≤ n → Hit os b limit r → Hit os b n best → Hit os b n (option_or r best)
  hit-or limit None best hi h g = g
  hit-or limit (Some e) best hi h g = (omega (arith, h.0), h.1, h.2, h.3)

-- where the next window starts, as the loop leaves it: at lo or past all offsets, and at no offset before it
pub next_found : (t : Table) (f : List ℕ) (lo next : ℕ) → min lo (2 ^ 63) ≤ next → ((k : ℕ) → k < t.count → 0 < offset_at t f k → lo ≤ offset_at t f k → next ≤ offset_at t f k)
    → NextStart (offset_at t f) t.count lo (then_some (ltb next (2 ^ 63)) next)
next_found t f lo next low all = by (ltb next (2 ^ 63)) refl
  where
    by : (b : Bool) → ltb next (2 ^ 63) ≡ b → NextStart (offset_at t f) t.count lo (then_some b next)
    by true e = (omega (arith, ltb-true next (2 ^ 63) e), all)
    by false e = λ k g s. lt_of_not-le (λ l. omega (arith, ltb-false next (2 ^ 63) e, all k g s l, at_stored t f k (offset_at t f k) (offset_stored t f k s)))

-- after one window more: what is left to search, and what was found
module _ (os : ℕ → ℕ) (n b lo : ℕ) (r best : Option ℕ) (s : Scanned os b lo (unwrap_or best n) r) (h : Hit os b n best) where
  pub hit_window : Hit os b n (option_or r best)
  hit_window = hit-or os n b (unwrap_or best n) r best (hit_le os b n best h) s.hit h

  pub left_window : (less : ℕ) → less ≤ lo + 16381 * b → Left os b lo (unwrap_or best n) → Left os b less (unwrap_or (option_or r best) n)
  left_window less le l =
      rw (or_limit n r best) (left_less os n b (lo + 16381 * b) less (unwrap_or r (unwrap_or best n)) le (left-more os n b lo (unwrap_or best n) r l s))

-- one turn of a search, for the entry's offset o as the code has it
module _ (os : ℕ → ℕ) (b lo i : ℕ) (cells : List ℕ) (t : Filled os b lo i cells) (cl : Clear os b lo i) (o : ℕ) (e : o ≡ os i) where
  pub put : (c : ℕ) → 0 < b → Inside b lo o → c ≡ (o - lo) / b → c < 16382 → ((s : ℕ) → c ≤ s → s ≤ c + 2 → Near b (get_or cells s 0) o → ⊥)
      → Filled os b lo (i + 1) (set cells (c + 1) o) × Clear os b lo (i + 1)
  put c pos here is_c small none =
      let none' : (s : ℕ) → c ≤ s → s ≤ c + 2 → Near b (get_or cells s 0) (os i) → ⊥ = λ s g h n. none s g h (rw e n) in
      (rw e (table_put os b lo i cells pos t (rw e at here) c (rw e at is_c) small none'), clear-put os b lo i cells pos t (rw e at here) c (rw e at is_c) small none' cl)

  pub stop : (limit : ℕ) → i < limit → (s : ℕ) × Near b (get_or cells s 0) o → Scanned os b lo limit (Some i)
  stop limit g h =
      let r = t.real h.0 h.1.left in
      record { clear = λ m j. λ q k. cl m q j k; hit = (g, r.0, r.1, rw (r.2, ← e) h.1) }
