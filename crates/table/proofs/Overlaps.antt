-- Laws of check 13: what it means for the offsets, and the search for it by its two properties. Assumes nothing.
use Rattle.std.specs.Bool.{⊤}
use Rattle.std.specs.List.{list_any, range_with_len}
use Rattle.std.specs.Option.{MatchOption, unwrap_or, option_or}
use Rattle.std.proofs.lemmas.Bool.{false_from_ne_true}
use Rattle.std.proofs.Common.{Option, Some, None}
use Rattle.std.proofs.lemmas.Option.{none-some}
use native.Mathlib.Numerals.{add-one}
use mathlib.Core.Path.{◌≡◌, refl, sym, ◌∙◌}
use mathlib.Core.Logic.{◌⊎◌, inl, inr, ⊎_elim}
use mathlib.Core.Bool.{Bool, true, false, ◌&&◌, ◌||◌}
use mathlib.Core.List.{List}
use Prim.Native.Nat.{ℕ, zero, suc, ◌+◌, ◌≤◌, ◌<◌}
use native.Mathlib.Nat.{eq-or-lt_of_le, le_refl}
use native.Mathlib.Decide.{dec_le}
use native.Mathlib.Omega.{arith}
use lib.Dec.{ltb}
use borrow.Author.Tests.{ltb-true, ltb-false, lt-ltb, le-ltb}
use Rattle.std.proofs.lemmas.Bool.{and_parts, both_ways}
use Rattle.endian.specs.Loops.{first, first_from}
use Rattle.endian.proofs.Search.{first-is, first-le, first_before}
use Rattle.table.specs.declared.Kind.{Kind}
use Rattle.table.specs.declared.Kind.TheVariants.{Missing, Constant, Stored}
use Rattle.table.specs.declared.Table.{Table}
use Rattle.table.specs.Entries.{offset_in, stored_in, overlap, overlaps_lower, kind_at, overlaps_at, lowest}
use Rattle.table.specs.Windows.{offset_at, Near}
use Rattle.table.proofs.Words.{at_stored, stored_some, same_offset}
use Rattle.table.proofs.Search.{lowest-is, lowest-or}

apart_false : (b o p : ℕ) → (o + b ≤ p) ⊎ (p + b ≤ o) → overlap b (Stored o) (Stored p) ≡ false
unfolding overlap
apart_false b o p h =
    false_from_ne_true (ltb o (p + b) && ltb p (o + b)) (λ e.
    let q = and_parts (ltb o (p + b)) (ltb p (o + b)) e in
    ⊎_elim (λ (g : o + b ≤ p). omega (arith, ltb-true p (o + b) q.1)) (λ (g : p + b ≤ o). omega (arith, ltb-true o (p + b) q.0)) h)

near_true : (b o p : ℕ) → o < p + b → p < o + b → overlap b (Stored o) (Stored p) ≡ true
unfolding overlap
near_true b o p g h = simp (lt-ltb o (p + b) g, lt-ltb p (o + b) h)

false_apart : (b o p : ℕ) → overlap b (Stored o) (Stored p) ≡ false → (o + b ≤ p) ⊎ (p + b ≤ o)
false_apart b o p e =
    elim (dec_le (o + b) p) [ yes g ↦ inl g | no g ↦ elim (dec_le (p + b) o) [ yes h ↦ inr h | no h ↦ absurd (both_ways (overlap b (Stored o) (Stored p)) e (near_true b o p (omega arith) (omega arith))) ] ]

any_list : (p : ℕ → Bool) (n a m : ℕ) → m ≡ a + n → list_any p (range_with_len a n) ≡ ltb (first_from p a n) m
unfolding first_from
any_list p zero a m e = sym (le-ltb a m (omega arith))
any_list p (suc n) a m e = go (p a) (rw add-one at (any_list p n (a + 1) m (omega arith)))
  where
    go : (t : Bool) → list_any p (range_with_len (suc a) n) ≡ ltb (first_from p (suc a) n) m
        → t || list_any p (range_with_len (a + 1) n) ≡ ltb (elim t [ true ↦ a | false ↦ first_from p (suc a) n ]) m
    go true h = sym (lt-ltb a m (omega arith))
    go false h = rw add-one h

-- a test of an offset that may not be there
abbrev pub hits : ℕ → Option ℕ → ℕ → Bool
hits b None o = false
hits b (Some p) o = overlap b (Stored p) (Stored o)

hits-is : (b : ℕ) (k l : Kind) (o : ℕ) → l ≡ Stored o → hits b (stored_in k) o ≡ overlap b k l
unfolding overlap
hits-is b Missing l o e = refl
hits-is b (Constant v) l o e = refl
hits-is b (Stored p) l o e = rw e

beside_none : (b : ℕ) (k l : Kind) → stored_in l ≡ None → overlap b k l ≡ false
unfolding overlap
beside_none b Missing l e = refl
beside_none b (Constant v) l e = refl
beside_none b (Stored p) Missing e = refl
beside_none b (Stored p) (Constant v) e = refl
beside_none b (Stored p) (Stored o) e = absurd (none-some o (sym e))

module _ (b : ℕ) (kinds : ℕ → Kind) where
  pub lower_no : (e : ℕ) → ((l : ℕ) → l < e → overlap b (kinds l) (kinds e) ≡ false) → overlaps_lower b kinds e ≡ false
  unfolding overlaps_lower
  lower_no e h =
      le-ltb (first p e) e (rw (first-is p e e (le_refl e) h (λ g. absurd (omega arith))) (le_refl e))
    where
      p : ℕ → Bool
      p l = overlap b (kinds l) (kinds e)

  pub lower_yes : (e l : ℕ) → l < e → overlap b (kinds l) (kinds e) ≡ true → overlaps_lower b kinds e ≡ true
  unfolding overlaps_lower
  lower_yes e l g yes-l =
      ⊎_elim (λ (q : first p e ≡ e). absurd (both_ways (p l) (first_before p e l (rw q g)) yes-l)) (λ (q : first p e < e). lt-ltb (first p e) e q) (eq-or-lt_of_le (first-le p e))
    where
      p : ℕ → Bool
      p l = overlap b (kinds l) (kinds e)

  -- as a search over the lower entries says it
  pub lower_any : (e o : ℕ) → stored_in (kinds e) ≡ Some o → list_any (λ l. hits b (stored_in (kinds l)) o) (range_with_len 0 e) ≡ overlaps_lower b kinds e
  unfolding overlaps_lower
  lower_any e o s =
      let same : (l : ℕ) → hits b (stored_in (kinds l)) o ≡ overlap b (kinds l) (kinds e) = λ l. hits-is b (kinds l) (kinds e) o (stored_some (kinds e) o s) in
      any_list (λ l. hits b (stored_in (kinds l)) o) e 0 e (omega arith) ∙ simp same

  pub lower_unstored : (e : ℕ) → stored_in (kinds e) ≡ None → overlaps_lower b kinds e ≡ false
  lower_unstored e s = lower_no e (λ l g. beside_none b (kinds l) (kinds e) s)

  lower_none : (e l : ℕ) → l < e → overlaps_lower b kinds e ≡ false → overlap b (kinds l) (kinds e) ≡ false
  unfolding overlaps_lower
  lower_none e l g no-e =
      first_before (λ l. overlap b (kinds l) (kinds e)) e l (omega (arith, ltb-false (first (λ l. overlap b (kinds l) (kinds e)) e) e no-e))

  -- an entry that passes check 13 is apart from every lower one
  pub lower_apart : (e : ℕ) → overlaps_lower b kinds e ≡ false → (d o p : ℕ) → d < e → kinds d ≡ Stored o → kinds e ≡ Stored p → (o + b ≤ p) ⊎ (p + b ≤ o)
  lower_apart e no-e d o p g s t = false_apart b o p (rw (s, t) at (lower_none e d g no-e))

  -- and one that is apart passes it
  pub lower_passes : (e : ℕ) → ((d o p : ℕ) → d < e → kinds d ≡ Stored o → kinds e ≡ Stored p → (o + b ≤ p) ⊎ (p + b ≤ o)) → overlaps_lower b kinds e ≡ false
  unfolding overlap
  lower_passes e all = lower_no e (λ d g. go (kinds d) (kinds e) (λ o p. all d o p g))
    where
      go : (k l : Kind) → ((o p : ℕ) → k ≡ Stored o → l ≡ Stored p → (o + b ≤ p) ⊎ (p + b ≤ o)) → overlap b k l ≡ false
      go Missing l f = refl
      go (Constant v) l f = refl
      go (Stored o) Missing f = refl
      go (Stored o) (Constant v) f = refl
      go (Stored o) (Stored p) f = apart_false b o p (f o p refl refl)

-- the test on kinds and the fact on offsets
near_test : (b : ℕ) (k l : Kind) → Near b (offset_in k) (offset_in l) → overlap b k l ≡ true
near_test b Missing l n = absurd (omega (arith, n.left))
near_test b (Constant v) l n = absurd (omega (arith, n.left))
near_test b (Stored o) Missing n = absurd (omega (arith, n.right))
near_test b (Stored o) (Constant v) n = absurd (omega (arith, n.right))
near_test b (Stored o) (Stored p) n = near_true b o p n.below n.above

near_fact : (b : ℕ) (k l : Kind) → ((o : ℕ) → k ≡ Stored o → 0 < o) → ((o : ℕ) → l ≡ Stored o → 0 < o) → overlap b k l ≡ true → Near b (offset_in k) (offset_in l)
unfolding overlap
near_fact b Missing l f g e = absurd (both_ways false refl e)
near_fact b (Constant v) l f g e = absurd (both_ways false refl e)
near_fact b (Stored o) Missing f g e = absurd (both_ways false refl e)
near_fact b (Stored o) (Constant v) f g e = absurd (both_ways false refl e)
near_fact b (Stored o) (Stored p) f g e =
    let q = and_parts (ltb o (p + b)) (ltb p (o + b)) e in
    record { left = f o refl; right = g p refl; below = ltb-true o (p + b) q.0; above = ltb-true p (o + b) q.1 }

pub near_yes : (b v o : ℕ) → (v ≡ 0 → ⊥) → 0 < o → overlap b (Stored v) (Stored o) ≡ true → Near b v o
near_yes b v o p q = near_fact b (Stored v) (Stored o) (λ x e. omega (arith, same_offset v x e)) (λ x e. omega (arith, same_offset o x e))

pub near_not : (b v o : ℕ) → overlap b (Stored v) (Stored o) ≡ false → Near b v o → ⊥
near_not b v o e n = absurd (both_ways _ e (near_test b (Stored v) (Stored o) n))

-- check 13 over the table's offsets
module _ (t : Table) (f : List ℕ) where
  pub near_no : (l e : ℕ) → (Near t.brick (offset_at t f l) (offset_at t f e) → ⊥) → overlap t.brick (kind_at t f l) (kind_at t f e) ≡ false
  unfolding offset_at
  near_no l e h =
      false_from_ne_true (overlap t.brick (kind_at t f l) (kind_at t f e)) (λ q. h (near_fact t.brick (kind_at t f l) (kind_at t f e) (real l) (real e) q))
    where
      real : (i o : ℕ) → kind_at t f i ≡ Stored o → 0 < o
      real i o s = omega (arith, at_stored t f i o s)

  pub none_lower : (e : ℕ) → ((l : ℕ) → l < e → Near t.brick (offset_at t f l) (offset_at t f e) → ⊥) → overlaps_at t f e ≡ false
  unfolding overlaps_at
  none_lower e h = lower_no t.brick (kind_at t f) e (λ l g. near_no l e (h l g))

  pub hit-yes : (e : ℕ) → (l : ℕ) × (l < e) × Near t.brick (offset_at t f l) (offset_at t f e) → overlaps_at t f e ≡ true
  unfolding overlaps_at offset_at
  hit-yes e h = lower_yes t.brick (kind_at t f) e h.0 h.1 (near_test t.brick (kind_at t f h.0) (kind_at t f e) h.2)

  -- the lowest overlap, by its two properties
  pub lowest_overlap-is : (n : ℕ) (r : Option ℕ) → ((e l : ℕ) → e < unwrap_or r n → l < e → Near t.brick (offset_at t f l) (offset_at t f e) → ⊥)
      → MatchOption r ⊤ (λ e. (e < n) × (l : ℕ) × (l < e) × Near t.brick (offset_at t f l) (offset_at t f e)) → r ≡ lowest (overlaps_at t f) n
  lowest_overlap-is n None no-e yes-r = lowest-is (overlaps_at t f) n None (λ e g. none_lower e (λ l. no-e e l g))
  lowest_overlap-is n (Some r) no-e yes-r =
      lowest-is (overlaps_at t f) n (Some r) (yes-r.0, hit-yes r (yes-r.1, yes-r.2, yes-r.3), λ e g. none_lower e (λ l. no-e e l g))

  -- below one that was found
  pub lowest_overlap-or : (n : ℕ) (best : Option ℕ) → MatchOption best ⊤ (λ e. (e < n) × (l : ℕ) × (l < e) × Near t.brick (offset_at t f l) (offset_at t f e))
      → option_or (lowest (overlaps_at t f) (unwrap_or best n)) best ≡ lowest (overlaps_at t f) n
  lowest_overlap-or n None h = lowest-or (overlaps_at t f) n None tt
  lowest_overlap-or n (Some r) h = lowest-or (overlaps_at t f) n (Some r) (h.0, hit-yes r (h.1, h.2, h.3))
