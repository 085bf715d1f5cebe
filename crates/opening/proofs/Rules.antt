-- Opening takes exactly the cubes, and its record passes check 14. Assumes nothing.
use mathlib.Core.Bool.{Bool, true, false, not, cond, ◌&&◌, ◌||◌, false≢true}
use Rattle.std.proofs.lemmas.Bool.{or_right}
use Rattle.std.proofs.lemmas.Float.{T_from_true}
use mathlib.Core.List.{List, [], ◌∷◌}
use mathlib.Core.Logic.{◌⊎◌, inl, inr, ⊎_elim}
use mathlib.Core.Path.{◌≡◌, refl, sym, ap, ◌∙◌}
use Prim.Native.Nat.{ℕ, zero, suc, ◌+◌, ◌-◌, ◌≤◌, ◌<◌}
use native.Mathlib.Omega.{arith}
use lib.Dec.{T, eqb, ltb}
use lib.Ieee.{binary32, of_bits, lt}
use lib.ListN.{get_or, length, take, length-take, length-drop}
use lib.Seq.{get_or-take}
use borrow.Author.Tests.{eqb-true, eq-eqb, le-leb, ltb-false, le-ltb}
use Rattle.std.proofs.lemmas.Bool.{and_parts, not-false, or_cases, or_right}
use Rattle.record.proofs.Laws.{coding_each}
use Rattle.geometry.specs.Limits.{size_limit, shortest_text, longest_text, text_start}
use Rattle.endian.specs.Loops.{first}
use Rattle.endian.specs.Bytes.{Bytes, le, peek}
use Rattle.endian.proofs.Search.{first_before}
use Rattle.endian.proofs.Bytes.{le_bound}
use Rattle.floats.specs.Rules.{finite_bits, range_ok}
use Rattle.floats.proofs.Patterns.{range-finite}
use Rattle.record.specs.Answers.{and_then, unless_found, Verdict, Taken, refused}
use Rattle.record.specs.declared.Refusal.{Refusal}
use Rattle.record.specs.Types.{coding_of, no_type}
use Rattle.record.specs.Header.{three_at, two_at, version_of, description_of, text_length_of, text_of}
use Rattle.record.specs.Record.{side_of, size_of, bricks_of, header_of, record_of}
use Rattle.record.specs.declared.Description.{Description}
use Rattle.checks.specs.Checks.{all3, side_ok, size_ok, brick_limit, zeros, breaks2, breaks3, breaks4, breaks5, breaks6, breaks7, breaks8, breaks9, breaks11}
use Rattle.checks.proofs.Described.{passed, all3-each, each_of, side-exponent, side-is, size-range, described-is, described-few, described_text}
use Rattle.checks.proofs.Records.{Words, finites, record_fits_lem, fit_with}
use Rattle.table.specs.Entries.{breaks12, breaks13, Derived}
use Rattle.table.proofs.Search.{missed}
use Rattle.table.proofs.Tables.{header_table, stored-inside, inside-passes, stored_apart, apart_passes}
use Rattle.opening.specs.Opening.{length_verdict, text_verdict, range_verdict, overlap_verdict, entries_verdict, body_verdict, header_verdict, open_verdict, record_in}
use Rattle.opening.specs.Cube.{Side, Finite, CodingRange, Cube, OpensExactly, RecordPasses}
use Rattle.opening.proofs.Header.{Head, head, text_before, made_derived}
use Rattle.std.specs.Prelude.{Ok, Err}
use Rattle.record.specs.declared.Refusal.TheVariants as refusal

-- a verdict whose first part and whose later part took the call
pub both_taken : (v later : Verdict) → and_then v later ≡ Taken → (v ≡ Taken) × (later ≡ Taken)
both_taken (Ok u) later e = (refl, e)
both_taken (Err x) later e = let z : ◌≡◌ {A = ℕ} 0 1 = cc in absurd (omega arith)

-- no entry breaks the check, so the search for one finds none and the later checks took the call
pub none_found : (check : ℕ → Refusal) (p : ℕ → Bool) (m : ℕ) (later : Verdict) → unless_found check (first p m) m later ≡ Taken → ((e : ℕ) → e < m → p e ≡ false) × (later ≡ Taken)
none_found check p m later h = let q = go (ltb (first p m) m) refl h in (λ e l. first_before p m e (omega (arith, q.0)), q.1)
  where
    go : (b : Bool) → ltb (first p m) m ≡ b → cond b (refused (check (first p m))) later ≡ Taken → (m ≤ first p m) × (later ≡ Taken)
    go true q t = let z : ◌≡◌ {A = ℕ} 0 1 = cc in absurd (omega arith)
    go false q t = (ltb-false (first p m) m q, t)

pub finds_none : (check : ℕ → Refusal) (p : ℕ → Bool) (m : ℕ) (later : Verdict) → ((e : ℕ) → e < m → p e ≡ false) → unless_found check (first p m) m later ≡ later
finds_none check p m later all = simp (le-ltb (first p m) m (omega (arith, missed p m m refl all)))

-- all of checks 1 to 13, none of which applies
pub record Passed (f : List ℕ) : Type 0 where
  pub header : Head f
  pub long : header_of (description_of f) (text_length_of f) ≤ length f
  pub not11 : breaks11 (text_of f (text_length_of f)) ≡ false
  pub not12 : (e : ℕ) → e < bricks_of (description_of f) → breaks12 (record_in f) f e ≡ false
  pub not13 : (e : ℕ) → e < bricks_of (description_of f) → breaks13 (record_in f) f e ≡ false

pub opened_passed : (f : List ℕ) → open_verdict f ≡ Taken → Passed f
unfolding open_verdict body_verdict length_verdict text_verdict entries_verdict range_verdict overlap_verdict record_in record_of
opened_passed f e =
    let r = record_in f in
    let a = both_taken (header_verdict f) (body_verdict r f) e in
    let b = both_taken (length_verdict r f) (and_then (text_verdict r f) (entries_verdict r f)) a.1 in
    let c = both_taken (text_verdict r f) (entries_verdict r f) b.1 in
    let d = both_taken (range_verdict r f) (overlap_verdict r f) c.1 in
    record {
      header = head f a.0;
      long = ltb-false _ _ (passed _ _ _ b.0).0;
      not11 = (passed _ _ _ c.0).0;
      not12 = (none_found refusal.Range (breaks12 r f) (bricks_of (description_of f)) Taken d.0).0;
      not13 = (none_found refusal.Overlap (breaks13 r f) (bricks_of (description_of f)) Taken d.1).0;
    }

-- the record of such a file, and that the file holds its headers
pub passed_derived : (f : List ℕ) → Passed f → Derived (record_in f) × (header_of (record_in f).description (record_in f).text ≤ length f)
unfolding record_in record_of
passed_derived f p = (made_derived _ _ _ _ (described-is _ _ p.header.is-described), p.long)

pub passed_opened : (f : List ℕ) → Passed f → open_verdict f ≡ Taken
unfolding open_verdict header_verdict body_verdict length_verdict text_verdict entries_verdict range_verdict overlap_verdict record_in record_of
passed_opened f p =
    let h = p.header in
    let n = bricks_of (description_of f) in
    let no12 = finds_none refusal.Range (breaks12 (record_in f) f) n Taken p.not12 in
    let no13 = finds_none refusal.Overlap (breaks13 (record_in f) f) n Taken p.not13 in
    simp (le-ltb _ _ h.long, h.not2, h.not3, described-is _ _ h.is-described, le-ltb _ _ p.long, p.not11, no12, no13)

-- ---- each check and its rule

from_truth : (b : Bool) → T b → b ≡ true
from_truth true t = refl
from_truth false t = absurd t

-- what holds of each direction holds of all three
all3_of : (p : ℕ → Bool) (l : List ℕ) → ((i : ℕ) → i < 3 → p (get_or l i 0) ≡ true) → all3 p l ≡ true
all3_of p l h = simp (h 0 (omega arith), h 1 (omega arith), h 2 (omega arith))

four : (f : List ℕ) → 4 ≤ length f → take 4 f ≡ (get_or f 0 0 ∷ get_or f 1 0 ∷ get_or f 2 0 ∷ get_or f 3 0 ∷ [])
four [] h = absurd (omega arith)
four (a ∷ []) h = absurd (omega arith)
four (a ∷ b ∷ []) h = absurd (omega arith)
four (a ∷ b ∷ c ∷ []) h = absurd (omega arith)
four (a ∷ b ∷ c ∷ d ∷ f) h = refl

rule2_of : (f : List ℕ) → text_start ≤ length f → breaks2 f ≡ false → peek f 0 4 ≡ (86 ∷ 66 ∷ 83 ∷ 0 ∷ [])
unfolding breaks2
rule2_of f n e =
    let a = and_parts (eqb (get_or f 0 0) 86 && eqb (get_or f 1 0) 66 && eqb (get_or f 2 0) 83) (eqb (get_or f 3 0) 0) (not-false _ e) in
    let b = and_parts (eqb (get_or f 0 0) 86 && eqb (get_or f 1 0) 66) (eqb (get_or f 2 0) 83) a.0 in
    let c = and_parts (eqb (get_or f 0 0) 86) (eqb (get_or f 1 0) 66) b.0 in
    four f (omega arith) ∙ rw (eqb-true (get_or f 0 0) 86 c.0, eqb-true (get_or f 1 0) 66 c.1, eqb-true (get_or f 2 0) 83 b.1, eqb-true (get_or f 3 0) 0 a.1)

rule2-is : (f : List ℕ) → peek f 0 4 ≡ (86 ∷ 66 ∷ 83 ∷ 0 ∷ []) → breaks2 f ≡ false
unfolding breaks2
rule2-is f e = simp (eq-eqb _ _ (at 0 (omega arith)), eq-eqb _ _ (at 1 (omega arith)), eq-eqb _ _ (at 2 (omega arith)), eq-eqb _ _ (at 3 (omega arith)))
  where
    at : (i : ℕ) → i < 4 → get_or f i 0 ≡ get_or (86 ∷ 66 ∷ 83 ∷ 0 ∷ []) i 0
    at i h = sym (get_or-take 4 f i 0 h) ∙ ap (λ (l : List ℕ). get_or l i 0) e

rule3_of : (v : ℕ) → breaks3 v ≡ false → (v ≡ 2) ⊎ (v ≡ 3)
unfolding breaks3
rule3_of v e = ⊎_elim (λ (q : eqb v 2 ≡ true). inl (eqb-true v 2 q)) (λ (q : eqb v 3 ≡ true). inr (eqb-true v 3 q)) (or_cases (eqb v 2) (eqb v 3) (not-false _ e))

rule3-is : (v : ℕ) → (v ≡ 2) ⊎ (v ≡ 3) → breaks3 v ≡ false
unfolding breaks3
rule3-is v = ⊎_elim (λ (e : v ≡ 2). rw e) (λ (e : v ≡ 3). rw e)

size_is : (n : ℕ) → (1 ≤ n) × (n ≤ size_limit) → size_ok n ≡ true
unfolding size_ok
size_is n q = simp (le-leb 1 n q.0, le-leb n size_limit q.1)

range-is : (min max : ℕ) → CodingRange min max → range_ok min max ≡ true
unfolding range_ok
range-is min max r =
    simp (from_truth (finite_bits min) r.min-finite, from_truth (finite_bits max) r.max-finite, from_truth (lt (of_bits binary32 min) (of_bits binary32 max)) r.below)

module _ (d : Description) where
  rule4_of : breaks4 d ≡ false → (i : ℕ) → i < 3 → Side (side_of d i)
  unfolding breaks4
  rule4_of e =
      let s = all3-each side_ok d.side (not-false _ e) in
      each_of (λ i. Side (side_of d i)) (one s.0) (one s.1) (one s.2)
    where
      one : {n : ℕ} → side_ok n ≡ true → Side n
      one {n} = side-exponent n

  rule4-is : ((i : ℕ) → i < 3 → Side (side_of d i)) → breaks4 d ≡ false
  unfolding breaks4
  rule4-is h = ap not (all3_of side_ok d.side (λ i l. side-is (side_of d i) (h i l)))

  rule5_of : breaks5 d ≡ false → (d.datatype ≡ 0) ⊎ (d.datatype ≡ 2) ⊎ (d.datatype ≡ 6)
  unfolding breaks5
  rule5_of =
      coding_each (λ k x. no_type x ≡ false → (k ≡ 0) ⊎ (k ≡ 2) ⊎ (k ≡ 6)) (λ e. inl refl) (λ e. inr (inl refl)) (λ e. inr (inr refl)) (λ k e. absurd (false≢true (sym e)))
      d.datatype

  rule5-is : (d.datatype ≡ 0) ⊎ (d.datatype ≡ 2) ⊎ (d.datatype ≡ 6) → breaks5 d ≡ false
  unfolding breaks5 coding_of
  rule5-is = ⊎_elim (λ (e : d.datatype ≡ 0). rw e) (⊎_elim (λ (e : d.datatype ≡ 2). rw e) (λ (e : d.datatype ≡ 6). rw e))

  rule6_of : breaks6 d ≡ false → (i : ℕ) → i < 3 → (1 ≤ size_of d i) × (size_of d i ≤ size_limit)
  unfolding breaks6
  rule6_of e =
      let s = all3-each size_ok d.size (not-false _ e) in
      each_of (λ i. (1 ≤ size_of d i) × (size_of d i ≤ size_limit)) (one s.0) (one s.1) (one s.2)
    where
      one : {n : ℕ} → size_ok n ≡ true → (1 ≤ n) × (n ≤ size_limit)
      one {n} q = let r = size-range n q in (r.low, r.high)

  rule6-is : ((i : ℕ) → i < 3 → (1 ≤ size_of d i) × (size_of d i ≤ size_limit)) → breaks6 d ≡ false
  unfolding breaks6
  rule6-is h = ap not (all3_of size_ok d.size (λ i l. one (size_of d i) (h i l)))
    where
      one : (n : ℕ) → (1 ≤ n) × (n ≤ size_limit) → size_ok n ≡ true
      one n q = size_is n q

  rule7_of : breaks7 d ≡ false → ((i : ℕ) → i < 3 → Finite (get_or d.orig i 0) × Finite (get_or d.inc i 0))
      × ((d.datatype ≡ 6) ⊎ CodingRange (get_or d.range 0 0) (get_or d.range 1 0))
  rule7_of e =
      let f = finites d e in
      let o = all3-each finite_bits d.orig f.origs in
      let n = all3-each finite_bits d.inc f.incs in (
        each_of (λ i. Finite (get_or d.orig i 0) × Finite (get_or d.inc i 0)) (T_from_true _ o.0, T_from_true _ n.0) (T_from_true _ o.1, T_from_true _ n.1) (T_from_true _ o.2, T_from_true _ n.2),
        ⊎_elim (λ (q : eqb d.datatype 6 ≡ true). inl (eqb-true d.datatype 6 q)) (λ (q : range_ok (get_or d.range 0 0) (get_or d.range 1 0) ≡ true). let r = range-finite _ _ q in inr (record { min-finite = T_from_true _ r.0; max-finite = T_from_true _ r.1; below = T_from_true _ r.2 })) f.coded,
      )

  rule7-is : ((i : ℕ) → i < 3 → Finite (get_or d.orig i 0) × Finite (get_or d.inc i 0))
      → ((d.datatype ≡ 6) ⊎ CodingRange (get_or d.range 0 0) (get_or d.range 1 0)) → breaks7 d ≡ false
  unfolding breaks7
  rule7-is h c =
      simp (all3_of finite_bits d.orig (λ i l. from_truth (finite_bits (get_or d.orig i 0)) (h i l).0), all3_of finite_bits d.inc (λ i l. from_truth (finite_bits (get_or d.inc i 0)) (h i l).1), coded)
    where
      coded : (eqb d.datatype 6 || range_ok (get_or d.range 0 0) (get_or d.range 1 0)) ≡ true
      coded = ⊎_elim (λ (e : d.datatype ≡ 6). rw e) (λ (r : CodingRange (get_or d.range 0 0) (get_or d.range 1 0)). or_right (eqb d.datatype 6) (range_ok (get_or d.range 0 0) (get_or d.range 1 0)) (range-is (get_or d.range 0 0) (get_or d.range 1 0) r)) c

rule9-is : (n : ℕ) → (shortest_text ≤ n) × (n ≤ longest_text) → breaks9 n ≡ false
unfolding breaks9
rule9-is n q = simp (le-leb shortest_text n q.0, le-leb n longest_text q.1)

module _ (f : List ℕ) where
  -- the text section is as long as its length says
  text_long : header_of (description_of f) (text_length_of f) ≤ length f → length (text_of f (text_length_of f)) ≡ text_length_of f
  text_long h = simp (length-take, length-drop) (omega (arith, header_table (description_of f) (text_length_of f), text_before (description_of f) (text_length_of f)))

  rule11_of : header_of (description_of f) (text_length_of f) ≤ length f → breaks11 (text_of f (text_length_of f)) ≡ false
      → (zeros (text_of f (text_length_of f)) ≡ 5) × (get_or (text_of f (text_length_of f)) (text_length_of f - 1) 0 ≡ 0)
  unfolding breaks11
  rule11_of h e =
      let s = text_of f (text_length_of f) in
      let a = and_parts (eqb (zeros s) 5) (eqb (get_or s (length s - 1) 0) 0) (not-false _ e) in
      (eqb-true _ _ a.0, ap (λ (n : ℕ). get_or s (n - 1) 0) (sym (text_long h)) ∙ eqb-true _ _ a.1)

  rule11-is : header_of (description_of f) (text_length_of f) ≤ length f
      → (zeros (text_of f (text_length_of f)) ≡ 5) × (get_or (text_of f (text_length_of f)) (text_length_of f - 1) 0 ≡ 0) → breaks11 (text_of f (text_length_of f)) ≡ false
  unfolding breaks11
  rule11-is h q =
      let s = text_of f (text_length_of f) in
      let last : get_or s (length s - 1) 0 ≡ 0 = ap (λ (n : ℕ). get_or s (n - 1) 0) (text_long h) ∙ q.1 in
      simp (eq-eqb _ _ q.0, eq-eqb _ _ last)

  passed_cube : Passed f → Cube f
  unfolding record_in record_of
  passed_cube p =
      let h = p.header in
      let d = description_of f in
      let q = h.is-described in
      record {
        rule1 = h.long;
        rule2 = rule2_of f h.long h.not2;
        rule3 = rule3_of (version_of f) h.not3;
        rule4 = rule4_of d q.not4;
        rule5 = rule5_of d q.not5;
        rule6 = rule6_of d q.not6;
        rule7 = rule7_of d q.not7;
        rule8 = described-few _ _ q;
        rule9 = described_text _ _ q;
        rule10 = p.long;
        rule11 = rule11_of p.long p.not11;
        rule12 = λ e o l. stored-inside (record_in f) f e (p.not12 e l) o;
        rule13 = λ a e o u l m. stored_apart (record_in f) f e (p.not13 e m) a o u l;
      }

  cube_passed : Cube f → Passed f
  unfolding breaks8 record_in record_of
  cube_passed c =
      let d = description_of f in
      record {
        header = record {
          long = c.rule1;
          not2 = rule2-is f c.rule2;
          not3 = rule3-is (version_of f) c.rule3;
          is-described = record {
            not4 = rule4-is d c.rule4;
            not5 = rule5-is d c.rule5;
            not6 = rule6-is d c.rule6;
            not7 = rule7-is d c.rule7.0 c.rule7.1;
            not8 = le-ltb brick_limit (bricks_of d) c.rule8;
            not9 = rule9-is (text_length_of f) c.rule9;
          };
        };
        long = c.rule10;
        not11 = rule11-is c.rule10 c.rule11;
        not12 = λ e l. inside-passes (record_in f) f e (λ o. c.rule12 e o l);
        not13 = λ e l. apart_passes (record_in f) f e (λ a o u m. c.rule13 a e o u m l);
      }

-- the fields of a file of bytes fit 32 bits
pub words : (f : List ℕ) → Bytes f → Words (description_of f)
unfolding description_of
words f b = record { orig = threes f b (9 + 70); inc = threes f b (9 + 82); range = twos f b (9 + 13) }
  where
    word : (f : List ℕ) → Bytes f → (a : ℕ) → le 4 f a < 4294967296
    word f b a = le_bound 4 f a b

    threes : (f : List ℕ) → Bytes f → (a i : ℕ) → get_or (three_at f a) i 0 < 4294967296
    threes f b a zero = word f b a
    threes f b a (suc zero) = word f b (a + 4)
    threes f b a (suc (suc zero)) = word f b (a + 8)
    threes f b a (suc (suc (suc i))) = omega arith

    twos : (f : List ℕ) → Bytes f → (a i : ℕ) → get_or (two_at f a) i 0 < 4294967296
    twos f b a zero = word f b a
    twos f b a (suc zero) = word f b (a + 4)
    twos f b a (suc (suc i)) = omega arith

pub opens_exactly : OpensExactly
unfolding OpensExactly
opens_exactly f = (λ e. passed_cube f (opened_passed f e), λ c. passed_opened f (cube_passed f c))

-- the record of a taken opening passes check 14 with that file
pub record_passes : RecordPasses
unfolding RecordPasses record_in record_of
record_passes f b e =
    let p = opened_passed f e in
    let h = p.header in
    fit_with (record_of (version_of f) (description_of f) (text_length_of f) (length f)) (length f) (record_fits_lem _ _ _ _ h.not3 h.is-described (words f b) p.long) refl
