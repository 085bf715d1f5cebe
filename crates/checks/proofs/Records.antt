-- Check 14 as facts: what a record owes that passes it, and that the record which follows from a description passes it. Assumes nothing.
use mathlib.Core.Bool.{Bool, true, false, cond, false≢true}
use mathlib.Core.List.{List}
use mathlib.Core.Logic.{◌⊎◌, inl, inr, ⊎_elim}
use mathlib.Core.Path.{◌≡◌, refl, sym, ◌∙◌}
use Prim.Native.Nat.{ℕ, ◌≤◌, ◌<◌}
use lib.Dec.{eqb}
use lib.ListN.{get_or}
use lib.Ieee.{binary32, of_bits}
use borrow.Author.Tests.{eqb-true, eq-eqb, leb-true, le-leb}
use Rattle.std.proofs.lemmas.Bool.{and_parts, not-false, or_cases, not-true}
use Rattle.floats.specs.Rules.{finite_bits, range_ok, same_bits}
use Rattle.floats.proofs.Patterns.{same_of, same-zero, range-finite}
use Rattle.record.specs.Record.{bound_of, floats_of, grid_of, header_of, levels_of, bricks_of, alphas_of, record_of}
use Rattle.record.specs.declared.Description.{Description}
use Rattle.record.specs.declared.Record.{Record}
use Rattle.checks.specs.Checks.{all3, breaks3, breaks7}
use Rattle.checks.specs.Fits.{same3, grid_fits, numbers_fit, record_fits, breaks14, breaks14_with}
use Rattle.checks.proofs.Described.{taken_is, all3-each, Described, described-all, described-is}

-- a record that passes check 14
pub record Fit (r : Record) : Type 0 where
  pub version_ok : breaks3 r.version ≡ false
  pub is-described : Described r.description r.text
  pub grid_ok : grid_fits r.description r.grid ≡ true
  pub header_is : r.header ≡ header_of r.description r.text
  pub levels-is : r.levels ≡ levels_of r.description
  pub bricks-is : r.bricks ≡ bricks_of r.description
  pub alphas-is : r.alphas ≡ alphas_of r.description
  pub long : r.header ≤ r.length

pub fits_all : (r : Record) → record_fits r ≡ true → Fit r
unfolding record_fits numbers_fit
fits_all r e =
    let a = and_parts _ _ e in
    let b = and_parts _ _ a.0 in
    let c = and_parts _ _ b.0 in
    let n4 = and_parts _ _ a.1 in
    let n3 = and_parts _ _ n4.0 in
    let n2 = and_parts _ _ n3.0 in
    let n1 = and_parts _ _ n2.0 in
    record {
      version_ok = not-true (breaks3 r.version) c.0;
      is-described = described-all r.description r.text (taken_is _ c.1);
      grid_ok = b.1;
      header_is = eqb-true _ _ n1.0;
      levels-is = eqb-true _ _ n1.1;
      bricks-is = eqb-true _ _ n2.1;
      alphas-is = eqb-true _ _ n3.1;
      long = leb-true _ _ n4.1;
    }

pub fits-is : (r : Record) → Fit r → record_fits r ≡ true
unfolding record_fits numbers_fit
fits-is r f =
    simp (f.version_ok, described-is r.description r.text f.is-described, f.grid_ok, eq-eqb _ _ f.header_is, eq-eqb _ _ f.levels-is, eq-eqb _ _ f.bricks-is, eq-eqb _ _ f.alphas-is, le-leb _ _ f.long)

-- fields of 32 bits
pub record Words (d : Description) : Type 0 where
  pub orig : (i : ℕ) → get_or d.orig i 0 < 4294967296
  pub inc : (i : ℕ) → get_or d.inc i 0 < 4294967296
  pub range : (i : ℕ) → get_or d.range i 0 < 4294967296

same3_of : (bs : List ℕ) → ((i : ℕ) → get_or bs i 0 < 4294967296) → all3 finite_bits bs ≡ true → same3 (floats_of bs) bs ≡ true
same3_of bs w e =
    let f = all3-each finite_bits bs e in
    simp (same_of _ (w 0) f.0, same_of _ (w 1) f.1, same_of _ (w 2) f.2)

-- the finite fields of a description that check 7 lets pass
pub record Finites (d : Description) : Type 0 where
  pub origs : all3 finite_bits d.orig ≡ true
  pub incs : all3 finite_bits d.inc ≡ true
  pub coded : (eqb d.datatype 6 ≡ true) ⊎ (range_ok (get_or d.range 0 0) (get_or d.range 1 0) ≡ true)

pub finites : (d : Description) → breaks7 d ≡ false → Finites d
unfolding breaks7
finites d e =
    let a = and_parts _ _ (not-false _ e) in
    let b = and_parts (all3 finite_bits d.orig) (all3 finite_bits d.inc) a.0 in
    record { origs = b.0; incs = b.1; coded = or_cases _ _ a.1 }

bound_same : (k b : ℕ) → b < 4294967296 → (eqb k 6 ≡ true) ⊎ (finite_bits b ≡ true) → same_bits (of_bits binary32 (bound_of k b)) (bound_of k b) ≡ true
bound_same k b w h = go (eqb k 6) refl h
  where
    go : (t : Bool) → eqb k 6 ≡ t → (eqb k 6 ≡ true) ⊎ (finite_bits b ≡ true) → same_bits (of_bits binary32 (cond t 0 b)) (cond t 0 b) ≡ true
    go true e p = same-zero
    go false e p = ⊎_elim (λ (q : eqb k 6 ≡ true). absurd (false≢true (sym e ∙ q))) (λ (q : finite_bits b ≡ true). same_of b w q) p

pub grid-fits : (d : Description) → Words d → Finites d → grid_fits d (grid_of d) ≡ true
unfolding grid_fits grid_of
grid-fits d w f =
    simp (same3_of d.orig w.orig f.origs, same3_of d.inc w.inc f.incs, bound_same d.datatype (get_or d.range 0 0) (w.range 0) end.0, bound_same d.datatype (get_or d.range 1 0) (w.range 1) end.1)
  where
    end : ((eqb d.datatype 6 ≡ true) ⊎ (finite_bits (get_or d.range 0 0) ≡ true)) × ((eqb d.datatype 6 ≡ true) ⊎ (finite_bits (get_or d.range 1 0) ≡ true))
    end =
        ⊎_elim
        (λ (q : eqb d.datatype 6 ≡ true). (inl q, inl q))
        (λ (q : range_ok (get_or d.range 0 0) (get_or d.range 1 0) ≡ true). let r = range-finite _ _ q in (inr r.0, inr r.1))
        f.coded

-- the record that follows from a description passes check 14
pub record_fits_lem : (v : ℕ) (d : Description) (t n : ℕ) → breaks3 v ≡ false → Described d t → Words d → header_of d t ≤ n → Fit (record_of v d t n)
unfolding record_of
record_fits_lem v d t n e p w h =
    record { version_ok = e; is-described = p; grid_ok = grid-fits d w (finites d p.not7); header_is = refl; levels-is = refl; bricks-is = refl; alphas-is = refl; long = h }

pub fit_with : (r : Record) (n : ℕ) → Fit r → r.length ≡ n → breaks14_with r n ≡ false
unfolding breaks14_with
fit_with r n f e = simp (fits-is r f, eq-eqb _ _ e)

pub with_fit : (r : Record) (n : ℕ) → breaks14_with r n ≡ false → Fit r × (r.length ≡ n)
unfolding breaks14_with
with_fit r n e =
    let a = and_parts _ _ (not-false _ e) in
    (fits_all r a.0, eqb-true _ _ a.1)

-- a record that passes check 14 where no file is lent
pub alone_fit : (r : Record) → breaks14 r ≡ false → Fit r
unfolding breaks14
alone_fit r e = fits_all r (not-false (record_fits r) e)
