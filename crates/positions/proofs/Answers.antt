-- The answers of position, and that the grid of a record that passes check 14 is finite. Assumes nothing.
use mathlib.Core.Bool.{true, false, ◌&&◌}
use mathlib.Core.List.{List}
use mathlib.Core.Path.{◌≡◌, sym}
use Prim.Native.Nat.{ℕ, ◌≤◌, ◌<◌}
use native.Mathlib.Omega.{arith}
use lib.Dec.{T}
use lib.Ieee.{Float, nan}
use lib.ListN.{get_or}
use borrow.Author.Tests.{le-leb, lt-leb}
use Rattle.std.proofs.lemmas.Bool.{and_parts}
use Rattle.geometry.specs.Limits.{size_limit}
use Rattle.floats.specs.Rules.{finite, finite_bits, same_bits}
use Rattle.floats.specs.Position.{position_of, Near}
use Rattle.floats.proofs.Patterns.{same_float, finite-fits}
use Rattle.record.specs.Record.{size_of}
use Rattle.record.specs.declared.Record.{Record}
use Rattle.checks.specs.Checks.{all3}
use Rattle.checks.specs.Fits.{same3, grid_fits, breaks14}
use Rattle.checks.proofs.Described.{all3-each, each_of, described_sized}
use Rattle.checks.proofs.Records.{alone_fit, Fit, finites}
use Rattle.std.specs.Prelude.{Result, Ok, Err}
use Rattle.record.specs.declared.Refusal.{Refusal}
use Rattle.record.specs.declared.Refusal.TheVariants as refusal
use Rattle.positions.specs.Positions.{orig_in, inc_in, position_answer, PositionNear}

-- ---- floats with the bits of finite fields are finite
same-finite : (x : Float) (b : ℕ) → same_bits x b ≡ true → finite_bits b ≡ true → T (finite x)
same-finite x b s f = (finite-fits x b f (same_float x b s)).0

three-finite : (xs : List Float) (bs : List ℕ) → same3 xs bs ≡ true → all3 finite_bits bs ≡ true → (k : ℕ) → k < 3 → T (finite (get_or xs k nan))
three-finite xs bs s f =
    let g = all3-each finite_bits bs f in
    let p = and_parts (same_bits (get_or xs 0 nan) (get_or bs 0 0) && same_bits (get_or xs 1 nan) (get_or bs 1 0)) (same_bits (get_or xs 2 nan) (get_or bs 2 0)) s in
    let q = and_parts (same_bits (get_or xs 0 nan) (get_or bs 0 0)) (same_bits (get_or xs 1 nan) (get_or bs 1 0)) p.0 in
    each_of (λ k. T (finite (get_or xs k nan))) (same-finite _ _ q.0 g.0) (same-finite _ _ q.1 g.1) (same-finite _ _ p.1 g.2)

-- what position asks of a record that passes check 14
module _ (r : Record) (e : breaks14 r ≡ false) where
  passes : Fit r
  passes = alone_fit r e

  pub grid-finite : (k : ℕ) → k < 3 → T (finite (orig_in r k)) × T (finite (inc_in r k))
  unfolding grid_fits
  grid-finite k h =
      let d = r.description in
      let g = r.grid in
      let f = finites d passes.is-described.not7 in
      let a = and_parts _ _ passes.grid_ok in
      let b = and_parts _ _ a.0 in
      let c = and_parts (same3 g.orig d.orig) (same3 g.inc d.inc) b.0 in
      (three-finite g.orig d.orig c.0 f.origs k h, three-finite g.inc d.inc c.1 f.incs k h)

  pub index-small : (k i : ℕ) → k < 3 → i < size_of r.description k → i < size_limit
  index-small k i h below =
      let s = described_sized _ _ passes.is-described in
      omega (arith, each_of (λ k. size_of r.description k ≤ size_limit) s.size0.high s.size1.high s.size2.high k h)

-- ---- the answer by its cases, and its promise
module _ (r : Record) (k i : ℕ) where
  abbrev Promised : Result Float Refusal → Type 0
  Promised a = record { answer : a ≡ position_answer r k i; near : PositionNear r k i a }

  refused-is : (x : Refusal) → position_answer r k i ≡ Err x → Promised (Err x)
  unfolding PositionNear
  refused-is x e = record { answer = sym e; near = λ y t. let z : ◌≡◌ {A = ℕ} 0 1 = cc in absurd (omega arith) }

  pub breaks_14 : breaks14 r ≡ true → Promised (Err refusal.Record)
  unfolding position_answer
  breaks_14 e = refused-is _ (simp e)

  pub no_dimension : breaks14 r ≡ false → 3 ≤ k → Promised (Err refusal.Index)
  unfolding position_answer
  no_dimension e h = refused-is _ (simp (e, le-leb 3 k h))

  pub no_index : breaks14 r ≡ false → k < 3 → size_of r.description k ≤ i → Promised (Err refusal.Index)
  unfolding position_answer
  no_index e h g = refused-is _ (simp (e, lt-leb 3 k h, le-leb (size_of r.description k) i g))

  pub inside : (x : Float) → breaks14 r ≡ false → k < 3 → i < size_of r.description k
      → (x ≡ position_of (orig_in r k) (inc_in r k) i) × Near (orig_in r k) (inc_in r k) i x → Promised (Ok x)
  unfolding position_answer PositionNear
  inside x e h g p = record {
    answer = simp (e, lt-leb 3 k h, lt-leb (size_of r.description k) i g, p.0);
    near = λ y t. let q : x ≡ y = cc in rw q at p.1;
  }
