-- What a taken verdict gives the loops over a region, and a turn of a loop over a vertical run. Assumes nothing.
use Prim.Native.Nat.{ℕ, ◌+◌, ◌*◌, ◌%◌, ◌≤◌, ◌<◌}
use mathlib.Core.Path.{◌≡◌, sym, ap, ◌∙◌}
use mathlib.Core.List.{List}
use mathlib.Core.Logic.{⊎_elim}
use native.Mathlib.Omega.{arith}
use native.Mathlib.Nat.{mod-lt, mul-le-mul_right}
use lib.Arith.{digits_lt}
use Rattle.endian.proofs.Digits.{next_item}
use Rattle.geometry.specs.Geometry.{extent}
use Rattle.geometry.proofs.Levels.{at_direct, half_le}
use Rattle.record.specs.Record.{side_of, size_of, brick_bytes_of}
use Rattle.record.specs.declared.Record.{Record}
use Rattle.checks.proofs.Described.{described_sized, described-width}
use Rattle.checks.proofs.Records.{Fit, fits_all, fits-is}
use Rattle.table.specs.Entries.{Width}
use Rattle.cube.specs.declared.Region.{Region}
use Rattle.cube.specs.Places.{item_bytes, brick_of, item_no, missing_brick}
use Rattle.cube.specs.Regions.{start_of, run_of, place}
use Rattle.cube.proofs.Valid.{brick_length}
use Rattle.cube.proofs.Places.{sides, brick-lt}
use Rattle.cube.proofs.Regions.{Passed, touched_fits, all-inside}
use Rattle.cube.proofs.Writes.{Kept, kept_kind}
use Rattle.runs.specs.declared.Lattice.{Lattice}
use Rattle.runs.specs.Boxes.{Along}
use Rattle.runs.specs.Runs.{lattice_of, Allowed, Placed, Ready, Laid, Holds}

-- ---- from the verdict to the loops

extent-le : (size l : ℕ) → extent size l ≤ size
extent-le size l = rw (← at_direct size l) (half_le size l)

module _ (r : Record) (f : List ℕ) (g : Region) (room need : ℕ) (h : Passed r f g room need) where
  pub allowed : Allowed r g
  allowed = record { fitting = fits-is r h.lent.fit; leveled = rw h.lent.fit.levels-is h.region.level }

  pub ready : (q : Lattice) → q ≡ lattice_of r g → Ready r f g q
  ready q e =
      record {
        laid = e;
        fitting = fits-is r h.lent.fit;
        same_length = h.lent.same_length;
        few =
            let z = described_sized _ _ h.lent.fit.is-described in (
              omega (arith, h.region.run0, extent-le (size_of r.description 0) g.level, z.size0),
              omega (arith, h.region.run1, extent-le (size_of r.description 1) g.level, z.size1),
              omega (arith, h.region.run2, extent-le (size_of r.description 2) g.level, z.size2),
            );
        inside = all-inside r f g room need h;
        ends = λ i j k hi hj hk o s. let t = touched_fits r f g room need h i j k hi hj hk o s in record { low = t.0; high = t.1 };
      }

  pub laid : (q : Lattice) → q ≡ lattice_of r g → Laid r g q
  laid q e = record { laid = e; fitting = fits-is r h.lent.fit }

  pub some_held : Holds g 0 0 0
  some_held = record { inline = omega (arith, h.region.run0); crossline = omega (arith, h.region.run1); vertical = omega (arith, h.region.run2) }

module _ (r : Record) (f : List ℕ) (g : Region) (q : Lattice) (h : Ready r f g q) where
  pub ready_fit : Fit r
  ready_fit = fits_all r h.fitting

  -- each sample of the region
  pub placed : (i j k : ℕ) → i < run_of g 0 → j < run_of g 1 → k < run_of g 2 → Placed r g q i j k
  placed i j k hi hj hk = record { laid = h.laid; fitting = h.fitting; inside = h.inside i j k hi hj hk }

  -- the lattice's counts and width are the region's and the record's
  pub counts : (q.count0 ≡ run_of g 0) × (q.count1 ≡ run_of g 1) × (q.count2 ≡ run_of g 2)
  unfolding lattice_of
  counts = (ap (λ (x : Lattice). x.count0) h.laid, ap (λ (x : Lattice). x.count1) h.laid, ap (λ (x : Lattice). x.count2) h.laid)

  pub ready-width : q.width ≡ item_bytes r
  unfolding lattice_of
  ready-width = ap (λ (x : Lattice). x.width) h.laid

  pub ready-missing : q.missing ≡ missing_brick r
  unfolding lattice_of
  ready-missing = ap (λ (x : Lattice). x.missing) h.laid

  pub width_of : Width (item_bytes r)
  width_of = described-width _ _ ready_fit.is-described

  pub some_bytes : 0 < item_bytes r
  some_bytes = ⊎_elim (λ e. omega arith) (⊎_elim (λ e. omega arith) (λ e. omega arith)) width_of

  pub lattice_width : Width q.width
  lattice_width = rw ready-width width_of

  -- and so in a file that keeps the headers
  pub ready-kept : (f' : List ℕ) → Kept r f f' → Ready r f' g q
  ready-kept f' κ =
      record {
        laid = h.laid;
        fitting = h.fitting;
        same_length = h.same_length ∙ sym κ.same_length;
        few = h.few;
        inside = h.inside;
        ends = λ i j k hi hj hk o s.
            let e = h.ends i j k hi hj hk o (sym (kept_kind r f f' κ (brick_of r (place g i j k)) (brick-lt r ready_fit (place g i j k) (h.inside i j k hi hj hk))) ∙ s) in
            record { low = e.low; high = rw κ.same_length e.high };
      }

-- ---- a turn

-- the bytes that a turn moves are the brick's
pub step_fits : (r : Record) (g : Region) (i j t c o : ℕ) → Fit r → Along r g 2 t c → o + (item_no r (place g i j t) + c) * item_bytes r ≤ o + brick_length r
unfolding item_no brick_bytes_of
step_fits r g i j t c o ok s =
    let s1 : ℕ = side_of r.description 1 in
    let s2 : ℕ = side_of r.description 2 in
    let x : ℕ = (start_of g 0 + i) % side_of r.description 0 in
    let y : ℕ = (start_of g 1 + j) % s1 in
    let a : x * s1 + y < side_of r.description 0 * s1 = digits_lt (mod-lt (start_of g 0 + i) (sides r ok).0) (mod-lt (start_of g 1 + j) (sides r ok).1) in
    let b : (x * s1 + y) * s2 + (start_of g 2 + t) % s2 + c ≤ side_of r.description 0 * s1 * s2 = omega (arith, next_item s2 (x * s1 + y) (side_of r.description 0 * s1) a, s.brick) in
    omega (arith, mul-le-mul_right (item_bytes r) b)
