-- The bytes of a run, of an inline and of a region that its checks took: none of the products wraps, and the lent bytes are enough. Assumes nothing.
use Prim.Native.Nat.{ℕ, ◌*◌, ◌≤◌}
use mathlib.Core.Path.{◌≡◌, sym, ap, ap₂, ◌∙◌}
use mathlib.Core.List.{List}
use native.Mathlib.Omega.{arith}
use native.Mathlib.Nat.{mul_assoc, le_trans}
use Rattle.record.specs.declared.Record.{Record}
use Rattle.cube.specs.declared.Region.{Region}
use Rattle.cube.specs.Places.{item_bytes}
use Rattle.cube.specs.Regions.{run_of, size_of}
use Rattle.cube.proofs.Regions.{Passed}
use Rattle.runs.specs.declared.Lattice.{Lattice}
use Rattle.runs.specs.Runs.{lattice_of, Ready}
use Rattle.runs.proofs.Products.{le-mul-left}
use Rattle.runs.proofs.Steps.{ready, counts, ready-width}

-- what the code makes of a lattice's counts and an item of w bytes
pub record Sizes (r : Record) (g : Region) (q : Lattice) (w room : ℕ) : Type 0 where
  pub run : q.count2 * w ≡ run_of g 2 * item_bytes r
  pub plane : q.count1 * (q.count2 * w) ≡ run_of g 1 * (q.count2 * w)
  pub whole : q.count0 * (q.count1 * (q.count2 * w)) ≡ run_of g 0 * (q.count1 * (q.count2 * w))
  pub size : q.count0 * (q.count1 * (q.count2 * w)) ≡ size_of g * item_bytes r
  pub run_in : q.count2 * w ≤ room
  pub plane_in : q.count1 * (q.count2 * w) ≤ room
  pub whole_in : q.count0 * (q.count1 * (q.count2 * w)) ≤ room

module _ (r : Record) (f : List ℕ) (g : Region) (q : Lattice) (w room : ℕ) (h : Passed r f g room (size_of g * item_bytes r)) (e : q ≡ lattice_of r g) (ew : w ≡ q.width) where
  abbrev set : Ready r f g q
  set = ready r f g room (size_of g * item_bytes r) h q e

  pub sizes : Sizes r g q w room
  sizes =
      let c = counts r f g q set in
      let a : q.count2 * w ≡ run_of g 2 * item_bytes r = ap₂ ◌*◌ c.2 (ew ∙ ready-width r f g q set) in
      let b : q.count1 * (q.count2 * w) ≡ run_of g 1 * (q.count2 * w) = ap (λ (n : ℕ). n * (q.count2 * w)) c.1 in
      let d : q.count0 * (q.count1 * (q.count2 * w)) ≡ run_of g 0 * (q.count1 * (q.count2 * w)) = ap (λ (n : ℕ). n * (q.count1 * (q.count2 * w))) c.0 in
      let s : q.count0 * (q.count1 * (q.count2 * w)) ≡ size_of g * item_bytes r =
      d ∙ ap (λ (n : ℕ). run_of g 0 * n) (b ∙ ap (λ (n : ℕ). run_of g 1 * n) a) ∙ sym (mul_assoc (run_of g 0 * run_of g 1) (run_of g 2) (item_bytes r) ∙ mul_assoc (run_of g 0) (run_of g 1) (run_of g 2 * item_bytes r)) in
      let z : q.count0 * (q.count1 * (q.count2 * w)) ≤ room = omega (arith, s, h.enough) in
      let y : q.count1 * (q.count2 * w) ≤ room = le_trans (le-mul-left q.count0 _ (omega (arith, c.0, h.region.run0))) z in
      record {
        run = a;
        plane = b;
        whole = d;
        size = s;
        run_in = le_trans (le-mul-left q.count1 _ (omega (arith, c.1, h.region.run1))) y;
        plane_in = y;
        whole_in = z;
      }
