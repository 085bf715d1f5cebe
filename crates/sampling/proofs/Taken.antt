-- What a taken verdict gives the read: the region's lattice, and a front of the buffer of the region's size. Assumes nothing.
use Prim.Native.Nat.{ℕ, ◌*◌, ◌≤◌}
use mathlib.Core.Path.{◌≡◌, sym, ap₂, ◌∙◌}
use mathlib.Core.List.{List}
use native.Mathlib.Omega.{arith}
use native.Mathlib.Nat.{mul_assoc}
use Rattle.record.specs.declared.Record.{Record}
use Rattle.record.specs.Answers.{Taken}
use Rattle.cube.specs.declared.Region.{Region}
use Rattle.cube.specs.Regions.{run_of, size_of, float_verdict}
use Rattle.cube.proofs.Regions.{Passed, float_passed}
use Rattle.runs.specs.declared.Lattice.{Lattice}
use Rattle.runs.specs.Runs.{lattice_of, Allowed, Ready, Laid, Holds}
use Rattle.runs.proofs.Steps.{allowed, ready, laid, some_held, counts}
use Rattle.runs.proofs.Products.{le-mul-left}

module _ (r : Record) (f : List ℕ) (g : Region) (room : ℕ) (e : float_verdict r f g room ≡ Taken) where
  passed : Passed r f g room (size_of g)
  passed = float_passed r f g room e

  pub taken_allowed : Allowed r g
  taken_allowed = allowed r f g room (size_of g) passed

  pub taken_some : Holds g 0 0 0
  taken_some = some_held r f g room (size_of g) passed

  module _ (q : Lattice) (is : q ≡ lattice_of r g) where
    pub taken-ready : Ready r f g q
    taken-ready = ready r f g room (size_of g) passed q is

    pub taken_laid : Laid r g q
    taken_laid = laid r f g room (size_of g) passed q is

    count-is : q.count0 ≡ run_of g 0
    count-is = (counts r f g q taken-ready).0

    pub whole_is : q.count0 * (q.count1 * q.count2) ≡ size_of g
    whole_is = ap₂ ◌*◌ count-is (ap₂ ◌*◌ (counts r f g q taken-ready).1 (counts r f g q taken-ready).2) ∙ sym (mul_assoc (run_of g 0) (run_of g 1) (run_of g 2))

    pub plane_fits : q.count1 * q.count2 ≤ q.count0 * (q.count1 * q.count2)
    plane_fits = le-mul-left q.count0 (q.count1 * q.count2) (omega (arith, passed.region.run0.0, count-is))

    pub whole-fits : q.count0 * (q.count1 * q.count2) ≤ room
    whole-fits = omega (arith, whole_is, passed.enough)
