-- What a taken verdict gives the write: the lattice's sizes. Assumes nothing.
use Prim.Native.Nat.{ℕ, ◌*◌}
use mathlib.Core.Path.{◌≡◌}
use mathlib.Core.List.{List}
use Rattle.record.specs.declared.Record.{Record}
use Rattle.record.specs.Answers.{Taken}
use Rattle.cube.specs.declared.Region.{Region}
use Rattle.cube.specs.Places.{item_bytes}
use Rattle.cube.specs.Regions.{size_of, write_verdict}
use Rattle.cube.proofs.Regions.{Passed, write_passed}
use Rattle.runs.specs.declared.Lattice.{Lattice}
use Rattle.runs.specs.Runs.{lattice_of, Allowed, Laid}
use Rattle.runs.proofs.Steps.{allowed, laid}
use Rattle.runs.proofs.Sizes.{Sizes, sizes}

module _ (r : Record) (f : List ℕ) (g : Region) (room : ℕ) (e : write_verdict r f g room ≡ Taken) where
  passed : Passed r f g room (size_of g * item_bytes r)
  passed = (write_passed r f g room e).0

  pub taken_allowed : Allowed r g
  taken_allowed = allowed r f g _ _ passed

  module _ (q : Lattice) (is : q ≡ lattice_of r g) where
    pub taken_laid : Laid r g q
    taken_laid = laid r f g _ _ passed q is

    pub taken_sizes : (w : ℕ) → w ≡ q.width → Sizes r g q w room
    taken_sizes w ew = sizes r f g q w room passed is ew
