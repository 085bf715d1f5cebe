-- What a taken verdict gives the read: the lattice's sizes, and how long the region's bytes are. Assumes nothing.
use Prim.Native.Nat.{ℕ, ◌*◌}
use mathlib.Core.Path.{◌≡◌}
use mathlib.Core.List.{List}
use lib.ListN.{length}
use Rattle.record.specs.declared.Record.{Record}
use Rattle.record.specs.Answers.{Taken}
use Rattle.cube.specs.declared.Region.{Region}
use Rattle.cube.specs.Places.{item_bytes, rows_of}
use Rattle.cube.specs.Regions.{size_of, raw_rows, raw_verdict}
use Rattle.cube.proofs.Regions.{Passed, raw_passed}
use Rattle.cube.proofs.Rows.{passed_length}
use Rattle.runs.specs.declared.Lattice.{Lattice}
use Rattle.runs.specs.Runs.{lattice_of, Allowed, Ready, Laid, Holds}
use Rattle.runs.proofs.Steps.{allowed, ready, laid, some_held}
use Rattle.runs.proofs.Sizes.{Sizes, sizes}

module _ (r : Record) (f : List ℕ) (g : Region) (room : ℕ) (e : raw_verdict r f g room ≡ Taken) where
  passed : Passed r f g room (size_of g * item_bytes r)
  passed = raw_passed r f g room e

  pub taken_allowed : Allowed r g
  taken_allowed = allowed r f g _ _ passed

  pub taken_long : length (raw_rows r (rows_of r f) g) ≡ size_of g * item_bytes r
  taken_long = passed_length r f g _ _ passed

  pub taken_some : Holds g 0 0 0
  taken_some = some_held r f g _ _ passed

  module _ (q : Lattice) (is : q ≡ lattice_of r g) where
    pub taken_laid : Laid r g q
    taken_laid = laid r f g _ _ passed q is

    pub taken_ready : Ready r f g q
    taken_ready = ready r f g _ _ passed q is

    pub taken_sizes : (w : ℕ) → w ≡ q.width → Sizes r g q w room
    taken_sizes w ew = sizes r f g q w room passed is ew
