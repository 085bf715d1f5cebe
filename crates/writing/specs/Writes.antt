-- For the private functions of writing alone: the parts of a region's write, and what they may rely on.
use Rattle.std.specs.Prelude.{List, ◌≡◌, ℕ, ◌*◌, ◌<◌}
use Rattle.endian.specs.Loops.{up}
use Rattle.record.specs.declared.Record.{Record}
use Rattle.table.specs.declared.Kind.TheVariants.{Stored}
use Rattle.cube.specs.declared.Region.{Region}
use Rattle.cube.specs.Places.{item_bytes, kind_in, brick_of}
use Rattle.cube.specs.Regions.{run_of, place, chunk, store}
use Rattle.runs.specs.declared.Lattice.{Lattice}
use Rattle.runs.specs.declared.site.Site.{Site}
use Rattle.runs.specs.Runs.{Ready, Holds}

module _ (r : Record) (g : Region) where
  -- how many bytes a vertical run has, and an inline
  abbrev pub run_bytes : ℕ
  run_bytes = run_of g 2 * item_bytes r

  abbrev pub plane_bytes : ℕ
  plane_bytes = run_of g 1 * run_bytes

  -- the k-th item of a run's bytes put into its place
  abbrev pub sample_to : ℕ → ℕ → List ℕ → ℕ → List ℕ → List ℕ
  sample_to i j d k h = store r h (place g i j k) (chunk (item_bytes r) d k)

  -- the items of a run, and the runs of an inline
  abbrev pub run_to : ℕ → ℕ → List ℕ → List ℕ → List ℕ
  run_to i j d h = up (run_of g 2) (sample_to i j d) h

  abbrev pub plane_to : ℕ → List ℕ → List ℕ → List ℕ
  plane_to i d h = up (run_of g 1) (λ j. run_to i j (chunk run_bytes d j)) h

-- what a taken verdict on the write leaves: there are samples, and every one lies in a stored brick
pub record Writable (r : Record) (f : List ℕ) (g : Region) (q : Lattice) : Type 0 where
  pub ready : Ready r f g q
  pub some : Holds g 0 0 0
  pub stored : (i j k : ℕ) → i < run_of g 0 → j < run_of g 1 → k < run_of g 2 → (o : ℕ) × (kind_in r f (brick_of r (place g i j k)) ≡ Stored o)

-- the same of a site
abbrev pub IsWritable : Site → List ℕ → Type 0
IsWritable s f = Writable s.record.now f s.region.now s.lattice
