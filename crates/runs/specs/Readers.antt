-- What a way to read items owes. w is the number of elements that an item takes in the buffer, s what a record, a file and a region have at a
-- sample, and items what n items of a brick of one kind are read as, from an item on.
use Rattle.std.specs.Prelude.{List, ◌≡◌, ℕ, ◌+◌, ◌*◌, ◌^◌, ◌≤◌, ◌<◌, length}
use Rattle.endian.specs.Loops.{cat}
use Rattle.record.specs.declared.Record.{Record}
use Rattle.table.specs.declared.Kind.{Kind}
use Rattle.table.specs.declared.Kind.TheVariants.{Constant, Stored}
use Rattle.cube.specs.declared.Region.{Region}
use Rattle.cube.specs.Places.{item_bytes}
use Rattle.cube.specs.Regions.{run_of}
use Rattle.runs.specs.declared.Lattice.{Lattice}
use Rattle.runs.specs.declared.site.Corner.{Corner}
use Rattle.runs.specs.declared.site.View.{View}
use Rattle.runs.specs.Boxes.{Rows}
use Rattle.runs.specs.Runs.{Ready}

pub record ItemsLaws {A : Type 0} (w : Record → ℕ) (s : Record → List ℕ → Region → ℕ → ℕ → ℕ → List A) (items : Record → List ℕ → Kind → ℕ → ℕ → List A) : Type 0 where
  -- a sample takes some elements, each sample as many
  pub some : (r : Record) (f : List ℕ) (g : Region) (q : Lattice) → Ready r f g q → 0 < w r
  pub wide : (r : Record) (f : List ℕ) (g : Region) (q : Lattice) → Ready r f g q → (x y z : ℕ) → x < run_of g 0 → y < run_of g 1 → z < run_of g 2 → length (s r f g x y z) ≡ w r
  -- the items of a row are read as its samples
  pub row : (r : Record) (f : List ℕ) (g : Region) (q : Lattice) (κ : Kind) (m i j k nj nk : ℕ) → Rows r f g q κ m i j k nj nk → items r f κ m nk ≡ cat nk (λ t. s r f g i j (k + t))

-- n items from the corner's on are its brick's: the value of a constant one is one of its type, and a stored one has them in the file
pub record IsRun (v : View) (c : Corner) (n : ℕ) : Type 0 where
  pub constant : (x : ℕ) → c.kind ≡ Constant x → x < 256 ^ item_bytes v.site.record.now
  pub stored : (o : ℕ) → c.kind ≡ Stored o → o + (c.item + n) * v.site.lattice.width ≤ length v.file.now
