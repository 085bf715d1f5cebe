-- That the items of a brick, read as bytes, are the bytes of its samples. Assumes nothing.
use Prim.Native.Nat.{ℕ, ◌+◌, ◌<◌}
use mathlib.Core.Path.{◌≡◌, sym}
use mathlib.Core.List.{List}
use native.Mathlib.Nat.{le_trans}
use lib.ListN.{length}
use Rattle.endian.specs.Loops.{cat}
use Rattle.record.specs.declared.Record.{Record}
use Rattle.table.specs.declared.Kind.{Kind}
use Rattle.table.specs.declared.Kind.TheVariants.{Missing, Constant, Stored}
use Rattle.cube.specs.declared.Region.{Region}
use Rattle.cube.specs.Places.{item_bytes, kind_in, brick_of, byte_of}
use Rattle.cube.specs.Regions.{run_of, place}
use Rattle.cube.proofs.Places.{item-fits}
use Rattle.cube.proofs.Rows.{row_width}
use Rattle.cube.proofs.Runs.{run_missing, run_constant, run_read}
use Rattle.runs.specs.declared.Lattice.{Lattice}
use Rattle.runs.specs.Runs.{Ready}
use Rattle.runs.specs.Boxes.{Rows}
use Rattle.runs.specs.Readers.{ItemsLaws}
use Rattle.runs.proofs.Steps.{ready_fit, some_bytes}
use Rattle.reading.specs.Items.{raw_items, raw_at}

sample-bytes : (r : Record) (f : List ℕ) (g : Region) (q : Lattice) → Ready r f g q → (x y z : ℕ) → x < run_of g 0 → y < run_of g 1 → z < run_of g 2 → length (raw_at r f g x y z) ≡ item_bytes r
sample-bytes r f g q ready x y z hx hy hz =
    row_width r f (place g x y z) (λ o e. le_trans (item-fits r (ready_fit r f g q ready) o (place g x y z)) (ready.ends x y z hx hy hz o e).high)

row_bytes : (r : Record) (f : List ℕ) (g : Region) (q : Lattice) (κ : Kind) (m i j k nj nk : ℕ) → Rows r f g q κ m i j k nj nk → raw_items r f κ m nk ≡ cat nk (λ t. raw_at r f g i j (k + t))
unfolding byte_of
row_bytes r f g q κ m i j k nj nk h = go κ h.kind
  where
    go : (x : Kind) → x ≡ kind_in r f (brick_of r (place g i j k)) → raw_items r f x m nk ≡ cat nk (λ t. raw_at r f g i j (k + t))
    go Missing e = sym (run_missing r f g i j k nk h.in_k.brick (sym e))
    go (Constant v) e = sym (run_constant r f g i j k nk h.in_k.brick v (sym e))
    go (Stored o) e = rw h.item (sym (run_read r f g i j k nk h.in_k.brick o (sym e)))

pub raw_laws : ItemsLaws item_bytes raw_at raw_items
raw_laws = record { some = some_bytes; wide = sample-bytes; row = row_bytes }
