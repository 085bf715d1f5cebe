-- What the loops of a reader ask, and what a turn of them gives. Assumes nothing.
use Prim.Native.Nat.{ℕ, ◌+◌, ◌*◌, ◌-◌, ◌≤◌, ◌<◌}
use mathlib.Core.Path.{◌≡◌, ◌∙◌, sym}
use mathlib.Core.List.{List}
use native.Mathlib.Omega.{arith}
use native.Mathlib.Nat.{add-mul, add-sub_cancel_left}
use Rattle.endian.proofs.Puts.{length-peek}
use Rattle.runs.specs.declared.site.Corner.{Corner}
use lib.ListN.{length, take, drop}
use borrow.Rule.Slice.PartMut.{put_mid}
use Rattle.endian.specs.Loops.{tri}
use Rattle.record.specs.declared.Record.{Record}
use Rattle.table.specs.declared.Kind.{Kind}
use Rattle.table.specs.declared.Kind.TheVariants.{Stored}
use Rattle.table.proofs.Tables.{names_narrow}
use Rattle.cube.specs.declared.Region.{Region}
use Rattle.cube.specs.Regions.{run_of, size_of}
use Rattle.runs.specs.declared.Lattice.{Lattice}
use Rattle.runs.specs.declared.site.View.{View}
use Rattle.runs.specs.Boxes.{Boxed, Rows}
use Rattle.runs.specs.Readers.{ItemsLaws, IsRun}
use Rattle.runs.specs.Runs.{Holds}
use Rattle.runs.proofs.Boxes.{run_room, boxed_more1, boxed_run}
use Rattle.runs.proofs.Products.{le-mul-left}
use Rattle.runs.proofs.Rows.{along_in, rows-ends, row_of}
use Rattle.runs.proofs.Steps.{ready-width}

module _ {r : Record} {f : List ℕ} {g : Region} {q : Lattice} {κ : Kind} {m i j k nj nk : ℕ} (h : Rows r f g q κ m i j k nj nk) where
  -- the first sample of the first row is one of the region's
  pub row_holds : Holds g i j k
  row_holds = record { inline = h.in_i; crossline = along_in h.in_j; vertical = along_in h.in_k }

  -- the first row lies in the file
  pub row_stored : (o : ℕ) → κ ≡ Stored o → o + (m + nk) * q.width ≤ length f
  row_stored = rw (ready-width r f g q h.ready) (rows-ends h)

module _ (v : View) {κ : Kind} {m i j k nj nk : ℕ} (h : Rows v.site.record.now v.file.now v.site.region.now v.site.lattice κ m i j k nj nk) where
  -- what is asked of its items
  pub row_run : IsRun v (record { kind = κ; item = m }) nk
  row_run = record { constant = λ x e. names_narrow v.site.record.now v.file.now _ x (sym h.kind ∙ e); stored = row_stored h }

-- a run of a stored brick of items of w bytes lies in the file, and a part of the file has its length
pub run_end : {v : View} {c : Corner} {n o w : ℕ} → IsRun v c n → c.kind ≡ Stored o → w ≡ v.site.lattice.width → o + c.item * w + n * w ≤ length v.file.now
run_end {v} {c} {n} {o} {w} run e ew = rw ew (omega (arith, run.stored o e, add-mul c.item n v.site.lattice.width))

pub part_long : (f : List ℕ) (a n : ℕ) → a + n ≤ length f → length (take (a + n - a) (drop a f)) ≡ n
part_long f a n h = rw (add-sub_cancel_left a n) (length-peek f a n h)

-- n is the number of a row's first sample among the region's, w the elements of a sample
module _ {A : Type 0} {W : Record → ℕ} {S : Record → List ℕ → Region → ℕ → ℕ → ℕ → List A} {I : Record → List ℕ → Kind → ℕ → ℕ → List A} (laws : ItemsLaws W S I) where
  module _ {r : Record} {f : List ℕ} {g : Region} {q : Lattice} {κ : Kind} {m i j k nj nk n w : ℕ} (h : Rows r f g q κ m i j k nj nk) (en : n ≡ tri (run_of g 1) (run_of g 2) i j k) (ew : w ≡ W r) where
    pub row_end : {room : ℕ} → room ≡ size_of g * W r → n * w + nk * w ≤ room
    row_end e = rw (e, en, ew) (run_room (run_of g 0) (run_of g 1) (run_of g 2) i j k nk (W r) h.in_i (along_in h.in_j) h.in_k.within)

    pub row_lt : {room : ℕ} → room ≡ size_of g * W r → n * w < room
    row_lt e = omega (arith, row_end e, le-mul-left nk w h.in_k.some, laws.some r f g q h.ready, ew)

    pub row_box : {d ys : List A} → length d ≡ size_of g * W r → ys ≡ I r f κ m nk
        → Boxed (W r) (run_of g 0) (run_of g 1) (run_of g 2) (S r f g) i 1 j 1 k nk d (put_mid (n * w) (n * w + nk * w - n * w) d ys)
    row_box {d} {ys} size y =
        boxed_run i j k nk (n * w) (n * w + nk * w) d ys (laws.wide r f g q h.ready) size h.in_i (along_in h.in_j) h.in_k.within (rw (en, ew)) (rw ew) (y ∙ laws.row r f g q κ m i j k nj nk h)

  -- a turn of the loop over rows
  pub turn_box : {r : Record} {f : List ℕ} {g : Region} {q : Lattice} {κ : Kind} {m i j k nj nk t n w : ℕ} {d d' ys : List A} → Rows r f g q κ m i j k nj nk → t < nj
      → n ≡ tri (run_of g 1) (run_of g 2) i (j + t) k → w ≡ W r → length d ≡ size_of g * W r → Boxed (W r) (run_of g 0) (run_of g 1) (run_of g 2) (S r f g) i 1 j t k nk d d'
      → ys ≡ I r f κ (m + t * q.side2) nk
      → Boxed (W r) (run_of g 0) (run_of g 1) (run_of g 2) (S r f g) i 1 j (t + 1) k nk d (put_mid (n * w) (n * w + nk * w - n * w) d' ys)
  turn_box h l en ew size b y = boxed_more1 b (row_box (row_of h l) en ew (b.size ∙ size) y)
