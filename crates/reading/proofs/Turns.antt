-- Whole columns of a brick that are the region's whole columns: their items are one run, which comes back as a box. Assumes nothing.
use Prim.Native.Nat.{ℕ, zero, suc, ◌+◌, ◌*◌, ◌-◌, ◌≤◌, ◌<◌}
use mathlib.Core.Path.{◌≡◌, sym, ap, ◌∙◌}
use mathlib.Core.List.{List, ◌++◌}
use mathlib.Core.Logic.{◌⊎◌, ⊎_elim}
use native.Mathlib.Omega.{arith}
use native.Mathlib.Nat.{one-mul, add-mul, zero-mul, zero-add, suc-mul}
use lib.ListN.{length}
use lib.Seq.{take-add, drop-drop}
use borrow.Rule.Slice.PartMut.{put_mid}
use Rattle.endian.specs.Loops.{cat, tri}
use Rattle.endian.specs.Bytes.{lows}
use Rattle.endian.proofs.Cats.{cat-add, cat-same}
use Rattle.record.specs.declared.Record.{Record}
use Rattle.table.specs.declared.Kind.{Kind}
use Rattle.table.specs.declared.Kind.TheVariants.{Missing, Constant, Stored}
use Rattle.cube.specs.declared.Region.{Region}
use Rattle.cube.specs.Places.{item_bytes}
use Rattle.cube.specs.Regions.{run_of, size_of}
use Rattle.runs.specs.declared.Lattice.{Lattice}
use Rattle.runs.specs.declared.site.View.{View}
use Rattle.runs.specs.Runs.{Ready}
use Rattle.runs.specs.Boxes.{Boxed, Rows}
use Rattle.runs.specs.Readers.{IsRun}
use Rattle.runs.proofs.Boxes.{rows-room, boxed_rows}
use Rattle.runs.proofs.Readers.{row_stored, row_run, row_end, row_box}
use Rattle.runs.proofs.Rows.{row_of, all_run, top, columns_ends}
use Rattle.runs.proofs.Steps.{ready-width, ready-missing}
use Rattle.reading.specs.Items.{items_of, raw_items, raw_at}
use Rattle.reading.specs.Laws.{raw_laws}

-- items, and those after them
items-add : (f : List ℕ) (w v₀ : ℕ) (κ : Kind) (m a b : ℕ) → items_of f w v₀ κ m (a + b) ≡ items_of f w v₀ κ m a ++ items_of f w v₀ κ (m + a) b
items-add f w v₀ Missing m a b = cat-add a b (λ t. lows w v₀)
items-add f w v₀ (Constant v) m a b = cat-add a b (λ t. lows w v)
items-add f w v₀ (Stored o) m a b =
    let e : o + m * w + a * w ≡ o + (m + a) * w = omega (arith, add-mul m a w) in
    rw (add-mul a b w, take-add, drop-drop, e)

-- n times c items, one after the other
items-join : (f : List ℕ) (w v₀ : ℕ) (κ : Kind) (m c n : ℕ) → cat n (λ s. items_of f w v₀ κ (m + s * c) c) ≡ items_of f w v₀ κ m (n * c)
unfolding cat
items-join f w v₀ Missing m c zero = rw zero-mul
items-join f w v₀ (Constant v) m c zero = rw zero-mul
items-join f w v₀ (Stored o) m c zero = rw (zero-mul c, zero-mul w)
items-join f w v₀ κ m c (suc n) =
    ap (λ (l : List ℕ). l ++ items_of f w v₀ κ (m + n * c) c) (items-join f w v₀ κ m c n) ∙ sym (items-add f w v₀ κ m (n * c) c) ∙ ap (items_of f w v₀ κ m) (sym (suc-mul n c))

-- the items of a brick of kind κ', in the words of the lattice, are those of the record's brick
pub items_made : {r : Record} {f : List ℕ} {g : Region} {q : Lattice} {κ κ' : Kind} {w : ℕ} {ys : List ℕ} (m n : ℕ) → Ready r f g q → w ≡ q.width → κ ≡ κ'
    → ys ≡ items_of f w q.missing.value κ' m n → ys ≡ raw_items r f κ m n
items_made {r} {f} {g} {q} m n ready ew e y = y ∙ rw (ew, ready-width r f g q ready, ready-missing r f g q ready, e)

-- whole columns; n is the number of their first sample among the region's, w the bytes of a sample
module _ {r : Record} {f : List ℕ} {g : Region} {q : Lattice} {κ : Kind} {m i j k nj nk n w : ℕ} (h : Rows r f g q κ m i j k nj nk) (whole : nk ≡ q.side2) (all : nk ≡ q.count2)
    (en : n ≡ tri (run_of g 1) (run_of g 2) i j k) (ew : w ≡ item_bytes r) where
  first : n ≡ tri (run_of g 1) (run_of g 2) i j 0
  first = en ∙ ap (λ (x : ℕ). tri (run_of g 1) (run_of g 2) i j x) (top h whole all)

  columns_end : {room : ℕ} → room ≡ size_of g * item_bytes r → n * w + nj * nk * w ≤ room
  columns_end e = rw (e, first, ew, all_run h whole all) (rows-room (run_of g 0) (run_of g 1) (run_of g 2) i j nj (item_bytes r) h.in_i h.in_j.within)

  column_bytes : (x : ℕ) → x < nj → raw_items r f κ (m + x * nk) nk ≡ cat (run_of g 2) (λ t. raw_at r f g i (j + x) t)
  column_bytes x l =
      ap (λ (z : ℕ). raw_items r f κ (m + x * z) nk) whole ∙ raw_laws.row r f g q κ _ i (j + x) k 1 nk (row_of h l)
      ∙ ap (λ (z : ℕ). cat z (λ t. raw_at r f g i (j + x) (k + t))) (all_run h whole all)
      ∙ cat-same (run_of g 2) _ _ (λ t _. ap (raw_at r f g i (j + x)) (ap (λ (z : ℕ). z + t) (top h whole all) ∙ zero-add t))

  columns_box : {d ys : List ℕ} → length d ≡ size_of g * item_bytes r → ys ≡ raw_items r f κ m (nj * nk)
      → Boxed (item_bytes r) (run_of g 0) (run_of g 1) (run_of g 2) (raw_at r f g) i 1 j nj k nk d (put_mid (n * w) (n * w + nj * nk * w - n * w) d ys)
  columns_box {d} {ys} size y =
      rw (top h whole all, all_run h whole all)
      (boxed_rows i j nj (n * w) (n * w + nj * run_of g 2 * w) d ys (raw_laws.wide r f g q h.ready) size h.in_i h.in_j.within (rw (first, ew)) (rw ew)
      (y ∙ sym (items-join f (item_bytes r) _ κ m nk nj) ∙ cat-same nj _ _ column_bytes))

-- an inline of a box that is one run
module _ (v : View) {κ : Kind} {m i j k nj nk : ℕ} (h : Rows v.site.record.now v.file.now v.site.region.now v.site.lattice κ m i j k nj nk)
    (one : (nj ≡ 1) ⊎ ((nk ≡ v.site.lattice.side2) × (nk ≡ v.site.lattice.count2))) where
  abbrev r : Record
  r = v.site.record.now

  abbrev g : Region
  g = v.site.region.now

  once : nj ≡ 1 → nj * nk ≡ nk
  once e = ap (λ (x : ℕ). x * nk) e ∙ one-mul nk

  run_stored : (o : ℕ) → κ ≡ Stored o → o + (m + nj * nk) * v.site.lattice.width ≤ length v.file.now
  run_stored = ⊎_elim (λ e. rw (once e) (row_stored h)) (λ p. rw (ready-width r v.file.now g v.site.lattice h.ready) (columns_ends h p.0 p.1)) one

  pub run_asks : IsRun v (record { kind = κ; item = m }) (nj * nk)
  run_asks = record { constant = (row_run v h).constant; stored = run_stored }

  module _ {n w : ℕ} (en : n ≡ tri (run_of g 1) (run_of g 2) i j k) (ew : w ≡ v.site.lattice.width) where
    wide : w ≡ item_bytes r
    wide = ew ∙ ready-width r v.file.now g v.site.lattice h.ready

    pub run_room : {room : ℕ} → room ≡ size_of g * item_bytes r → n * w + nj * nk * w ≤ room
    run_room e = ⊎_elim (λ x. rw (once x) (row_end raw_laws h en wide e)) (λ p. columns_end h p.0 p.1 en wide e) one

    pub run_box : {d ys : List ℕ} → length d ≡ size_of g * item_bytes r → ys ≡ raw_items r v.file.now κ m (nj * nk)
        → Boxed (item_bytes r) (run_of g 0) (run_of g 1) (run_of g 2) (raw_at r v.file.now g) i 1 j nj k nk d (put_mid (n * w) (n * w + nj * nk * w - n * w) d ys)
    run_box size y = ⊎_elim (λ x. rw (once x, x) (row_box raw_laws h en wide size (rw (once x) at y))) (λ p. columns_box h p.0 p.1 en wide size y) one
