-- The rows of a box: where each lies in its brick, in the file and in the buffer, and that none of these numbers wraps. Assumes nothing.
use Prim.Native.Nat.{ℕ, ◌+◌, ◌*◌, ◌/◌, ◌%◌, ◌≤◌, ◌<◌}
use mathlib.Core.Path.{◌≡◌, sym, ap, ◌∙◌}
use mathlib.Core.List.{List}
use native.Mathlib.Omega.{arith}
use native.Mathlib.Nat.{le_trans, div-add-mod', mul-one, mul-le-mul, mul-le-mul_right, le-mul_of_pos_right}
use lib.ListN.{length}
use lib.Arith.{digits_mod}
use Rattle.geometry.specs.Limits.{size_limit}
use Rattle.endian.specs.Loops.{tri}
use Rattle.record.specs.Record.{side_of, brick_bytes_of}
use Rattle.record.specs.declared.Record.{Record}
use Rattle.checks.proofs.Described.{described_sized}
use Rattle.table.specs.declared.Kind.{Kind}
use Rattle.table.specs.declared.Kind.TheVariants.{Stored}
use Rattle.cube.specs.declared.Region.{Region}
use Rattle.cube.specs.Places.{item_bytes, kind_in, brick_of, item_no}
use Rattle.cube.specs.Regions.{start_of, run_of, place, size_of}
use Rattle.runs.specs.declared.Lattice.{Lattice}
use Rattle.runs.specs.Runs.{lattice_of, Placed, Ready, Holds}
use Rattle.runs.specs.Boxes.{Along, Rows, Block}
use Rattle.runs.proofs.Lattices.{Numbers, numbers, item_made}
use Rattle.runs.proofs.Steps.{ready_fit, placed, counts}
use Rattle.runs.proofs.Boxes.{run_room, inline-brick, inline-item, row_brick, row_item, row_fits, rows_fit}

-- ---- in the buffer

-- c items of a row from i, j, k on, in a buffer of size items, with the partial sums of its place
pub record Spot (m n i j k c size : ℕ) : Type 0 where
  pub plane : i * m ≤ size
  pub line : i * m + j ≤ size
  pub run : (i * m + j) * n ≤ size
  pub end : (i * m + j) * n + k + c ≤ size

spot_of : (m n i j k c size : ℕ) → k < n → (i * m + j) * n + k + c ≤ size → Spot m n i j k c size
spot_of m n i j k c size hk h =
    let up : i * m + j ≤ (i * m + j) * n = le-mul_of_pos_right (i * m + j) (omega arith) in
    record { plane = omega arith; line = omega arith; run = omega arith; end = h }

-- ---- a region's lattice

module _ {r : Record} {f : List ℕ} {g : Region} {q : Lattice} (ready : Ready r f g q) where
  sides_are : (q.side0 ≡ side_of r.description 0) × (q.side1 ≡ side_of r.description 1) × (q.side2 ≡ side_of r.description 2)
  unfolding lattice_of
  sides_are = (ap (λ (x : Lattice). x.side0) ready.laid, ap (λ (x : Lattice). x.side1) ready.laid, ap (λ (x : Lattice). x.side2) ready.laid)

  -- the samples of a plane of a brick
  pub plane_small : q.side1 * q.side2 ≤ 65536
  plane_small =
      let s = described_sized _ _ (ready_fit r f g q ready).is-described in
      rw (sides_are.1, sides_are.2) (mul-le-mul s.side1.high s.side2.high)

  -- the numbers of a sample
  pub numbers_at : (i j k : ℕ) → i < run_of g 0 → j < run_of g 1 → k < run_of g 2 → Numbers q i j k
  numbers_at i j k hi hj hk = numbers r g q i j k (placed r f g q ready i j k hi hj hk)

  -- a sample's number among the region's, with its partial sums
  pub number_small : {i j k : ℕ} → Holds g i j k → Spot q.count1 q.count2 i j k 1 (size_limit * size_limit * size_limit)
  number_small {i} {j} {k} h =
      let n = counts r f g q ready in
      let s : size_of g ≤ size_limit * size_limit * size_limit = mul-le-mul (mul-le-mul ready.few.0 ready.few.1) ready.few.2 in
      let one : k + 1 ≤ run_of g 2 = omega (arith, h.vertical) in
      rw (n.1, n.2) (spot_of _ _ i j k 1 _ h.vertical (le_trans (simp mul-one at (run_room (run_of g 0) (run_of g 1) (run_of g 2) i j k 1 1 h.inline h.crossline one)) s))

  pub number_is : (i j k : ℕ) → (i * q.count1 + j) * q.count2 + k ≡ tri (run_of g 1) (run_of g 2) i j k
  number_is i j k = let n = counts r f g q ready in rw (n.1, n.2)

-- a run of a direction has its first sample
pub along_in : {r : Record} {g : Region} {d at n : ℕ} → Along r g d at n → at < run_of g d
along_in a = omega (arith, a.some, a.within)

-- c of a run that lies in one brick, after its first t
pub along_part : (r : Record) (g : Region) (d at n t c : ℕ) → Along r g d at n → 0 < c → t + c ≤ n → Along r g d (at + t) c
along_part r g d at n t c a some l =
    let s : ℕ = side_of r.description d in
    let x : ℕ = start_of g d + at in
    let h : x % s + t < s = omega (arith, a.brick) in
    let e : start_of g d + (at + t) ≡ x / s * s + (x % s + t) = omega (arith, div-add-mod' x s) in
    record { some = some; within = omega (arith, a.within); brick = rw (e, digits_mod (x / s) h) (omega (arith, a.brick)) }

-- ---- the rows on one inline

module _ {r : Record} {f : List ℕ} {g : Region} {q : Lattice} {κ : Kind} {m i j k nj nk : ℕ} (h : Rows r f g q κ m i j k nj nk) where
  rows_placed : Placed r g q i j k
  rows_placed = placed r f g q h.ready i j k h.in_i (along_in h.in_j) (along_in h.in_k)

  pub rows-small : m < 16777216
  rows-small = omega (arith, h.item, (numbers r g q i j k rows_placed).items, item_made r g q i j k rows_placed)

  -- its next c items lie in the file
  ends : (c : ℕ) → item_no r (place g i j k) + c ≤ side_of r.description 0 * side_of r.description 1 * side_of r.description 2 → (o : ℕ) → κ ≡ Stored o → o + (m + c) * item_bytes r ≤ length f
  unfolding brick_bytes_of
  ends c l o e =
      let a = (h.ready.ends i j k h.in_i (along_in h.in_j) (along_in h.in_k) o (sym h.kind ∙ e)).high in
      rw h.item (omega (arith, a, mul-le-mul_right (item_bytes r) l))

  -- the first row, in the file and in the buffer
  pub rows-ends : (o : ℕ) → κ ≡ Stored o → o + (m + nk) * item_bytes r ≤ length f
  rows-ends = ends nk (row_fits r g i j k nj nk (ready_fit r f g q h.ready) h.in_j h.in_k)

  -- all rows, where they are whole columns of the brick and of the region
  module _ (whole : nk ≡ q.side2) (all : nk ≡ q.count2) where
    pub all_run : nk ≡ run_of g 2
    all_run = all ∙ (counts r f g q h.ready).2

    pub top : k ≡ 0
    top = omega (arith, all_run, h.in_k.within)

    pub columns_ends : (o : ℕ) → κ ≡ Stored o → o + (m + nj * nk) * item_bytes r ≤ length f
    columns_ends =
        let e : nk ≡ side_of r.description 2 = whole ∙ (sides_are h.ready).2 in
        ends (nj * nk) (rw (e, top) (rows_fit r g i j nj (ready_fit r f g q h.ready) h.in_j (rw (e, top) at h.in_k)))

  -- the t-th row
  pub row_of : {t : ℕ} → t < nj → Rows r f g q κ (m + t * q.side2) i (j + t) k 1 nk
  row_of {t} l =
      record {
        ready = h.ready;
        in_i = h.in_i;
        in_j = along_part r g 1 j nj t 1 h.in_j (omega arith) (omega arith);
        in_k = h.in_k;
        kind = h.kind ∙ ap (kind_in r f) (sym (row_brick r g i j k t nj h.in_j l));
        item = rw (h.item, (sides_are h.ready).2) (sym (row_item r g i j k t nj h.in_j l));
      }

-- ---- the inlines of a box

module _ {r : Record} {f : List ℕ} {g : Region} {q : Lattice} (ready : Ready r f g q) {i j k ni nj nk : ℕ} (ai : Along r g 0 i ni) (aj : Along r g 1 j nj) (ak : Along r g 2 k nk) where
  -- the t-th inline
  pub inline_of : {κ : Kind} {m t : ℕ} → κ ≡ kind_in r f (brick_of r (place g i j k)) → m ≡ item_no r (place g i j k) → t < ni → Rows r f g q κ (m + t * (q.side1 * q.side2)) (i + t) j k nj nk
  inline_of {κ} {m} {t} kind item l =
      record {
        ready = ready;
        in_i = omega (arith, ai.within);
        in_j = aj;
        in_k = ak;
        kind = kind ∙ ap (kind_in r f) (sym (inline-brick r g i j k t ni ai l));
        item = rw (item, (sides_are ready).1, (sides_are ready).2) (sym (inline-item r g i j k t ni ai l));
      }

-- the t-th inline
pub inline_at : {r : Record} {f : List ℕ} {g : Region} {q : Lattice} {κ : Kind} {m i ni j nj k nk t : ℕ} → Block r f g q κ m i ni j nj k nk → t < ni
    → Rows r f g q κ (m + t * (q.side1 * q.side2)) (i + t) j k nj nk
inline_at h l = inline_of h.ready h.in_i h.in_j h.in_k h.kind h.item l

pub inline-small : {r : Record} {f : List ℕ} {g : Region} {q : Lattice} {κ : Kind} {m i ni j nj k nk t : ℕ} → Block r f g q κ m i ni j nj k nk → t < ni → m + t * (q.side1 * q.side2) < 16777216
inline-small h l = rows-small (inline_at h l)
