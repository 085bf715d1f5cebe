-- Strips: samples of one brick that lie apart in it by a column each, and one after the other in the region. Assumes nothing.
use Prim.Native.Nat.{ℕ, ◌+◌, ◌-◌, ◌*◌, ◌≤◌, ◌<◌}
use mathlib.Core.Bool.{true}
use mathlib.Core.Path.{◌≡◌, refl, sym, ap, ◌∙◌}
use mathlib.Core.List.{List, [], ◌∷◌}
use mathlib.Core.Logic.{◌⊎◌, ⊎_elim}
use native.Mathlib.Omega.{arith}
use native.Mathlib.Nat.{add-mul, add-zero, one-mul, zero-add, mul_assoc, mul-le-mul, pow-le-pow_right}
use lib.Ieee.{Float}
use lib.ListN.{length}
use borrow.Rule.Slice.PartMut.{put_mid}
use Rattle.endian.specs.Loops.{cat, tri}
use Rattle.endian.specs.Bytes.{peek, le}
use Rattle.endian.proofs.Cats.{cat-same, length-cat, cat_part}
use Rattle.endian.proofs.Puts.{length-peek}
use Rattle.endian.proofs.Bytes.{le-peek}
use Rattle.record.specs.Record.{side_of}
use Rattle.record.specs.Types.{decode_of}
use Rattle.record.specs.declared.Record.{Record}
use Rattle.checks.specs.Checks.{side_ok}
use Rattle.checks.proofs.Described.{side-exponent, described_sides}
use Rattle.table.specs.Entries.{Width}
use Rattle.table.specs.declared.Kind.{Kind}
use Rattle.table.specs.declared.Kind.TheVariants.{Missing, Constant, Stored}
use Rattle.cube.specs.declared.Region.{Region}
use Rattle.cube.specs.Places.{item_bytes}
use Rattle.cube.specs.Regions.{run_of, size_of}
use Rattle.runs.specs.declared.Lattice.{Lattice}
use Rattle.runs.specs.Runs.{lattice_of, Ready}
use Rattle.runs.proofs.Steps.{ready_fit, ready-width, lattice_width, counts}
use Rattle.runs.proofs.Boxes.{rows-room, boxed_rows}
use Rattle.runs.specs.Boxes.{Boxed, Rows}
use Rattle.runs.proofs.Rows.{rows-ends, row_of}
use Rattle.sampling.specs.declared.Range.{Range}
use Rattle.sampling.specs.Samples.{range_of, float_at, floats_of, strip_of}
use Rattle.sampling.specs.Laws.{float_laws}

-- ---- numbers

-- an item has at most four bytes
pub few_bytes : (w : ℕ) → Width w → w ≤ 4
few_bytes w = ⊎_elim (λ e. omega arith) (⊎_elim (λ e. omega arith) (λ e. omega arith))

-- where the t-th sample starts, in a brick at o
strip_at : (o m s t b : ℕ) → o + m * b + t * (s * b) ≡ o + (m + t * s) * b
strip_at o m s t b = omega (arith, add-mul m (t * s) b, mul_assoc t s b)

-- the bytes of at most 64 items
pub strip_block : {r : Record} {f : List ℕ} {g : Region} {q : Lattice} {n w : ℕ} → Ready r f g q → w ≡ q.width → n ≤ 64 → n * w ≤ 256
strip_block {q = q} {w = w} ready e few = let four : w ≤ 4 = rw e (few_bytes q.width (lattice_width _ _ _ _ ready)) in mul-le-mul few four

-- what gathering n samples of w bytes asks, each s items after the one before
module _ (f : List ℕ) (o m n s w : ℕ) (ends : (t : ℕ) → t < n → o + (m + t * s + 1) * w ≤ length f) where
  pub strip_end : (t : ℕ) → t < n → o + m * w + t * (s * w) + w ≤ length f
  strip_end t l = omega (arith, ends t l, strip_at o m s t w, add-mul (m + t * s) 1 w, one-mul w)

  -- and what it puts together
  pub strip_long : {bytes : List ℕ} → bytes ≡ cat n (λ t. peek f (o + m * w + t * (s * w)) w) → length bytes ≡ n * w
  strip_long e = ap length e ∙ length-cat _ _ _ (λ t l. length-peek _ _ _ (strip_end t l))

-- ---- the samples of a brick of this kind

cat-one : {A : Type 0} (g : ℕ → List A) → cat 1 g ≡ g 0
unfolding cat
cat-one g = refl

-- the t-th of n items of b bytes, as a number
le-item : (n b t : ℕ) (g : ℕ → List ℕ) (bytes : List ℕ) → bytes ≡ cat n g → ((u : ℕ) → u < n → length (g u) ≡ b) → t < n → le b bytes (t * b) ≡ le b (g t) 0
le-item n b t g bytes e long h = sym (le-peek b bytes (t * b)) ∙ ap (λ (x : List ℕ). le b x 0) (ap (λ (x : List ℕ). peek x (t * b) b) e ∙ cat_part n b t g long h)

module _ (r : Record) (f : List ℕ) (κ : Kind) (m s n : ℕ) (ys : List Float) where
  -- a brick that is not stored has one value, at any step
  pub strip_one : (κ ≡ Missing) ⊎ ((v : ℕ) × (κ ≡ Constant v)) → ys ≡ floats_of r f κ m n → ys ≡ strip_of r f κ m s n
  strip_one one made =
      made
      ∙ ⊎_elim
      (λ e. ap (λ (y : Kind). floats_of r f y m n) e ∙ cat-same n _ _ (λ t _. sym (cat-one _)) ∙ sym (ap (λ (y : Kind). strip_of r f y m s n) e))
      (λ p. ap (λ (y : Kind). floats_of r f y m n) p.1 ∙ cat-same n _ _ (λ t _. sym (cat-one _)) ∙ sym (ap (λ (y : Kind). strip_of r f y m s n) p.1))
      one

  module _ (range : Range) (er : range ≡ range_of r) where
    pub strip_read : (o w : ℕ) (bytes : List ℕ) → κ ≡ Stored o → w ≡ item_bytes r → ((t : ℕ) → t < n → o + m * w + t * (s * w) + w ≤ length f)
        → bytes ≡ cat n (λ t. peek f (o + m * w + t * (s * w)) w)
        → ys ≡ cat n (λ t. decode_of r.description.datatype range.min range.max (le (item_bytes r) bytes (t * item_bytes r)) ∷ [])
        → ys ≡ strip_of r f κ m s n
    strip_read o w bytes e ew ends gathered made =
        let b : ℕ = item_bytes r in
        let fits : (t : ℕ) → t < n → o + m * b + t * (s * b) + b ≤ length f = rw ew at ends in
        let is : bytes ≡ cat n (λ t. peek f (o + m * b + t * (s * b)) b) = rw ew at gathered in
        made
        ∙ rw er
        (cat-same n _ _ (λ t h.
        ap (λ (x : ℕ). decode_of r.description.datatype r.grid.min r.grid.max x ∷ [])
        (le-item n b t (λ u. peek f (o + m * b + u * (s * b)) b) bytes is (λ u l. length-peek f _ b (fits u l)) h
        ∙ le-peek b f _
        ∙ ap (le b f) (strip_at o m s t b ∙ ap (λ (x : ℕ). o + x * b) (sym (add-zero (m + t * s)))))
        ∙ sym (cat-one _)))
        ∙ sym (ap (λ (y : Kind). strip_of r f y m s n) e)

-- ---- the rows of one sample each on one inline

small-side : (n : ℕ) → side_ok n ≡ true → n ≤ 64
small-side n e = let p = side-exponent n e in rw p.power (pow-le-pow_right (omega arith) p.greatest)

-- in a region that is one sample high
module _ {r : Record} {f : List ℕ} {g : Region} {q : Lattice} {κ : Kind} {m i j k nj nk : ℕ} (h : Rows r f g q κ m i j k nj nk) (flat : q.count2 ≡ 1) where
  run : run_of g 2 ≡ 1
  run = sym (counts r f g q h.ready).2 ∙ flat

  one : nk ≡ 1
  one = omega (arith, h.in_k.some, h.in_k.within, run)

  top : k ≡ 0
  top = omega (arith, h.in_k.some, h.in_k.within, run)

  pub strip_few : (q.side2 ≤ 64) × (0 < nj) × (nj ≤ 64)
  unfolding lattice_of
  strip_few =
      let s = described_sides _ _ (ready_fit r f g q h.ready).is-described in
      let e : q.side2 ≡ side_of r.description 2 = ap (λ (x : Lattice). x.side2) h.ready.laid in
      (omega (arith, e, small-side _ s.2), h.in_j.some, omega (arith, h.in_j.brick, small-side _ s.1))

  pub strip_ends : (o : ℕ) → κ ≡ Stored o → (t : ℕ) → t < nj → o + (m + t * q.side2 + 1) * q.width ≤ length f
  strip_ends o e t l = rw (ready-width r f g q h.ready) (rw one at (rows-ends (row_of h l) o e))

  column_float : (t : ℕ) → t < nj → floats_of r f κ (m + t * q.side2) 1 ≡ cat (run_of g 2) (λ z. float_at r f g i (j + t) z)
  column_float t l =
      ap (λ (x : ℕ). floats_of r f κ (m + t * q.side2) x) (sym one)
      ∙ float_laws.row r f g q κ _ i (j + t) k 1 nk (row_of h l)
      ∙ ap (λ (z : ℕ). cat z (λ x. float_at r f g i (j + t) (k + x))) (one ∙ sym run)
      ∙ cat-same (run_of g 2) _ _ (λ x _. ap (float_at r f g i (j + t)) (ap (λ (z : ℕ). z + x) top ∙ zero-add x))

  -- n is the number of its first sample among the region's
  module _ {n : ℕ} (en : n ≡ tri (run_of g 1) (run_of g 2) i j k) where
    place_is : n ≡ i * run_of g 1 + j
    place_is = en ∙ rw (top, run) (omega arith)

    pub strip_room : {room : ℕ} → room ≡ size_of g * 1 → n + nj ≤ room
    strip_room e = rw (e, place_is, run) (omega (arith, rows-room (run_of g 0) (run_of g 1) 1 i j nj 1 h.in_i h.in_j.within))

    pub strip_box : (c : ℕ) {d ys : List Float} → length d ≡ size_of g * 1 → c ≡ nj → ys ≡ strip_of r f κ m q.side2 c
        → Boxed 1 (run_of g 0) (run_of g 1) (run_of g 2) (float_at r f g) i 1 j nj k nk d (put_mid n (n + nj - n) d ys)
    strip_box c {d} {ys} size ec y =
        let all : nk ≡ run_of g 2 = one ∙ sym run in
        rw (top, all)
        (boxed_rows i j nj n (n + nj) d ys (λ x y z hx hy hz. refl) size h.in_i h.in_j.within
        (place_is ∙ rw run (omega arith))
        (rw run (omega arith))
        (y ∙ rw ec (cat-same nj _ _ column_float)))
