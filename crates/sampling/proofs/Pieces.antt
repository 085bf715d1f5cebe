-- Samples of one brick as floats: what the leaves make of them is what the region's places hold. Assumes nothing.
use Prim.Native.Nat.{ℕ, ◌+◌, ◌-◌, ◌*◌, ◌≤◌}
use mathlib.Core.Path.{◌≡◌, sym, ap, ◌∙◌}
use mathlib.Core.List.{List, [], ◌∷◌}
use native.Mathlib.Omega.{arith}
use native.Mathlib.Nat.{add-mul, add-sub_cancel_left}
use lib.Ieee.{Float}
use lib.ListN.{length, take, drop}
use borrow.Rule.Slice.PartMut.{mid_of, mid_len}
use Rattle.endian.specs.Loops.{cat}
use Rattle.endian.specs.Bytes.{peek, le}
use Rattle.endian.proofs.Digits.{next_item}
use Rattle.endian.proofs.Cats.{cat-same}
use Rattle.endian.proofs.Puts.{peek_part}
use Rattle.endian.proofs.Bytes.{le-peek}
use Rattle.record.specs.Types.{decode_of}
use Rattle.record.specs.declared.Record.{Record}
use Rattle.checks.specs.Checks.{breaks5}
use Rattle.table.specs.declared.Kind.{Kind}
use Rattle.table.specs.declared.Kind.TheVariants.{Missing, Stored}
use Rattle.cube.specs.declared.Region.{Region}
use Rattle.cube.specs.declared.MissingBrick.{MissingBrick}
use Rattle.cube.specs.Places.{item_bytes, missing_brick}
use Rattle.runs.specs.declared.Lattice.{Lattice}
use Rattle.runs.specs.Runs.{Ready}
use Rattle.runs.proofs.Steps.{ready_fit, ready-width, ready-missing}
use Rattle.sampling.specs.declared.Range.{Range}
use Rattle.sampling.specs.Samples.{range_of, Fitting, floats_of}

-- ---- a part of a file

-- a number in m bytes of f from place a on is one of f's
le_part : (f : List ℕ) (a m b k : ℕ) → a + m ≤ length f → b + k ≤ m → le k (peek f a m) b ≡ le k f (a + b)
le_part f a m b k h l =
    sym (le-peek k (peek f a m) b)
    ∙ ap (λ (x : List ℕ). le k x 0) (peek_part f a m b k h l)
    ∙ le-peek k f (a + b)

-- ---- items of a brick of this kind

module _ (r : Record) (f : List ℕ) (κ : Kind) (m n : ℕ) (ys : List Float) where
  pub items-missing : (x : MissingBrick) → x ≡ missing_brick r → κ ≡ Missing → ys ≡ cat n (λ _. x.float ∷ []) → ys ≡ floats_of r f κ m n
  items-missing x ex e made = made ∙ ap (λ (y : MissingBrick). cat n (λ _. y.float ∷ [])) ex ∙ sym (ap (λ (y : Kind). floats_of r f y m n) e)

  module _ (range : Range) (er : range ≡ range_of r) where
    pub items_read : (o w : ℕ) → κ ≡ Stored o → w ≡ item_bytes r → o + (m + n) * w ≤ length f
        → ys ≡ cat n (λ t. decode_of r.description.datatype range.min range.max (le (item_bytes r) (take (o + m * w + n * w - (o + m * w)) (drop (o + m * w) f)) (t * item_bytes r)) ∷ [])
        → ys ≡ floats_of r f κ m n
    items_read o w e ew h made =
        let b : ℕ = item_bytes r in
        let a : ℕ = o + m * b in
        let h' : o + (m + n) * b ≤ length f = rw ew at h in
        let l : a + n * b ≤ length f = omega (arith, add-mul m n b) in
        made
        ∙ rw (ew, add-sub_cancel_left a (n * b), er)
        (cat-same n _ _ (λ t h. ap (λ (x : ℕ). decode_of r.description.datatype r.grid.min r.grid.max x ∷ []) (le_part f a (n * b) (t * b) b l (next_item b t n h) ∙ ap (le b f) (omega (arith, add-mul m t b)))))
        ∙ sym (ap (λ (y : Kind). floats_of r f y m n) e)

-- ---- a row of a box

-- the type is one of the format's
pub fitting : {r : Record} {f : List ℕ} {g : Region} {q : Lattice} → Ready r f g q → Fitting r q
unfolding breaks5
fitting {r} {f} {g} {q} ready = record { typed = (ready_fit r f g q ready).is-described.not5; width = ready-width r f g q ready; missing = ready-missing r f g q ready }

-- a part that was lent of a buffer has its length
pub lent : {A : Type 0} (a n : ℕ) (d : List A) → a + n ≤ length d → length (mid_of a (a + n - a) d) ≡ n
lent a n d h = mid_len a (a + n) d h ∙ add-sub_cancel_left a n
