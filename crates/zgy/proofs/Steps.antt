-- One call: the cube and the ledger agree after it where they agreed before it, and the call leaves in its buffers what the ledger gives.
-- Assumes nothing.
use Prim.Native.Nat.{ℕ}
use mathlib.Core.Path.{◌≡◌, refl, sym, ap, ◌∙◌}
use mathlib.Core.Bool.{Bool, true, false, cond}
use mathlib.Core.Option.{none, some}
use mathlib.Core.List.{List, [], ◌∷◌}
use lib.Ieee.{Float}
use lib.ListN.{length}
use Rattle.record.specs.declared.Record.{Record}
use Rattle.record.specs.Answers.{Verdict, Taken, refused}
use Rattle.cube.specs.declared.Region.{Region}
use Rattle.cube.specs.Places.{Place, bytes, item_bytes, rows_of, raw_of, reading_of, Extent}
use Rattle.cube.specs.Regions.{has, index, chunk, written, over}
use Rattle.cube.specs.Calls.{Call, raw_read, float_read, write, raw, floats, lent, verdict_on, cube_after, buffers_after}
use Rattle.cube.proofs.Valid.{Valid}
use Rattle.cube.proofs.Places.{inside}
use Rattle.cube.proofs.Regions.{Within, digits_in, extents, raw_passed, float_passed, write_passed}
use Rattle.cube.proofs.Rows.{AtAll, raw_same, float_same, valid_width}
use Rattle.cube.proofs.Writes.{Kept, kept_refl, kept_valid, written-kept, written-rows}
use Rattle.cube.proofs.Calls.{refused-answer, refused-cube, refused-buffers, taken-answer, taken-write, taken-raw, taken_float, raw-cube, float_cube, write-buffers}
use Rattle.zgy.specs.Ledger.{Event, taken, CallOn, Ledger, into, leaves, feed, gives, promised}
use Rattle.std.specs.Prelude.{Ok, Err}

module _ (r : Record) where
  -- the ledger agrees with the cube: each sample reads as its row does
  pub record Agrees (f : List ℕ) (l : Ledger r) : Type 0 where
    pub cube_valid : Valid r f
    pub readings : (p : Place) → Extent r p → reading_of r (rows_of r f p) ≡ reading_of r (l p)

  module _ (f : List ℕ) (l : Ledger r) (A : Agrees f l) where
    -- every row of the ledger is one item
    pub items-whole : (p : Place) → Extent r p → length (raw_of r (l p)) ≡ item_bytes r
    items-whole p x =
        ap (λ (y : List ℕ × Float). length y.0) (sym (A.readings p x)) ∙ valid_width r f A.cube_valid p (inside r A.cube_valid.lent.fit p x)

    -- the readings of a region inside its level are the ledger's
    same_rows : (g : Region) → Within r g → AtAll r g (λ p. reading_of r (rows_of r f p) ≡ reading_of r (l p))
    same_rows g w t h = let d = digits_in g t h in A.readings _ (extents r g w _ _ _ d.0 d.1 d.2)

    -- a taken write keeps the headers and the agreement
    write_kept : (g : Region) (d : List ℕ) → verdict_on r f (write g d) ≡ Taken → Kept r f (written r g d f)
    write_kept g d e = let h = write_passed r f g (length d) e in written-kept r A.cube_valid.lent.fit f g d h.0.enough h.1

    write-agrees : (g : Region) (d : List ℕ) → verdict_on r f (write g d) ≡ Taken → Agrees (written r g d f) (λ p. leaves r (l p) (into r (write g d) p))
    write-agrees g d e =
        let h = write_passed r f g (length d) e in
        record {
          cube_valid = kept_valid r f (written r g d f) (write_kept g d e) A.cube_valid;
          readings = λ p x. ap (reading_of r) (written-rows r f A.cube_valid g d h.0.enough h.1 p (inside r A.cube_valid.lent.fit p x)) ∙ by-has p x (has g p);
        }
      where
        by-has : (p : Place) → Extent r p → (b : Bool)
            → reading_of r (cond b (bytes (chunk (item_bytes r) d (index g p))) (rows_of r f p)) ≡ reading_of r (leaves r (l p) (cond b (some (chunk (item_bytes r) d (index g p))) none))
        by-has p x true = refl
        by-has p x false = A.readings p x

    -- what a taken call leaves of the cube agrees with what it enters, and its buffers are what the ledger gives
    taken_agrees : (c : Call) → verdict_on r f c ≡ Taken → Agrees (cube_after r f c) (λ p. leaves r (l p) (into r c p))
    taken_agrees (raw_read g b) e = rw (raw-cube r f g b) A
    taken_agrees (float_read g b) e = rw (float_cube r f g b) A
    taken_agrees (write g d) e = rw (taken-write r f g d e) (write-agrees g d e)

    taken-kept : (c : Call) → verdict_on r f c ≡ Taken → Kept r f (cube_after r f c)
    taken-kept (raw_read g b) e = rw (raw-cube r f g b) (kept_refl r f)
    taken-kept (float_read g b) e = rw (float_cube r f g b) (kept_refl r f)
    taken-kept (write g d) e = rw (taken-write r f g d e) (write_kept g d e)

    taken-gives : (c : Call) → verdict_on r f c ≡ Taken → buffers_after r f c ≡ gives r l c
    taken-gives (raw_read g b) e =
        taken-raw r f g b e ∙ ap (λ (s : List ℕ). raw (over s b) ∷ []) (raw_same r g (rows_of r f) l (same_rows g (raw_passed r f g (length b) e).region))
    taken-gives (float_read g b) e =
        taken_float r f g b e ∙ ap (λ (s : List Float). floats (over s b) ∷ []) (float_same r g (rows_of r f) l (same_rows g (float_passed r f g (length b) e).region))
    taken-gives (write g d) e = write-buffers r f g d

    module _ (e : Event) (C : CallOn r f e) where
      -- every call keeps the agreement
      pub step_agrees : Agrees e.cube (feed r l e)
      unfolding feed
      step_agrees = go (verdict_on r f e.call) refl
        where
          go : (v : Verdict) → verdict_on r f e.call ≡ v → Agrees e.cube (λ p. leaves r (l p) (cond (taken e.answer) (into r e.call p) none))
          go (Ok u) q = rw (C.cube-is, C.answer-is, taken-answer r f e.call q) (taken_agrees e.call q)
          go (Err x) q = rw (C.cube-is, C.answer-is, refused-answer r f x e.call q, refused-cube r f x e.call q) A

      -- and the headers
      pub step_kept : Kept r f e.cube
      step_kept = go (verdict_on r f e.call) refl
        where
          go : (v : Verdict) → verdict_on r f e.call ≡ v → Kept r f e.cube
          go (Ok u) q = rw C.cube-is (taken-kept e.call q)
          go (Err x) q = rw (C.cube-is, refused-cube r f x e.call q) (kept_refl r f)

      -- and leaves in its buffers what the ledger gives
      pub step_gives : e.buffers ≡ promised r l e
      unfolding promised
      step_gives = C.buffers_are ∙ go (verdict_on r f e.call) refl
        where
          go : (v : Verdict) → verdict_on r f e.call ≡ v → buffers_after r f e.call ≡ cond (taken e.answer) (gives r l e.call) (lent e.call)
          go (Ok u) q = rw (C.answer-is, taken-answer r f e.call q) (taken-gives e.call q)
          go (Err x) q = rw (C.answer-is, refused-answer r f x e.call q) (refused-buffers r f x e.call q)
