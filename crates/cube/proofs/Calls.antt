-- What a refused call leaves and what a taken one gives, by its verdict. Assumes nothing.
use Prim.Native.Nat.{ℕ}
use mathlib.Core.Path.{◌≡◌, refl, ap}
use mathlib.Core.List.{List, [], ◌∷◌}
use lib.Ieee.{Float}
use Rattle.record.specs.Answers.{answered, Verdict, Taken, refused}
use Rattle.record.specs.declared.Record.{Record}
use Rattle.record.specs.declared.Refusal.{Refusal}
use Rattle.cube.specs.declared.Region.{Region}
use Rattle.cube.specs.Places.{rows_of}
use Rattle.cube.specs.Regions.{raw_rows, float_rows, written, after, over}
use Rattle.cube.specs.Calls.{Call, raw_read, float_read, write, raw, floats, lent, verdict_on, moves, answer_of, cube_after, buffers_after}
use Rattle.std.specs.Prelude.{Ok, Err}

module _ (r : Record) (f : List ℕ) where
  -- ---- refused

  module _ (x : Refusal) where
    pub refused-answer : (c : Call) → verdict_on r f c ≡ refused x → answer_of r f c ≡ Err x
    unfolding answer_of
    refused-answer c e = ap (λ (v : Verdict). answered v (moves r c)) e

    pub refused-cube : (c : Call) → verdict_on r f c ≡ refused x → cube_after r f c ≡ f
    unfolding cube_after
    refused-cube (raw_read g b) e = refl
    refused-cube (float_read g b) e = refl
    refused-cube (write g d) e = ap (λ (v : Verdict). after v (written r g d f) f) e

    pub refused-buffers : (c : Call) → verdict_on r f c ≡ refused x → buffers_after r f c ≡ lent c
    unfolding buffers_after
    refused-buffers (raw_read g b) e = ap (λ (v : Verdict). raw (after v (over (raw_rows r (rows_of r f) g) b) b) ∷ []) e
    refused-buffers (float_read g b) e = ap (λ (v : Verdict). floats (after v (over (float_rows r (rows_of r f) g) b) b) ∷ []) e
    refused-buffers (write g d) e = refl

  -- ---- taken

  pub taken-answer : (c : Call) → verdict_on r f c ≡ Taken → answer_of r f c ≡ Ok (moves r c)
  unfolding answer_of
  taken-answer c e = ap (λ (v : Verdict). answered v (moves r c)) e

  pub taken-write : (g : Region) (d : List ℕ) → verdict_on r f (write g d) ≡ Taken → cube_after r f (write g d) ≡ written r g d f
  unfolding cube_after
  taken-write g d e = ap (λ (v : Verdict). after v (written r g d f) f) e

  pub taken-raw : (g : Region) (b : List ℕ) → verdict_on r f (raw_read g b) ≡ Taken → buffers_after r f (raw_read g b) ≡ raw (over (raw_rows r (rows_of r f) g) b) ∷ []
  unfolding buffers_after
  taken-raw g b e = ap (λ (v : Verdict). raw (after v (over (raw_rows r (rows_of r f) g) b) b) ∷ []) e

  pub taken_float : (g : Region) (b : List Float) → verdict_on r f (float_read g b) ≡ Taken → buffers_after r f (float_read g b) ≡ floats (over (float_rows r (rows_of r f) g) b) ∷ []
  unfolding buffers_after
  taken_float g b e = ap (λ (v : Verdict). floats (after v (over (float_rows r (rows_of r f) g) b) b) ∷ []) e

  -- a call that changes no cube
  pub raw-cube : (g : Region) (b : List ℕ) → cube_after r f (raw_read g b) ≡ f
  unfolding cube_after
  raw-cube g b = refl

  pub float_cube : (g : Region) (b : List Float) → cube_after r f (float_read g b) ≡ f
  unfolding cube_after
  float_cube g b = refl

  pub write-buffers : (g : Region) (d : List ℕ) → buffers_after r f (write g d) ≡ raw d ∷ []
  unfolding buffers_after
  write-buffers g d = refl
