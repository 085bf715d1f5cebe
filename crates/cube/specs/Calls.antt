-- Calls on a cube (FORMAT 10.7 to 10.9): their answers, and what the cube and each lent buffer hold after them. r is the record, f the cube's bytes.
use Rattle.std.specs.Prelude.{List, [], ◌∷◌, ℕ, ◌*◌, Float, length}
use Rattle.record.specs.Answers.{answered, Done, Verdict}
use Rattle.record.specs.declared.Record.{Record}
use Rattle.cube.specs.declared.Region.{Region}
use Rattle.cube.specs.Places.{item_bytes, rows_of}
use Rattle.cube.specs.Regions.{size_of, raw_rows, float_rows, written, raw_verdict, float_verdict, write_verdict, after, over}

-- a call's arguments other than the cube and its record: the region, and the lent buffers as they are at the call
pub data Call : Type 0 where
  raw_read : Region → List ℕ → Call
  float_read : Region → List Float → Call
  write : Region → List ℕ → Call

-- what a lent buffer holds
pub data Buffer : Type 0 where
  raw : List ℕ → Buffer
  floats : List Float → Buffer

-- the buffers that a call is lent
abbrev pub lent : Call → List Buffer
lent (raw_read g b) = raw b ∷ []
lent (float_read g b) = floats b ∷ []
lent (write g d) = raw d ∷ []

module _ (r : Record) where
  -- whether a call is taken, or by which number it is refused
  abbrev pub verdict_on : List ℕ → Call → Verdict
  verdict_on f (raw_read g b) = raw_verdict r f g (length b)
  verdict_on f (float_read g b) = float_verdict r f g (length b)
  verdict_on f (write g d) = write_verdict r f g (length d)

  -- how many bytes or floats a taken call moves
  abbrev pub moves : Call → ℕ
  moves (raw_read g b) = size_of g * item_bytes r
  moves (float_read g b) = size_of g
  moves (write g d) = size_of g * item_bytes r

  -- what a call answers
  unfoldable pub answer_of : List ℕ → Call → Done
  answer_of f c = answered (verdict_on f c) (moves c)

  -- the cube after it
  unfoldable pub cube_after : List ℕ → Call → List ℕ
  cube_after f (raw_read g b) = f
  cube_after f (float_read g b) = f
  cube_after f (write g d) = after (verdict_on f (write g d)) (written r g d f) f

  -- the lent buffers after it: a read's is overwritten from the front by the region's samples, and its tail stays
  unfoldable pub buffers_after : List ℕ → Call → List Buffer
  buffers_after f (raw_read g b) = raw (after (verdict_on f (raw_read g b)) (over (raw_rows r (rows_of r f) g) b) b) ∷ []
  buffers_after f (float_read g b) = floats (after (verdict_on f (float_read g b)) (over (float_rows r (rows_of r f) g) b) b) ∷ []
  buffers_after f (write g d) = raw d ∷ []
