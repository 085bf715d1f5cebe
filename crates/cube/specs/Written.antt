-- What a write leaves, byte by byte (FORMAT 10.9, 12.9). In a cube that opened this settles the whole file: no two places share a byte.
use Rattle.std.specs.Prelude.{◌≢◌, List, ◌≡◌, ℕ, ◌+◌, ◌*◌, ◌<◌, get_or, length}
use Rattle.record.specs.declared.Record.{Record}
use Rattle.cube.specs.declared.Region.{Region}
use Rattle.cube.specs.Places.{item_bytes}
use Rattle.cube.specs.Regions.{size_of, place_at, place_byte}

-- h is the cube f after a taken write of d to the region g
pub record WrittenBytes (r : Record) (f : List ℕ) (g : Region) (d h : List ℕ) : Type 0 where
  pub same_length : length h ≡ length f
  -- byte b of the region's t-th place is the byte lent for it
  pub lent-bytes : (t b : ℕ) → t < size_of g → b < item_bytes r → get_or h (place_byte r f (place_at g t) + b) 0 ≡ get_or d (t * item_bytes r + b) 0
  -- every byte that is none of theirs, of headers, gaps, padding or other samples, is the byte that stood there
  pub other-bytes : (x : ℕ) → ((t b : ℕ) → t < size_of g → b < item_bytes r → x ≢ place_byte r f (place_at g t) + b) → get_or h x 0 ≡ get_or f x 0
