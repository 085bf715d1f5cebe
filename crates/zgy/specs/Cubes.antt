-- Demand 2 (FORMAT 12.2): a cube opens exactly when the rules say so; a region read gives exactly the samples that the rules put there; a cube that we make opens again.
use Rattle.std.specs.Prelude.{List, [], ◌∷◌, ◌≡◌, ℕ, ◌+◌, ◌*◌, ◌^◌, ◌≤◌, ◌<◌, Float, get_or, length, replicate}
use Rattle.std.specs.Float.{nan}
use Rattle.endian.specs.Bytes.{peek, le, lows}
use Rattle.record.specs.Record.{table_of}
use Rattle.record.specs.declared.Record.{Record}
use Rattle.record.specs.Answers.{Taken}
use Rattle.opening.specs.Opening.{open_verdict, record_in}
use Rattle.opening.specs.Cube.{OpensExactly, RecordPasses}
use Rattle.cube.specs.declared.Region.{Region}
use Rattle.cube.specs.Places.{Place, item_bytes, brick_of, item_no, rows_of, raw_of, float_of, missing, bytes}
use Rattle.cube.specs.Regions.{size_of, place_at, chunk}
use Rattle.cube.specs.Calls.{raw_read, float_read, raw, floats, verdict_on, buffers_after}
use Rattle.making.specs.MadeOpens.{MadeOpens}

-- the word of a place's entry: the number in the eight bytes of its brick's entry
abbrev pub entry_word : Record → List ℕ → Place → ℕ
entry_word r f p = le 8 f (table_of r.description r.text + 8 * brick_of r p)

-- what the rules put at a place, by that word
pub record RulesPut (r : Record) (f : List ℕ) (p : Place) : Type 0 where
  -- 0 is missing, 1 is constant zero
  pub of_zero : entry_word r f p ≡ 0 → rows_of r f p ≡ missing
  pub of_one : entry_word r f p ≡ 1 → rows_of r f p ≡ bytes (replicate (item_bytes r) 0)
  -- with the top bit set it is constant, in its low 1, 2 or 4 bytes
  pub of_top_bit : 2 ^ 63 ≤ entry_word r f p → rows_of r f p ≡ bytes (lows (item_bytes r) (entry_word r f p))
  -- otherwise it is the offset of the brick, in which the place has one item's bytes
  pub of_offset : 2 ≤ entry_word r f p → entry_word r f p < 2 ^ 63 → rows_of r f p ≡ bytes (peek f (entry_word r f p + item_no r p * item_bytes r) (item_bytes r))

-- the buffer b' after a taken raw read of g into b: the samples first to last, each what the rules put at its place, and every byte after them as it was
pub record RawGives (r : Record) (f : List ℕ) (g : Region) (b b' : List ℕ) : Type 0 where
  pub room : length b' ≡ length b
  pub each : (t : ℕ) → t < size_of g → chunk (item_bytes r) b' t ≡ raw_of r (rows_of r f (place_at g t))
  pub after : (x : ℕ) → size_of g * item_bytes r ≤ x → get_or b' x 0 ≡ get_or b x 0

-- the same of a float read
pub record FloatGives (r : Record) (f : List ℕ) (g : Region) (b b' : List Float) : Type 0 where
  pub room : length b' ≡ length b
  pub each : (t : ℕ) → t < size_of g → get_or b' t nan ≡ float_of r (rows_of r f (place_at g t))
  pub after : (x : ℕ) → size_of g ≤ x → get_or b' x nan ≡ get_or b x nan

pub record ReadsGive (r : Record) (f : List ℕ) (g : Region) : Type 0 where
  pub raw-gives : (b b' : List ℕ) → verdict_on r f (raw_read g b) ≡ Taken → raw b' ∷ [] ≡ buffers_after r f (raw_read g b) → RawGives r f g b b'
  pub float_gives : (b b' : List Float) → verdict_on r f (float_read g b) ≡ Taken → floats b' ∷ [] ≡ buffers_after r f (float_read g b) → FloatGives r f g b b'

-- demand 2
pub record OpensReadsAndMakes : Type 0 where
  pub opens : OpensExactly
  pub passes : RecordPasses
  pub puts : (f : List ℕ) → open_verdict f ≡ Taken → (p : Place) → RulesPut (record_in f) f p
  pub reads : (f : List ℕ) → open_verdict f ≡ Taken → (g : Region) → ReadsGive (record_in f) f g
  pub makes : MadeOpens
