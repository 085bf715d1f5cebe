-- A cube, by the rules and limits of FORMAT 9: one field for each rule.
use Rattle.std.specs.Prelude.{false, List, [], ◌∷◌, ◌⊎◌, ◌≡◌, ℕ, ◌+◌, ◌-◌, ◌≤◌, ◌<◌, T, get_or, length}
use Rattle.std.specs.Float.{binary32}
use Rattle.std.specs.Float.Ieee.{of_bits, lt}
use Rattle.endian.specs.Bytes.{Bytes, peek}
use Rattle.geometry.specs.Limits.{text_start, size_limit, shortest_text, longest_text, least_exponent, IsPower}
use Rattle.floats.specs.Rules.{finite}
use Rattle.record.specs.Header.{version_of, description_of, text_length_of, text_of}
use Rattle.record.specs.Record.{side_of, size_of, bricks_of, brick_bytes_of, header_of}
use Rattle.record.specs.Answers.{Taken}
use Rattle.checks.specs.Checks.{zeros, brick_limit}
use Rattle.checks.specs.Fits.{breaks14_with}
use Rattle.table.specs.declared.Kind.TheVariants.{Stored}
use Rattle.table.specs.Entries.{kind_in}
use Rattle.opening.specs.Opening.{open_verdict, record_in}

-- a side is a power of two from the least to the greatest: 4, 8, 16, 32 or 64
abbrev pub Side : ℕ → Type 0
Side n = IsPower least_exponent n

-- the bits of a finite float
abbrev pub Finite : ℕ → Type 0
Finite b = T (finite (of_bits binary32 b))

-- the coding range that types 0 and 2 have: finite, min below max
pub record CodingRange (min max : ℕ) : Type 0 where
  pub min-finite : Finite min
  pub max-finite : Finite max
  pub below : T (lt (of_bits binary32 min) (of_bits binary32 max))

pub record Cube (f : List ℕ) : Type 0 where
  pub rule1 : text_start ≤ length f
  pub rule2 : peek f 0 4 ≡ (86 ∷ 66 ∷ 83 ∷ 0 ∷ [])
  pub rule3 : (version_of f ≡ 2) ⊎ (version_of f ≡ 3)
  pub rule4 : (i : ℕ) → i < 3 → Side (side_of (description_of f) i)
  pub rule5 : ((description_of f).datatype ≡ 0) ⊎ ((description_of f).datatype ≡ 2) ⊎ ((description_of f).datatype ≡ 6)
  pub rule6 : (i : ℕ) → i < 3 → (1 ≤ size_of (description_of f) i) × (size_of (description_of f) i ≤ size_limit)
  pub rule7 : ((i : ℕ) → i < 3 → Finite (get_or (description_of f).orig i 0) × Finite (get_or (description_of f).inc i 0))
      × (((description_of f).datatype ≡ 6) ⊎ CodingRange (get_or (description_of f).range 0 0) (get_or (description_of f).range 1 0))
  pub rule8 : bricks_of (description_of f) ≤ brick_limit
  pub rule9 : (shortest_text ≤ text_length_of f) × (text_length_of f ≤ longest_text)
  pub rule10 : header_of (description_of f) (text_length_of f) ≤ length f
  pub rule11 : (zeros (text_of f (text_length_of f)) ≡ 5) × (get_or (text_of f (text_length_of f)) (text_length_of f - 1) 0 ≡ 0)
  -- a stored brick lies after the headers and inside the file
  pub rule12 : (e o : ℕ) → e < bricks_of (description_of f) → kind_in (record_in f) f e ≡ Stored o
      → (header_of (description_of f) (text_length_of f) ≤ o) × (o + brick_bytes_of (description_of f) ≤ length f)
  -- two stored bricks have no byte in common
  pub rule13 : (d e o p : ℕ) → d < e → e < bricks_of (description_of f)
      → kind_in (record_in f) f d ≡ Stored o → kind_in (record_in f) f e ≡ Stored p
      → (o + brick_bytes_of (description_of f) ≤ p) ⊎ (p + brick_bytes_of (description_of f) ≤ o)

-- opening takes a file exactly when it is a cube
unfoldable pub OpensExactly : Type 0
OpensExactly = (f : List ℕ) → (open_verdict f ≡ Taken → Cube f) × (Cube f → open_verdict f ≡ Taken)

-- the record of a taken opening passes check 14 with that file
unfoldable pub RecordPasses : Type 0
RecordPasses = (f : List ℕ) → Bytes f → open_verdict f ≡ Taken → breaks14_with (record_in f) (length f) ≡ false
