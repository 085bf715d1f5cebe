-- Position of an index along a dimension at level 0 (FORMAT 10.10): checks 14 (no file is lent) and 16.
use Rattle.std.specs.Prelude.{◌||◌, cond, ◌≡◌, ℕ, leb, Float, get_or, Result, Ok, Err}
use Rattle.std.proofs.Math.Option.{Option, none, some}
use Rattle.std.specs.Float.{nan}
use Rattle.floats.specs.Position.{position_of, Near}
use Rattle.record.specs.Record.{size_of}
use Rattle.record.specs.declared.Record.{Record}
use Rattle.record.specs.declared.Refusal.{Refusal}
use Rattle.record.specs.declared.Refusal.TheVariants as refusal
use Rattle.checks.specs.Fits.{breaks14}

-- orig and inc along a dimension, as the grid keeps them
abbrev pub orig_in : Record → ℕ → Float
orig_in r k = get_or r.grid.orig k nan

abbrev pub inc_in : Record → ℕ → Float
inc_in r k = get_or r.grid.inc k nan

-- the value that an answer gives, which a refusal has not
abbrev pub located_value : Result Float Refusal → Option Float
located_value (Ok x) = some x
located_value (Err x) = none

-- orig + index x inc, or the refusal
unfoldable pub position_answer : Record → ℕ → ℕ → Result Float Refusal
position_answer r dimension index =
    cond (breaks14 r) (Err refusal.Record)
    (cond (leb 3 dimension || leb (size_of r.description dimension) index) (Err refusal.Index)
    (Ok (position_of (orig_in r dimension) (inc_in r dimension) index)))

-- the value that an answer gives is near the exact one
unfoldable pub PositionNear : Record → ℕ → ℕ → Result Float Refusal → Type 0
PositionNear r dimension index a = (x : Float) → located_value a ≡ some x → Near (orig_in r dimension) (inc_in r dimension) index x
