-- Type numbers (FORMAT 3.3): int8 0, int16 2, float32 6.
use Rattle.std.specs.Prelude.{Bool, not, cond, ℕ, eqb, Float, Result, Ok, Err}
use Rattle.floats.specs.Rules.{scaled_of, integer_of, widened_of}
use Rattle.record.specs.Answers.{Verdict, is_taken, verdict_of}
use Rattle.record.specs.declared.Coding.{Coding}
use Rattle.record.specs.declared.Coding.TheVariants.{Scaled, Float32}
use Rattle.record.specs.declared.Refusal.{Refusal}
use Rattle.record.specs.declared.Refusal.TheVariants as refusal

-- what a type number says of an item, or for every other number the refusal by check 5
unfoldable pub coding_of : ℕ → Result Coding Refusal
coding_of k =
    cond (eqb k 0) (Ok (Scaled 1 128))
    (cond (eqb k 2) (Ok (Scaled 2 32768))
    (cond (eqb k 6) (Ok (Float32 4))
    (Err refusal.Datatype)))

-- the bytes of an item; 0 where there is no such type
abbrev pub item_width : Result Coding Refusal → ℕ
item_width (Ok (Scaled w h)) = w
item_width (Ok (Float32 w)) = w
item_width (Err x) = 0

-- check 5: taken, or the refusal that the type number gives
abbrev pub type_verdict : Result Coding Refusal → Verdict
type_verdict = verdict_of

abbrev pub no_type : Result Coding Refusal → Bool
no_type x = not (is_taken (type_verdict x))

unfoldable pub width_of : ℕ → ℕ
width_of k = item_width (coding_of k)

-- a sample as a float, from the unsigned number of its bytes and the coding range
abbrev pub decode_by : Result Coding Refusal → Float → Float → ℕ → Float
decode_by (Ok (Scaled w h)) min max n = scaled_of h min max n
decode_by (Ok (Float32 w)) min max n = widened_of n
decode_by (Err x) min max n = widened_of n

unfoldable pub decode_of : ℕ → Float → Float → ℕ → Float
decode_of k = decode_by (coding_of k)

-- the storage value as a float, unscaled
abbrev pub value_by : Result Coding Refusal → ℕ → Float
value_by (Ok (Scaled w h)) n = integer_of h n
value_by (Ok (Float32 w)) n = widened_of n
value_by (Err x) n = widened_of n

unfoldable pub value_of : ℕ → ℕ → Float
value_of k = value_by (coding_of k)
