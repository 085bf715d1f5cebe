-- What a permutation (FORMAT 10.13) answers, and what it leaves in the lent buffer.
use Rattle.std.specs.Prelude.{Bool, ◌||◌, cond, List, ◌++◌, ℕ, ltb, get_or, drop, length, Ok, Err}
use Rattle.geometry.specs.Geometry.{brick_bytes}
use Rattle.subtiles.specs.Subtiles.{plain_from, subtiled_from, breaks20}
use Rattle.record.specs.Answers.{Done}
use Rattle.record.specs.declared.Refusal.TheVariants as refusal

-- the bytes of a brick with these sides
abbrev pub bytes_in : List ℕ → ℕ → ℕ
bytes_in side w = brick_bytes (get_or side 0 0) (get_or side 1 0) (get_or side 2 0) w

-- a brick with these sides in plain order, from one in the version 1 order
abbrev pub plain_in : List ℕ → ℕ → List ℕ → List ℕ
plain_in side w brick = plain_from (get_or side 0 0) (get_or side 1 0) (get_or side 2 0) w brick

-- a brick with these sides in the version 1 order, from one in plain order
abbrev pub subtiled_in : List ℕ → ℕ → List ℕ → List ℕ
subtiled_in side w brick = subtiled_from (get_or side 0 0) (get_or side 1 0) (get_or side 2 0) w brick

-- check 18: one of the two buffers, of from and into bytes, is shorter than the brick
abbrev pub breaks18 : ℕ → ℕ → ℕ → Bool
breaks18 bytes from into = ltb from bytes || ltb into bytes

-- checks 20 and 18 in this order, over a brick lent in from bytes and a buffer of into bytes
unfoldable pub permute_answer : List ℕ → ℕ → ℕ → ℕ → Done
permute_answer side w from into =
    cond (breaks20 side w) (Err refusal.Subtiles)
    (cond (breaks18 (bytes_in side w) from into) (Err refusal.Room)
    (Ok (bytes_in side w)))

-- the buffer after the call: the brick as moved and the bytes past it, or the buffer itself where the call is refused
abbrev pub buffer_after : Done → List ℕ → List ℕ → List ℕ
buffer_after (Ok n) moved buffer = moved ++ drop n buffer
buffer_after (Err x) moved buffer = buffer

-- the buffer after a brick is put in plain order, and in the version 1 order
abbrev pub plain_buffer : List ℕ → ℕ → List ℕ → List ℕ → List ℕ
plain_buffer side w brick buffer = buffer_after (permute_answer side w (length brick) (length buffer)) (plain_in side w brick) buffer

abbrev pub subtiled_buffer : List ℕ → ℕ → List ℕ → List ℕ → List ℕ
subtiled_buffer side w brick buffer = buffer_after (permute_answer side w (length brick) (length buffer)) (subtiled_in side w brick) buffer
