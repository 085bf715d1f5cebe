-- Demand 3 speaks of something: a cube that opens, with a stored, a constant and missing bricks, and calls on it, all computed.
-- Assumes nothing.
use Rattle.std.specs.Prelude.{Ok, Err}
use Rattle.record.specs.Answers.{Taken}
use Rattle.record.specs.declared.Refusal.TheVariants as refusal
use Prim.Native.Nat.{ℕ, suc, zero}
use mathlib.Core.Path.{◌≡◌, refl}
use mathlib.Core.Bool.{Bool, true, ◌&&◌}
use mathlib.Core.List.{List, [], ◌∷◌, ◌++◌, map}
use native.Mathlib.Omega.{arith}
use lib.Dec.{ltb}
use lib.Ieee.{Float, binary64, of_bits, to_bits, fits, is_nan, lt, add, sub, mul, div, of_int}
use lib.IntN.{ℤ, pos, neg_ℤ}
use lib.ListN.{replicate}
use borrow.Author.Tests.{ltb-true}
use Rattle.std.proofs.lemmas.Bool.{and_parts}
use Rattle.endian.specs.Bytes.{Bytes, le, lows}
use Rattle.endian.specs.Loops.{cat, up, first_from, sum_to}
use Rattle.geometry.specs.Geometry.{halved, level_base, entry_of}
use Rattle.floats.specs.Rules.{finite, range_ok, same_bits, scaled_of}
use Rattle.record.specs.Types.{coding_of, width_of, decode_of}
use Rattle.record.specs.Header.{version_of, description_of, text_length_of}
use Rattle.record.specs.Record.{levels_of, bricks_of, alphas_of, brick_bytes_of, table_of, header_of, grid_of, record_of}
use Rattle.record.specs.declared.Record.{Record}
use Rattle.checks.specs.Checks.{breaks2, breaks3, side_ok, breaks4, breaks5, size_ok, breaks6, breaks7, breaks8, breaks9, zeros, breaks11, described}
use Rattle.checks.specs.Fits.{grid_fits, numbers_fit, record_fits, breaks14_with}
use Rattle.table.specs.Entries.{kind_of, word_at, kind_at, out_of_range, outside_at, overlap, overlaps_lower, overlaps_at, table_in, kind_in, breaks12, breaks13}
use Rattle.opening.specs.Opening.{length_verdict, text_verdict, range_verdict, overlap_verdict, entries_verdict, body_verdict, header_verdict, open_verdict, record_in}
use Rattle.cube.specs.declared.Region.{Region}
use Rattle.cube.specs.Places.{entry_in, brick_of, item_no, byte_of, rows_of, missing_brick, raw_of, float_of}
use Rattle.cube.specs.Regions.{raw_rows, float_rows, place_byte, store, written, touches, in_extent, region_verdict, raw_verdict, float_verdict, write_verdict}
use Rattle.cube.specs.Calls.{Call, raw_read, float_read, write, raw, floats, answer_of, cube_after, buffers_after}
use Rattle.zgy.specs.Ledger.{Event, CallsOn}
use Rattle.zgy.specs.Demands.{AfterCalls, OnePlaceOneSample}
use Rattle.zgy.proofs.Whole.{one-place-one-sample}

-- size (9, 4, 4), side 4, int8 with the range -1280 to 1270, five zero bytes of text. Entries 0 to 2 are of levels 2 and 1. Of level 0,
-- entry 3 is stored from 2,511 on, where the headers end, entry 4 is constant, and entry 5 is missing
unfoldable pub cube : List ℕ
cube =
    (86 ∷ 66 ∷ 83 ∷ 0 ∷ 3 ∷ 0 ∷ 0 ∷ 0 ∷ 0 ∷ [])
    ++ (4 ∷ 0 ∷ 0 ∷ 0 ∷ 4 ∷ 0 ∷ 0 ∷ 0 ∷ 4 ∷ 0 ∷ 0 ∷ 0 ∷ [])
    ++ (0 ∷ 0 ∷ 0 ∷ 160 ∷ 196 ∷ 0 ∷ 192 ∷ 158 ∷ 68 ∷ [])
    ++ replicate 73 0
    ++ (9 ∷ 0 ∷ 0 ∷ 0 ∷ 4 ∷ 0 ∷ 0 ∷ 0 ∷ 4 ∷ 0 ∷ 0 ∷ 0 ∷ [])
    ++ replicate 227 0
    ++ (5 ∷ 0 ∷ 0 ∷ 0 ∷ [])
    ++ replicate 2117 0
    ++ replicate 24 0
    ++ (207 ∷ 9 ∷ 0 ∷ 0 ∷ 0 ∷ 0 ∷ 0 ∷ 0 ∷ [])
    ++ (255 ∷ 0 ∷ 0 ∷ 0 ∷ 0 ∷ 0 ∷ 0 ∷ 128 ∷ [])
    ++ replicate 8 0
    ++ cat 64 (λ i. i ∷ [])

pub opens : open_verdict cube ≡ Taken
unfolding cube cat open_verdict header_verdict body_verdict length_verdict text_verdict entries_verdict range_verdict overlap_verdict record_in record_of version_of description_of text_length_of le breaks2 breaks3 side_ok breaks4 breaks5 size_ok breaks6 breaks7 breaks8 breaks9 zeros breaks11 described coding_of width_of finite range_ok bricks_of alphas_of brick_bytes_of table_of header_of halved first_from sum_to kind_of word_at kind_at out_of_range outside_at overlap overlaps_lower overlaps_at table_in breaks12 breaks13 of_bits lt
opens = refl

-- its numbers are bytes
bytes_only : List ℕ → Bool
bytes_only [] = true
bytes_only (x ∷ xs) = ltb x 256 && bytes_only xs

only_bytes : (l : List ℕ) → bytes_only l ≡ true → Bytes l
unfolding bytes_only
only_bytes [] e i = omega arith
only_bytes (x ∷ xs) e zero = ltb-true x 256 (and_parts (ltb x 256) (bytes_only xs) e).0
only_bytes (x ∷ xs) e (suc i) = only_bytes xs (and_parts (ltb x 256) (bytes_only xs) e).1 i

pub cube-bytes : Bytes cube
unfolding cube cat bytes_only
cube-bytes = only_bytes cube refl

-- ---- a write that is taken, one that touches the constant brick, a raw read and a float read over all three kinds

-- a run of n inlines from inline 3 on, two samples deep
box : ℕ → Region
box n = record { level = 0; start = 3 ∷ 0 ∷ 0 ∷ []; count = n ∷ 1 ∷ 2 ∷ [] }

abbrev whole : ℤ → Float
whole = of_int binary64

calls : List Call
calls =
    write (box 1) (7 ∷ 9 ∷ [])
    ∷ write (box 2) (1 ∷ 2 ∷ 3 ∷ 4 ∷ [])
    ∷ raw_read (box 6) (replicate 14 1)
    ∷ float_read (box 6) (replicate 14 (whole (pos 1)))
    ∷ []

-- ---- the events that the definitions compute are allowed, so every list of calls can be made

unfoldable pub made : Record → List ℕ → List Call → List Event
made r f [] = []
made r f (c ∷ cs) = record { call = c; answer = answer_of r f c; cube = cube_after r f c; buffers = buffers_after r f c } ∷ made r (cube_after r f c) cs

pub made_calls : (r : Record) (cs : List Call) (f : List ℕ) → CallsOn r f (made r f cs)
unfolding made
made_calls r [] f = tt
made_calls r (c ∷ cs) f = (record { answer-is = refl; cube-is = refl; buffers_are = refl }, made_calls r cs (cube_after r f c))

-- the second write is refused 19 for entry 4 and leaves the first one's bytes; int8 -128 to 127 are scaled to -1280 to 1270; a missing brick reads as 0; two items of each buffer stay
computed : (map (λ (e : Event). e.answer) (made (record_in cube) cube calls) ≡ Ok 2 ∷ Err (refusal.NotStored 4) ∷ Ok 12 ∷ Ok 12 ∷ [])
    × (map (λ (e : Event). e.buffers) (made (record_in cube) cube calls)
    ≡ (raw (7 ∷ 9 ∷ []) ∷ [])
    ∷ (raw (1 ∷ 2 ∷ 3 ∷ 4 ∷ []) ∷ [])
    ∷ (raw (7 ∷ 9 ∷ replicate 8 255 ++ (0 ∷ 0 ∷ 1 ∷ 1 ∷ [])) ∷ [])
    ∷ (floats (whole (pos 70) ∷ whole (pos 90) ∷ replicate 8 (whole (neg_ℤ (pos 10))) ++ (of_bits binary64 0 ∷ of_bits binary64 0 ∷ whole (pos 1) ∷ whole (pos 1) ∷ [])) ∷ [])
    ∷ [])
unfolding cube box calls made answer_of cube_after buffers_after raw_verdict float_verdict write_verdict region_verdict breaks14_with record_fits numbers_fit grid_fits same_bits fits is_nan to_bits grid_of record_in record_of version_of description_of text_length_of le cat breaks3 side_ok breaks4 breaks5 size_ok breaks6 breaks7 breaks8 breaks9 described coding_of width_of finite range_ok bricks_of halved first_from sum_to of_bits lt levels_of alphas_of header_of table_of brick_bytes_of in_extent touches entry_in brick_of item_no byte_of entry_of level_base kind_in kind_of word_at kind_at out_of_range outside_at table_in breaks12 place_byte written store up raw_rows float_rows rows_of missing_brick raw_of float_of lows decode_of scaled_of add sub mul div of_int
computed = (refl, refl)

-- so what demand 3 says of such a list holds of these calls
said : AfterCalls (record_in cube) cube (made (record_in cube) cube calls)
unfolding OnePlaceOneSample
said = (one-place-one-sample cube cube-bytes opens).1 (made (record_in cube) cube calls) (made_calls (record_in cube) calls cube)
