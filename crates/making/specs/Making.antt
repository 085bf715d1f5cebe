-- Making a cube (FORMAT 10.12): version 3, from a description and a lent text.
use Rattle.std.specs.Prelude.{cond, List, [], ◌∷◌, ◌++◌, ℕ, ◌+◌, ◌-◌, ◌*◌, ◌^◌, eqb, ltb, get_or, length, drop, replicate, Ok, Err}
use Rattle.std.specs.Float.{binary32}
use Rattle.std.specs.Float.Ieee.{of_bits}
use Rattle.endian.specs.Loops.{cat}
use Rattle.endian.specs.Bytes.{lows}
use Rattle.geometry.specs.Geometry.{ceil_div}
use Rattle.floats.specs.Rules.{survey_size}
use Rattle.record.specs.Answers.{refused, and_then, answered, Done, Verdict, Taken}
use Rattle.record.specs.Record.{size_of, bricks_of, alphas_of, brick_bytes_of, header_of}
use Rattle.record.specs.declared.Description.{Description}
use Rattle.checks.specs.Checks.{breaks11, described}
use Rattle.making.specs.declared.Fill.{Fill}
use Rattle.making.specs.declared.Fill.TheVariants.{Constant, Stored}
use Rattle.record.specs.declared.Refusal.TheVariants as refusal

-- what a number says of the bricks of a made cube: 0 that they are constant, any other that they are stored
abbrev pub fill_by : ℕ → Fill
fill_by n = cond (eqb n 0) Constant Stored

-- n zero bytes
abbrev pub zero_bytes : ℕ → List ℕ
zero_bytes n = replicate n 0

-- three fields of 32 bits
abbrev pub three : List ℕ → List ℕ
three l = lows 4 (get_or l 0 0) ++ lows 4 (get_or l 1 0) ++ lows 4 (get_or l 2 0)

-- an id as it is stored: its bytes 0-3, 4-5 and 6-7 each reversed, 8-15 as they are
abbrev pub stored_id : List ℕ → List ℕ
stored_id l =
    get_or l 3 0 ∷ get_or l 2 0 ∷ get_or l 1 0 ∷ get_or l 0 0
    ∷ get_or l 5 0 ∷ get_or l 4 0
    ∷ get_or l 7 0 ∷ get_or l 6 0
    ∷ get_or l 8 0 ∷ get_or l 9 0 ∷ get_or l 10 0 ∷ get_or l 11 0 ∷ get_or l 12 0 ∷ get_or l 13 0 ∷ get_or l 14 0 ∷ get_or l 15 0
    ∷ []

-- srvsize in direction i: inc x size by one 32-bit product
abbrev pub survey_of : Description → ℕ → ℕ
survey_of d i = survey_size (of_bits binary32 (get_or d.inc i 0)) (size_of d i)

-- magic, version 3, and the pad byte
unfoldable pub file_header : List ℕ
file_header = (86 ∷ 66 ∷ 83 ∷ 0 ∷ []) ++ lows 4 3 ++ (0 ∷ [])

-- the fields of InfoHeader, with the offset of each
-- 0: brick sides; 12: type; 13: coding range
unfoldable pub brick_fields : Description → List ℕ
brick_fields d = three d.side ++ (d.datatype ∷ []) ++ lows 4 (get_or d.range 0 0) ++ lows 4 (get_or d.range 1 0)

-- 21, 37, 53: ids; 69: source type
unfoldable pub id_fields : Description → List ℕ
id_fields d = stored_id d.dataid ++ stored_id d.verid ++ stored_id d.previd ++ (d.srctype ∷ [])

-- 70: orig; 82: inc; 94: size
unfoldable pub grid_fields : Description → List ℕ
grid_fields d = three d.orig ++ three d.inc ++ three d.size

-- 106: curorig; 118: cursize; 130: statistics
unfoldable pub current_fields : Description → List ℕ
current_fields d = zero_bytes 12 ++ three d.size ++ zero_bytes 32

-- 162: srvorig; 174: srvsize; 186: gdef
unfoldable pub survey_fields : Description → List ℕ
survey_fields d = three d.orig ++ (lows 4 (survey_of d 0) ++ lows 4 (survey_of d 1) ++ lows 4 (survey_of d 2)) ++ (3 ∷ [])

-- 315, 316: horizontal kind and factor; 324, 325: vertical
unfoldable pub unit_fields : Description → List ℕ
unit_fields d = (d.hdim ∷ []) ++ lows 8 d.hfactor ++ (d.vdim ∷ []) ++ lows 8 d.vfactor

-- InfoHeader, of a cube with a text of n bytes. 187: azimuth, bin size, control points; 333: text length
unfoldable pub info_header : Description → ℕ → List ℕ
info_header d n =
    brick_fields d ++ id_fields d ++ grid_fields d ++ current_fields d ++ survey_fields d ++ zero_bytes 128 ++ unit_fields d
    ++ lows 4 n

-- where the first stored brick starts: the first multiple of the brick bytes at or after the headers' end
unfoldable pub first_brick : Description → ℕ → ℕ
first_brick d n = ceil_div (header_of d n) (brick_bytes_of d) * brick_bytes_of d

-- the brick table: constant zero throughout, or stored in entry order
abbrev pub entry_bytes : Description → ℕ → Fill → ℕ → List ℕ
entry_bytes d n Constant e = lows 8 (2 ^ 63)
entry_bytes d n Stored e = lows 8 (first_brick d n + e * brick_bytes_of d)

-- what follows the headers: nothing, or the gap and the bricks, zero filled
abbrev pub after_headers : Description → ℕ → Fill → ℕ
after_headers d n Constant = 0
after_headers d n Stored = (first_brick d n - header_of d n) + bricks_of d * brick_bytes_of d

-- the file length
unfoldable pub made_length : Description → ℕ → Fill → ℕ
made_length d n fill = header_of d n + after_headers d n fill

-- the made file: headers, text, an empty histogram and alpha table, the brick table, the bricks
unfoldable pub made_file : Description → List ℕ → Fill → List ℕ
made_file d text fill =
    file_header ++ info_header d (length text) ++ text ++ zero_bytes 2064 ++ zero_bytes (8 * alphas_of d)
    ++ cat (bricks_of d) (entry_bytes d (length text) fill)
    ++ zero_bytes (after_headers d (length text) fill)

-- checks 4 to 9, 11 and 18; room is the lent buffer's length
unfoldable pub make_verdict : Description → List ℕ → Fill → ℕ → Verdict
make_verdict d text fill room =
    and_then (described d (length text))
    (cond (breaks11 text) (refused refusal.Text)
    (cond (ltb room (made_length d (length text) fill)) (refused refusal.Room)
    Taken))

-- what make answers: the length of the file, or a refusal
unfoldable pub make_answer : Description → List ℕ → Fill → ℕ → Done
make_answer d text fill room = answered (make_verdict d text fill room) (made_length d (length text) fill)

-- the buffer after it: the file and what stood after it; as it was where refused
abbrev pub buffer_if : Verdict → List ℕ → List ℕ → List ℕ
buffer_if (Ok u) file buffer = file ++ drop (length file) buffer
buffer_if (Err x) file buffer = buffer

unfoldable pub make_buffer : Description → List ℕ → Fill → List ℕ → List ℕ
make_buffer d text fill buffer = buffer_if (make_verdict d text fill (length buffer)) (made_file d text fill) buffer
