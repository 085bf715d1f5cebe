-- The worked numbers 1 to 10 of FORMAT 15 as one table: what the definitions compute beside what is said there.
use Rattle.std.specs.Prelude.{List, [], ◌∷◌, ◌++◌, ◌≡◌, ℕ, ◌+◌, ◌-◌, ◌%◌, ◌^◌, negsuc, replicate}
use Rattle.std.specs.Float.{binary64}
use Rattle.std.specs.Float.Ieee.{of_int}
use Rattle.endian.specs.Bytes.{lows}
use Rattle.geometry.specs.Geometry.{bricks_in, alphas_in, item_of}
use Rattle.record.specs.Answers.{refused, Taken}
use Rattle.record.specs.declared.Refusal.TheVariants as refusal
use Rattle.record.specs.Types.{value_of}
use Rattle.record.specs.Header.{id_at}
use Rattle.record.specs.Record.{side_of, extent_along, levels_of, bricks_of, alphas_of, brick_bytes_of, header_of, record_of}
use Rattle.record.specs.declared.Description.{Description}
use Rattle.record.specs.declared.Record.{Record}
use Rattle.table.specs.Entries.{kind_of}
use Rattle.table.specs.declared.Kind.TheVariants.{Constant}
use Rattle.opening.specs.Opening.{open_verdict}
use Rattle.cube.specs.Places.{Place, entry_in, brick_of, item_no, byte_of}
use Rattle.subtiles.specs.Subtiles.{subtiled_of}
use Rattle.making.specs.Making.{stored_id}

-- a description with these sizes, this side in each direction and this type, all else zero
abbrev pub cube_of : ℕ → ℕ → ℕ → ℕ → ℕ → Description
cube_of n0 n1 n2 side datatype = record {
  side = side ∷ side ∷ side ∷ [];
  datatype = datatype;
  range = 0 ∷ 0 ∷ [];
  dataid = replicate 16 0;
  verid = replicate 16 0;
  previd = replicate 16 0;
  srctype = 0;
  orig = 0 ∷ 0 ∷ 0 ∷ [];
  inc = 0 ∷ 0 ∷ 0 ∷ [];
  size = n0 ∷ n1 ∷ n2 ∷ [];
  hdim = 0;
  hfactor = 0;
  vdim = 0;
  vfactor = 0;
}

-- case 1's cube in int16, and its record with 5 bytes of text
abbrev pub one : Description
one = cube_of 112 64 176 64 2

unfoldable pub one_record : Record
one_record = record_of 3 one 5 0

-- sample (70, 5, 130) of its level 0
abbrev pub sample : Place
sample = record { lvl = 0; i = 70; j = 5; k = 130 }

-- a file of one brick: int8, brick side 4, size (3, 4, 2), coding range 0 to 1, five zero bytes of text, the entry's word v, and n bytes after the headers
unfoldable pub one_brick : ℕ → ℕ → List ℕ
one_brick v n =
    (86 ∷ 66 ∷ 83 ∷ 0 ∷ 3 ∷ 0 ∷ 0 ∷ 0 ∷ 0 ∷ [])
    ++ (4 ∷ 0 ∷ 0 ∷ 0 ∷ 4 ∷ 0 ∷ 0 ∷ 0 ∷ 4 ∷ 0 ∷ 0 ∷ 0 ∷ [])
    ++ (0 ∷ 0 ∷ 0 ∷ 0 ∷ 0 ∷ 0 ∷ 0 ∷ 128 ∷ 63 ∷ [])
    ++ replicate 73 0
    ++ (3 ∷ 0 ∷ 0 ∷ 0 ∷ 4 ∷ 0 ∷ 0 ∷ 0 ∷ 2 ∷ 0 ∷ 0 ∷ 0 ∷ [])
    ++ replicate 227 0
    ++ (5 ∷ 0 ∷ 0 ∷ 0 ∷ [])
    ++ replicate 2077 0
    ++ lows 8 v
    ++ replicate n 0

-- the id 00 01 .. 0F, and as it is stored
abbrev pub id16 : List ℕ
id16 = 0 ∷ 1 ∷ 2 ∷ 3 ∷ 4 ∷ 5 ∷ 6 ∷ 7 ∷ 8 ∷ 9 ∷ 10 ∷ 11 ∷ 12 ∷ 13 ∷ 14 ∷ 15 ∷ []

abbrev pub stored16 : List ℕ
stored16 = 3 ∷ 2 ∷ 1 ∷ 0 ∷ 5 ∷ 4 ∷ 7 ∷ 6 ∷ 8 ∷ 9 ∷ 10 ∷ 11 ∷ 12 ∷ 13 ∷ 14 ∷ 15 ∷ []

-- the bricks and the alpha tiles of level l
abbrev pub bricks_on : Description → ℕ → ℕ
bricks_on d = bricks_in d.size d.side

abbrev pub alphas_on : Description → ℕ → ℕ
alphas_on d = alphas_in d.size d.side

pub record WorkedNumbers : Type 0 where
  -- size (112, 64, 176), side 64: levels; the bricks of each level and of all; the alpha tiles of each level and of all
  pub case1 : (levels_of one ∷ bricks_on one 0 ∷ bricks_on one 1 ∷ bricks_on one 2 ∷ bricks_of one ∷ alphas_on one 0 ∷ alphas_on one 1 ∷ alphas_on one 2 ∷ alphas_of one ∷ [])
      ≡ (3 ∷ 6 ∷ 2 ∷ 1 ∷ 9 ∷ 2 ∷ 1 ∷ 1 ∷ 4 ∷ [])
  -- text 5 there: the end of the headers
  pub case2 : header_of one 5 ≡ 2519
  -- there, level 0 brick (1, 0, 2) and level 1 brick (0, 0, 1)
  pub case3 : (entry_in one_record 0 1 0 2 ∷ entry_in one_record 1 0 0 1 ∷ []) ≡ (8 ∷ 2 ∷ [])
  -- there, sample (70, 5, 130): the entry of its brick, which is (1, 0, 2); inside the brick, its item, and its byte in int16
  pub case4 : (brick_of one_record sample ∷ sample.i % side_of one 0 ∷ sample.j % side_of one 1 ∷ sample.k % side_of one 2 ∷ item_no one_record sample ∷ byte_of one_record 0 sample ∷ [])
      ≡ (entry_in one_record 0 1 0 2 ∷ 6 ∷ 5 ∷ 2 ∷ 24898 ∷ 49796 ∷ [])
  -- size (9, 4, 4), side 4: the bricks of each level and of all; the extent of level 1
  pub case5 : let d = cube_of 9 4 4 4 0 in
      (bricks_on d 0 ∷ bricks_on d 1 ∷ bricks_on d 2 ∷ bricks_of d ∷ extent_along d 1 0 ∷ extent_along d 1 1 ∷ extent_along d 1 2 ∷ []) ≡ (3 ∷ 2 ∷ 1 ∷ 6 ∷ 5 ∷ 2 ∷ 2 ∷ [])
  -- size 64 each and 65 each, side 64
  pub case6 : (bricks_of (cube_of 64 64 64 64 0) ∷ bricks_of (cube_of 65 65 65 64 0) ∷ []) ≡ (1 ∷ 9 ∷ [])
  -- version 1 sides (16, 16, 4), place (9, 3, 2): subtiled, plain
  pub case7 : (subtiled_of 16 4 9 3 2 ∷ item_of 16 4 9 3 2 ∷ []) ≡ (558 ∷ 590 ∷ [])
  -- int8 entry 0x80000000000000FF: a constant, and its value -1
  pub case8 : (kind_of 1 (2 ^ 63 + 255) ≡ Constant 255) × (value_of 0 255 ≡ of_int binary64 (negsuc 0))
  -- in a cube whose headers end at H = 2,431 and whose brick has 64 bytes: entry H - 1 is refused 12; entry H with the file ending at H + brick bytes is
  -- taken; one byte less is refused 12
  pub case9 : ((header_of (cube_of 3 4 2 4 0) 5 ∷ brick_bytes_of (cube_of 3 4 2 4 0) ∷ []) ≡ (2431 ∷ 64 ∷ []))
      × (open_verdict (one_brick (2431 - 1) 64) ≡ refused (refusal.Range 0))
      × (open_verdict (one_brick 2431 64) ≡ Taken)
      × (open_verdict (one_brick 2431 (64 - 1)) ≡ refused (refusal.Range 0))
  -- the id 00 01 .. 0F is stored 03 02 01 00 05 04 07 06 08 .. 0F, and read back
  pub case10 : (stored_id id16 ≡ stored16) × (id_at stored16 0 ≡ id16)
