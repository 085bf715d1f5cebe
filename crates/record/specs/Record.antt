-- The record that opening gives (FORMAT 10.2): the description with what follows from it.
use Rattle.std.specs.Prelude.{cond, List, [], ◌∷◌, ℕ, eqb, get_or, replicate, Float}
use Rattle.std.specs.Float.{binary32}
use Rattle.std.specs.Float.Ieee.{of_bits}
use Rattle.geometry.specs.Geometry.{count_in, halved, extent, levels, bricks, alphas, brick_bytes, table_start, header_end, Sizes}
use Rattle.record.specs.Types.{width_of}
use Rattle.record.specs.declared.Description.{Description}
use Rattle.record.specs.declared.Grid.{Grid}
use Rattle.record.specs.declared.Record.{Record}

-- size and side in direction i: 0 inline, 1 crossline, 2 vertical
abbrev pub size_of : Description → ℕ → ℕ
size_of d i = get_or d.size i 0

abbrev pub side_of : Description → ℕ → ℕ
side_of d i = get_or d.side i 0

-- the bricks of level 0 in direction i
abbrev pub count_of : Description → ℕ → ℕ
count_of d = count_in d.size d.side

-- the bricks of level l in direction i, and the level's extent in samples
abbrev pub bricks_along : Description → ℕ → ℕ → ℕ
bricks_along d l i = halved (count_of d i) l

abbrev pub extent_along : Description → ℕ → ℕ → ℕ
extent_along d l i = extent (size_of d i) l

unfoldable pub levels_of : Description → ℕ
levels_of d = levels (count_of d 0) (count_of d 1) (count_of d 2)

unfoldable pub bricks_of : Description → ℕ
bricks_of d = bricks (count_of d 0) (count_of d 1) (count_of d 2)

unfoldable pub alphas_of : Description → ℕ
alphas_of d = alphas (count_of d 0) (count_of d 1) (count_of d 2)

-- the bytes of a brick
unfoldable pub brick_bytes_of : Description → ℕ
brick_bytes_of d = brick_bytes (side_of d 0) (side_of d 1) (side_of d 2) (width_of d.datatype)

-- where the brick table starts, and where the headers end, with a text of t bytes
unfoldable pub table_of : Description → ℕ → ℕ
table_of d t = table_start t (alphas_of d)

unfoldable pub header_of : Description → ℕ → ℕ
header_of d t = header_end t (alphas_of d) (bricks_of d)

-- three fields as floats
abbrev pub floats_of : List ℕ → List Float
floats_of l = of_bits binary32 (get_or l 0 0) ∷ of_bits binary32 (get_or l 1 0) ∷ of_bits binary32 (get_or l 2 0) ∷ []

-- the bits of an end of the coding range that the grid keeps: those of 0 for type 6
abbrev pub bound_of : ℕ → ℕ → ℕ
bound_of datatype b = cond (eqb datatype 6) 0 b

-- orig, inc and the coding range as floats
unfoldable pub grid_of : Description → Grid
grid_of d = record {
  orig = floats_of d.orig;
  inc = floats_of d.inc;
  min = of_bits binary32 (bound_of d.datatype (get_or d.range 0 0));
  max = of_bits binary32 (bound_of d.datatype (get_or d.range 1 0));
}

-- the record of a cube with version v, description d, a text of t bytes and n bytes in all
unfoldable pub record_of : ℕ → Description → ℕ → ℕ → Record
record_of v d t n = record {
  version = v;
  description = d;
  text = t;
  grid = grid_of d;
  header = header_of d t;
  levels = levels_of d;
  bricks = bricks_of d;
  alphas = alphas_of d;
  length = n;
}

abbrev zero_float : Float
zero_float = of_bits binary32 0

-- the record beside a refusal: all zeros
unfoldable pub no_record : Record
no_record = record {
  version = 0;
  description = record {
    side = replicate 3 0;
    datatype = 0;
    range = replicate 2 0;
    dataid = replicate 16 0;
    verid = replicate 16 0;
    previd = replicate 16 0;
    srctype = 0;
    orig = replicate 3 0;
    inc = replicate 3 0;
    size = replicate 3 0;
    hdim = 0;
    hfactor = 0;
    vdim = 0;
    vfactor = 0;
  };
  text = 0;
  grid = record { orig = replicate 3 zero_float; inc = replicate 3 zero_float; min = zero_float; max = zero_float };
  header = 0;
  levels = 0;
  bricks = 0;
  alphas = 0;
  length = 0;
}

-- sizes and sides that keep every count, sum and product of a description from wrapping
abbrev pub Sized : Description → Type 0
Sized d = Sizes d.size d.side
