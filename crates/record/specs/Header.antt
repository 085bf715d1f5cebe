-- The header's fields, as the table of FORMAT 3.1 has them. An offset in the table is one inside InfoHeader, which starts at byte 9.
use Rattle.std.specs.Prelude.{List, [], ◌∷◌, ℕ, ◌+◌, get_or}
use Rattle.endian.specs.Bytes.{le, peek}
use Rattle.geometry.specs.Limits.{text_start}
use Rattle.record.specs.declared.Description.{Description}

-- three numbers of 32 bits from place a on, and two
abbrev pub three_at : List ℕ → ℕ → List ℕ
three_at f a = le 4 f a ∷ le 4 f (a + 4) ∷ le 4 f (a + 8) ∷ []

abbrev pub two_at : List ℕ → ℕ → List ℕ
two_at f a = le 4 f a ∷ le 4 f (a + 4) ∷ []

-- the k-th byte from place a on
abbrev pub byte_at : List ℕ → ℕ → ℕ → ℕ
byte_at f a k = get_or f (a + k) 0

-- an id in canonical order: the stored bytes 0-3, 4-5 and 6-7 are each reversed, 8-15 are as they are
abbrev pub id_at : List ℕ → ℕ → List ℕ
id_at f a =
    byte_at f a 3 ∷ byte_at f a 2 ∷ byte_at f a 1 ∷ get_or f a 0
    ∷ byte_at f a 5 ∷ byte_at f a 4
    ∷ byte_at f a 7 ∷ byte_at f a 6
    ∷ byte_at f a 8 ∷ byte_at f a 9 ∷ byte_at f a 10 ∷ byte_at f a 11 ∷ byte_at f a 12 ∷ byte_at f a 13 ∷ byte_at f a 14 ∷ byte_at f a 15
    ∷ []

unfoldable pub version_of : List ℕ → ℕ
version_of f = le 4 f 4

unfoldable pub description_of : List ℕ → Description
description_of f = record {
  side = three_at f (9 + 0);
  datatype = get_or f (9 + 12) 0;
  range = two_at f (9 + 13);
  dataid = id_at f (9 + 21);
  verid = id_at f (9 + 37);
  previd = id_at f (9 + 53);
  srctype = get_or f (9 + 69) 0;
  orig = three_at f (9 + 70);
  inc = three_at f (9 + 82);
  size = three_at f (9 + 94);
  hdim = get_or f (9 + 315) 0;
  hfactor = le 8 f (9 + 316);
  vdim = get_or f (9 + 324) 0;
  vfactor = le 8 f (9 + 325);
}

unfoldable pub text_length_of : List ℕ → ℕ
text_length_of f = le 4 f (9 + 333)

-- the text section of n bytes
abbrev pub text_of : List ℕ → ℕ → List ℕ
text_of f n = peek f text_start n
