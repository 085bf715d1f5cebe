-- A cube that we make (FORMAT 10.12) opens again, with the same description, text and bricks.
use Rattle.std.specs.Prelude.{List, [], ◌∷◌, ◌≡◌, refl, ℕ, ◌+◌, ◌*◌, ◌<◌, get_or, length, replicate}
use Rattle.std.specs.Float.Ieee.{of_bits, lt}
use Rattle.endian.specs.Bytes.{Bytes, peek}
use Rattle.endian.specs.Loops.{first_from, sum_to}
use Rattle.floats.specs.Rules.{finite, range_ok}
use Rattle.geometry.specs.Geometry.{halved}
use Rattle.record.specs.Answers.{refused, Taken}
use Rattle.record.specs.Header.{text_of}
use Rattle.record.specs.Types.{coding_of, width_of}
use Rattle.record.specs.Record.{bricks_of, alphas_of, brick_bytes_of, header_of, record_of}
use Rattle.record.specs.declared.Description.{Description}
use Rattle.checks.specs.Checks.{described, breaks4, breaks5, breaks6, breaks7, breaks8, breaks9, breaks11, zeros, side_ok, size_ok}
use Rattle.table.specs.declared.Kind.{Kind}
use Rattle.table.specs.declared.Kind.TheVariants as kind
use Rattle.table.specs.Entries.{kind_in}
use Rattle.opening.specs.Opening.{open_verdict, record_in}
use Rattle.making.specs.Making.{first_brick, made_length, made_file, make_verdict}
use Rattle.making.specs.declared.Fill.{Fill}
use Rattle.making.specs.declared.Fill.TheVariants.{Constant, Stored}
use Rattle.record.specs.declared.Refusal.TheVariants as refusal

-- n numbers, each below b
pub record Items (n b : ℕ) (l : List ℕ) : Type 0 where
  pub count : length l ≡ n
  pub below : (i : ℕ) → get_or l i 0 < b

-- the fields of d are values of their machine types
pub record Machine (d : Description) : Type 0 where
  pub side : Items 3 4294967296 d.side
  pub datatype : d.datatype < 256
  pub range : Items 2 4294967296 d.range
  pub dataid : Items 16 256 d.dataid
  pub verid : Items 16 256 d.verid
  pub previd : Items 16 256 d.previd
  pub srctype : d.srctype < 256
  pub orig : Items 3 4294967296 d.orig
  pub inc : Items 3 4294967296 d.inc
  pub size : Items 3 4294967296 d.size
  pub hdim : d.hdim < 256
  pub hfactor : d.hfactor < 18446744073709551616
  pub vdim : d.vdim < 256
  pub vfactor : d.vfactor < 18446744073709551616

-- where the brick of entry e is stored
abbrev pub brick_at : Description → ℕ → ℕ → ℕ
brick_at d n e = first_brick d n + e * brick_bytes_of d

-- what entry e names: constant zero, or a brick stored in entry order
abbrev pub made_kind : Description → ℕ → Fill → ℕ → Kind
made_kind d n Constant e = kind.Constant 0
made_kind d n Stored e = kind.Stored (brick_at d n e)

-- the made file f opens as it was described
pub record Opens (d : Description) (text : List ℕ) (fill : Fill) (f : List ℕ) : Type 0 where
  pub bytes : Bytes f
  pub long : length f ≡ made_length d (length text) fill
  pub taken : open_verdict f ≡ Taken
  pub same_record : record_in f ≡ record_of 3 d (length text) (made_length d (length text) fill)
  pub same_text : text_of f (length text) ≡ text
  pub kinds : (e : ℕ) → e < bricks_of d → kind_in (record_in f) f e ≡ made_kind d (length text) fill e
  -- every stored brick is zero filled
  pub zeroed : fill ≡ Stored → (e : ℕ) → e < bricks_of d → peek f (brick_at d (length text) e) (brick_bytes_of d) ≡ replicate (brick_bytes_of d) 0

-- every cube that make makes opens again
unfoldable pub MadeOpens : Type 0
MadeOpens =
    (d : Description) (text : List ℕ) (fill : Fill) (room : ℕ) → Machine d → Bytes text
    → make_verdict d text fill room ≡ Taken → Opens d text fill (made_file d text fill)

-- the cube of worked number 13: int8, brick side 4, size (3, 4, 2), coding range 0 to 1
worked13 : Description
worked13 = record {
  side = 4 ∷ 4 ∷ 4 ∷ [];
  datatype = 0;
  range = 0 ∷ 1065353216 ∷ [];
  dataid = replicate 16 0;
  verid = replicate 16 0;
  previd = replicate 16 0;
  srctype = 0;
  orig = 0 ∷ 0 ∷ 0 ∷ [];
  inc = 0 ∷ 0 ∷ 0 ∷ [];
  size = 3 ∷ 4 ∷ 2 ∷ [];
  hdim = 0;
  hfactor = 0;
  vdim = 0;
  vfactor = 0;
}

-- it is made where there is room: 2,431 bytes all constant, 2,496 with its brick stored from 2,432 on
constant_13 : make_verdict worked13 (replicate 5 0) Constant 2431 ≡ Taken
unfolding worked13 make_verdict made_length first_brick described breaks4 breaks5 breaks6 breaks7 breaks8 breaks9 breaks11 zeros side_ok size_ok coding_of width_of range_ok finite bricks_of alphas_of brick_bytes_of header_of halved first_from sum_to of_bits lt
constant_13 = refl

stored_13 : make_verdict worked13 (replicate 5 0) Stored 2496 ≡ Taken
unfolding worked13 make_verdict made_length first_brick described breaks4 breaks5 breaks6 breaks7 breaks8 breaks9 breaks11 zeros side_ok size_ok coding_of width_of range_ok finite bricks_of alphas_of brick_bytes_of header_of halved first_from sum_to of_bits lt
stored_13 = refl

short_13 : make_verdict worked13 (replicate 5 0) Stored 2495 ≡ refused refusal.Room
unfolding worked13 make_verdict made_length first_brick described breaks4 breaks5 breaks6 breaks7 breaks8 breaks9 breaks11 zeros side_ok size_ok coding_of width_of range_ok finite bricks_of alphas_of brick_bytes_of header_of halved first_from sum_to of_bits lt
short_13 = refl
