-- The brick table of a cube (FORMAT 5, 6): the word of each entry, what it names, and checks 12 and 13.
use Rattle.std.specs.Prelude.{Bool, false, not, ◌&&◌, cond, Option, Some, None, List, ◌⊎◌, ◌≡◌, ℕ, ◌+◌, ◌*◌, ◌%◌, ◌^◌, ◌≤◌, eqb, leb, ltb, length}
use Rattle.std.specs.Coded.{Coded-set, coded_ℕ, le_prop}
use Rattle.std.proofs.Common.{inl, inr, ap, arith}
use Rattle.geometry.specs.Limits.{bytes_room}
use Rattle.endian.specs.Loops.{first, any}
use Rattle.endian.specs.Bytes.{le}
use Rattle.record.specs.Types.{width_of}
use Rattle.record.specs.Record.{bricks_of, alphas_of, brick_bytes_of, table_of, header_of}
use Rattle.record.specs.declared.Record.{Record}
use Rattle.record.specs.Answers.{Taken}
use Rattle.checks.specs.Checks.{brick_limit, described}
use Rattle.table.specs.declared.Kind.{Kind}
use Rattle.table.specs.declared.Kind.TheVariants.{Missing, Constant, Stored}
use Rattle.table.specs.declared.Table.{Table}

-- what the word v names, for items of w bytes: 0 is missing, 1 is constant zero; with the top bit set it is constant, in its low w bytes; otherwise it is
-- an offset
unfoldable pub kind_of : ℕ → ℕ → Kind
kind_of w v =
    cond (eqb v 0) Missing
    (cond (eqb v 1) (Constant 0)
    (cond (leb (2 ^ 63) v) (Constant (v % 256 ^ w))
    (Stored v)))

-- the offset of a stored brick; 0, which none has, for the others
abbrev pub offset_in : Kind → ℕ
offset_in Missing = 0
offset_in (Constant v) = 0
offset_in (Stored o) = o

-- the offset of a stored brick, and none for the others
abbrev pub stored_in : Kind → Option ℕ
stored_in Missing = None
stored_in (Constant v) = None
stored_in (Stored o) = Some o

-- check 12 of what an entry names, in a file of n bytes whose headers end at h: a brick of b bytes must lie after the headers and end in the file
unfoldable pub out_of_range : ℕ → ℕ → ℕ → Kind → Bool
out_of_range h b n Missing = false
out_of_range h b n (Constant v) = false
out_of_range h b n (Stored o) = not (leb h o && leb (o + b) n)

-- two stored bricks of b bytes have a byte in common
unfoldable pub overlap : ℕ → Kind → Kind → Bool
overlap b (Stored o) (Stored p) = ltb o (p + b) && ltb p (o + b)
overlap b (Stored o) Missing = false
overlap b (Stored o) (Constant v) = false
overlap b Missing k = false
overlap b (Constant v) k = false

-- check 13: the brick of entry e overlaps that of a lower entry
unfoldable pub overlaps_lower : ℕ → (ℕ → Kind) → ℕ → Bool
overlaps_lower b kinds e = ltb (first (λ l. overlap b (kinds l) (kinds e)) e) e

-- of the table t in the file f: the word of entry e, what the entry names, and checks 12 and 13 of it
module _ (t : Table) (f : List ℕ) where
  unfoldable pub word_at : ℕ → ℕ
  word_at e = le 8 f (t.start + 8 * e)

  unfoldable pub kind_at : ℕ → Kind
  kind_at e = kind_of t.width (word_at e)

  unfoldable pub outside_at : ℕ → Bool
  outside_at e = out_of_range t.header t.brick (length f) (kind_at e)

  unfoldable pub overlaps_at : ℕ → Bool
  overlaps_at e = overlaps_lower t.brick kind_at e

-- the table of the cube with record r
unfoldable pub table_in : Record → Table
table_in r = record {
  start = table_of r.description r.text;
  count = bricks_of r.description;
  header = header_of r.description r.text;
  brick = brick_bytes_of r.description;
  width = width_of r.description.datatype;
}

-- the lowest number below n that passes, where one does
unfoldable pub lowest : (ℕ → Bool) → ℕ → Option ℕ
lowest p n = cond (any p n) (Some (first p n)) None

-- of the cube with record r and the bytes f: the word of entry e, what the entry names, and checks 12 and 13 of it
module _ (r : Record) (f : List ℕ) where
  unfoldable pub word_in : ℕ → ℕ
  word_in e = word_at (table_in r) f e

  unfoldable pub kind_in : ℕ → Kind
  kind_in e = kind_at (table_in r) f e

  unfoldable pub breaks12 : ℕ → Bool
  breaks12 e = outside_at (table_in r) f e

  unfoldable pub breaks13 : ℕ → Bool
  breaks13 e = overlaps_at (table_in r) f e

-- an item has 1, 2 or 4 bytes
abbrev pub Width : ℕ → Type 0
Width w = (w ≡ 1) ⊎ ((w ≡ 2) ⊎ (w ≡ 4))

-- a record whose description and text length pass checks 4 to 9, with the numbers that follow from them
pub record Derived (r : Record) : Type 0 where
  pub passes : described r.description r.text ≡ Taken
  pub header_is : r.header ≡ header_of r.description r.text
  pub bricks-is : r.bricks ≡ bricks_of r.description
  pub alphas-is : r.alphas ≡ alphas_of r.description

-- the table lies in a file of n bytes, and no sum over it wraps
pub record Readable (t : Table) (n : ℕ) : Type 0 where
  pub within : t.start + 8 * t.count ≤ n
  pub few : t.count ≤ brick_limit
  pub item : Width t.width
  pub small : t.brick ≤ bytes_room

-- each of the two has one proof at most
pub Width-prop : (w : ℕ) → IsProp (Width w)
Width-prop w (inl a) (inl b) = ap inl (Coded-set coded_ℕ w 1 a b)
Width-prop w (inl a) (inr (inl b)) = absurd (omega arith)
Width-prop w (inl a) (inr (inr b)) = absurd (omega arith)
Width-prop w (inr (inl a)) (inl b) = absurd (omega arith)
Width-prop w (inr (inl a)) (inr (inl b)) = ap (λ e. inr (inl e)) (Coded-set coded_ℕ w 2 a b)
Width-prop w (inr (inl a)) (inr (inr b)) = absurd (omega arith)
Width-prop w (inr (inr a)) (inl b) = absurd (omega arith)
Width-prop w (inr (inr a)) (inr (inl b)) = absurd (omega arith)
Width-prop w (inr (inr a)) (inr (inr b)) = ap (λ e. inr (inr e)) (Coded-set coded_ℕ w 4 a b)

pub Readable-prop : (t : Table) (n : ℕ) → IsProp (Readable t n)
Readable-prop t n = Prim.hlevel (le_prop, Width-prop)
