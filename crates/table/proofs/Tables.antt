-- Laws of the table of a record: when it can be read, and what its entries name. Assumes nothing.
use mathlib.Core.Bool.{true, false}
use mathlib.Core.List.{List}
use mathlib.Core.Logic.{◌⊎◌}
use mathlib.Core.Path.{◌≡◌, refl, ap}
use Prim.Native.Nat.{ℕ, ◌+◌, ◌*◌, ◌%◌, ◌^◌, ◌≤◌, ◌<◌}
use native.Mathlib.Nat.{mul-le-mul}
use native.Mathlib.Omega.{arith}
use lib.ListN.{length, get_or}
use Rattle.endian.specs.Loops.{first}
use Rattle.geometry.specs.Limits.{bytes_room, brick_limit}
use Rattle.geometry.specs.Geometry.{table_start}
use Rattle.record.specs.Types.{width_of}
use Rattle.record.specs.Record.{bricks_of, brick_bytes_of, table_of, header_of, Sized}
use Rattle.record.specs.declared.Description.{Description}
use Rattle.record.specs.declared.Record.{Record}
use Rattle.record.proofs.Laws.{width-le}
use Rattle.checks.specs.Checks.{brick_limit}
use Rattle.checks.specs.Fits.{record_fits}
use Rattle.checks.proofs.Described.{Described, described-all, described-is, described_sized, described-few, described-width, described-brick}
use Rattle.checks.proofs.Records.{fits_all}
use Rattle.table.specs.declared.Kind.TheVariants.{Missing, Constant, Stored}
use Rattle.table.specs.declared.Table.{Table}
use Rattle.table.specs.Entries.{kind_at, outside_at, overlaps_at, table_in, word_at, word_in, kind_in, breaks12, breaks13, Derived, Readable}
use Rattle.table.proofs.Words.{kind_missing, kind_zero, kind_constant, kind_offset, at_narrow, kind_same}
use Rattle.table.proofs.Range.{at_fits, at_passes}
use Rattle.table.proofs.Overlaps.{lower_apart, lower_passes}

-- the headers end where the table does
pub header_table : (d : Description) (t : ℕ) → header_of d t ≡ table_of d t + 8 * bricks_of d
unfolding header_of table_of
header_table d t = refl

pub brick-few : (d : Description) → Sized d → brick_bytes_of d ≤ bytes_room
unfolding brick_bytes_of
brick-few d s =
    mul-le-mul (mul-le-mul (mul-le-mul s.side0.high s.side1.high) s.side2.high) (width-le d.datatype)

-- a record that passes check 14
pub fits_derived : (r : Record) → record_fits r ≡ true → Derived r
fits_derived r e =
    let f = fits_all r e in
    record { passes = described-is _ _ f.is-described; header_is = f.header_is; bricks-is = f.bricks-is; alphas-is = f.alphas-is }

module _ (r : Record) (h : Derived r) where
  pub derived : Described r.description r.text
  derived = described-all r.description r.text h.passes

  pub derived_sized : Sized r.description
  derived_sized = described_sized _ _ derived

  pub derived_few : bricks_of r.description ≤ brick_limit
  derived_few = described-few _ _ derived

  pub derived_brick : 0 < brick_bytes_of r.description
  derived_brick = described-brick _ _ derived

  -- its table, as it is made
  pub table_made : (a b w : ℕ) → a ≡ table_start r.text r.alphas → b ≡ brick_bytes_of r.description → w ≡ width_of r.description.datatype
      → record { start = a; count = r.bricks; header = r.header; brick = b; width = w } ≡ table_in r
  unfolding table_in table_of
  table_made a b w ea eb ew = rw (ea, eb, ew, h.alphas-is, h.bricks-is, h.header_is)

  -- its table can be read in a file that has all headers
  pub derived_readable : (n : ℕ) → header_of r.description r.text ≤ n → Readable (table_in r) n
  unfolding table_in
  derived_readable n long =
      record {
        within = omega (arith, header_table r.description r.text);
        few = derived_few;
        item = described-width _ _ derived;
        small = brick-few _ derived_sized;
      }

-- a table that was made of the record, as the code has it
module _ (r : Record) (t : Table) (is-t : t ≡ table_in r) where
  pub count-is : t.count ≡ bricks_of r.description
  unfolding table_in
  count-is = ap (λ (x : Table). x.count) is-t

  pub brick-is : t.brick ≡ brick_bytes_of r.description
  unfolding table_in
  brick-is = ap (λ (x : Table). x.brick) is-t

  pub width_is : t.width ≡ width_of r.description.datatype
  unfolding table_in
  width_is = ap (λ (x : Table). x.width) is-t

  pub readable : Derived r → (n : ℕ) → header_of r.description r.text ≤ n → Readable t n
  readable h n long = rw is-t (derived_readable r h n long)

  module _ (f : List ℕ) where
    pub kind_is : (e : ℕ) → kind_at t f e ≡ kind_in r f e
    unfolding kind_in
    kind_is e = rw is-t

    pub outside_is : (e : ℕ) → outside_at t f e ≡ breaks12 r f e
    unfolding breaks12
    outside_is e = rw is-t

    pub lowest_12 : first (outside_at t f) t.count ≡ first (breaks12 r f) (bricks_of r.description)
    unfolding breaks12 table_in
    lowest_12 = rw is-t

    pub lowest_13 : first (overlaps_at t f) t.count ≡ first (breaks13 r f) (bricks_of r.description)
    unfolding breaks13 table_in
    lowest_13 = rw is-t

-- a brick at the offset o lies after the headers and ends in the file; bricks at the offsets o and p have no byte in common
abbrev pub Within : Record → List ℕ → ℕ → Type 0
Within r f o = (header_of r.description r.text ≤ o) × (o + brick_bytes_of r.description ≤ length f)

abbrev pub Apart : Record → ℕ → ℕ → Type 0
Apart r o p = (o + brick_bytes_of r.description ≤ p) ⊎ (p + brick_bytes_of r.description ≤ o)

-- what an entry names, by its word
module _ (r : Record) (f : List ℕ) (e : ℕ) where
  pub names_missing : word_in r f e ≡ 0 → kind_in r f e ≡ Missing
  unfolding kind_in word_in kind_at
  names_missing = kind_missing (table_in r).width (word_at (table_in r) f e)

  pub names_zero : word_in r f e ≡ 1 → kind_in r f e ≡ Constant 0
  unfolding kind_in word_in kind_at
  names_zero = kind_zero (table_in r).width (word_at (table_in r) f e)

  pub names_constant : 2 ^ 63 ≤ word_in r f e → kind_in r f e ≡ Constant (word_in r f e % 256 ^ width_of r.description.datatype)
  unfolding kind_in word_in kind_at table_in
  names_constant = kind_constant (table_in r).width (word_at (table_in r) f e)

  pub names_offset : 2 ≤ word_in r f e → word_in r f e < 2 ^ 63 → kind_in r f e ≡ Stored (word_in r f e)
  unfolding kind_in word_in kind_at
  names_offset = kind_offset (table_in r).width (word_at (table_in r) f e)

  pub names_narrow : (c : ℕ) → kind_in r f e ≡ Constant c → c < 256 ^ width_of r.description.datatype
  unfolding kind_in table_in
  names_narrow = at_narrow (table_in r) f e

  -- an entry of the table of another file that has its 8 bytes names the same
  pub names_same : (g : List ℕ) → let a = table_of r.description r.text + 8 * e in ((i : ℕ) → a ≤ i → i < a + 8 → get_or f i 0 ≡ get_or g i 0)
      → kind_in r f e ≡ kind_in r g e
  unfolding kind_in table_in
  names_same = kind_same (table_in r) f e

  -- a stored brick that passes check 12 lies after the headers and in the file, and one that lies there passes it
  pub stored-inside : breaks12 r f e ≡ false → (o : ℕ) → kind_in r f e ≡ Stored o → Within r f o
  unfolding breaks12 kind_in table_in
  stored-inside = at_fits (table_in r) f e

  pub inside-passes : ((o : ℕ) → kind_in r f e ≡ Stored o → Within r f o) → breaks12 r f e ≡ false
  unfolding breaks12 kind_in table_in
  inside-passes = at_passes (table_in r) f e

  -- a stored brick that passes check 13 is apart from those of lower entries, and one that is apart passes it
  pub stored_apart : breaks13 r f e ≡ false → (d o p : ℕ) → d < e → kind_in r f d ≡ Stored o → kind_in r f e ≡ Stored p → Apart r o p
  unfolding breaks13 overlaps_at kind_in table_in
  stored_apart = lower_apart (table_in r).brick (kind_at (table_in r) f) e

  pub apart_passes : ((d o p : ℕ) → d < e → kind_in r f d ≡ Stored o → kind_in r f e ≡ Stored p → Apart r o p) → breaks13 r f e ≡ false
  unfolding breaks13 overlaps_at kind_in table_in
  apart_passes = lower_passes (table_in r).brick (kind_at (table_in r) f) e
