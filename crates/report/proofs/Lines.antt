-- Laws of the listing's lines: a line more, and the listing by what opening says. Assumes nothing.
use mathlib.Core.List.{List}
use mathlib.Core.Path.{◌≡◌}
use Prim.Native.Nat.{ℕ, ◌+◌, ◌≤◌, ◌<◌}
use native.Mathlib.Numerals.{add-one}
use lib.ListN.{length}
use borrow.Author.Tests.{lt-ltb, le-ltb}
use Rattle.endian.specs.Loops.{cat}
use Rattle.text.specs.Text.{bytes_of}
use Rattle.text.specs.Writing.{Writes}
use Rattle.text.specs.declared.Writer.{Writer}
use Rattle.text.proofs.Pour.{writes_none, writes_step}
use Rattle.record.specs.declared.Record.{Record}
use Rattle.record.specs.declared.Refusal.{Refusal}
use Rattle.record.specs.Answers.{Taken, refused}
use Rattle.table.specs.declared.Kind.{Kind}
use Rattle.table.specs.declared.Table.{Table}
use Rattle.table.specs.Entries.{kind_at, table_in, kind_in, Derived}
use Rattle.opening.specs.Opening.{open_verdict, record_in}
use Rattle.report.specs.Listing.{refused_line, entry_line, entry_lines, cube_lines, longest, listing_of}

-- no entries, and an entry more
module _ (datatype : ℕ) (kinds : ℕ → Kind) where
  pub entries_none : (w : Writer) → Writes w (entry_lines datatype kinds 0) w
  unfolding cat
  entries_none w = writes_none w

  pub entries_more : (n : ℕ) {k : Kind} {w v u : Writer}
      → k ≡ kinds n → Writes w (entry_lines datatype kinds n) v → Writes v (entry_line datatype n k) u
      → Writes w (entry_lines datatype kinds (n + 1)) u
  unfolding cat
  entries_more n e p q = rw (add-one, ← e) (writes_step p q)

-- all entries of the record's table
pub entries_all : (r : Record) (t : Table) (f : List ℕ) (n : ℕ) → Derived r → t ≡ table_in r → n ≡ t.count
    → entry_lines r.description.datatype (kind_at t f) n ≡ entry_lines r.description.datatype (kind_in r f) r.bricks
unfolding kind_in table_in
entries_all r t f n h is-t is-n = rw (is-n, is-t, h.bricks-is)

module _ (f : List ℕ) where
  pub list_long : longest < length f → listing_of f ≡ bytes_of "too long\n"
  unfolding listing_of
  list_long h = rw (lt-ltb _ _ h)

  pub list_refused : (x : Refusal) → length f ≤ longest → open_verdict f ≡ refused x → listing_of f ≡ refused_line x
  unfolding listing_of
  list_refused x h e = rw (le-ltb _ _ h, e)

  pub list_taken : length f ≤ longest → open_verdict f ≡ Taken → listing_of f ≡ cube_lines f (record_in f)
  unfolding listing_of
  list_taken h e = rw (le-ltb _ _ h, e)
