-- Laws of entries and fields that are written one after the other. Assumes nothing.
use mathlib.Core.List.{List, [], ◌∷◌, ◌++◌}
use mathlib.Core.Path.{◌≡◌}
use Prim.Native.Nat.{ℕ, ◌+◌, ◌*◌}
use Rattle.endian.specs.Loops.{cat}
use Rattle.endian.specs.Bytes.{lows}
use Rattle.text.specs.Writing.{Writes}
use Rattle.text.specs.declared.Writer.{Writer}
use Rattle.text.proofs.Pour.{writes_none, writes_step}
use Rattle.record.specs.declared.Description.{Description}
use Rattle.making.specs.Making.{three, survey_fields}
use Rattle.making.specs.Plan.{survey_sizes, stepped}
use Rattle.endian.proofs.Cats.{cat-more}

-- no entries of the brick table, and an entry more: the first is v, and each next one s more
module _ (v s : ℕ) where
  pub entry_none : (w : Writer) → Writes w (cat 0 (stepped v s)) w
  unfolding cat
  entry_none w = writes_none w

  pub entry_more : (e : ℕ) {w x y : Writer} → Writes w (cat e (stepped v s)) x → Writes x (lows 8 (v + e * s)) y → Writes w (cat (e + 1) (stepped v s)) y
  entry_more e p q = rw (cat-more e (stepped v s)) (writes_step p q)

-- the survey's fields, from its sizes
pub surveyed : (d : Description) (ns : List ℕ) → ns ≡ survey_sizes d → three d.orig ++ three ns ++ (3 ∷ []) ≡ survey_fields d
unfolding survey_fields
surveyed d ns e = rw e
