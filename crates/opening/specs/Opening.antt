-- Opening (FORMAT 10.4): checks 1 to 13 in their order, and the record.
use Rattle.std.specs.Prelude.{cond, List, ℕ, ltb, length, Result}
use Rattle.endian.specs.Loops.{first}
use Rattle.geometry.specs.Limits.{text_start}
use Rattle.record.specs.Answers.{Verdict, Taken, refused, and_then, unless_found, answered}
use Rattle.record.specs.Header.{version_of, description_of, text_length_of, text_of}
use Rattle.record.specs.Record.{bricks_of, header_of, record_of}
use Rattle.record.specs.declared.Record.{Record}
use Rattle.record.specs.declared.Refusal.{Refusal}
use Rattle.record.specs.declared.Refusal.TheVariants as refusal
use Rattle.checks.specs.Checks.{breaks2, breaks3, breaks11, described}
use Rattle.table.specs.Entries.{breaks12, breaks13}

-- checks 1 to 9
unfoldable pub header_verdict : List ℕ → Verdict
header_verdict f =
    cond (ltb (length f) text_start) (refused refusal.Short)
    (cond (breaks2 f) (refused refusal.Magic)
    (cond (breaks3 (version_of f)) (refused refusal.Version)
    (described (description_of f) (text_length_of f))))

-- of a file f whose header has the record r
module _ (r : Record) (f : List ℕ) where
  -- check 10, and check 11
  unfoldable pub length_verdict : Verdict
  length_verdict = cond (ltb (length f) (header_of r.description r.text)) (refused refusal.Headers) Taken

  unfoldable pub text_verdict : Verdict
  text_verdict = cond (breaks11 (text_of f r.text)) (refused refusal.Text) Taken

  -- check 12, and check 13, over all entries
  unfoldable pub range_verdict : Verdict
  range_verdict = unless_found refusal.Range (first (breaks12 r f) (bricks_of r.description)) (bricks_of r.description) Taken

  unfoldable pub overlap_verdict : Verdict
  overlap_verdict = unless_found refusal.Overlap (first (breaks13 r f) (bricks_of r.description)) (bricks_of r.description) Taken

  -- checks 12 and 13
  unfoldable pub entries_verdict : Verdict
  entries_verdict = and_then range_verdict overlap_verdict

  -- checks 10 to 13
  unfoldable pub body_verdict : Verdict
  body_verdict = and_then length_verdict (and_then text_verdict entries_verdict)

-- the record of a file, from its header's fields and its length
unfoldable pub record_in : List ℕ → Record
record_in f = record_of (version_of f) (description_of f) (text_length_of f) (length f)

-- checks 1 to 13
unfoldable pub open_verdict : List ℕ → Verdict
open_verdict f = and_then (header_verdict f) (body_verdict (record_in f) f)

-- what opening answers: the record, or the refusal
unfoldable pub opened_of : List ℕ → Result Record Refusal
opened_of f = answered (open_verdict f) (record_in f)
