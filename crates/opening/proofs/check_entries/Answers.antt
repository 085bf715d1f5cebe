use mathlib.Core.Path.{◌≡◌, sym, ◌∙◌}
use native.Mathlib.Omega.{arith}
use Rattle.record.specs.Record.{bricks_of}
use Rattle.endian.specs.Loops.{first}
use Rattle.table.specs.Entries.{breaks12}
use Rattle.table.proofs.Search.{first_some, first_none}
use Rattle.table.proofs.Tables.{derived_brick, count-is, brick-is, lowest_12, lowest_13}
use Rattle.opening.proofs.Answers.{found_12, found_13, found_none}
use Rattle.opening.proofs.check_entries.Goals as goal
use Rattle.opening.proofs.check_entries.Goals.{In_default}

pub overflow_cast-result : goal.overflow_cast-result
overflow_cast-result c =
    let s = first_some _ _ _ (sym c.lowest_out_of_range.ensures ∙ c.in-Some.is) in
    record { fits = omega (arith, c.of-entries.result.readable.few) }

pub returns-in-Some : goal.returns-in-Some
returns-in-Some c =
    let is-t = c.of-entries.ensures.table in
    let s = first_some _ _ _ (sym c.lowest_out_of_range.ensures ∙ c.in-Some.is) in
    let o = rw c.of-entries.ensures.file at s.0 in
    found_12 _ _ _ (o ∙ lowest_12 _ _ is-t _) (rw (count-is _ _ is-t) at s.1)

-- no entry is out of range
none_out : (c : In_default) → c.of-entries.result.table.count ≡ first (breaks12 c.args.r c.args.file.now) (bricks_of c.args.r.description)
none_out c =
    sym (rw c.of-entries.ensures.file at (first_none _ _ (sym c.lowest_out_of_range.ensures ∙ c.in_default.is))) ∙ lowest_12 _ _ c.of-entries.ensures.table _

pub lowest_overlap-requires-clause-bricks : goal.lowest_overlap-requires-clause-bricks
lowest_overlap-requires-clause-bricks c = rw (brick-is _ _ c.of-entries.ensures.table) (derived_brick c.args.r c.requires.0)

pub overflow_cast-result-in-Some-lowest_overlap : goal.overflow_cast-result-in-Some-lowest_overlap
overflow_cast-result-in-Some-lowest_overlap c =
    let s = first_some _ _ _ (sym c.lowest_overlap.ensures ∙ c.in-Some-lowest_overlap.is) in
    record { fits = omega (arith, c.of-entries.result.readable.few) }

pub returns-in-Some-lowest_overlap : goal.returns-in-Some-lowest_overlap
returns-in-Some-lowest_overlap c =
    let is-t = c.of-entries.ensures.table in
    let count = count-is _ _ is-t in
    let s = first_some _ _ _ (sym c.lowest_overlap.ensures ∙ c.in-Some-lowest_overlap.is) in
    let o = rw c.of-entries.ensures.file at s.0 in
    found_13 _ _ _ (none_out (goal.at.returns-in-Some-lowest_overlap c).In_default) (omega arith) _ (o ∙ lowest_13 _ _ is-t _) (rw count at s.1)

pub returns : goal.returns
returns c =
    let is-t = c.of-entries.ensures.table in
    let count = count-is _ _ is-t in
    let alone = rw c.of-entries.ensures.file at (first_none _ _ (sym c.lowest_overlap.ensures ∙ c.in_default-lowest_overlap.is)) in
    found_none _ _ _ (none_out (goal.at.returns c).In_default) (omega arith) _ (sym alone ∙ lowest_13 _ _ is-t _) (omega arith)
