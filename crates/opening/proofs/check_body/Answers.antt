use mathlib.Core.Path.{◌∙◌}
use native.Mathlib.Omega.{arith}
use lib.ListN.{length-take, length-drop}
use Rattle.record.proofs.Laws.{text_part}
use Rattle.checks.specs.Checks.{breaks11}
use Rattle.checks.proofs.Described.{described_text}
use Rattle.table.proofs.Tables.{derived, header_table}
use Rattle.opening.proofs.Answers.{judged, body_10, body_11, body_rest}
use Rattle.opening.proofs.Header.{text_before}
use Rattle.opening.proofs.check_body.Goals as goal

pub returns-then-length-r : goal.returns-then-length-r
returns-then-length-r c = body_10 _ _ (rw c.requires.header_is at c.if-length-r.true)

pub slice_bounds-check11-end : goal.slice_bounds-check11-end
slice_bounds-check11-end c =
    omega (arith, c.requires.header_is, text_before c.args.r.description c.args.r.text, header_table c.args.r.description c.args.r.text)

pub check11-requires : goal.check11-requires
check11-requires c =
    let t = described_text _ _ (derived c.args.r c.requires) in
    simp (length-take, length-drop) (omega (arith, c.requires.header_is, text_before c.args.r.description c.args.r.text, header_table c.args.r.description c.args.r.text))

pub returns-then-check11 : goal.returns-then-check11
returns-then-check11 c =
    body_11 _ _ (rw c.requires.header_is at c.if-length-r.false) (judged breaks11 c.check11.ensures (text_part c.args.file.now c.args.r.text) c.if-check11.true)

pub returns : goal.returns
returns c =
    c.check_entries.ensures ∙ body_rest _ _ (rw c.requires.header_is at c.if-length-r.false) (judged breaks11 c.check11.ensures (text_part c.args.file.now c.args.r.text) c.if-check11.false)
