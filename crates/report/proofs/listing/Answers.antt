use mathlib.Core.Path.{sym, ◌∙◌}
use Rattle.opening.proofs.Rules.{opened_passed, passed_derived}
use Rattle.report.proofs.Taken.{opened_ok, opened_err}
use Rattle.report.proofs.Lines.{list_long, list_refused, list_taken}
use Rattle.report.proofs.listing.Goals as goal

pub returns-then-file-gt-LONGEST : goal.returns-then-file-gt-LONGEST
returns-then-file-gt-LONGEST c = rw (list_long _ c.if-file-gt-LONGEST.true) c.push_bytes.ensures

pub cube_lines-requires : goal.cube_lines-requires
cube_lines-requires c =
    let p = opened_ok _ _ (sym c.open.ensures ∙ c.in-Ok.is) in
    rw (← p.1) (passed_derived _ (opened_passed _ p.0))

pub returns-in-Err : goal.returns-in-Err
returns-in-Err c = rw (list_refused _ _ c.if-file-gt-LONGEST.false (opened_err _ _ (sym c.open.ensures ∙ c.in-Err.is))) c.refused_line.ensures

pub returns-in-Ok : goal.returns-in-Ok
returns-in-Ok c =
    let p = opened_ok _ _ (sym c.open.ensures ∙ c.in-Ok.is) in
    rw (list_taken _ c.if-file-gt-LONGEST.false p.0, p.1) c.cube_lines.ensures
