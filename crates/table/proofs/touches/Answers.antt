use Rattle.std.proofs.Common.{rules, tests}
use Rattle.std.proofs.lemmas.Iterator.{YieldsList-from_slice, cases_from_any}
use Rattle.table.specs.Windows.{Near}
use Rattle.table.proofs.Overlaps.{near_yes, near_not}
use Rattle.table.proofs.Cells.{touched}
use Rattle.table.proofs.touches.Goals as goal

pub returns : goal.returns
returns c =
    let b = c.args.brick in
    let o = c.args.offset in
    touched _ c.args.c b o c.any.result c.requires.0 c.told-cells
    (cases_from_any _ _ _ (λ v. Near b v o) (λ v. Near b v o → ⊥) c.any.ensures.ran (YieldsList-from_slice _ c.iter.ensures.rest)
    (λ x q k. search (rules, tests, near_yes)) (λ x q k. search (rules, tests, near_not)))
