use native.Mathlib.Omega.{arith}
use Rattle.text.proofs.Pour.{writes_step}
use Rattle.report.specs.Listing.{cube_lines}
use Rattle.report.proofs.Lines.{entries_none, entries_more, entries_all}
use Rattle.report.proofs.cube_lines.Goals as goal

pub loop-entry-init : goal.loop-entry-init
loop-entry-init c = entries_none _ _ _

pub loop-entry-preserved : goal.loop-entry-preserved
loop-entry-preserved c = entries_more _ _ _ c.kind-kind.ensures c.loop-entry.invariant c.entry_line.ensures

pub returns : goal.returns
unfolding cube_lines
returns c =
    let all = entries_all c.args.r c.of-entries.result.table c.args.file.now c.loop-entry.entry c.requires.0 c.of-entries.ensures.table (omega arith) in
    rw all at (rw c.of-entries.ensures.file at (writes_step c.header_lines.ensures c.loop-entry.invariant))
