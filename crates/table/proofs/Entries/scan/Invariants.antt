use Rattle.table.specs.Windows.{offset_at}
use Rattle.table.proofs.Cells.{Filled, Clear}
use Rattle.table.proofs.Entries.scan.Given as goal

abbrev pub invariant-loop-entry : goal.invariant-loop-entry
invariant-loop-entry l =
    let os = offset_at l.self.table l.self.file.now in
    Filled os l.brick l.start l.entry l.cells × Clear os l.brick l.start l.entry
