use Rattle.text.specs.Writing.{Writes}
use Rattle.table.specs.Entries.{kind_at}
use Rattle.report.specs.Listing.{entry_lines}
use Rattle.report.proofs.cube_lines.Given as goal

abbrev pub invariant-loop-entry : goal.invariant-loop-entry
invariant-loop-entry l = Writes l.initial.out (entry_lines l.d.datatype (kind_at l.entries.table l.entries.file.now) l.entry) l.out
