use Rattle.endian.specs.Loops.{cat}
use Rattle.text.specs.Writing.{Writes}
use Rattle.making.specs.Plan.{stepped}
use Rattle.making.proofs.push_entries.Given as goal

abbrev pub invariant-loop-entry : goal.invariant-loop-entry
invariant-loop-entry l = Writes l.initial.out (cat l.entry (stepped l.first l.step)) l.out
