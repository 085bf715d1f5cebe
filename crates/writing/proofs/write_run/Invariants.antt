use mathlib.Core.Path.{◌≡◌}
use lib.ListN.{length}
use Rattle.endian.specs.Loops.{up}
use Rattle.runs.proofs.Sites.{PartsOf}
use Rattle.writing.specs.Writes.{sample_to}
use Rattle.writing.proofs.write_run.Given as goal

abbrev pub invariant-loop-down : goal.invariant-loop-down
invariant-loop-down l =
    (l.file ≡ up l.down-iterator.at (sample_to l.site.record.now l.site.region.now l.i l.j l.run) l.initial.file) × (length l.file ≡ length l.initial.file)
    × PartsOf l.site.lattice 2 l.down-iterator
