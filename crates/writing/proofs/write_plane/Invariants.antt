use Rattle.std.specs.Iterator.Adapters.{enumerate_source, enumerate_count}
use Rattle.std.specs.Slice.Iter.{chunks_exact_rest, chunks_exact_size}
use Rattle.writing.specs.Writes.{run_bytes, run_to}
use Rattle.writing.proofs.Turns.{Parts}
use Rattle.writing.proofs.write_plane.Given as goal

abbrev pub invariant-loop-j : goal.invariant-loop-j
invariant-loop-j l =
    (goal.iterator-loop-j).can_next l.j-iterator × (goal.iterator-loop-j).is_finite l.j-iterator
    × Parts l.site.record.now l.initial.file (run_to l.site.record.now l.site.region.now l.i) (run_bytes l.site.record.now l.site.region.now) l.plane l.file (enumerate_count l.j-iterator)
    (chunks_exact_size (enumerate_source l.j-iterator)) (chunks_exact_rest (enumerate_source l.j-iterator))
