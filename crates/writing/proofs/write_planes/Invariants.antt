use Rattle.std.specs.Iterator.Adapters.{enumerate_source, enumerate_count}
use Rattle.std.specs.Slice.Iter.{chunks_exact_rest, chunks_exact_size}
use Rattle.writing.specs.Writes.{plane_bytes, plane_to}
use Rattle.writing.proofs.Turns.{Parts}
use Rattle.writing.proofs.write_planes.Given as goal

abbrev pub invariant-loop-i : goal.invariant-loop-i
invariant-loop-i l =
    (goal.iterator-loop-i).can_next l.i-iterator × (goal.iterator-loop-i).is_finite l.i-iterator
    × Parts l.site.record.now l.initial.file (plane_to l.site.record.now l.site.region.now) (plane_bytes l.site.record.now l.site.region.now) l.input l.file (enumerate_count l.i-iterator)
    (chunks_exact_size (enumerate_source l.i-iterator)) (chunks_exact_rest (enumerate_source l.i-iterator))
