use mathlib.Core.Path.{sym, ◌∙◌}
use native.Mathlib.Omega.{arith}
use lib.Seq.{length-take-le}
use Rattle.writing.proofs.Keeps.{writable, written_front}
use Rattle.writing.proofs.Taken.{taken_allowed, taken_laid, taken_sizes}
use Rattle.writing.proofs.write_region.Goals as goal

pub lattice_of-q-requires : goal.lattice_of-q-requires
lattice_of-q-requires c = taken_allowed _ _ _ _ c.requires

pub overflow_mul-n : goal.overflow_mul-n
overflow_mul-n c = omega (arith, taken_sizes _ _ _ _ c.requires _ c.lattice_of-q.ensures _ c.index.ensures.0, c)

pub overflow_mul-n-2 : goal.overflow_mul-n-2
overflow_mul-n-2 c = omega (arith, taken_sizes _ _ _ _ c.requires _ c.lattice_of-q.ensures _ c.index.ensures.0, c)

pub overflow_mul-n-3 : goal.overflow_mul-n-3
overflow_mul-n-3 c = omega (arith, taken_sizes _ _ _ _ c.requires _ c.lattice_of-q.ensures _ c.index.ensures.0, c)

pub slice_bounds-write_planes-end : goal.slice_bounds-write_planes-end
slice_bounds-write_planes-end c = sym (length-take-le _ _ (taken_sizes _ _ _ _ c.requires _ c.lattice_of-q.ensures _ c.index.ensures.0).whole_in)

pub invariant_of-site : goal.invariant_of-site
invariant_of-site c = record { laid = taken_laid _ _ _ _ c.requires _ c.lattice_of-q.ensures }

pub write_planes-requires : goal.write_planes-requires
write_planes-requires c =
    let p = taken_sizes _ _ _ _ c.requires _ c.lattice_of-q.ensures _ c.index.ensures.0 in
    record {
      writable = writable _ _ _ _ _ c.requires c.lattice_of-q.ensures;
      bytes = length-take-le _ _ p.whole_in ∙ p.size;
    }

pub returns : goal.returns
returns c =
    let p = taken_sizes _ _ _ _ c.requires _ c.lattice_of-q.ensures _ c.index.ensures.0 in
    record {
      count = p.size;
      cube = c.write_planes.ensures ∙ written_front _ _ _ _ _ p.size p.whole_in;
    }
