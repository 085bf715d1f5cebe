use mathlib.Core.Path.{ap, ◌∙◌}
use Rattle.std.specs.Iterator.Adapters.{enumerate_source, enumerate_count}
use Rattle.std.specs.Slice.Iter.{chunks_exact_rest, chunks_exact_size}
use Rattle.std.proofs.Common.{rules}
use Rattle.writing.proofs.Keeps.{writable_kept, whole_run_kept}
use Rattle.writing.proofs.Turns.{run_some, runs_some, run_size, parts-none, part_here, parts_more, parts-all}
use Rattle.writing.proofs.write_plane.Goals as goal

pub nonzero_div-size : goal.nonzero_div-size
nonzero_div-size c = runs_some c.requires.writable

pub chunks_exact-requires : goal.chunks_exact-requires
chunks_exact-requires c = rw (run_size c.requires.writable _ c.requires.bytes) (run_some c.requires.writable)

pub loop-j-init : goal.loop-j-init
loop-j-init c =
    let it = c.into_iter-j-iterator.ensures.into_iter_gives in
    let source = ap enumerate_source it ∙ c.enumerate-j-items.ensures.source in
    let size = ap chunks_exact_size source ∙ c.chunks_exact.ensures.size ∙ run_size c.requires.writable _ c.requires.bytes in (
      (rw size (run_some c.requires.writable), tt, search rules),
      tt,
      parts-none _ _ _ _ _ (ap enumerate_count it ∙ c.enumerate-j-items.ensures.count) (ap chunks_exact_rest source ∙ c.chunks_exact.ensures.rest) size,
    )

pub write_run-requires : goal.write_run-requires
write_run-requires c =
    let s = c.in-Some.ensures.steps in
    let h = c.loop-j.invariant.2 in
    record {
      writable = writable_kept _ _ _ _ c.requires.writable c.loop-j.file h.kept;
      inside = (c.requires.inside, part_here h _ _ s.1 s.0.1 _ c.requires.bytes (run_some c.requires.writable));
      bytes = s.0.1.1 ∙ h.sized;
    }

pub loop-j-preserved : goal.loop-j-preserved
loop-j-preserved c =
    let s = c.in-Some.ensures.steps in
    let h = c.loop-j.invariant.2 in
    let here = part_here h _ _ s.1 s.0.1 _ c.requires.bytes (run_some c.requires.writable) in (
      (search rules, tt, search rules),
      tt,
      parts_more h _ _ s.1 s.0.1 s.2 s.0.0 c.write_run.ensures
          (whole_run_kept _ _ _ _ c.requires.writable c.args.i _ c.requires.inside here _ (s.0.1.1 ∙ h.sized) c.loop-j.file h.kept),
    )

pub returns : goal.returns
returns c = parts-all c.loop-j.invariant.2 _ c.requires.bytes (run_some c.requires.writable) c.in-None.ensures.steps.0.1.0
