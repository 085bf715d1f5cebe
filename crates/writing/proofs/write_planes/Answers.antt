use mathlib.Core.Path.{ap, ◌∙◌}
use Rattle.std.specs.Iterator.Adapters.{enumerate_source, enumerate_count}
use Rattle.std.specs.Slice.Iter.{chunks_exact_rest, chunks_exact_size}
use Rattle.std.proofs.Common.{rules}
use Rattle.writing.proofs.Keeps.{writable_kept, plane_kept, all_planes}
use Rattle.writing.proofs.Turns.{plane_some, planes_some, plane_size, by_planes, parts-none, part_here, parts_more, parts-all}
use Rattle.writing.proofs.write_planes.Goals as goal

pub nonzero_div-size : goal.nonzero_div-size
nonzero_div-size c = planes_some c.requires.writable

pub chunks_exact-requires : goal.chunks_exact-requires
chunks_exact-requires c = rw (plane_size c.requires.writable _ c.requires.bytes) (plane_some c.requires.writable)

pub loop-i-init : goal.loop-i-init
loop-i-init c =
    let it = c.into_iter-i-iterator.ensures.into_iter_gives in
    let source = ap enumerate_source it ∙ c.enumerate-i-items.ensures.source in
    let size = ap chunks_exact_size source ∙ c.chunks_exact.ensures.size ∙ plane_size c.requires.writable _ c.requires.bytes in (
      (rw size (plane_some c.requires.writable), tt, search rules),
      tt,
      parts-none _ _ _ _ _ (ap enumerate_count it ∙ c.enumerate-i-items.ensures.count) (ap chunks_exact_rest source ∙ c.chunks_exact.ensures.rest) size,
    )

pub write_plane-requires : goal.write_plane-requires
write_plane-requires c =
    let s = c.in-Some.ensures.steps in
    let h = c.loop-i.invariant.2 in
    record {
      writable = writable_kept _ _ _ _ c.requires.writable c.loop-i.file h.kept;
      inside = part_here h _ _ s.1 s.0.1 _ (by_planes c.requires.writable _ c.requires.bytes) (plane_some c.requires.writable);
      bytes = s.0.1.1 ∙ h.sized;
    }

pub loop-i-preserved : goal.loop-i-preserved
loop-i-preserved c =
    let s = c.in-Some.ensures.steps in
    let h = c.loop-i.invariant.2 in
    let here = part_here h _ _ s.1 s.0.1 _ (by_planes c.requires.writable _ c.requires.bytes) (plane_some c.requires.writable) in (
      (search rules, tt, search rules),
      tt,
      parts_more h _ _ s.1 s.0.1 s.2 s.0.0 c.write_plane.ensures
          (plane_kept _ _ _ _ c.requires.writable _ here _ (s.0.1.1 ∙ h.sized) c.loop-i.file h.kept),
    )

pub returns : goal.returns
returns c = parts-all c.loop-i.invariant.2 _ (by_planes c.requires.writable _ c.requires.bytes) (plane_some c.requires.writable) c.in-None.ensures.steps.0.1.0
    ∙ all_planes c.args.site.now.record.now c.args.site.now.region.now c.args.input.now c.requires.bytes c.args.file.now
