use mathlib.Core.Path.{◌≡◌, ◌∙◌}
use native.Mathlib.Omega.{arith}
use Rattle.runs.proofs.Boxes.{boxed_more0}
use Rattle.runs.proofs.Readers.{row_holds, row_run}
use Rattle.runs.proofs.Rows.{plane_small, inline-small, inline_at}
use Rattle.sampling.proofs.Pieces.{lent}
use Rattle.sampling.proofs.Strips.{strip_few, strip_ends, strip_room, strip_box}
use Rattle.sampling.proofs.read_strips.Goals as goal

pub overflow_mul-plane : goal.overflow_mul-plane
overflow_mul-plane c = omega (arith, plane_small c.args.v.now.ready)

pub overflow_add-b : goal.overflow_add-b
overflow_add-b c = omega (arith, (row_holds (inline_at c.requires.corner.0 c.loop-t-test.true)).inline, c.args.v.now.ready.few)

pub sample_no-a-requires : goal.sample_no-a-requires
sample_no-a-requires c = row_holds (inline_at c.requires.corner.0 c.loop-t-test.true)

pub overflow_add-e : goal.overflow_add-e
overflow_add-e c = omega (arith, strip_room (inline_at c.requires.corner.0 c.loop-t-test.true) c.requires.corner.1 c.sample_no-a.ensures c.requires.room, c)

pub offset_bounds-out-a : goal.offset_bounds-out-a
offset_bounds-out-a c =
    omega (arith, strip_room (inline_at c.requires.corner.0 c.loop-t-test.true) c.requires.corner.1 c.sample_no-a.ensures c.requires.room, c.loop-t.invariant.0.size, c)

pub slice_bounds-read_strip-end : goal.slice_bounds-read_strip-end
slice_bounds-read_strip-end c =
    omega (arith, strip_room (inline_at c.requires.corner.0 c.loop-t-test.true) c.requires.corner.1 c.sample_no-a.ensures c.requires.room, c.loop-t.invariant.0.size, c)

pub overflow_mul-on : goal.overflow_mul-on
overflow_mul-on c = omega (arith, inline-small c.requires.corner.0 c.loop-t-test.true)

pub overflow_add-on : goal.overflow_add-on
overflow_add-on c = omega (arith, inline-small c.requires.corner.0 c.loop-t-test.true)

pub read_strip-requires : goal.read_strip-requires
read_strip-requires c =
    let on = inline_at c.requires.corner.0 c.loop-t-test.true in
    let long = lent _ _ c.loop-t.out (strip_room on c.requires.corner.1 c.sample_no-a.ensures (c.loop-t.invariant.0.size ∙ c.requires.room)) in
    let few = strip_few on c.requires.corner.1 in
    record {
      range = c.requires.range;
      few = (few.0, omega (arith, long, few.1), omega (arith, long, few.2));
      constant = (row_run c.args.v.now on).constant;
      stored = λ o e t l. strip_ends on c.requires.corner.1 o e t (omega (arith, long));
    }

pub loop-t-preserved : goal.loop-t-preserved
loop-t-preserved c =
    let on = inline_at c.requires.corner.0 c.loop-t-test.true in
    let long = lent _ _ c.loop-t.out (strip_room on c.requires.corner.1 c.sample_no-a.ensures (c.loop-t.invariant.0.size ∙ c.requires.room)) in
    (boxed_more0 c.loop-t.invariant.0 (strip_box on c.requires.corner.1 c.sample_no-a.ensures _ (c.loop-t.invariant.0.size ∙ c.requires.room) long c.read_strip.ensures), omega arith)

pub returns : goal.returns
returns c = let e : c.loop-t.t ≡ c.args.b.i.n = omega arith in rw e at c.loop-t.invariant.0
