use mathlib.Core.Path.{◌≡◌, ◌∙◌}
use native.Mathlib.Omega.{arith}
use Rattle.runs.proofs.Boxes.{boxed_more0}
use Rattle.runs.proofs.Readers.{row_holds}
use Rattle.runs.proofs.Rows.{plane_small, inline-small, inline_at}
use Rattle.runs.proofs.Steps.{ready-width}
use Rattle.reading.proofs.Turns.{run_asks, run_room, run_box}
use Rattle.reading.proofs.read_runs.Goals as goal

pub overflow_mul-plane : goal.overflow_mul-plane
overflow_mul-plane c = omega (arith, plane_small c.args.v.now.ready)

pub overflow_add-b : goal.overflow_add-b
overflow_add-b c = omega (arith, (row_holds (inline_at c.requires.corner c.loop-t-test.true)).inline, c.args.v.now.ready.few)

pub sample_no-requires : goal.sample_no-requires
sample_no-requires c = row_holds (inline_at c.requires.corner c.loop-t-test.true)

pub overflow_mul-a : goal.overflow_mul-a
overflow_mul-a c = omega (arith, run_room c.args.v.now (inline_at c.requires.corner c.loop-t-test.true) c.requires.run c.sample_no.ensures c.index-w.ensures.0 c.requires.room, c)

pub overflow_mul-e : goal.overflow_mul-e
overflow_mul-e c = omega (arith, run_room c.args.v.now (inline_at c.requires.corner c.loop-t-test.true) c.requires.run c.sample_no.ensures c.index-w.ensures.0 c.requires.room, c)

pub overflow_add-e : goal.overflow_add-e
overflow_add-e c = omega (arith, run_room c.args.v.now (inline_at c.requires.corner c.loop-t-test.true) c.requires.run c.sample_no.ensures c.index-w.ensures.0 c.requires.room, c)

pub slice_bounds-read_items-end : goal.slice_bounds-read_items-end
slice_bounds-read_items-end c =
    omega (arith, run_room c.args.v.now (inline_at c.requires.corner c.loop-t-test.true) c.requires.run c.sample_no.ensures c.index-w.ensures.0 c.requires.room, c.loop-t.invariant.0.size, c)

pub overflow_mul-on : goal.overflow_mul-on
overflow_mul-on c = omega (arith, inline-small c.requires.corner c.loop-t-test.true)

pub overflow_add-on : goal.overflow_add-on
overflow_add-on c = omega (arith, inline-small c.requires.corner c.loop-t-test.true)

pub read_items-requires : goal.read_items-requires
read_items-requires c =
    record {
      fits = tt;
      room = rw (← ready-width _ _ _ _ c.args.v.now.ready, ← c.index-w.ensures.0) (omega arith);
      run = run_asks c.args.v.now (inline_at c.requires.corner c.loop-t-test.true) c.requires.run;
    }

pub loop-t-preserved : goal.loop-t-preserved
loop-t-preserved c = (
  boxed_more0 c.loop-t.invariant.0 (run_box c.args.v.now (inline_at c.requires.corner c.loop-t-test.true) c.requires.run c.sample_no.ensures c.index-w.ensures.0
      (c.loop-t.invariant.0.size ∙ c.requires.room) c.read_items.ensures),
  omega arith,
)

pub returns : goal.returns
returns c = let e : c.loop-t.t ≡ c.args.b.i.n = omega arith in rw e at c.loop-t.invariant.0
