use mathlib.Core.Path.{◌≡◌, ◌∙◌}
use native.Mathlib.Omega.{arith}
use Rattle.runs.proofs.Boxes.{boxed_more0}
use Rattle.runs.proofs.Rows.{plane_small, inline-small, inline_at}
use Rattle.runs.proofs.walk.read_inlines.Goals as goal

pub overflow_mul-plane : goal.overflow_mul-plane
overflow_mul-plane g c = omega (arith, plane_small c.args.v.now.ready)

pub overflow_mul-on : goal.overflow_mul-on
overflow_mul-on g c = omega (arith, inline-small c.requires.corner c.loop-t-test.true)

pub overflow_add-on : goal.overflow_add-on
overflow_add-on g c = omega (arith, inline-small c.requires.corner c.loop-t-test.true)

pub read_rows-requires : goal.read_rows-requires
read_rows-requires g c = record {
  fits = c.requires.fits;
  room = c.loop-t.invariant.0.size ∙ c.requires.room;
  rows = inline_at c.requires.corner c.loop-t-test.true;
}

pub loop-t-preserved : goal.loop-t-preserved
loop-t-preserved g c = (boxed_more0 c.loop-t.invariant.0 c.read_rows.ensures, omega arith)

pub returns : goal.returns
returns g c = let e : c.loop-t.t ≡ c.args.b.i.n = omega arith in rw e at c.loop-t.invariant.0
