use mathlib.Core.Path.{◌≡◌}
use native.Mathlib.Omega.{arith}
use native.Mathlib.Nat.{zero-add}
use Rattle.cube.specs.Regions.{run_of}
use Rattle.runs.proofs.Boxes.{boxed_more0, boxed_all}
use Rattle.runs.proofs.Sites.{parts_on, asks_on, turn_on, end_on}
use Rattle.runs.proofs.walk.read_bricks.Goals as goal

pub new-along-items-requires : goal.new-along-items-requires
new-along-items-requires g c = let a = asks_on c.args.v.now.ready 0 (omega arith) c.args.v.now.some in (a.0, omega (arith, a.1))

pub read_columns-requires-clause-through : goal.read_columns-requires-clause-through
read_columns-requires-clause-through g c =
    let x = c.in-Some.ensures.steps.3 in
    turn_on c.args.v.now.ready 0 _ (omega arith) c.loop-along.invariant.1 x.0 x.1 x.2

pub loop-along-preserved : goal.loop-along-preserved
loop-along-preserved g c =
    let s = c.in-Some.ensures.steps in
    let x = s.3 in
    let was = c.loop-along.invariant in
    (rw x.3 (boxed_more0 was.0 (rw (zero-add, ← x.1) c.read_columns.ensures)), parts_on was.1 s.0 s.1 s.2)

pub returns : goal.returns
returns g c =
    let e : c.loop-along.along-iterator.at ≡ run_of c.args.v.now.site.region.now 0 = end_on c.args.v.now.ready 0 (omega arith) c.loop-along.invariant.1 c.in-None.ensures.steps.3 in
    boxed_all c.requires.room (rw e at c.loop-along.invariant.0)
