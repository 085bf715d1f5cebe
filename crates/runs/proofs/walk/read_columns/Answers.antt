use mathlib.Core.Path.{◌≡◌}
use native.Mathlib.Omega.{arith}
use native.Mathlib.Nat.{zero-add}
use Rattle.cube.specs.Regions.{run_of}
use Rattle.runs.proofs.Boxes.{boxed_more1}
use Rattle.runs.proofs.Sites.{parts_on, asks_on, turn_on, end_on}
use Rattle.runs.proofs.walk.read_columns.Goals as goal

pub new-across-items-requires : goal.new-across-items-requires
new-across-items-requires g c = let a = asks_on c.args.v.now.ready 1 (omega arith) c.args.v.now.some in (a.0, omega (arith, a.1))

pub read_column-requires-clause-through : goal.read_column-requires-clause-through
read_column-requires-clause-through g c =
    let x = c.in-Some.ensures.steps.3 in
    (c.requires.through, turn_on c.args.v.now.ready 1 _ (omega arith) c.loop-across.invariant.1 x.0 x.1 x.2)

pub loop-across-preserved : goal.loop-across-preserved
loop-across-preserved g c =
    let s = c.in-Some.ensures.steps in
    let x = s.3 in
    let was = c.loop-across.invariant in
    (rw x.3 (boxed_more1 was.0 (rw (zero-add, ← x.1) c.read_column.ensures)), parts_on was.1 s.0 s.1 s.2)

pub returns : goal.returns
returns g c =
    let e : c.loop-across.across-iterator.at ≡ run_of c.args.v.now.site.region.now 1 = end_on c.args.v.now.ready 1 (omega arith) c.loop-across.invariant.1 c.in-None.ensures.steps.3 in
    rw e at c.loop-across.invariant.0
