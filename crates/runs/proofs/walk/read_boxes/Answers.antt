use mathlib.Core.Path.{◌≡◌}
use native.Mathlib.Omega.{arith}
use native.Mathlib.Nat.{zero-add}
use Rattle.cube.specs.Regions.{run_of}
use Rattle.runs.proofs.Boxes.{boxed_more2}
use Rattle.runs.proofs.Sites.{parts_on, asks_on, turn_on, end_on}
use Rattle.runs.proofs.walk.read_boxes.Goals as goal

pub new-down-items-requires : goal.new-down-items-requires
new-down-items-requires g c = let a = asks_on c.args.v.now.ready 2 (omega arith) c.args.v.now.some in (a.0, omega (arith, a.1))

pub read_box-requires-clause-in_brick : goal.read_box-requires-clause-in_brick
read_box-requires-clause-in_brick g c =
    let x = c.in-Some.ensures.steps.3 in
    record { inline = c.requires.through.0; crossline = c.requires.through.1; vertical = turn_on c.args.v.now.ready 2 _ (omega arith) c.loop-down.invariant.1 x.0 x.1 x.2 }

pub loop-down-preserved : goal.loop-down-preserved
loop-down-preserved g c =
    let s = c.in-Some.ensures.steps in
    let x = s.3 in
    let was = c.loop-down.invariant in
    (rw x.3 (boxed_more2 was.0 (rw (zero-add, ← x.1) c.read_box.ensures)), parts_on was.1 s.0 s.1 s.2)

pub returns : goal.returns
returns g c =
    let e : c.loop-down.down-iterator.at ≡ run_of c.args.v.now.site.region.now 2 = end_on c.args.v.now.ready 2 (omega arith) c.loop-down.invariant.1 c.in-None.ensures.steps.3 in
    rw e at c.loop-down.invariant.0
