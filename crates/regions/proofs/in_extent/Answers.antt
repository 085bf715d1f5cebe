use Prim.Native.Nat.{◌≤◌}
use Rattle.record.specs.Record.{Sized}
use Rattle.cube.specs.Regions.{in_extent}
use Rattle.runs.proofs.Lattices.{level_asks, level-few}
use Rattle.regions.proofs.in_extent.Goals as goal

pub run_inside-requires : goal.run_inside-requires
run_inside-requires c =
    let sized : Sized c.args.r.description = (level_asks c.args.r c.args.g c.requires).0 in
    let few : c.args.g.level ≤ 20 = level-few c.args.r c.args.g c.requires in
    (sized.size0.low, few)

pub run_inside-requires-2 : goal.run_inside-requires-2
run_inside-requires-2 c =
    let sized : Sized c.args.r.description = (level_asks c.args.r c.args.g c.requires).0 in
    let few : c.args.g.level ≤ 20 = level-few c.args.r c.args.g c.requires in
    (sized.size1.low, few)

pub run_inside-requires-3 : goal.run_inside-requires-3
run_inside-requires-3 c =
    let sized : Sized c.args.r.description = (level_asks c.args.r c.args.g c.requires).0 in
    let few : c.args.g.level ≤ 20 = level-few c.args.r c.args.g c.requires in
    (sized.size2.low, few)

pub returns : goal.returns
unfolding in_extent
returns c = rw (c.run_inside.ensures, c.run_inside-2.ensures, c.run_inside-3.ensures)
