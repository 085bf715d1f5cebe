use Rattle.std.proofs.Common.{rules}
use Rattle.text.specs.Writing.{Writes}
use Rattle.making.specs.Making.{made_file}
use lib.ListN.{length}
use native.Mathlib.Omega.{arith}
use Rattle.text.proofs.Pour.{writes_step}
use Rattle.making.proofs.Sizes.{plan_alphas, plan_fits}
use Rattle.making.proofs.Files.{cube-is}
use Rattle.making.proofs.push_cube.Goals as goal

pub overflow_mul-plan : goal.overflow_mul-plan
overflow_mul-plan c =
    record { fits = omega (arith, plan_alphas c.args.cube.d (length c.args.cube.text.now) c.args.cube.taken c.args.fill _ c.plan_of-plan.ensures) }

pub push_entries-requires : goal.push_entries-requires
push_entries-requires c =
    plan_fits c.args.cube.d (length c.args.cube.text.now) c.args.cube.taken c.args.fill _ c.plan_of-plan.ensures

pub returns : goal.returns
returns c =
    let p = writes_step (writes_step (writes_step c.push_headers.ensures c.push_zeros.ensures) c.push_entries.ensures) c.push_zeros-2.ensures in
    let w : Writes c.new-file.result (made_file c.args.cube.d c.args.cube.text.now c.args.fill) c.push_zeros-2.new.out =
    rw (← cube-is c.args.cube.d c.args.cube.text.now c.args.fill _ c.plan_of-plan.ensures) p in
    search (rules, w)
