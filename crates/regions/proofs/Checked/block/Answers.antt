use native.Mathlib.Omega.{arith}
use Rattle.checks.proofs.Described.{described_sides}
use Rattle.runs.proofs.Lattices.{level_asks}
use Rattle.regions.proofs.Blocks.{fit_of, within_of, block_parts, first_ok, layer_small, block_made}
use Rattle.regions.proofs.Checked.block.Goals as goal

pub level_in-v-requires : goal.level_in-v-requires
level_in-v-requires c =
    level_asks c.args.self.now.r c.args.self.now.g (record { fitting = c.args.self.now.passed.fitting; leveled = c.args.self.now.passed.leveled })

pub bricks_along-x-requires : goal.bricks_along-x-requires
bricks_along-x-requires c =
    ((described_sides _ _ (fit_of c.args.self.now.r c.args.self.now.g c.args.self.now.passed).is-described).0, (within_of c.args.self.now.r c.args.self.now.g c.args.self.now.passed).run0.0)

pub bricks_along-y-requires : goal.bricks_along-y-requires
bricks_along-y-requires c =
    ((described_sides _ _ (fit_of c.args.self.now.r c.args.self.now.g c.args.self.now.passed).is-described).1, (within_of c.args.self.now.r c.args.self.now.g c.args.self.now.passed).run1.0)

pub bricks_along-z-requires : goal.bricks_along-z-requires
bricks_along-z-requires c =
    ((described_sides _ _ (fit_of c.args.self.now.r c.args.self.now.g c.args.self.now.passed).is-described).2, (within_of c.args.self.now.r c.args.self.now.g c.args.self.now.passed).run2.0)

pub entry_at-requires : goal.entry_at-requires
entry_at-requires c =
    let parts = block_parts c.level_in-v.ensures c.bricks_along-x.ensures c.bricks_along-y.ensures c.bricks_along-z.ensures in
    first_ok parts c.args.self.now.passed

pub overflow_mul-result : goal.overflow_mul-result
overflow_mul-result c =
    let parts = block_parts c.level_in-v.ensures c.bricks_along-x.ensures c.bricks_along-y.ensures c.bricks_along-z.ensures in
    record { fits = omega (arith, layer_small parts c.args.self.now.passed) }

pub returns : goal.returns
returns c =
    let parts = block_parts c.level_in-v.ensures c.bricks_along-x.ensures c.bricks_along-y.ensures c.bricks_along-z.ensures in
    block_made parts _ c.entry_at.ensures
