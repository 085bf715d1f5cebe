use Prim.Native.Nat.{◌-◌}
use mathlib.Core.Path.{◌≡◌, ◌∙◌}
use native.Mathlib.Omega.{arith}
use borrow.Author.Rules.{rules}
use Rattle.geometry.specs.Geometry.{level_at}
use Rattle.geometry.proofs.Levels.{halvings}
use Rattle.geometry.proofs.LevelOf.{level-few, base-all}
use Rattle.geometry.proofs.Volume.level.Goals as goal

pub bricks_below-requires : goal.bricks_below-requires
bricks_below-requires c = omega (arith, level-few c.args.self.size c.args.self.side c.args.l c.requires.0)

pub overflow_sub-result : goal.overflow_sub-result
overflow_sub-result c = omega (arith, base-all c.args.self.size c.args.self.side c.args.l c.requires.0 c.requires.1, c.bricks_below.ensures)

pub count_at-requires : goal.count_at-requires
count_at-requires c = let h = level-few c.args.self.size c.args.self.side c.args.l c.requires.0 in search rules

pub count_at-requires-2 : goal.count_at-requires-2
count_at-requires-2 c = let h = level-few c.args.self.size c.args.self.side c.args.l c.requires.0 in search rules

pub returns : goal.returns
returns c =
    let e = halvings c.args.self.sizes c.args.l in
    let first : c.args.total - c.bricks_below.result ≡ (level_at c.args.self.size c.args.self.side c.args.l).base =
    omega (arith, base-all c.args.self.size c.args.self.side c.args.l c.requires.0 c.requires.1, c.bricks_below.ensures) in
    rw (first, c.count_at.ensures ∙ e.0, c.count_at-2.ensures ∙ e.1)

pub overflow_add-l : goal.overflow_add-l
overflow_add-l c = omega (arith, level-few c.args.self.size c.args.self.side c.args.l c.requires.0)
