use native.Mathlib.Omega.{arith}
use Rattle.regions.proofs.Blocks.{room_small}
use Rattle.regions.proofs.Checked.needed.Goals as goal

pub overflow_mul-result : goal.overflow_mul-result
overflow_mul-result c =
    rw (c.from.ensures, c.from-2.ensures) (omega (arith, room_small _ _ c.args.self.now.passed c.args.item c.requires))

pub overflow_mul-result-2 : goal.overflow_mul-result-2
overflow_mul-result-2 c =
    rw (c.from.ensures, c.from-2.ensures, c.from-3.ensures) (omega (arith, room_small _ _ c.args.self.now.passed c.args.item c.requires))

pub overflow_mul-result-3 : goal.overflow_mul-result-3
overflow_mul-result-3 c =
    rw (c.from.ensures, c.from-2.ensures, c.from-3.ensures, c.from-4.ensures)
    (omega (arith, room_small _ _ c.args.self.now.passed c.args.item c.requires))
