use Prim.Native.Nat.{◌≤◌}
use native.Mathlib.Omega.{arith}
use borrow.Author.Tests.{lt-ltb, le-ltb}
use Rattle.record.specs.Record.{header_of, bricks_of}
use Rattle.record.proofs.Laws.{alphas-few, shaped}
use Rattle.checks.specs.Checks.{brick_limit, breaks8}
use Rattle.checks.specs.Fits.{numbers_fit}
use Rattle.checks.proofs.numbers_fit.Goals as goal

pub returns-then-shape-gt-BRICK_LIMIT : goal.returns-then-shape-gt-BRICK_LIMIT
unfolding breaks8
returns-then-shape-gt-BRICK_LIMIT c =
    let d = c.args.r.description in
    simp (lt-ltb brick_limit (bricks_of d) (omega (arith, shaped d c.shape_in-shape.ensures, c.if-shape-gt-BRICK_LIMIT.true)))

pub header_end-requires : goal.header_end-requires
header_end-requires c =
    let d = c.args.r.description in
    let p = shaped d c.shape_in-shape.ensures in
    let few : bricks_of d ≤ brick_limit = omega (arith, p, c.if-shape-gt-BRICK_LIMIT.false) in
    (omega (arith, c.from.ensures, c.requires.1), omega (arith, p, alphas-few d c.requires.0, few), omega (arith, p, few))

pub returns : goal.returns
unfolding breaks8 numbers_fit header_of
returns c =
    let d = c.args.r.description in
    let p = shaped d c.shape_in-shape.ensures in
    let few : bricks_of d ≤ brick_limit = omega (arith, p, c.if-shape-gt-BRICK_LIMIT.false) in
    simp (
      le-ltb brick_limit _ few,
      c.header_end.ensures,
      c.from.ensures,
      c.from-2.ensures,
      c.from-3.ensures,
      c.from-4.ensures,
      p.levels-are,
      p.bricks-are,
      p.alphas-are,
    )
