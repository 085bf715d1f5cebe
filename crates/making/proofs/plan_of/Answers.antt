-- The numbers of a plan, and that none of them wraps.
use mathlib.Core.Path.{◌≡◌}
use Prim.Native.Nat.{ℕ, ◌-◌, ◌%◌}
use native.Mathlib.Nat.{mod-lt}
use native.Mathlib.Omega.{arith}
use lib.ListN.{length}
use Rattle.geometry.specs.Geometry.{header_end, shape_of}
use Rattle.geometry.specs.declared.Shape.{Shape}
use Rattle.record.specs.Record.{count_of, brick_bytes_of}
use Rattle.record.specs.declared.Description.{Description}
use Rattle.record.specs.Answers.{Taken}
use Rattle.record.proofs.Laws.{shaped}
use Rattle.checks.specs.Checks.{described}
use Rattle.checks.proofs.Described.{described-all, described_sized}
use Rattle.making.proofs.Sizes.{text_few, bricks-few, alphas-le-bricks, next_multiple, all-bytes, Numbers, numbers, plan_constant, plan_stored}
use Rattle.making.proofs.plan_of.Goals as goal

planned : (d : Description) (t : ℕ) → described d t ≡ Taken → {s : Shape} {h b : ℕ} → s ≡ shape_of (count_of d 0) (count_of d 1) (count_of d 2)
    → h ≡ header_end t s.alphas s.bricks → b ≡ brick_bytes_of d → Numbers d t s.alphas s.bricks h b
planned d t taken e eh eb = let p = shaped d e in numbers d t taken _ _ _ _ p.alphas-are p.bricks-are eh eb

pub shape_in-shape-requires : goal.shape_in-shape-requires
shape_in-shape-requires c = described_sized _ _ (described-all _ _ c.args.cube.taken)

pub brick_bytes_in-brick-requires : goal.brick_bytes_in-brick-requires
brick_bytes_in-brick-requires c = described_sized _ _ (described-all _ _ c.args.cube.taken)

pub header_end-header-requires : goal.header_end-header-requires
header_end-header-requires c =
    let p = shaped c.args.cube.d c.shape_in-shape.ensures in
    let few = bricks-few c.args.cube.d (length c.args.cube.text.now) c.args.cube.taken in
    ((text_few _ _ c.args.cube.taken).1, omega (arith, p, few, alphas-le-bricks c.args.cube.d (length c.args.cube.text.now) c.args.cube.taken), omega (arith, p, few))

pub next_multiple_of-start-requires-clause-nonzero : goal.next_multiple_of-start-requires-clause-nonzero
next_multiple_of-start-requires-clause-nonzero c =
    (planned c.args.cube.d (length c.args.cube.text.now) c.args.cube.taken c.shape_in-shape.ensures c.header_end-header.ensures c.brick_bytes_in-brick.ensures.0).s_pos

pub next_multiple_of-start-requires-clause-fits : goal.next_multiple_of-start-requires-clause-fits
next_multiple_of-start-requires-clause-fits c =
    let n = planned c.args.cube.d (length c.args.cube.text.now) c.args.cube.taken c.shape_in-shape.ensures c.header_end-header.ensures c.brick_bytes_in-brick.ensures.0 in
    omega (arith, n, mod-lt (c.brick_bytes_in-brick.result - c.header_end-header.result % c.brick_bytes_in-brick.result) n.s_pos)

pub overflow_mul-after : goal.overflow_mul-after
overflow_mul-after c =
    let n = planned c.args.cube.d (length c.args.cube.text.now) c.args.cube.taken c.shape_in-shape.ensures c.header_end-header.ensures c.brick_bytes_in-brick.ensures.0 in
    record { fits = omega (arith, all-bytes _ _ n.b_few n.s_few) }

pub overflow_add-after : goal.overflow_add-after
overflow_add-after c =
    let n = planned c.args.cube.d (length c.args.cube.text.now) c.args.cube.taken c.shape_in-shape.ensures c.header_end-header.ensures c.brick_bytes_in-brick.ensures.0 in
    record { fits = omega (arith, n, c.next_multiple_of-start.ensures, all-bytes _ _ n.b_few n.s_few) }

pub overflow_add-result : goal.overflow_add-result
overflow_add-result c =
    let n = planned c.args.cube.d (length c.args.cube.text.now) c.args.cube.taken c.shape_in-shape.ensures c.header_end-header.ensures c.brick_bytes_in-brick.ensures.0 in
    record { fits = omega (arith, n, c.next_multiple_of-start.ensures, all-bytes _ _ n.b_few n.s_few) }

pub returns-in-Constant : goal.returns-in-Constant
returns-in-Constant c =
    let n = planned c.args.cube.d (length c.args.cube.text.now) c.args.cube.taken c.shape_in-shape.ensures c.header_end-header.ensures c.brick_bytes_in-brick.ensures.0 in
    plan_constant _ _ _ _ _ _ n _ c.in-Constant.is

pub returns-in-Stored : goal.returns-in-Stored
returns-in-Stored c =
    let n = planned c.args.cube.d (length c.args.cube.text.now) c.args.cube.taken c.shape_in-shape.ensures c.header_end-header.ensures c.brick_bytes_in-brick.ensures.0 in
    let m = c.next_multiple_of-start.ensures in
    plan_stored _ _ _ _ _ _ n _ _ (next_multiple _ _ _ n.s_pos m.lower_bound m.upper_bound m.multiple) c.in-Stored.is
