use native.Mathlib.Omega.{arith}
use Rattle.record.specs.Record.{header_of, record_of}
use Rattle.record.proofs.Laws.{levels-few, alphas-few, shaped}
use Rattle.record.proofs.record_of.Goals as goal

pub header_end-requires : goal.header_end-requires
header_end-requires c =
    let p = shaped c.args.d c.shape_in-shape.ensures in
    (omega (arith, c.from.ensures, c.requires.2), omega (arith, p, alphas-few c.args.d c.requires.0, c.requires.1), omega (arith, p, c.requires.1))

pub overflow_cast-result : goal.overflow_cast-result
overflow_cast-result c = record { fits = omega (arith, shaped c.args.d c.shape_in-shape.ensures, levels-few c.args.d c.requires.0) }

pub overflow_cast-result-2 : goal.overflow_cast-result-2
overflow_cast-result-2 c = record { fits = omega (arith, shaped c.args.d c.shape_in-shape.ensures, c.requires.1) }

pub overflow_cast-result-3 : goal.overflow_cast-result-3
overflow_cast-result-3 c = record { fits = omega (arith, shaped c.args.d c.shape_in-shape.ensures, alphas-few c.args.d c.requires.0, c.requires.1) }

pub returns : goal.returns
unfolding record_of header_of
returns c =
    let p = shaped c.args.d c.shape_in-shape.ensures in
    simp (c.grid_of-grid.ensures, c.header_end.ensures, c.from.ensures, p.levels-are, p.bricks-are, p.alphas-are)
