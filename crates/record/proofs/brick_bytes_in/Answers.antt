use native.Mathlib.Omega.{arith}
use Rattle.record.specs.Record.{brick_bytes_of}
use Rattle.record.proofs.Laws.{width-le}
use Rattle.record.proofs.brick_bytes_in.Goals as goal

pub brick_bytes-requires : goal.brick_bytes-requires
brick_bytes-requires c = (
  omega (arith, c.from.ensures, c.requires.side0.high),
  omega (arith, c.from-2.ensures, c.requires.side1.high),
  omega (arith, c.from-3.ensures, c.requires.side2.high),
  omega (arith, c.from-4.ensures, c.width_of.ensures, width-le c.args.d.datatype),
)

pub returns : goal.returns
unfolding brick_bytes_of
returns c = (simp (c.brick_bytes.ensures.0, c.from.ensures, c.from-2.ensures, c.from-3.ensures, c.from-4.ensures, c.width_of.ensures), c.brick_bytes.ensures.1)
