use Rattle.std.proofs.lemmas.Nat.{and_mask}
use Rattle.checks.proofs.Described.{side-exponent}
use Rattle.runs.proofs.Lattices.{side-pos}
use Rattle.runs.proofs.beyond.Goals as goal

pub overflow_sub-result : goal.overflow_sub-result
overflow_sub-result c = side-pos c.args.side c.requires

pub returns : goal.returns
returns c = let p = side-exponent c.args.side c.requires in rw p.power (and_mask c.args.x p.exponent)
