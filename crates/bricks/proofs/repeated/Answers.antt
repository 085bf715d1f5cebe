use Rattle.bricks.proofs.Words.{repeats_1, repeats_2}
use Rattle.bricks.proofs.repeated.Goals as goal

pub returns-in-1 : goal.returns-in-1
returns-in-1 c = rw c.in-1.is (repeats_1 _ (rw c.in-1.is at c.requires.1))

pub returns-in-2 : goal.returns-in-2
returns-in-2 c = rw c.in-2.is (repeats_2 _ (rw c.in-2.is at c.requires.1))
