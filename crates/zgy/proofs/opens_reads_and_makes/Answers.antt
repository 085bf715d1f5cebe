use Rattle.zgy.proofs.Cubes.{opens-reads-and-makes}
use Rattle.zgy.proofs.opens_reads_and_makes.Goals as goal

pub returns : goal.returns
returns c = opens-reads-and-makes
