use Rattle.record.specs.Record.{grid_of}
use Rattle.record.proofs.grid_of.Goals as goal

pub returns : goal.returns
unfolding grid_of
returns c = cc
