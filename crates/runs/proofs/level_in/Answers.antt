use Rattle.record.specs.Record.{levels_of, bricks_of}
use Rattle.runs.proofs.level_in.Goals as goal

pub level-requires : goal.level-requires
unfolding levels_of bricks_of
level-requires c = rw (c.from.ensures, c.from-2.ensures) (c.requires.2, c.requires.1)
