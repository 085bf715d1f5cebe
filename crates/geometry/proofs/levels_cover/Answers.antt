use Rattle.geometry.proofs.Levels.{levels_cover}
use Rattle.geometry.proofs.levels_cover.Goals as goal

pub returns : goal.returns
returns c = levels_cover
