use mathlib.Core.Path.{refl}
use Rattle.cube.specs.Places.{missing_brick}
use Rattle.cube.proofs.missing_brick.Goals as goal

pub returns : goal.returns
unfolding missing_brick
returns c = refl
