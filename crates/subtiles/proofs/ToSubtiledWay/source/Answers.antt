use mathlib.Core.Path.{refl}
use Rattle.subtiles.specs.Runs.{plain_run}
use Rattle.subtiles.proofs.ToSubtiledWay.source.Goals as goal

pub returns : goal.returns
unfolding plain_run
returns c = refl
