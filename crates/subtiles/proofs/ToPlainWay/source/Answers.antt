use mathlib.Core.Path.{refl}
use Rattle.subtiles.specs.Runs.{tiled_run}
use Rattle.subtiles.proofs.ToPlainWay.source.Goals as goal

pub returns : goal.returns
unfolding tiled_run
returns c = refl
