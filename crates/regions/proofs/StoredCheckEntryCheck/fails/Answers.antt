use mathlib.Core.Bool.{not}
use mathlib.Core.Path.{ap, ◌∙◌}
use Rattle.cube.specs.Regions.{is_stored}
use Rattle.regions.specs.Search.{fails}
use Rattle.regions.proofs.StoredCheckEntryCheck.fails.Goals as goal

pub returns : goal.returns
unfolding fails
returns c = ap not (c.is_stored.ensures ∙ ap is_stored c.kind.ensures)
