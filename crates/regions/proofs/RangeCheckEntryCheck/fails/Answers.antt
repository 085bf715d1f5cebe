use Rattle.regions.specs.Search.{fails}
use Rattle.regions.proofs.RangeCheckEntryCheck.fails.Goals as goal

pub returns : goal.returns
unfolding fails
returns c = c.is_out_of_range.ensures
