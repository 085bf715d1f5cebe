use Rattle.geometry.proofs.Entries.{entry_numbers}
use Rattle.geometry.proofs.entry_numbers.Goals as goal

pub returns : goal.returns
returns c = entry_numbers
