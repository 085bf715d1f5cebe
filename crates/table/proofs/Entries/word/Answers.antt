use Rattle.table.specs.Entries.{word_at}
use Rattle.table.proofs.Entries.word.Goals as goal

pub returns : goal.returns
unfolding word_at
returns c = c.u64_at.ensures
