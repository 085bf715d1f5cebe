use mathlib.Core.Path.{ap, ◌∙◌}
use Rattle.table.specs.Entries.{kind_of, kind_at}
use Rattle.table.proofs.Entries.kind.Goals as goal

pub returns : goal.returns
unfolding kind_at
returns c = c.kind_of.ensures ∙ ap (kind_of c.args.self.now.table.width) c.word.ensures
