use Rattle.std.proofs.Common.{arith}
use Rattle.std.proofs.lemmas.Bool.Decides.{nat_tests}
use Rattle.table.specs.Entries.{overlap}
use Rattle.table.proofs.near.Goals as goal

pub returns : goal.returns
unfolding overlap
returns c = grind (arith, nat_tests)
