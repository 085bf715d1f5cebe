use Rattle.subtiles.proofs.Permutation.{is_permutation}
use Rattle.subtiles.proofs.is_permutation.Goals as goal

pub returns : goal.returns
returns c = is_permutation
