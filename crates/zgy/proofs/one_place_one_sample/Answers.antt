use Rattle.zgy.proofs.Whole.{one-place-one-sample}
use Rattle.zgy.proofs.one_place_one_sample.Goals as goal

pub returns : goal.returns
returns c = one-place-one-sample
