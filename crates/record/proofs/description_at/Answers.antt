use Rattle.record.specs.Header.{description_of}
use Rattle.record.proofs.description_at.Goals as goal

pub returns : goal.returns
unfolding description_of
returns c = cc
