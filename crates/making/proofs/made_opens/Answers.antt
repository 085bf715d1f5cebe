use Rattle.making.proofs.Opens.{made_opens}
use Rattle.making.proofs.made_opens.Goals as goal

pub returns : goal.returns
returns c = made_opens
