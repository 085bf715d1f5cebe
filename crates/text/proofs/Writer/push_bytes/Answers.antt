use mathlib.Core.Path.{refl}
use Rattle.text.proofs.Pour.{pours_part}
use Rattle.text.proofs.Writer.push_bytes.Goals as goal

pub returns : goal.returns
returns c =
    record { same = refl; pours = pours_part _ c.place_after-end.ensures c.args.self.now.inside c.copy.ensures }
