use mathlib.Core.Path.{refl, ◌∙◌}
use Rattle.std.proofs.Common.{rules}
use Rattle.std.proofs.lemmas.List.{length-replicate, take-replicate}
use Rattle.text.proofs.Pour.{pours_part}
use Rattle.text.proofs.Writer.push_repeated.Goals as goal

pub returns : goal.returns
returns c =
    let part = c.fill.ensures.after (λ y e. e) ∙ search (rules, take-replicate) in
    record {
      same = refl;
      pours = pours_part _ (rw (length-replicate c.args.n c.args.byte) c.place_after-end.ensures) c.args.self.now.inside part;
    }
