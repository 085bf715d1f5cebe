use Rattle.runs.proofs.Sites.{site_placed}
use mathlib.Core.Path.{◌∙◌}
use Rattle.runs.proofs.Lattices.{entry_in_lem, kind_made}
use Rattle.runs.proofs.site.Site.kind.Goals as goal

pub kind_at-requires : goal.kind_at-requires
kind_at-requires c =
    entry_in_lem _ _ _ _ _ _ (site_placed c.args.self.now c.requires.inside) _ _ c.requires.same_length c.entry.ensures

pub returns : goal.returns
returns c =
    c.kind_at.ensures ∙ kind_made _ _ _ _ _ _ (site_placed c.args.self.now c.requires.inside) _ _ c.entry.ensures
