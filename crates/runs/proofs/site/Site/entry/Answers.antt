use Rattle.runs.proofs.Sites.{site_placed, site_numbers}
use mathlib.Core.Path.{◌∙◌}
use native.Mathlib.Omega.{arith}
use Rattle.runs.proofs.Lattices.{entry_made}
use Rattle.runs.proofs.site.Site.entry.Goals as goal

pub overflow_add-q : goal.overflow_add-q
overflow_add-q c = omega (arith, site_numbers c.args.self.now c.requires)

pub over-x-requires : goal.over-x-requires
over-x-requires c = (site_numbers c.args.self.now c.requires).ok0

pub overflow_add-q-2 : goal.overflow_add-q-2
overflow_add-q-2 c = omega (arith, site_numbers c.args.self.now c.requires)

pub over-y-requires : goal.over-y-requires
over-y-requires c = (site_numbers c.args.self.now c.requires).ok1

pub overflow_add-q-3 : goal.overflow_add-q-3
overflow_add-q-3 c = omega (arith, site_numbers c.args.self.now c.requires)

pub over-z-requires : goal.over-z-requires
over-z-requires c = (site_numbers c.args.self.now c.requires).ok2

pub entry_at-requires : goal.entry_at-requires
entry_at-requires c =
    let n = site_numbers c.args.self.now c.requires in
    rw (c.over-z.ensures, c.over-y.ensures, c.over-x.ensures) (n.inline, omega (arith, n.entry))

pub returns : goal.returns
returns c =
    c.entry_at.ensures
    ∙ rw (c.over-z.ensures, c.over-y.ensures, c.over-x.ensures) (entry_made _ _ _ _ _ _ (site_placed c.args.self.now c.requires))
