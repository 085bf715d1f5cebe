use Rattle.runs.proofs.Sites.{site_placed, site_numbers}
use native.Mathlib.Omega.{arith}
use Rattle.runs.proofs.Lattices.{item_made}
use Rattle.runs.proofs.site.Site.item.Goals as goal

pub overflow_add-q : goal.overflow_add-q
overflow_add-q c = omega (arith, site_numbers c.args.self.now c.requires)

pub beyond-x-requires : goal.beyond-x-requires
beyond-x-requires c = (site_numbers c.args.self.now c.requires).ok0

pub overflow_add-q-2 : goal.overflow_add-q-2
overflow_add-q-2 c = omega (arith, site_numbers c.args.self.now c.requires)

pub beyond-y-requires : goal.beyond-y-requires
beyond-y-requires c = (site_numbers c.args.self.now c.requires).ok1

pub overflow_add-q-3 : goal.overflow_add-q-3
overflow_add-q-3 c = omega (arith, site_numbers c.args.self.now c.requires)

pub beyond-z-requires : goal.beyond-z-requires
beyond-z-requires c = (site_numbers c.args.self.now c.requires).ok2

pub overflow_mul-result : goal.overflow_mul-result
overflow_mul-result c = rw c.beyond-x.ensures (omega (arith, site_numbers c.args.self.now c.requires))

pub overflow_add-result : goal.overflow_add-result
overflow_add-result c = rw (c.beyond-x.ensures, c.beyond-y.ensures) (omega (arith, site_numbers c.args.self.now c.requires))

pub overflow_mul-result-2 : goal.overflow_mul-result-2
overflow_mul-result-2 c = rw (c.beyond-x.ensures, c.beyond-y.ensures) (omega (arith, site_numbers c.args.self.now c.requires))

pub overflow_add-result-2 : goal.overflow_add-result-2
overflow_add-result-2 c = rw (c.beyond-z.ensures, c.beyond-y.ensures, c.beyond-x.ensures) (omega (arith, site_numbers c.args.self.now c.requires))

pub returns : goal.returns
returns c =
    rw (c.beyond-z.ensures, c.beyond-y.ensures, c.beyond-x.ensures) (item_made _ _ _ _ _ _ (site_placed c.args.self.now c.requires))
