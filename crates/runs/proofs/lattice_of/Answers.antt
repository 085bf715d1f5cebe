use Rattle.runs.proofs.Lattices.{level_asks, lattice_made}
use Rattle.table.proofs.Tables.{fits_derived}
use Rattle.runs.proofs.lattice_of.Goals as goal

pub level_in-requires : goal.level_in-requires
level_in-requires c =
    level_asks c.args.r c.args.g c.requires

pub table_in-requires : goal.table_in-requires
table_in-requires c = fits_derived _ c.requires.fitting

pub returns : goal.returns
returns c =
    lattice_made c.args.r c.args.g c.requires _ _ _ _ _ _ _ _ _ _ _ _ _
    c.table_in.ensures
    c.level_in.ensures
    c.index.ensures.0
    c.index-2.ensures.0
    c.index-3.ensures.0
    c.width_of.ensures
    c.missing_brick.ensures
    c.index-4.ensures.0 c.index-5.ensures.0 c.index-6.ensures.0
    c.index-7.ensures.0 c.index-8.ensures.0 c.index-9.ensures.0
