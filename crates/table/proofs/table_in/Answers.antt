use native.Mathlib.Omega.{arith}
use Rattle.record.proofs.Laws.{alphas-few}
use Rattle.checks.proofs.Described.{described_text}
use Rattle.table.proofs.Tables.{derived, derived_sized, derived_few, table_made}
use Rattle.table.proofs.table_in.Goals as goal

pub table_start-start-requires : goal.table_start-start-requires
table_start-start-requires c = (
  omega (arith, described_text _ _ (derived c.args.r c.requires)),
  omega (arith, alphas-few c.args.r.description (derived_sized c.args.r c.requires), derived_few c.args.r c.requires, c.requires.alphas-is),
)

pub brick_bytes_in-requires : goal.brick_bytes_in-requires
brick_bytes_in-requires c = derived_sized c.args.r c.requires

pub returns : goal.returns
returns c =
    let start = rw (c.from.ensures, c.from-2.ensures) at c.table_start-start.ensures in
    table_made c.args.r c.requires _ _ _ start c.brick_bytes_in.ensures.0 c.width_of.ensures
