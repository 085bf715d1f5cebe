use Prim.Native.Nat.{◌≤◌}
use mathlib.Core.Path.{◌≡◌}
use Rattle.std.specs.Prelude.{None}
use Rattle.std.specs.List.{find}
use Rattle.regions.specs.Search.{fails, row_from}
use Rattle.regions.proofs.search_row.Given as goal

abbrev pub invariant-loop-x : goal.invariant-loop-x
invariant-loop-x g l = (l.x ≤ l.count) × (find (fails g.C.EntryCheck.stored l.entries.table l.entries.file.now) (row_from l.from l.x) ≡ None)
