use Prim.Native.Nat.{◌+◌, ◌*◌, ◌≤◌}
use mathlib.Core.Path.{◌≡◌}
use Rattle.std.specs.Prelude.{None}
use Rattle.std.specs.List.{find}
use Rattle.regions.specs.Search.{fails, row_from}
use Rattle.endian.specs.Loops.{cat}
use Rattle.regions.proofs.search_layer.Given as goal

abbrev pub invariant-loop-y : goal.invariant-loop-y
invariant-loop-y g l = (l.y ≤ l.b.crossline) × (find (fails g.C.EntryCheck.stored l.entries.table l.entries.file.now) (cat l.y (λ k. row_from (l.from + k * l.b.row) l.b.inline)) ≡ None)
