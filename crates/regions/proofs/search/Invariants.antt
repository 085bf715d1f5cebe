use Prim.Native.Nat.{◌+◌, ◌*◌, ◌≤◌}
use mathlib.Core.Path.{◌≡◌}
use Rattle.std.specs.Prelude.{None}
use Rattle.std.specs.List.{find}
use Rattle.endian.specs.Loops.{cat}
use Rattle.regions.specs.Search.{fails, layer_from}
use Rattle.regions.proofs.search.Given as goal

abbrev pub invariant-loop-z : goal.invariant-loop-z
invariant-loop-z g l = (l.z ≤ l.b.vertical) × (find (fails g.C.EntryCheck.stored l.entries.table l.entries.file.now) (cat l.z (λ k. layer_from l.b (l.b.first + k * l.b.layer))) ≡ None)
