use Prim.Native.Nat.{min, ℕ, ◌≤◌, ◌<◌}
use Rattle.table.specs.Windows.{offset_at}
use Rattle.table.proofs.Entries.next_start.Given as goal

abbrev pub invariant-loop-entry : goal.invariant-loop-entry
invariant-loop-entry l =
    let os = offset_at l.self.table l.self.file.now in
    record {
      low : min l.start 9223372036854775808 ≤ l.next;
      before : (k : ℕ) → k < l.entry → 0 < os k → l.start ≤ os k → l.next ≤ os k;
    }
