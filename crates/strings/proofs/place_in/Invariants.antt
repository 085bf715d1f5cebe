use Rattle.std.proofs.Common.{◌≡◌, ◌≤◌}
use Rattle.strings.specs.Strings.{place_of}
use Rattle.strings.proofs.place_in.Given as goal

abbrev pub invariant-loop : goal.invariant-loop
invariant-loop l = (l.counter ≤ l.n) × (l.at ≡ place_of l.text l.counter)
