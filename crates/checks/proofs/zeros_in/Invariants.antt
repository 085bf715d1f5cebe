use Rattle.std.proofs.Common.{◌≡◌, ◌≤◌}
use Rattle.checks.proofs.Texts.{zeros_to}
use Rattle.checks.proofs.zeros_in.Given as goal

abbrev pub invariant-loop-byte : goal.invariant-loop-byte
invariant-loop-byte l = (l.n ≡ zeros_to l.text l.byte-index) × (l.n ≤ l.byte-index)
