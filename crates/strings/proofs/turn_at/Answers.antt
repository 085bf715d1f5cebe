use mathlib.Core.Path.{sym, ap, ◌∙◌}
use Prim.Native.Nat.{ℕ, ◌+◌}
use native.Mathlib.Omega.{arith}
use Rattle.std.specs.Prelude.{Some}
use Rattle.strings.specs.Strings.{item}
use Rattle.strings.proofs.Turns.{turn-item, turn-done}
use Rattle.strings.proofs.turn_at.Goals as goal

pub returns-then-text-at : goal.returns-then-text-at
returns-then-text-at c = sym (turn-done _ _ (omega arith))

pub returns : goal.returns
returns c = ap (λ (e : ℕ). Some (item c.args.at e (e + 1))) c.end_at-end.ensures.end ∙ sym (turn-item _ _ (omega arith))
