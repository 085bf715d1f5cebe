use Rattle.std.proofs.Common.{◌≡◌, ◌*◌, ◌%◌, ◌^◌, ◌<◌, ◌≤◌, ◌⊎◌, ⊎_elim, ◌∙◌, arith}
use Rattle.std.proofs.lemmas.Grind.{common_steps}
use native.Mathlib.Nat.{one-mul}
use lib.Count.{count_trailing_zeros}
use lib.Pow.{shl_exact}
use Rattle.geometry.specs.Limits.{greatest_exponent}
use Rattle.geometry.proofs.Powers.{below-least, above-greatest, by-zeros}
use Rattle.geometry.proofs.power_in.Goals as goal

pub returns-then-contains : goal.returns-then-contains
returns-then-contains c =
    let e = count_trailing_zeros 32 c.args.n in
    let low : c.args.least ≤ e = grind (arith, common_steps) in
    let high : e ≤ greatest_exponent = grind (arith, common_steps) in
    let shifted : 1 * 2 ^ e % 2 ^ 32 ≡ 2 ^ e = shl_exact 1 e 32 (omega arith) (omega arith) ∙ one-mul (2 ^ e) in
    rw shifted (by-zeros _ _ c.requires low high)

pub returns-else-contains : goal.returns-else-contains
returns-else-contains c =
    let e = count_trailing_zeros 32 c.args.n in
    let outside : (e < c.args.least) ⊎ (greatest_exponent < e) = grind (arith, common_steps) in
    c.if-contains.false ∙ ⊎_elim (below-least _ _ c.requires) (above-greatest _ _ c.requires) outside
