use Prim.Native.Nat.{ℕ, ◌+◌, ◌-◌, ◌/◌, ◌^◌}
use mathlib.Core.Path.{◌≡◌, sym, ap, ◌∙◌}
use native.Mathlib.Nat.{add-div_right}
use native.Mathlib.Omega.{arith}
use lib.Pow.{pow_pos}
use Rattle.geometry.proofs.ceil_shift.Goals as goal

pub returns : goal.returns
returns c =
    let d = 2 ^ c.args.k in
    let whole : c.args.n - 1 + d ≡ c.args.n + (d - 1) = omega (arith, pow_pos c.args.k) in
    sym (add-div_right (c.args.n - 1) (pow_pos c.args.k)) ∙ ap (λ (x : ℕ). x / d) whole
