use Prim.Native.Nat.{ℕ, ◌+◌, ◌*◌, ◌^◌}
use mathlib.Core.Path.{◌≡◌, sym, ap, ◌∙◌}
use native.Mathlib.Omega.{arith}
use lib.Count.{count_trailing_zeros}
use lib.Pow.{pow-add}
use Rattle.geometry.specs.Geometry.{ceil_div}
use Rattle.geometry.proofs.Powers.{zeros-power}
use Rattle.geometry.proofs.count_at.Goals as goal

pub returns : goal.returns
returns c =
    let zeros = count_trailing_zeros 64 c.args.side in
    let narrow : count_trailing_zeros 32 c.args.side ≡ zeros =
    ap (count_trailing_zeros 32) (sym c.requires.1.exponent) ∙ zeros-power 32 zeros (omega (arith, c.requires.1.small)) in
    let power : 2 ^ (zeros + c.args.l) ≡ c.args.side * 2 ^ c.args.l =
    pow-add 2 zeros c.args.l ∙ ap (λ (n : ℕ). n * 2 ^ c.args.l) c.requires.1.exponent in
    rw (c.ceil_shift.ensures, c.from.ensures, c.from-2.ensures, narrow) (ap (ceil_div c.args.size) power)
