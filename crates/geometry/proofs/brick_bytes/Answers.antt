use mathlib.Core.Path.{refl}
use native.Mathlib.Nat.{mul-le-mul}
use Rattle.geometry.proofs.brick_bytes.Goals as goal

pub returns : goal.returns
returns c =
    let q = c.requires in
    (refl, mul-le-mul (mul-le-mul (mul-le-mul q.0 q.1) q.2) q.3)
