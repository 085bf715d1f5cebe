use mathlib.Core.Path.{refl, sym}
use native.Mathlib.Omega.{arith}
use Rattle.text.proofs.Pour.{poured-one, poured_full}
use Rattle.text.proofs.Writer.push.Goals as goal

pub returns-then-self : goal.returns-then-self
returns-then-self c =
    record { same = refl; pours = record { bytes = sym (poured-one _ _ _ c.if-self.true); place = omega arith } }

pub returns-else-self : goal.returns-else-self
returns-else-self c =
    record { same = refl; pours = record { bytes = sym (poured_full _ _ _ c.if-self.false); place = omega (arith, c.args.self.now.inside) } }
