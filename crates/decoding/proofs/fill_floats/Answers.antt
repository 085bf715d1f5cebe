use native.Mathlib.Omega.{arith}
use mathlib.Core.Path.{refl}
use Rattle.endian.specs.Loops.{cat}
use Rattle.endian.proofs.Parts.{filled_none}
use Rattle.decoding.proofs.Items.{items_more}
use Rattle.decoding.proofs.fill_floats.Goals as goal

pub loop-to-init : goal.loop-to-init
unfolding cat
loop-to-init c = filled_none _

pub loop-to-preserved : goal.loop-to-preserved
loop-to-preserved c = items_more (λ _. c.args.value) _ c.loop-to.invariant (omega (arith, c.loop-to.invariant.size, c.loop-to-test.true)) refl
