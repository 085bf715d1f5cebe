use native.Mathlib.Omega.{arith}
use mathlib.Core.Path.{ap, ◌∙◌}
use Prim.Native.Nat.{◌*◌}
use Rattle.endian.specs.Loops.{cat}
use Rattle.endian.specs.Bytes.{le}
use Rattle.floats.specs.Rules.{widened_of}
use Rattle.endian.proofs.Parts.{filled_none}
use Rattle.decoding.proofs.Items.{items_more}
use Rattle.decoding.proofs.decode_widened.Goals as goal

pub loop-n-init : goal.loop-n-init
unfolding cat
loop-n-init g c = filled_none _

pub loop-n-preserved : goal.loop-n-preserved
loop-n-preserved g c =
    items_more
    (λ n. widened_of (le g.row.WIDTH c.args.bytes.now (n * g.row.WIDTH)))
    _
    c.loop-n.invariant
    (omega (arith, c.loop-n.invariant.size, c.loop-n-test.true))
    (c.widen_bits.ensures ∙ ap (widened_of) c.item.ensures.0)
