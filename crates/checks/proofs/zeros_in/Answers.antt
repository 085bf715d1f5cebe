use Prim.Native.Nat.{◌+◌}
use mathlib.Core.Path.{◌≡◌, ap, ◌∙◌}
use native.Mathlib.Omega.{arith}
use lib.ListN.{length}
use Rattle.endian.specs.Loops.{sum_to}
use Rattle.checks.specs.Checks.{zeros}
use Rattle.checks.proofs.Texts.{zeros_to, zero_more, other-more}
use Rattle.checks.proofs.zeros_in.Goals.{then-byte-eq0, else-byte-eq0}
use Rattle.checks.proofs.zeros_in.Goals as goal

pub loop-byte-init : goal.loop-byte-init
unfolding sum_to
loop-byte-init c = omega arith

pub loop-byte-preserved : goal.loop-byte-preserved
loop-byte-preserved c =
    elim c.if-byte-eq0.branch [
      | then-byte-eq0 w ↦
          let e : zeros_to c.args.text.now (c.loop-byte.byte-index + 1) ≡ zeros_to c.args.text.now c.loop-byte.byte-index + 1 =
          zero_more c.args.text.now c.loop-byte.byte-index w.if-byte-eq0.true in
          omega arith
      | else-byte-eq0 w ↦
          let e : zeros_to c.args.text.now (c.loop-byte.byte-index + 1) ≡ zeros_to c.args.text.now c.loop-byte.byte-index + 0 =
          other-more c.args.text.now c.loop-byte.byte-index w.if-byte-eq0.false in
          omega arith
    ]

pub returns : goal.returns
unfolding zeros
returns c =
    let e : c.loop-byte.byte-index ≡ length c.args.text.now = omega arith in
    c.loop-byte.invariant.0 ∙ ap (zeros_to c.args.text.now) e
