use native.Mathlib.Omega.{arith}
use Rattle.endian.proofs.Blocks.{block_more, block_last}
use Prim.Native.Nat.{◌-◌}
use lib.ListN.{length}
use Rattle.endian.proofs.copy_blocks.Goals as goal
use Rattle.endian.proofs.copy_blocks.Goals.{else-loop-t-test, then-loop-t-test+else-size-last}

pub loop-t-preserved : goal.loop-t-preserved
loop-t-preserved c =
    let a = c.args in
    rw c.copy_block.ensures (block_more a.src.now (omega arith) c.loop-t.invariant a.size (omega arith))

pub returns : goal.returns
returns c =
    let a = c.args in
    let src = a.src.now in
    let last = length a.out.now - a.size in
    rw c.copy_block-2.ensures
    (elim c.loop-t-test.branch [
      | else-loop-t-test w ↦ rw w.out-is (block_last src (omega arith) c.loop-t.invariant last a.size (omega arith) (omega arith))
      | then-loop-t-test+else-size-last w ↦
          rw (w.out-is, w.copy_block.ensures)
          (block_last src (omega arith) (block_more src (omega arith) c.loop-t.invariant a.size (omega arith)) last a.size (omega arith) (omega arith))
    ])
