use Prim.Native.Nat.{◌+◌, ◌*◌, ◌≤◌}
use mathlib.Core.Path.{◌∙◌}
use native.Mathlib.Nat.{zero-mul, add-mul, one-mul}
use lib.ListN.{length}
use Rattle.endian.proofs.Blocks.{part_is}
use Rattle.endian.proofs.Parts.{turns_none, turns_more}
use Rattle.sampling.proofs.gather.Goals as goal

pub loop-t-init : goal.loop-t-init
loop-t-init g c = rw zero-mul (turns_none _ _ _ _ c.requires.out_len)

pub loop-t-preserved : goal.loop-t-preserved
loop-t-preserved g c =
    let end : c.args.from + c.loop-t.t * c.args.step + g.row.W ≤ length c.args.file.now = c.requires.by_index _ c.loop-t-test.true in
    rw (add-mul c.loop-t.t 1 g.row.W, one-mul g.row.W) (turns_more c.loop-t.invariant c.loop-t-test.true c.copy.auto.out (c.copy.ensures ∙ part_is _ _ _ end))
