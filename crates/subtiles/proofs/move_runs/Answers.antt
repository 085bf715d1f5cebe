use mathlib.Core.Path.{◌∙◌}
use native.Mathlib.Nat.{zero-mul, add-mul, one-mul}
use Rattle.endian.proofs.Parts.{turns_none, turns_more}
use Rattle.subtiles.proofs.Orders.{run_at}
use Rattle.subtiles.proofs.move_runs.Goals as goal

pub loop-r-init : goal.loop-r-init
loop-r-init g c = rw zero-mul (turns_none _ _ _ _ c.requires.whole)

pub loop-r-preserved : goal.loop-r-preserved
loop-r-preserved g c =
    rw (add-mul c.loop-r.r 1 c.args.run, one-mul c.args.run) (turns_more c.loop-r.invariant c.loop-r-test.true c.copy.auto.out (c.copy.ensures ∙ run_at _ _ c.source.ensures))
