use mathlib.Core.Path.{◌≡◌, ap, ◌∙◌}
use lib.ListN.{take}
use Rattle.endian.specs.Bytes.{lows}
use Rattle.endian.proofs.Bytes.{lows_32, lows-front}
use native.Mathlib.Nat.{zero-mul, add-mul, one-mul}
use Rattle.endian.proofs.Parts.{turns_none, turns_more}
use Rattle.reading.proofs.fill.Goals as goal

pub loop-t-init : goal.loop-t-init
loop-t-init g c = rw zero-mul (turns_none _ _ _ _ c.requires.1)

pub loop-t-preserved : goal.loop-t-preserved
loop-t-preserved g c =
    let bytes : take g.row.W c.to_le_bytes-bytes.result ≡ lows g.row.W c.args.value =
    ap (take g.row.W) (lows_32 c.args.value c.to_le_bytes-bytes.ensures) ∙ lows-front g.row.W 4 c.args.value c.requires.0 in
    rw (add-mul c.loop-t.t 1 g.row.W, one-mul g.row.W) (turns_more c.loop-t.invariant c.loop-t-test.true c.copy.auto.out (c.copy.ensures ∙ bytes))
