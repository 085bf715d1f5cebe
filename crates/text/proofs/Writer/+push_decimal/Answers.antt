use Prim.Native.Nat.{◌/◌}
use Rattle.text.specs.Text.{decimal}
use Rattle.text.proofs.Decimal.{decimal_short, decimal-long}
use Rattle.text.proofs.Pour.{writes_step}
use Rattle.text.proofs.Writer.+push_decimal.Goals as goal
use Rattle.text.proofs.Writer.+push_decimal.Goals.{then-n-ge10, else-n-ge10}

pub returns : goal.returns
returns t c =
    elim c.if-n-ge10.branch [
      | then-n-ge10 w ↦ rw (decimal-long _ w.if-n-ge10.true c.ranges.n.fits)
          (writes_step {xs = decimal (c.args.n / 10)} (rw w.self-is w.push_decimal.ensures) c.push.ensures)
      | else-n-ge10 w ↦ rw (decimal_short _ w.if-n-ge10.false, ← w.self-is) c.push.ensures
    ]
