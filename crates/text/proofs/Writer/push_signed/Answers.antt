use Rattle.text.proofs.Decimal.{signed_positive, signed_past, signed_negative}
use Rattle.text.proofs.Pour.{writes_step}
use Rattle.text.proofs.Writer.push_signed.Goals as goal

pub returns-then-n-half : goal.returns-then-n-half
returns-then-n-half c = rw (signed_positive _ _ c.if-n-half.true) (rw c.from-bits.ensures at c.push_decimal.ensures)

pub returns-then-bits-whole : goal.returns-then-bits-whole
returns-then-bits-whole c =
    let below = rw (c.from-bits.ensures, c.from-whole.ensures) at c.if-bits-whole.true in
    let number = rw (c.from-bits.ensures, c.from-whole.ensures) at c.push_decimal-then-bits-whole.ensures in
    rw (signed_negative _ _ c.if-n-half.false below) (writes_step c.push.ensures number)

pub returns-else-bits-whole : goal.returns-else-bits-whole
returns-else-bits-whole c =
    let past = rw (c.from-bits.ensures, c.from-whole.ensures) at c.if-bits-whole.false in
    let number = rw (c.from-bits.ensures, c.from-whole.ensures) at c.push_decimal-else-bits-whole.ensures in
    rw (signed_past _ _ c.if-n-half.false past) number
