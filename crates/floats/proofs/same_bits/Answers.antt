use Rattle.std.proofs.Common.{◌≡◌, false, T, not, sym, subst, ◌∙◌}
use lib.Ieee.{is_nan}
use Rattle.floats.proofs.Patterns.{same-nan, same_number}
use Rattle.floats.proofs.same_bits.Goals as goal

pub returns-then-not-is_nan : goal.returns-then-not-is_nan
returns-then-not-is_nan c =
    let number : is_nan c.args.x ≡ false = sym c.is_nan.ensures.value ∙ c.if-not-is_nan.true in
    let plain : T (not (is_nan c.args.x)) = rw number tt in
    same_number c.args.x c.args.bits (subst T (sym c.well_formed.0.1) tt) plain

pub returns-else-not-is_nan : goal.returns-else-not-is_nan
returns-else-not-is_nan c =
    rw c.if-not-is_nan.false (same-nan c.args.x c.args.bits (sym c.is_nan.ensures.value ∙ c.if-not-is_nan.false))
