use mathlib.Core.Path.{sym, ◌∙◌}
use native.Mathlib.Omega.{arith}
use Rattle.making.proofs.Sizes.{text_few, plan_length}
use Rattle.making.proofs.Files.{rest_11, rest_18, rest-taken}
use Rattle.making.proofs.check_rest.Goals as goal

pub check11-requires : goal.check11-requires
check11-requires c = omega (arith, text_few _ _ c.args.cube.taken)

pub returns-then-check11 : goal.returns-then-check11
returns-then-check11 c = rest_11 _ _ _ _ (sym c.check11.ensures ∙ c.if-check11.true)

pub returns-then-room-plan_of : goal.returns-then-room-plan_of
returns-then-room-plan_of c =
    rest_18 _ _ _ _ _ (plan_length _ _ _ _ c.plan_of.ensures) (sym c.check11.ensures ∙ c.if-check11.false) c.if-room-plan_of.true

pub returns : goal.returns
returns c =
    rest-taken _ _ _ _ _ (plan_length _ _ _ _ c.plan_of.ensures) (sym c.check11.ensures ∙ c.if-check11.false) c.if-room-plan_of.false
