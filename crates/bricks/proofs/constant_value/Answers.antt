use Rattle.std.proofs.Common.{rules}
use mathlib.Core.Path.{sym, ap, ◌∙◌}
use native.Mathlib.Omega.{arith}
use Rattle.std.specs.Prelude.{Ok}
use Rattle.record.specs.Types.{value_of}
use Rattle.record.proofs.Laws.{scaled_fits}
use Rattle.bricks.proofs.Entries.{raw-fits}
use Rattle.bricks.proofs.constant_value.Goals as goal

pub invariant_of-value : goal.invariant_of-value
invariant_of-value c =
    let e = sym c.coding_of.ensures ∙ c.in-Ok-Scaled.is ∙ ap Ok c.in-Ok-Scaled.field-0-is in
    let p = scaled_fits c.args.datatype _ _ c.args.raw e (raw-fits _ _ _ _ e c.requires) in
    record { in_range = (omega arith, omega arith, omega arith) }

pub returns-in-Ok-Scaled : goal.returns-in-Ok-Scaled
unfolding value_of
returns-in-Ok-Scaled c = search rules

pub returns-in-Ok-Float32 : goal.returns-in-Ok-Float32
unfolding value_of
returns-in-Ok-Float32 c = search rules
