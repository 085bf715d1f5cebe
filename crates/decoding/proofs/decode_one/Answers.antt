use mathlib.Core.Path.{sym, ap, ◌∙◌}
use Rattle.std.proofs.Common.{rules}
use Rattle.record.specs.Types.{width_of, decode_of}
use Rattle.std.specs.Prelude.{Ok}
use Rattle.record.proofs.Laws.{scaled_fits}
use Rattle.decoding.proofs.decode_one.Goals as goal

pub invariant_of-scaled : goal.invariant_of-scaled
unfolding width_of
invariant_of-scaled c =
    let e = sym c.coding_of.ensures ∙ c.in-Ok-Scaled.is ∙ ap Ok c.in-Ok-Scaled.field-0-is in
    record { in_range = scaled_fits c.args.datatype _ _ c.args.raw e (rw e at c.requires) }

pub returns-in-Ok-Scaled : goal.returns-in-Ok-Scaled
unfolding decode_of
returns-in-Ok-Scaled c = search rules

pub returns-in-Ok-Float32 : goal.returns-in-Ok-Float32
unfolding decode_of
returns-in-Ok-Float32 c = search rules
