use mathlib.Core.Path.{refl, sym, ap, ◌∙◌}
use native.Mathlib.Omega.{arith}
use Rattle.std.specs.Prelude.{Ok}
use Rattle.strings.proofs.Parts.{item-inside}
use Rattle.zgy_c.proofs.Strings.{handed, none}
use Rattle.zgy_c.proofs.zgy_string.Goals as goal

pub overflow_add-result : goal.overflow_add-result
overflow_add-result c = omega (arith, item-inside _ _ _ _ _ _ (sym (c.in-Ok-Some.is ∙ ap Ok c.in-Ok-Some.field-0-is) ∙ c.turn_of.ensures))

pub overflow_sub-result : goal.overflow_sub-result
overflow_sub-result c = omega (arith, item-inside _ _ _ _ _ _ (sym (c.in-Ok-Some.is ∙ ap Ok c.in-Ok-Some.field-0-is) ∙ c.turn_of.ensures))

pub returns-in-Ok-Some : goal.returns-in-Ok-Some
returns-in-Ok-Some c =
    let p = handed _ _ _ _ _ _ (sym (c.in-Ok-Some.is ∙ ap Ok c.in-Ok-Some.field-0-is) ∙ c.turn_of.ensures) in
    record { answer = p.0; shown = p.1 }

pub returns-in-Ok-None : goal.returns-in-Ok-None
returns-in-Ok-None c =
    let p = none _ _ _ _ (sym (c.in-Ok-None.is ∙ ap Ok c.in-Ok-None.field-0-is) ∙ c.turn_of.ensures) _ c.no_string.ensures refl in
    record { answer = p.0; shown = p.1 }

pub returns-in-Err : goal.returns-in-Err
returns-in-Err c =
    let p = none _ _ _ _ (sym c.in-Err.is ∙ c.turn_of.ensures) _ (rw (← c.number.ensures, ← c.entry.ensures) c.no_string-in-Err.ensures) refl in
    record { answer = p.0; shown = p.1 }
