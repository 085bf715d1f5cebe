use mathlib.Core.Path.{sym, ap, ◌∙◌, ◌≡◌}
use native.Mathlib.Omega.{arith}
use Rattle.std.specs.Prelude.{Ok}
use Rattle.text.specs.Text.{decimal}
use Rattle.report.specs.Listing.{constant_text, constant_by}
use Rattle.report.proofs.constant_text.Goals as goal

pub returns-in-Ok-Scaled : goal.returns-in-Ok-Scaled
unfolding constant_text
returns-in-Ok-Scaled c = rw (sym c.coding_of.ensures ∙ c.in-Ok-Scaled.is ∙ ap Ok c.in-Ok-Scaled.field-0-is) c.push_signed.ensures

pub returns-in-Ok-Float32 : goal.returns-in-Ok-Float32
unfolding constant_text
returns-in-Ok-Float32 c =
    let number = rw c.from.ensures at c.push_decimal.ensures in
    let plain : constant_by c.coding_of.result c.args.value ≡ decimal c.args.value = grind arith in
    rw (sym c.coding_of.ensures, plain) number
