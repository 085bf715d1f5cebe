use mathlib.Core.Bool.{Bool, true, false, not, cond, ◌&&◌, ◌||◌}
use Rattle.std.proofs.lemmas.Bool.{or_parts}
use mathlib.Core.Path.{◌≡◌, refl, sym, ap₂, ◌∙◌}
use Rattle.record.specs.declared.Record.{Record}
use Rattle.checks.specs.Checks.{breaks3, breaks8, breaks9, fields_fit}
use Rattle.checks.specs.Fits.{grid_fits, numbers_fit, record_fits}
use Rattle.checks.proofs.Described.{fits_as, fields_sized, text_few}
use Rattle.checks.proofs.record_fits.Goals as goal

-- the order in which the code asks
asked : (r : Record) (p q a x : Bool) → p ≡ breaks3 r.version → q ≡ breaks9 r.text → p || q ≡ a → fields_fit r.description ≡ x
    → record_fits r ≡ cond a false (cond x (grid_fits r.description r.grid && (not (breaks8 r.description) && numbers_fit r)) false)
unfolding record_fits
asked r p q a x ep eq ea ex = rw (← ea, ← ex, ep, eq) (fits_as r.description r.text (breaks3 r.version) (grid_fits r.description r.grid) (numbers_fit r))

pub returns-then-check3-check9 : goal.returns-then-check3-check9
returns-then-check3-check9 c = sym (asked _ _ _ true _ c.check3.ensures c.check9.ensures c.if-check3-check9.true refl)

pub numbers_fit-requires : goal.numbers_fit-requires
numbers_fit-requires c = (
  fields_sized _ (sym c.fields_fit.ensures ∙ c.if-fields_fit.true),
  (text_few _ (sym c.check9.ensures ∙ (or_parts _ _ c.if-check3-check9.false).1)).1,
)

pub returns-then-fields_fit : goal.returns-then-fields_fit
returns-then-fields_fit c =
    ap₂ ◌&&◌ c.grid_fits.ensures c.numbers_fit.ensures
    ∙ sym (asked _ _ _ false true c.check3.ensures c.check9.ensures c.if-check3-check9.false (sym c.fields_fit.ensures ∙ c.if-fields_fit.true))

pub returns-else-fields_fit : goal.returns-else-fields_fit
returns-else-fields_fit c =
    c.if-fields_fit.false
    ∙ sym (asked c.args.r _ _ false false c.check3.ensures c.check9.ensures c.if-check3-check9.false (sym c.fields_fit.ensures ∙ c.if-fields_fit.false))
