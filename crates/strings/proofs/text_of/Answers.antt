use mathlib.Core.Bool.{false}
use mathlib.Core.Path.{◌≡◌, sym, ap, ◌∙◌}
use native.Mathlib.Omega.{arith}
use lib.ListN.{length, length-take, length-drop}
use Rattle.record.proofs.Laws.{text_part}
use Rattle.checks.specs.Checks.{breaks11}
use Rattle.checks.specs.Fits.{breaks14_with}
use Rattle.strings.specs.Strings.{strings_verdict}
use Rattle.strings.proofs.Verdicts.{text_inside, text_taken}
use Rattle.strings.proofs.text_of.Goals as goal

pub returns-then-check14_with : goal.returns-then-check14_with
unfolding strings_verdict
returns-then-check14_with c = record { verdict = rw (sym c.check14_with.ensures ∙ c.if-check14_with.true); text = tt }

pub slice_bounds-text-end : goal.slice_bounds-text-end
slice_bounds-text-end c = omega (arith, text_inside c.args.r c.args.file.now (sym c.check14_with.ensures ∙ c.if-check14_with.false))

pub check11-requires : goal.check11-requires
check11-requires c =
    simp (length-take, length-drop) (omega (arith, text_inside c.args.r c.args.file.now (sym c.check14_with.ensures ∙ c.if-check14_with.false)))

pub returns-then-check11 : goal.returns-then-check11
unfolding strings_verdict
returns-then-check11 c = record {
  verdict = rw (
    sym c.check14_with.ensures ∙ c.if-check14_with.false,
    sym (c.check11.ensures ∙ ap breaks11 (text_part c.args.file.now c.args.r.text)) ∙ c.if-check11.true,
  );
  text = tt;
}

pub returns : goal.returns
unfolding strings_verdict
returns c =
    let fits : breaks14_with c.args.r (length c.args.file.now) ≡ false = sym c.check14_with.ensures ∙ c.if-check14_with.false in
    let five = sym (c.check11.ensures ∙ ap breaks11 (text_part c.args.file.now c.args.r.text)) ∙ c.if-check11.false in
    record {
      verdict = rw (fits, five);
      text = text_part c.args.file.now c.args.r.text ∙ sym (text_taken _ _ (rw (fits, five)));
    }
