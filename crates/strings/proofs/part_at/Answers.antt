use mathlib.Core.Path.{sym, ◌∙◌}
use native.Mathlib.Omega.{arith}
use Rattle.strings.specs.Strings.{string_at}
use Rattle.strings.proofs.Turns.{string_done, turn-none, item-found, item_within}
use Rattle.strings.proofs.part_at.Goals as goal

pub slice_bounds-result-count : goal.slice_bounds-result-count
slice_bounds-result-count c = omega (arith, item_within _ _ (sym c.in-Some.is ∙ c.turn_at.ensures))

pub slice_bounds-result-start : goal.slice_bounds-result-start
slice_bounds-result-start c = omega (arith, item_within _ _ (sym c.in-Some.is ∙ c.turn_at.ensures))

pub slice_bounds-result-end : goal.slice_bounds-result-end
slice_bounds-result-end c = omega (arith, item_within _ _ (sym c.in-Some.is ∙ c.turn_at.ensures))

pub returns-in-Some : goal.returns-in-Some
unfolding string_at
returns-in-Some c =
    let p = item-found _ _ _ _ _ (sym c.in-Some.is ∙ c.turn_at.ensures) in
    rw (← p.end_is, ← p.start_is)

pub returns-in-None : goal.returns-in-None
returns-in-None c = sym (string_done _ _ (turn-none _ _ (sym c.in-None.is ∙ c.turn_at.ensures)))
