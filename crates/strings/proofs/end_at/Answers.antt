-- What the search of the rest of the text gives, and where that stands in the text.
use Rattle.std.proofs.Common.{◌≡◌, eqb, drop, length-drop, ◌∙◌, arith, rules, tests}
use lib.Seq.{take_all}
use Rattle.std.specs.List.{position}
use Rattle.std.proofs.lemmas.Iterator.{YieldsList-from_slice}
use Rattle.std.proofs.lemmas.Iterator.Search.{position_from_yields_List}
use Rattle.strings.proofs.Ends.{found_some, found_none}
use Rattle.strings.proofs.end_at.Goals as goal
use Rattle.strings.proofs.end_at.Goals.{After-position}

searched : (c : After-position) → c.position.result ≡ position (λ y. eqb y 0) (drop c.args.at c.args.text.now)
searched c =
    let rest = drop c.args.at c.args.text.now in
    let whole : c.iter.result.rest.now ≡ rest = c.iter.ensures.rest ∙ take_all _ rest (omega (arith, length-drop c.args.at c.args.text.now)) in
    position_from_yields_List (λ y. eqb y 0) _ _ c.position.result c.position.ensures.ran (YieldsList-from_slice _ whole) (λ x b q k. search (rules, tests))

pub returns-in-Some-clause-end : goal.returns-in-Some-clause-end
returns-in-Some-clause-end c = found_some c.args.text.now c.args.at (searched (goal.at.returns-in-Some-clause-end c).After-position) c.in-Some.is

pub returns-in-None-clause-end : goal.returns-in-None-clause-end
returns-in-None-clause-end c = found_none c.args.text.now c.args.at (searched (goal.at.returns-in-None-clause-end c).After-position) c.in-None.is c.requires
