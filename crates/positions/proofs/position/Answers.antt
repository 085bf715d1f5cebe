-- What the answer of each case says; that the grid's floats are finite where check 14 holds.
use mathlib.Core.Path.{sym, ◌∙◌}
use native.Mathlib.Omega.{arith}
use borrow.Author.Rules.{rules}
use Rattle.positions.proofs.Answers.{grid-finite, index-small, breaks_14, no_dimension, no_index, inside}
use Rattle.positions.proofs.position.Goals as goal
use Rattle.positions.proofs.position.Goals.{then-dimension-ge3-via-then-dimension-ge3, then-dimension-ge3-via-else-dimension-ge3+then-size-along}

pub position-requires : goal.position-requires
position-requires c =
    let e = sym c.check14.ensures ∙ c.if-check14.false in
    let f = grid-finite _ e c.args.dimension (omega arith) in
    let p = f.0 in
    let q = f.1 in
    (search rules, search rules, index-small _ e c.args.dimension _ (omega arith) (omega arith))

pub returns-then-check14 : goal.returns-then-check14
returns-then-check14 c = breaks_14 _ c.args.dimension c.args.index (sym c.check14.ensures ∙ c.if-check14.true)

pub returns-then-dimension-ge3 : goal.returns-then-dimension-ge3
returns-then-dimension-ge3 c =
    let e = sym c.check14.ensures ∙ c.if-check14.false in
    elim c.then-dimension-ge3.branch [
      | then-dimension-ge3-via-then-dimension-ge3 w ↦ no_dimension _ c.args.dimension c.args.index e w.if-dimension-ge3.true
      | then-dimension-ge3-via-else-dimension-ge3+then-size-along w ↦
          no_index _ c.args.dimension c.args.index e w.if-dimension-ge3.false w.if-size-along.true
    ]

pub returns : goal.returns
returns c =
    inside _ c.args.dimension c.args.index c.position.result (sym c.check14.ensures ∙ c.if-check14.false) (omega arith) (omega arith) (c.position.ensures.value, c.position.ensures.error)
