-- The answer of each case, from what checks 20 and 18 leave of the sides and of the two buffers.
use mathlib.Core.Path.{refl, sym, ◌∙◌}
use native.Mathlib.Omega.{arith}
use lib.ListN.{get_or}
use lib.Seq.{length-take-le}
use Rattle.subtiles.proofs.Sides.{sides}
use Rattle.subtiles.proofs.Answers.{answer_20, answer_18, answer-taken, answered, long-enough}
use Rattle.subtiles.proofs.Orders.{moved_front, movable}
use Rattle.subtiles.proofs.permute.Goals as goal

pub returns-then-breaks_20 : goal.returns-then-breaks_20
returns-then-breaks_20 g c =
    let p = answered _ _ _ _ _ _ (answer_20 _ _ _ _ (sym c.breaks_20.ensures ∙ c.if-breaks_20.true)) refl refl in
    record { value = p.0; out_after = p.1 }

pub brick_bytes-bytes-requires : goal.brick_bytes-bytes-requires
brick_bytes-bytes-requires g c = let s = sides c.args.side c.args.width (sym c.breaks_20.ensures ∙ c.if-breaks_20.false) in rw (c.from.ensures, c.from-2.ensures, c.from-3.ensures, c.from-4.ensures) (omega (arith, s))

pub returns-then-brick-n : goal.returns-then-brick-n
returns-then-brick-n g c =
    let p = answered _ _ _ _ _ _ (answer_18 _ _ _ _ (rw (c.from.ensures, c.from-2.ensures, c.from-3.ensures, c.from-4.ensures) at c.brick_bytes-bytes.ensures.0) (sym c.breaks_20.ensures ∙ c.if-breaks_20.false) c.if-brick-n.true) refl refl in
    record { value = p.0; out_after = p.1 }

pub move_runs-requires : goal.move_runs-requires
move_runs-requires g c =
    let long = long-enough _ _ _ c.if-brick-n.false in
    movable _ _ _ _ _ _ _ _ (sides _ _ (sym c.breaks_20.ensures ∙ c.if-breaks_20.false)) (rw (c.from.ensures, c.from-2.ensures, c.from-3.ensures, c.from-4.ensures) at c.brick_bytes-bytes.ensures.0) long.0 (length-take-le _ _ long.1)

pub returns : goal.returns
returns g c =
    let a = c.args in
    let s = sides a.side a.width (sym c.breaks_20.ensures ∙ c.if-breaks_20.false) in
    let p =
    answered _ _ _ _ _ _ (answer-taken _ _ _ _ (rw (c.from.ensures, c.from-2.ensures, c.from-3.ensures, c.from-4.ensures) at c.brick_bytes-bytes.ensures.0) (sym c.breaks_20.ensures ∙ c.if-breaks_20.false) c.if-brick-n.false)
    refl
    (moved_front g.W.Way.plain (get_or a.side 0 0) (get_or a.side 1 0) (get_or a.side 2 0) a.width a.brick.now _ s.inline s.crossline c.move_runs.ensures) in
    record { value = p.0; out_after = p.1 }
