use mathlib.Core.Path.{◌≡◌, sym, ◌∙◌}
use native.Mathlib.Omega.{arith}
use Rattle.record.specs.Record.{brick_bytes_of}
use Rattle.checks.proofs.Described.{described-width}
use Rattle.table.specs.declared.Kind.TheVariants.{Constant}
use Rattle.table.proofs.Tables.{derived, brick-is, width_is}
use Rattle.cube.specs.Places.{item_bytes, raw_of}
use Rattle.bricks.specs.Bricks.{filled_with, fill_of}
use Rattle.bricks.proofs.Words.{filled_is, same_front}
use Rattle.bricks.proofs.Views.{brick_words, filler_18, filler_17, filler_taken}
use Rattle.bricks.proofs.check_filler.Goals as goal

pub returns-then-filler-bytes : goal.returns-then-filler-bytes
returns-then-filler-bytes c =
    let brick : c.table_in-t.result.brick ≡ brick_bytes_of c.args.r.description = brick-is _ _ c.table_in-t.ensures in
    sym (filler_18 _ _ _ (omega (arith, brick)))

pub repeated-requires : goal.repeated-requires
repeated-requires c =
    rw (width_is _ _ c.table_in-t.ensures) (described-width _ _ (derived _ c.requires.0), c.requires.1)

pub returns-then-same_words : goal.returns-then-same_words
unfolding raw_of
returns-then-same_words c =
    let brick : c.table_in-t.result.brick ≡ brick_bytes_of c.args.r.description = brick-is _ _ c.table_in-t.ensures in
    let judged : c.same_words.result ≡ filled_with (fill_of c.args.r (Constant c.args.value)) c.args.filler.now (item_bytes c.args.r) (brick_bytes_of c.args.r.description) =
    let p = derived _ c.requires.0 in
    filled_is _ _ c.args.value c.repeated.result (described-width _ _ p)
    (rw (width_is _ _ c.table_in-t.ensures) at c.repeated.ensures) _ _ _
    (λ i. (c.type_inv.filler i).fits) (omega (arith, c.repeated.type_inv)) (rw brick (brick_words _ _ p)) (same_front _ _ _ _ (omega (arith, brick)) c.same_words.ensures) in
    sym (filler_taken _ _ _ (omega (arith, brick)) (sym judged ∙ c.if-same_words.true))

pub returns : goal.returns
unfolding raw_of
returns c =
    let brick : c.table_in-t.result.brick ≡ brick_bytes_of c.args.r.description = brick-is _ _ c.table_in-t.ensures in
    let judged : c.same_words.result ≡ filled_with (fill_of c.args.r (Constant c.args.value)) c.args.filler.now (item_bytes c.args.r) (brick_bytes_of c.args.r.description) =
    let p = derived _ c.requires.0 in
    filled_is _ _ c.args.value c.repeated.result (described-width _ _ p)
    (rw (width_is _ _ c.table_in-t.ensures) at c.repeated.ensures) _ _ _
    (λ i. (c.type_inv.filler i).fits) (omega (arith, c.repeated.type_inv)) (rw brick (brick_words _ _ p)) (same_front _ _ _ _ (omega (arith, brick)) c.same_words.ensures) in
    sym (filler_17 _ _ _ (omega (arith, brick)) (sym judged ∙ c.if-same_words.false))
