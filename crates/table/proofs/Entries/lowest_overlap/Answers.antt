use Rattle.std.proofs.Common.{◌∙◌, arith}
use Rattle.std.specs.Option.{option_or}
use Rattle.table.specs.Windows.{offset_at}
use Rattle.table.proofs.Overlaps.{lowest_overlap-is, lowest_overlap-or}
use Rattle.table.proofs.Cells.{placed, left_start, left_next, left_end, hit_le, hit_window, left_window}
use Rattle.table.proofs.Entries.lowest_overlap.Goals as goal

pub loop-init : goal.loop-init
loop-init c =
    let t = c.args.self.now.table in
    let f = c.args.self.now.file.now in
    record { left = left_start (offset_at t f) t.count t.brick t.header (placed t f c.requires.in_range); hit = tt }

pub scan-requires : goal.scan-requires
scan-requires c = (c.requires.bricks, rw c.unwrap_or-limit.ensures (hit_le _ _ _ c.loop.best c.loop.invariant.hit))

pub loop-preserved : goal.loop-preserved
loop-preserved c =
    let t = c.args.self.now.table in
    let os = offset_at t c.args.self.now.file.now in
    let l = c.loop in
    let s = rw c.unwrap_or-limit.ensures at c.scan.ensures in
    let left = left_window os t.count t.brick l.start c.scan.result l.best s l.invariant.hit c.saturating_add.result
    (omega (arith, c.saturating_add.ensures)) l.invariant.left in
    let hit = hit_window os t.count t.brick l.start c.scan.result l.best s l.invariant.hit in
    let later = left_next os t.count t.brick c.saturating_add.result _ c.in-Some.next (hit_le os t.brick t.count _ hit) left c.in-Some.ensures in
    rw c.or-best.ensures (record { left = later; hit = hit })

pub returns-in-None : goal.returns-in-None
returns-in-None c =
    let t = c.args.self.now.table in
    let f = c.args.self.now.file.now in
    let os = offset_at t f in
    let l = c.loop in
    let s = rw c.unwrap_or-limit.ensures at c.scan.ensures in
    let left = left_window os t.count t.brick l.start c.scan.result l.best s l.invariant.hit c.saturating_add.result
    (omega (arith, c.saturating_add.ensures)) l.invariant.left in
    let hit = hit_window os t.count t.brick l.start c.scan.result l.best s l.invariant.hit in
    c.or-best.ensures ∙ lowest_overlap-is t f t.count (option_or c.scan.result l.best)
    (left_end os t.count t.brick c.saturating_add.result _ (hit_le os t.brick t.count _ hit) left c.in-None.ensures)
    hit

pub first_pair-requires : goal.first_pair-requires
first_pair-requires c = rw c.unwrap_or-limit-2.ensures (hit_le _ _ _ c.loop.best c.loop.invariant.hit)

pub returns : goal.returns
returns c =
    let t = c.args.self.now.table in
    let f = c.args.self.now.file.now in
    rw (c.or.ensures, c.first_pair.ensures, c.unwrap_or-limit-2.ensures) (lowest_overlap-or t f t.count c.loop.best c.loop.invariant.hit)
