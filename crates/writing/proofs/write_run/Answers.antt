use Prim.Native.Nat.{ℕ}
use mathlib.Core.Path.{◌≡◌, refl, ap, ◌∙◌}
use native.Mathlib.Omega.{arith}
use Rattle.endian.specs.Loops.{up}
use Rattle.cube.specs.Regions.{run_of}
use Rattle.runs.proofs.Sites.{parts_on, asks_on, turn_on, end_on}
use Rattle.writing.specs.Writes.{sample_to}
use Rattle.writing.proofs.Turns.{turn_inside, turn_still, turn_part, turn_fits, turn_more}
use Rattle.writing.proofs.write_run.Goals as goal

-- the sum would fit with the crosslines' start too, so a run that is cut by another direction's start is refused for what it writes
pub new-down-items-requires : goal.new-down-items-requires
new-down-items-requires c =
    let a = asks_on c.requires.writable.ready 2 (omega arith) c.requires.writable.some in
    let b = asks_on c.requires.writable.ready 1 (omega arith) c.requires.writable.some in
    (a.0, omega (arith, a.1, b.1))

pub loop-down-init : goal.loop-down-init
unfolding up
loop-down-init c =
    let p = c.into_iter-down-iterator.ensures.into_iter_gives in
    let n = c.new-down-items.ensures in
    let q = rw (← p) at n in
    (rw q.2 refl, refl, record { start = q.0; side = q.1; end = q.3 })

pub offset_on-offset-requires : goal.offset_on-offset-requires
offset_on-offset-requires c =
    let x = c.in-Some.ensures.steps.3 in
    let a = turn_on c.requires.writable.ready 2 _ (omega arith) c.loop-down.invariant.2 x.0 x.1 x.2 in
    record {
      inside = turn_inside c.requires.writable c.requires.inside a;
      same_length = (turn_still c.requires.writable c.requires.inside a c.args.run.now c.requires.bytes (rw (← x.1) at c.loop-down.invariant.0)).ready.same_length;
    }

pub item-item-requires : goal.item-item-requires
item-item-requires c =
    let x = c.in-Some.ensures.steps.3 in
    turn_inside c.requires.writable c.requires.inside (turn_on c.requires.writable.ready 2 _ (omega arith) c.loop-down.invariant.2 x.0 x.1 x.2)

pub overflow_mul-a : goal.overflow_mul-a
overflow_mul-a c =
    let x = c.in-Some.ensures.steps.3 in
    let a = turn_on c.requires.writable.ready 2 _ (omega arith) c.loop-down.invariant.2 x.0 x.1 x.2 in
    omega (arith, turn_part c.requires.writable c.requires.inside a c.index-w.ensures.0 c.args.run.now c.requires.bytes, c.well_formed)

pub overflow_mul-e : goal.overflow_mul-e
overflow_mul-e c =
    let x = c.in-Some.ensures.steps.3 in
    let a = turn_on c.requires.writable.ready 2 _ (omega arith) c.loop-down.invariant.2 x.0 x.1 x.2 in
    omega (arith, turn_part c.requires.writable c.requires.inside a c.index-w.ensures.0 c.args.run.now c.requires.bytes, c.well_formed)

pub overflow_add-e : goal.overflow_add-e
overflow_add-e c =
    let x = c.in-Some.ensures.steps.3 in
    let a = turn_on c.requires.writable.ready 2 _ (omega arith) c.loop-down.invariant.2 x.0 x.1 x.2 in
    omega (arith, turn_part c.requires.writable c.requires.inside a c.index-w.ensures.0 c.args.run.now c.requires.bytes, c.well_formed)

pub slice_bounds-write_items-end : goal.slice_bounds-write_items-end
slice_bounds-write_items-end c =
    let x = c.in-Some.ensures.steps.3 in
    let a = turn_on c.requires.writable.ready 2 _ (omega arith) c.loop-down.invariant.2 x.0 x.1 x.2 in
    omega (arith, turn_part c.requires.writable c.requires.inside a c.index-w.ensures.0 c.args.run.now c.requires.bytes)

pub write_items-requires : goal.write_items-requires
write_items-requires c =
    let x = c.in-Some.ensures.steps.3 in
    let a = turn_on c.requires.writable.ready 2 _ (omega arith) c.loop-down.invariant.2 x.0 x.1 x.2 in
    turn_fits c.requires.writable c.requires.inside a c.args.run.now c.requires.bytes (rw (← x.1) at c.loop-down.invariant.0)
    c.offset_on-offset.ensures c.item-item.ensures c.index-w.ensures.0

pub loop-down-preserved : goal.loop-down-preserved
loop-down-preserved c =
    let s = c.in-Some.ensures.steps in
    let x = s.3 in
    let was = c.loop-down.invariant in
    let a = turn_on c.requires.writable.ready 2 _ (omega arith) was.2 x.0 x.1 x.2 in
    let more = turn_more c.requires.writable c.requires.inside a c.args.run.now c.requires.bytes (rw (← x.1) at was.0)
    c.offset_on-offset.ensures c.item-item.ensures c.index-w.ensures.0 c.write_items.ensures in
    (rw (x.3, ← x.1) more, omega (arith, c.write_items.auto.file), parts_on was.2 s.0 s.1 s.2)

pub returns : goal.returns
returns c =
    let e : c.loop-down.down-iterator.at ≡ run_of c.args.site.now.region.now 2 =
    end_on c.requires.writable.ready 2 (omega arith) c.loop-down.invariant.2 c.in-None.ensures.steps.3 in
    c.loop-down.invariant.0 ∙ ap (λ (n : ℕ). up n (sample_to c.args.site.now.record.now c.args.site.now.region.now c.args.i c.args.j c.args.run.now) c.args.file.now) e
