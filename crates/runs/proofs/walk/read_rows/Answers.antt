use Prim.Native.Nat.{◌*◌, ◌<◌}
use lib.ListN.{length}
use Rattle.std.proofs.Common.{rules}
use mathlib.Core.Path.{◌≡◌, ◌∙◌}
use native.Mathlib.Omega.{arith}
use Rattle.runs.proofs.Rows.{row_of, rows-small}
use Rattle.runs.proofs.Readers.{row_holds, row_run, row_end, row_lt, turn_box}
use Rattle.runs.proofs.walk.read_rows.Goals as goal

pub overflow_add-j : goal.overflow_add-j
overflow_add-j g c = omega (arith, (row_holds (row_of c.requires.rows c.loop-t-test.true)).crossline, c.args.v.now.ready.few)

pub sample_no-requires : goal.sample_no-requires
sample_no-requires g c = row_holds (row_of c.requires.rows c.loop-t-test.true)

pub overflow_mul-a : goal.overflow_mul-a
overflow_mul-a g c = omega (arith, row_end g.R.Items.laws (row_of c.requires.rows c.loop-t-test.true) c.sample_no.ensures c.elements-w.ensures c.requires.room, c)

pub overflow_mul-e : goal.overflow_mul-e
overflow_mul-e g c = omega (arith, row_end g.R.Items.laws (row_of c.requires.rows c.loop-t-test.true) c.sample_no.ensures c.elements-w.ensures c.requires.room, c)

pub overflow_add-e : goal.overflow_add-e
overflow_add-e g c = omega (arith, row_end g.R.Items.laws (row_of c.requires.rows c.loop-t-test.true) c.sample_no.ensures c.elements-w.ensures c.requires.room, c)

pub offset_bounds-out-a : goal.offset_bounds-out-a
offset_bounds-out-a g c =
    let inside : c.sample_no.result * c.elements-w.result < length c.loop-t.out =
    row_lt g.R.Items.laws (row_of c.requires.rows c.loop-t-test.true) c.sample_no.ensures c.elements-w.ensures (c.loop-t.invariant.0.size ∙ c.requires.room) in
    search rules

pub slice_bounds-read_items-end : goal.slice_bounds-read_items-end
slice_bounds-read_items-end g c =
    omega (arith, row_end g.R.Items.laws (row_of c.requires.rows c.loop-t-test.true) c.sample_no.ensures c.elements-w.ensures c.requires.room, c.loop-t.invariant.0.size, c)

pub overflow_mul-row : goal.overflow_mul-row
overflow_mul-row g c = omega (arith, rows-small (row_of c.requires.rows c.loop-t-test.true))

pub overflow_add-row : goal.overflow_add-row
overflow_add-row g c = omega (arith, rows-small (row_of c.requires.rows c.loop-t-test.true))

pub read_items-requires : goal.read_items-requires
read_items-requires g c =
    record { fits = c.requires.fits; room = rw (← c.elements-w.ensures) (omega arith); run = row_run c.args.v.now (row_of c.requires.rows c.loop-t-test.true) }

pub loop-t-preserved : goal.loop-t-preserved
loop-t-preserved g c =
    (turn_box g.R.Items.laws c.requires.rows c.loop-t-test.true c.sample_no.ensures c.elements-w.ensures c.requires.room c.loop-t.invariant.0 c.read_items.ensures, omega arith)

pub returns : goal.returns
returns g c = let e : c.loop-t.t ≡ c.args.j.n = omega arith in rw e at c.loop-t.invariant.0
