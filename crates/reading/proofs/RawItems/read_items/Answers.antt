use Prim.Native.Nat.{ℕ, ◌*◌}
use mathlib.Core.Path.{sym, ap, ◌∙◌}
use native.Mathlib.Nat.{add-sub_cancel_left}
use Rattle.runs.proofs.Readers.{run_end, part_long}
use Rattle.runs.proofs.Steps.{ready-width, lattice_width}
use Rattle.reading.proofs.Turns.{items_made}
use Rattle.reading.proofs.RawItems.read_items.Goals as goal

pub fill_items-requires : goal.fill_items-requires
fill_items-requires c = rw c.index-w.ensures.0 (lattice_width _ _ _ _ c.args.v.now.ready, c.requires.room ∙ ap (λ (w : ℕ). c.args.n * w) (sym (ready-width _ _ _ _ c.args.v.now.ready)))

pub fill_items-requires-in-Constant : goal.fill_items-requires-in-Constant
fill_items-requires-in-Constant c =
    rw c.index-w.ensures.0 (lattice_width _ _ _ _ c.args.v.now.ready, c.requires.room ∙ ap (λ (w : ℕ). c.args.n * w) (sym (ready-width _ _ _ _ c.args.v.now.ready)))

pub copy-requires : goal.copy-requires
copy-requires c =
    part_long _ _ _ (run_end c.requires.run c.in-Stored.is c.index-w.ensures.0)
    ∙ ap (λ (w : ℕ). c.args.n * w) (c.index-w.ensures.0 ∙ ready-width _ _ _ _ c.args.v.now.ready) ∙ sym c.requires.room

pub returns-in-Missing : goal.returns-in-Missing
returns-in-Missing c = items_made _ _ c.args.v.now.ready c.index-w.ensures.0 c.in-Missing.is c.fill_items.ensures

pub returns-in-Constant : goal.returns-in-Constant
returns-in-Constant c = items_made _ _ c.args.v.now.ready c.index-w.ensures.0 c.in-Constant.is c.fill_items-in-Constant.ensures

pub returns-in-Stored : goal.returns-in-Stored
returns-in-Stored c = items_made _ _ c.args.v.now.ready c.index-w.ensures.0 c.in-Stored.is (rw add-sub_cancel_left at c.copy.ensures)
