use Prim.Native.Nat.{◌*◌}
use mathlib.Core.Path.{sym, ap₂, ◌∙◌}
use native.Mathlib.Nat.{mul-one}
use Rattle.runs.proofs.Readers.{run_end, part_long}
use Rattle.sampling.proofs.Pieces.{fitting, items-missing, items_read}
use Rattle.sampling.proofs.RangeItems.read_items.Goals as goal

pub decode-requires : goal.decode-requires
decode-requires c =
    let fits = fitting c.args.v.now.ready in (
      fits.typed,
      part_long _ _ _ (run_end c.requires.run c.in-Stored.is c.index-w.ensures.0) ∙ ap₂ ◌*◌ (sym (c.requires.room ∙ mul-one c.args.n)) (c.index-w.ensures.0 ∙ fits.width),
    )

pub returns-in-Missing : goal.returns-in-Missing
returns-in-Missing c = items-missing _ _ _ _ _ _ _ (fitting c.args.v.now.ready).missing c.in-Missing.is (rw (c.requires.room ∙ mul-one c.args.n) at c.missing_floats.ensures)

pub returns-in-Stored : goal.returns-in-Stored
returns-in-Stored c =
    items_read _ _ _ _ _ _ c.args.self.now c.requires.fits _ _ c.in-Stored.is (c.index-w.ensures.0 ∙ (fitting c.args.v.now.ready).width) (rw (← c.index-w.ensures.0) at (c.requires.run.stored _ c.in-Stored.is))
    (rw (c.requires.room ∙ mul-one c.args.n) at c.decode.ensures)
