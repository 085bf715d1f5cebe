use Prim.Native.Nat.{ℕ, ◌*◌}
use mathlib.Core.Path.{sym, ap, ◌∙◌}
use native.Mathlib.Omega.{arith}
use lib.ListN.{length, length-append}
use lib.Seq.{length-take-le}
use Rattle.endian.proofs.Blocks.{front_is}
use Rattle.runs.proofs.Steps.{lattice_width}
use Rattle.sampling.proofs.Pieces.{fitting}
use Rattle.sampling.proofs.Strips.{strip_block, strip_end, strip_long, strip_one, strip_read}
use Rattle.sampling.proofs.read_strip.Goals as goal

pub overflow_mul-a : goal.overflow_mul-a
overflow_mul-a c = omega (arith, strip_end _ _ _ _ _ _ (rw (← c.index-w.ensures.0) at (c.requires.stored _ c.in-Stored.is)) 0 c.requires.few.1, c)

pub overflow_add-a : goal.overflow_add-a
overflow_add-a c = omega (arith, strip_end _ _ _ _ _ _ (rw (← c.index-w.ensures.0) at (c.requires.stored _ c.in-Stored.is)) 0 c.requires.few.1, c)

pub slice_bounds-block-end : goal.slice_bounds-block-end
slice_bounds-block-end c = strip_block c.args.v.now.ready c.index-w.ensures.0 c.requires.few.2

pub slice_bounds-gather_items-end : goal.slice_bounds-gather_items-end
slice_bounds-gather_items-end c = sym (length-take-le _ _ (strip_block c.args.v.now.ready c.index-w.ensures.0 c.requires.few.2))

pub gather_items-requires : goal.gather_items-requires
gather_items-requires c =
    let stored = rw (← c.index-w.ensures.0) at (c.requires.stored _ c.in-Stored.is) in
    record {
      width = (rw c.index-w.ensures.0 (lattice_width _ _ _ _ c.args.v.now.ready), length-take-le _ _ (strip_block c.args.v.now.ready c.index-w.ensures.0 c.requires.few.2));
      by_index = strip_end _ _ _ _ _ _ stored;
    }

pub slice_bounds-block-end-in-Stored : goal.slice_bounds-block-end-in-Stored
slice_bounds-block-end-in-Stored c =
    let long = strip_long _ _ _ _ _ _ (rw (← c.index-w.ensures.0) at (c.requires.stored _ c.in-Stored.is)) c.gather_items.ensures in
    rw length-append (omega (arith, long))

pub slice_bounds-decode-end : goal.slice_bounds-decode-end
slice_bounds-decode-end c =
    let long = strip_long _ _ _ _ _ _ (rw (← c.index-w.ensures.0) at (c.requires.stored _ c.in-Stored.is)) c.gather_items.ensures in
    sym (length-take-le _ _ (rw length-append (omega (arith, long))))

pub decode-requires : goal.decode-requires
decode-requires c =
    let long = strip_long _ _ _ _ _ _ (rw (← c.index-w.ensures.0) at (c.requires.stored _ c.in-Stored.is)) c.gather_items.ensures in
    let fits = fitting c.args.v.now.ready in
    (fits.typed, length-take-le _ _ (rw length-append (omega (arith, long))) ∙ ap (λ (w : ℕ). length c.args.strip.now * w) (c.index-w.ensures.0 ∙ fits.width))

pub returns-in-Missing : goal.returns-in-Missing
returns-in-Missing c = strip_one _ _ _ _ _ _ _ c.in-Missing.is c.read_items.ensures

pub returns-in-Stored : goal.returns-in-Stored
returns-in-Stored c =
    let stored = rw (← c.index-w.ensures.0) at (c.requires.stored _ c.in-Stored.is) in
    let long = strip_long _ _ _ _ _ _ stored c.gather_items.ensures in
    strip_read _ _ _ _ _ _ _ c.args.range c.requires.range _ _ _ c.in-Stored.is (c.index-w.ensures.0 ∙ (fitting c.args.v.now.ready).width)
    (strip_end _ _ _ _ _ _ stored) (front_is _ _ _ long ∙ c.gather_items.ensures) c.decode.ensures
