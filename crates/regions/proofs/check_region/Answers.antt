use mathlib.Core.Path.{sym, ◌∙◌}
use native.Mathlib.Omega.{arith}
use Rattle.cube.proofs.Regions.{stop14, stop15, stop16, stop18, go_on}
use Rattle.regions.proofs.Verdicts.{allowed_of, passed_of}
use Rattle.regions.proofs.check_region.Goals as goal

pub returns-then-check14_with : goal.returns-then-check14_with
returns-then-check14_with c = stop14 _ _ _ _ _ _ (sym c.check14_with.ensures ∙ c.if-check14_with.true)

pub returns-then-r-g : goal.returns-then-r-g
returns-then-r-g c =
    stop15 c.args.r c.args.file.now c.args.g _ _ _ (sym c.check14_with.ensures ∙ c.if-check14_with.false) (omega (arith, c.if-r-g.true))

pub in_extent-requires : goal.in_extent-requires
in_extent-requires c =
    allowed_of _ _ _ (sym c.check14_with.ensures ∙ c.if-check14_with.false) c.if-r-g.false

pub returns-then-not-in_extent : goal.returns-then-not-in_extent
returns-then-not-in_extent c =
    stop16 _ _ _ _ _ _ (sym c.check14_with.ensures ∙ c.if-check14_with.false) c.if-r-g.false (sym c.in_extent.ensures ∙ c.if-not-in_extent.true)

pub invariant_of-checked : goal.invariant_of-checked
invariant_of-checked c =
    let p = passed_of _ _ _ (sym c.check14_with.ensures ∙ c.if-check14_with.false) c.if-r-g.false (sym c.in_extent.ensures ∙ c.if-not-in_extent.false) in
    record { passed = p.0; whole = p.1 }

pub returns-then-room-needed : goal.returns-then-room-needed
returns-then-room-needed c =
    stop18 _ _ _ _ _ _ (sym c.check14_with.ensures ∙ c.if-check14_with.false) c.if-r-g.false (sym c.in_extent.ensures ∙ c.if-not-in_extent.false)
    (rw (← c.needed.ensures) c.if-room-needed.true)

pub returns : goal.returns
returns c =
    c.check_entries.ensures ∙ go_on _ _ _ _ _ _ (sym c.check14_with.ensures ∙ c.if-check14_with.false) c.if-r-g.false (sym c.in_extent.ensures ∙ c.if-not-in_extent.false)
    (rw (← c.needed.ensures) c.if-room-needed.false)
