use mathlib.Core.Bool.{false}
use mathlib.Core.Path.{◌≡◌, sym, ◌∙◌}
use native.Mathlib.Omega.{arith}
use lib.ListN.{length}
use Rattle.checks.specs.Fits.{breaks14_with}
use Rattle.checks.proofs.Records.{with_fit}
use Rattle.table.proofs.Tables.{outside_is}
use Rattle.bricks.proofs.Entries.{entry_in_lem, fit_made, kind_14, kind_16, kind_12, kind_taken}
use Rattle.bricks.proofs.check_entry.Goals as goal

pub returns-then-check14_with : goal.returns-then-check14_with
returns-then-check14_with c = sym (kind_14 _ _ _ (sym c.check14_with.ensures ∙ c.if-check14_with.true))

pub returns-then-r-entry : goal.returns-then-r-entry
returns-then-r-entry c =
    let passes : breaks14_with c.args.r (length c.args.file.now) ≡ false = sym c.check14_with.ensures ∙ c.if-check14_with.false in
    sym (kind_16 _ _ _ passes (omega arith))

pub of-requires : goal.of-requires
of-requires c =
    let passes : breaks14_with c.args.r (length c.args.file.now) ≡ false = sym c.check14_with.ensures ∙ c.if-check14_with.false in
    let p = with_fit _ _ passes in
    fit_made _ _ p.0 p.1

pub is_out_of_range-requires : goal.is_out_of_range-requires
is_out_of_range-requires c =
    let passes : breaks14_with c.args.r (length c.args.file.now) ≡ false = sym c.check14_with.ensures ∙ c.if-check14_with.false in
    let p = with_fit _ _ passes in
    (entry_in_lem _ _ c.args.file.now _ c.of.ensures.table p.0 p.1 (omega arith)).1

pub returns-then-is_out_of_range : goal.returns-then-is_out_of_range
returns-then-is_out_of_range c =
    let passes : breaks14_with c.args.r (length c.args.file.now) ≡ false = sym c.check14_with.ensures ∙ c.if-check14_with.false in
    let outside = rw c.of.ensures.file at c.is_out_of_range.ensures in
    let e = outside ∙ outside_is _ _ c.of.ensures.table _ _ in
    sym (kind_12 _ _ _ passes (omega arith) (sym e ∙ c.if-is_out_of_range.true))

pub returns : goal.returns
returns c =
    let passes : breaks14_with c.args.r (length c.args.file.now) ≡ false = sym c.check14_with.ensures ∙ c.if-check14_with.false in
    let outside = rw c.of.ensures.file at c.is_out_of_range.ensures in
    let e = outside ∙ outside_is _ _ c.of.ensures.table _ _ in
    sym (kind_taken _ _ _ passes (omega arith) (sym e ∙ c.if-is_out_of_range.false))
