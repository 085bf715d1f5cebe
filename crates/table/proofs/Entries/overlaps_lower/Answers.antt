use Rattle.std.proofs.Common.{◌∙◌, sym, rules, tests, arith}
use Rattle.std.proofs.lemmas.Iterator.{YieldsList-from_range}
use Rattle.std.proofs.lemmas.Iterator.Search.{any_from_yields_List}
use Rattle.table.specs.Entries.{stored_in, kind_at, overlaps_at}
use Rattle.table.proofs.Overlaps.{hits, lower_any, lower_unstored}
use Rattle.table.proofs.Entries.overlaps_lower.Goals as goal

pub returns-in_default : goal.returns-in_default
unfolding overlaps_at
returns-in_default c =
    sym (lower_unstored _ _ c.args.entry (sym c.offset.ensures.offset ∙ c.in_default.is))

pub returns : goal.returns
unfolding overlaps_at
returns c =
    let t = c.args.self.now.table in
    let kinds = kind_at t c.args.self.now.file.now in
    any_from_yields_List (λ l. hits t.brick (stored_in (kinds l)) c.in-Some.offset) _ _ _ c.any.ensures.ran
    (YieldsList-from_range 0 c.args.entry c.args.entry (cc) (omega arith)) (λ x b q k. search (rules, tests))
    ∙ lower_any t.brick kinds c.args.entry c.in-Some.offset (sym c.offset.ensures.offset ∙ c.in-Some.is)
