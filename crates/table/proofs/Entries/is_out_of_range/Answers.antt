use Rattle.std.proofs.Common.{◌≡◌, ◌+◌, ◌||◌, false, nat_lt, length, refl, ◌∙◌, rules, tests}
use Rattle.std.specs.Option.{MatchOption}
use Rattle.table.specs.Entries.{kind_at}
use Rattle.table.proofs.Range.{out_stored, outside_kind}
use Rattle.table.proofs.Entries.is_out_of_range.Goals as goal

pub returns : goal.returns
returns c =
    let t = c.args.self.now.table in
    let f = c.args.self.now.file.now in
    let by_offset : MatchOption c.offset.result (c.is_some_and.result ≡ false)
    (λ o. c.is_some_and.result ≡ (nat_lt o t.header || nat_lt (length f) (o + t.brick))) =
    search (rules, tests)
    in
    out_stored _ _ _ _ _ (rw c.offset.ensures.offset at by_offset) ∙ outside_kind t f c.args.entry (kind_at t f c.args.entry) refl
