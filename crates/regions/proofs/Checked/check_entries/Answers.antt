use mathlib.Core.Path.{◌∙◌}
use mathlib.Core.Bool.{true, false}
use Rattle.regions.proofs.Verdicts.{made, search_below, refused_at_lem, passed_on, rest_read, rest-write}
use Rattle.record.specs.declared.Refusal.TheVariants as refusal
use Rattle.regions.proofs.Checked.check_entries.Goals as goal

pub of-entries-requires : goal.of-entries-requires
of-entries-requires c = made c.args.self.now.r c.args.self.now.g c.args.self.now.passed _ c.args.self.now.whole

pub search-requires : goal.search-requires
search-requires c =
    search_below c.args.self.now.r c.args.self.now.g c.args.self.now.passed _ _ c.of-entries.ensures.table c.block-b.ensures

pub returns-in-Some : goal.returns-in-Some
returns-in-Some c =
    refused_at_lem c.args.self.now.r c.args.self.now.g c.args.self.now.passed _ _ c.of-entries.ensures.table c.block-b.ensures c.args.self.now.file.now false _ (rw c.of-entries.ensures.file at c.search.ensures) refusal.Range _ _ c.in-Some.is

pub returns-then-not-write : goal.returns-then-not-write
returns-then-not-write c =
    rest_read c.args.write c.args.self.now.r c.args.self.now.file.now c.args.self.now.g c.if-not-write.true
    ∙ passed_on c.args.self.now.r c.args.self.now.g c.args.self.now.passed _ _ c.of-entries.ensures.table c.block-b.ensures c.args.self.now.file.now false _ (rw c.of-entries.ensures.file at c.search.ensures) refusal.Range _ c.in_default.is

pub search-requires-2 : goal.search-requires-2
search-requires-2 c =
    search_below c.args.self.now.r c.args.self.now.g c.args.self.now.passed _ _ c.of-entries.ensures.table c.block-b.ensures

pub returns-in-Some-search : goal.returns-in-Some-search
returns-in-Some-search c =
    refused_at_lem c.args.self.now.r c.args.self.now.g c.args.self.now.passed _ _ c.of-entries.ensures.table c.block-b.ensures c.args.self.now.file.now true _ (rw c.of-entries.ensures.file at c.search-2.ensures) refusal.NotStored _ _ c.in-Some-search.is
    ∙ rest-write c.args.write c.args.self.now.r c.args.self.now.file.now c.args.self.now.g c.if-not-write.false
    ∙ passed_on c.args.self.now.r c.args.self.now.g c.args.self.now.passed _ _ c.of-entries.ensures.table c.block-b.ensures c.args.self.now.file.now false _ (rw c.of-entries.ensures.file at c.search.ensures) refusal.Range _ c.in_default.is

pub returns-in-None : goal.returns-in-None
returns-in-None c =
    passed_on c.args.self.now.r c.args.self.now.g c.args.self.now.passed _ _ c.of-entries.ensures.table c.block-b.ensures c.args.self.now.file.now true _ (rw c.of-entries.ensures.file at c.search-2.ensures) refusal.NotStored _ c.in-None.is
    ∙ rest-write c.args.write c.args.self.now.r c.args.self.now.file.now c.args.self.now.g c.if-not-write.false
    ∙ passed_on c.args.self.now.r c.args.self.now.g c.args.self.now.passed _ _ c.of-entries.ensures.table c.block-b.ensures c.args.self.now.file.now false _ (rw c.of-entries.ensures.file at c.search.ensures) refusal.Range _ c.in_default.is
