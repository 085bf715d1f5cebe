use Rattle.std.proofs.Common.{◌≡◌, true, false, rules, tests}
use Rattle.std.proofs.lemmas.Iterator.{first_from_Range}
use Rattle.table.specs.Entries.{overlaps_at}
use Rattle.table.proofs.Search.{lowest_found}
use Rattle.table.proofs.Entries.first_pair.Goals as goal

pub returns : goal.returns
returns c =
    let over = overlaps_at c.args.self.now.table c.args.self.now.file.now in
    lowest_found over _ _
    (first_from_Range _ _ _ _ (λ k. over k ≡ true) (λ k. over k ≡ false) c.find.ensures.ran (λ x q k. search (rules, tests)) (λ x q k. search (rules, tests)))
