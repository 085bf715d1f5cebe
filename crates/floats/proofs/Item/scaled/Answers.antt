use Rattle.std.proofs.Common.{◌≡◌, ◌∙◌, w32, to_z, of_z, rules}
use Rattle.floats.specs.Rules.{convert, scaled_of}
use Rattle.floats.proofs.Item.scaled.Goals as goal

pub returns : goal.returns
unfolding scaled_of
returns c =
    let s-is : to_z w32 (of_z w32 c.signed.result) ≡ c.signed.result = search rules in
    let lo-is : to_z w32 (of_z w32 c.lowest.result) ≡ c.lowest.result = search rules in
    let hi-is : to_z w32 (of_z w32 c.highest.result) ≡ c.highest.result = search rules in
    c.converted.ensures ∙
    (λ i. convert ((lo-is ∙ c.lowest.ensures) i) ((hi-is ∙ c.highest.ensures) i) c.args.min c.args.max ((s-is ∙ c.signed.ensures) i))
