use Rattle.std.proofs.Common.{◌≡◌, ℤ, ap, ◌∙◌, w32, to_z, of_z, rules}
use lib.Ieee.{binary64, of_int}
use Rattle.floats.specs.Rules.{integer_of}
use Rattle.floats.proofs.Item.value.Goals as goal

pub returns : goal.returns
unfolding integer_of
returns c =
    let back : to_z w32 (of_z w32 c.signed.result) ≡ c.signed.result = search rules in
    c.from.ensures ∙ ap (λ (z : ℤ). of_int binary64 z) (back ∙ c.signed.ensures)
