use mathlib.Core.List.{◌∷◌, []}
use Rattle.endian.specs.Loops.{cat}
use Rattle.endian.proofs.Parts.{Filled}
use Rattle.decoding.proofs.fill_floats.Given as goal

abbrev pub invariant-loop-to : goal.invariant-loop-to
invariant-loop-to l = Filled l.initial.out (cat l.to-index (λ _. l.value ∷ [])) l.out l.to-index
