use mathlib.Core.Path.{refl, sym, ◌∙◌}
use Prim.Native.Nat.{zero-le}
use native.Mathlib.Omega.{arith}
use Rattle.strings.specs.Strings.{place_from}
use Rattle.strings.proofs.Turns.{turn-none, item-found, place-more, place-stays}
use Rattle.strings.proofs.place_in.Goals as goal

pub loop-init : goal.loop-init
unfolding place_from
loop-init c = (zero-le, refl)

pub returns-in-None : goal.returns-in-None
returns-in-None c =
    place-stays _ _ c.loop.counter _ c.loop.invariant.0 c.loop.invariant.1 (turn-none _ _ (sym c.in-None.is ∙ c.turn_at.ensures))

pub loop-preserved : goal.loop-preserved
loop-preserved c =
    let p = item-found _ _ _ _ _ (sym c.in-Some.is ∙ c.turn_at.ensures) in
    (omega arith, p.next_is ∙ place-more _ _ c.loop.counter c.loop.invariant.1 p.here)
