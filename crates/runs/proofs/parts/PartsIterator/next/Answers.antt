use native.Mathlib.Omega.{arith}
use native.Mathlib.Nat.{mod-lt}
use Prim.Native.Nat.{◌+◌}
use Rattle.runs.proofs.Lattices.{side-pos}
use Rattle.runs.proofs.parts.PartsIterator.next.Goals as goal

pub returns-clause-goes : goal.returns-clause-goes
returns-clause-goes c =
    let p = c.args.self.now in
    let m = mod-lt (p.start + p.at) (side-pos p.side p.ok.0) in
    record { on = λ _. (_, _, omega (arith, c.left-n.ensures, m, p.ok, c)); keeps = _; rests = λ _. _ }
