use Rattle.std.proofs.Common.{take, arith, subst}
use Rattle.std.proofs.lemmas.Result.{on_ok_weaker}
use Rattle.std.specs.Io.KnownBytes.{Appends}
use Rattle.listed.specs.Listed.{Lists}
use Rattle.listed.proofs.Shown.{take-Pours}
use Rattle.listed.proofs.list_from.Goals as goal

pub returns : goal.returns
returns g c =
    let read = take c.read_full-n.result.0 c.read_full-n.new.out in
    let listed = take-Pours 262144 c.list-shown.auto.out c.list-shown.ensures in
    let all : (_ : Appends (g.W.Write.contents c.args.to.now) (g.W.Write.contents c.write_all.new.self) (take c.list-shown.result c.list-shown.new.out)) → Lists (g.R.Read.remaining c.args.from.now) (g.R.Read.remaining c.read_full-n.new.from) (g.W.Write.contents c.args.to.now) (g.W.Write.contents c.write_all.new.self) =
    λ appended. (read, c.read_full-n.ensures.bytes, omega (arith, c.read_full-n.ensures.count, c.read_full-n.auto.out), subst (Appends _ _) listed appended) in
    on_ok_weaker _ all c.write_all.ensures.bytes
