use Rattle.std.proofs.Common.{◌+◌, ◌*◌, ◌%◌, ◌<◌, ◌∙◌, arith}
use Rattle.floats.proofs.Signed.{minus_is, turned_lt, turned_is}
use Rattle.floats.proofs.Item.signed.Goals as goal

pub returns : goal.returns
returns c =
    let below : (c.args.self.raw + 3 * c.args.self.half) % (2 * c.args.self.half) < 2 * c.args.self.half = turned_lt c.args.self.raw c.args.self.half c.args.self.in_range.1 c.args.self.in_range.2 in
    minus_is ((c.args.self.raw + 3 * c.args.self.half) % (2 * c.args.self.half)) c.args.self.half (omega (arith, below)) (omega arith)
    ∙ turned_is c.args.self.raw c.args.self.half c.args.self.in_range.1 c.args.self.in_range.2
