use Rattle.std.specs.Option.{unwrap_or}
use Rattle.table.specs.Windows.{offset_at}
use Rattle.table.proofs.Cells.{Left, Hit}
use Rattle.table.proofs.Entries.lowest_overlap.Given as goal

abbrev pub invariant-loop : goal.invariant-loop
invariant-loop l =
    let t = l.self.table in
    let os = offset_at t l.self.file.now in
    record { left : Left os t.brick l.start (unwrap_or l.best t.count); hit : Hit os t.brick t.count l.best }
