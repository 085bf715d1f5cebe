use Rattle.std.proofs.Common.{◌∙◌, sym, ◌<◌, ◌≡◌, arith, None}
use Rattle.table.specs.Windows.{offset_at, Inside}
use Rattle.table.proofs.Words.{stored_offset, stored_none}
use Rattle.table.proofs.Cells.{table_start_lem, table_skip, clear_skip, put, stop}
use Rattle.table.proofs.Entries.scan.Goals.{in-Some+in-Some-cell+else-touches, in_default, in_default-via-in-None-1, in_default-via-in-Some+in-None-1}
use Rattle.table.proofs.Entries.scan.Goals as goal

pub loop-entry-init : goal.loop-entry-init
loop-entry-init c = (table_start_lem _ _ _, λ i h. absurd (omega arith))

pub returns-then-touches : goal.returns-then-touches
returns-then-touches c =
    let t = c.args.self.now.table in
    let f = c.args.self.now.file.now in
    let l = c.loop-entry in
    let e = stored_offset t f l.entry c.in-Some.offset (sym c.offset.ensures.offset ∙ c.in-Some.is) in
    stop (offset_at t f) t.brick c.args.start l.entry l.cells l.invariant.0 l.invariant.1 c.in-Some.offset (sym e)
    c.args.limit (omega arith) (c.touches.ensures.found c.if-touches.true)

pub loop-entry-preserved : goal.loop-entry-preserved
loop-entry-preserved c =
    let t = c.args.self.now.table in
    let f = c.args.self.now.file.now in
    let os = offset_at t f in
    let pos : 0 < t.brick = omega arith in
    let l = c.loop-entry in
    elim c.match-offset.branch [
      | in-Some+in-Some-cell+else-touches w ↦
          let e = stored_offset t f l.entry w.in-Some.offset (sym c.offset.ensures.offset ∙ w.in-Some.is) in
          let in_cell = w.in-Some-cell.ensures in
          let p = put os t.brick c.args.start l.entry l.cells l.invariant.0 l.invariant.1 w.in-Some.offset (sym e) w.in-Some-cell.c
          pos in_cell.0 in_cell.1 in_cell.2 (w.touches.ensures.none w.if-touches.false) in
          (rw w.cells-is p.0, p.1)
      | in_default w ↦
          let out : Inside t.brick c.args.start (os l.entry) → ⊥ = elim w.in_default.branch [
            | in_default-via-in-None-1 w' ↦
                let none : c.offset.result ≡ None = cc in
                λ i. omega (arith, i.stored, stored_none t f l.entry (sym c.offset.ensures.offset ∙ none))
            | in_default-via-in-Some+in-None-1 w' ↦
                let none : w'.cell.result ≡ None = cc in
                let e = stored_offset t f l.entry w'.in-Some.offset (sym c.offset.ensures.offset ∙ w'.in-Some.is) in
                rw e (rw none at w'.cell.ensures)
          ] in
          (rw w.cells-is (table_skip os t.brick c.args.start l.invariant.0 out), clear_skip os t.brick c.args.start l.invariant.1 out)
    ]
