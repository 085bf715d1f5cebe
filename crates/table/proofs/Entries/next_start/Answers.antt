use Rattle.std.proofs.Common.{◌∙◌, sym, ◌≡◌, ◌<◌, ◌≤◌, arith, None, below_more}
use Rattle.table.specs.Windows.{offset_at}
use Rattle.table.proofs.Words.{stored_offset, stored_none}
use Rattle.table.proofs.Cells.{next_found}
use Rattle.table.proofs.Entries.next_start.Goals.{in-Some+then-start-offset, in_default, in_default-via-in-None-1, in_default-via-in-Some+else-start-offset}
use Rattle.table.proofs.Entries.next_start.Goals as goal

pub loop-entry-preserved : goal.loop-entry-preserved
loop-entry-preserved c =
    let t = c.args.self.now.table in
    let f = c.args.self.now.file.now in
    let l = c.loop-entry in
    elim c.match-offset.branch [
      | in-Some+then-start-offset w ↦
          let e = stored_offset t f l.entry w.in-Some.offset (sym c.offset.ensures.offset ∙ w.in-Some.is) in
          record { low = omega arith; before = below_more _ _ (λ k g s h. omega (arith, l.invariant.before k g s h)) (λ s h. omega arith) }
      | in_default w ↦
          let out : 0 < offset_at t f l.entry → c.args.start ≤ offset_at t f l.entry → ⊥ = elim w.in_default.branch [
            | in_default-via-in-None-1 w' ↦
                let none : c.offset.result ≡ None = cc in
                λ s h. omega (arith, stored_none t f l.entry (sym c.offset.ensures.offset ∙ none))
            | in_default-via-in-Some+else-start-offset w' ↦
                λ s h. omega (arith, stored_offset t f l.entry w'.in-Some.offset (sym c.offset.ensures.offset ∙ w'.in-Some.is))
          ] in
          record { low = omega arith; before = below_more _ _ (λ k g s h. omega (arith, l.invariant.before k g s h)) (λ s h. absurd (out s h)) }
    ]

pub returns : goal.returns
returns c =
    let t = c.args.self.now.table in
    let f = c.args.self.now.file.now in
    let l = c.loop-entry in
    rw c.then_some.ensures (next_found t f c.args.start l.next l.invariant.low (λ k g. l.invariant.before k (omega arith)))
