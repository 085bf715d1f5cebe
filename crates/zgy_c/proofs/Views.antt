-- Where a view lies, by the verdict and the brick's kind. Assumes nothing.
use mathlib.Core.List.{List}
use mathlib.Core.Path.{◌≡◌, sym, ◌∙◌}
use Prim.Native.Nat.{ℕ}
use Rattle.record.specs.declared.Record.{Record}
use Rattle.record.specs.Answers.{Verdict, Taken}
use Rattle.table.specs.Entries.{table_in, kind_in}
use Rattle.table.specs.declared.Kind.{Kind}
use Rattle.table.specs.declared.Table.{Table}
use Rattle.bricks.specs.Bricks.{view_verdict, view_of, shown_of}
use Rattle.bricks.proofs.Entries.{Seen, seen}
use Rattle.bricks.proofs.Views.{view_parts}
use Rattle.zgy_c.specs.Boundary.{part_c, view_c}
use Rattle.zgy_c.specs.declared.ZgyView.{ZgyView}

module _ (r : Record) (f filler : List ℕ) (e : ℕ) where
  abbrev answer : ZgyView
  answer = view_c r f filler e

  pub view_taken : (t : Table) (k : Kind) → view_verdict r f filler e ≡ Taken → t ≡ table_in r → k ≡ kind_in r f e → part_c (shown_of k t.brick) ≡ answer
  unfolding view_of table_in
  view_taken t k v et ek = rw (v, et, ek)

  -- what a taken view owes: its entry has passed the checks
  pub view_seen : (v : Verdict) → v ≡ view_verdict r f filler e → v ≡ Taken → Seen r f e × (view_verdict r f filler e ≡ Taken)
  view_seen v is-v t = let taken : view_verdict r f filler e ≡ Taken = sym is-v ∙ t in (seen r f e (view_parts r f filler e taken).0, taken)
