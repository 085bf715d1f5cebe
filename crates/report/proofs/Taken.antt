-- What a file owes that opening takes, and its record. Assumes nothing.
use mathlib.Core.List.{List}
use mathlib.Core.Path.{◌≡◌}
use Prim.Native.Nat.{ℕ}
use Rattle.std.specs.Prelude.{Ok, Err}
use Rattle.record.specs.Answers.{Taken, refused}
use Rattle.record.specs.declared.Record.{Record}
use Rattle.record.specs.declared.Refusal.{Refusal}
use Rattle.record.proofs.Laws.{answered_ok, answered_err}
use Rattle.opening.specs.Opening.{open_verdict, record_in, opened_of}

pub opened_ok : (f : List ℕ) (r : Record) → opened_of f ≡ Ok r → (open_verdict f ≡ Taken) × (record_in f ≡ r)
unfolding opened_of
opened_ok f r e = answered_ok (open_verdict f) (record_in f) e

pub opened_err : (f : List ℕ) (x : Refusal) → opened_of f ≡ Err x → open_verdict f ≡ refused x
unfolding opened_of
opened_err f x e = answered_err (open_verdict f) (record_in f) e
