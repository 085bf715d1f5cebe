-- Opening's answer from the verdicts of its parts. Assumes nothing.
use mathlib.Core.Bool.{Bool, true, false}
use mathlib.Core.List.{List}
use mathlib.Core.Path.{◌≡◌, sym, ap, ◌∙◌}
use Prim.Native.Nat.{ℕ, ◌≤◌, ◌<◌}
use lib.ListN.{length}
use borrow.Author.Tests.{lt-ltb, le-ltb}
use Rattle.endian.specs.Loops.{first}
use Rattle.record.specs.Answers.{answered, Taken, refused}
use Rattle.std.specs.Prelude.{Err}
use Rattle.record.specs.Header.{text_of}
use Rattle.record.specs.Record.{bricks_of, header_of}
use Rattle.record.specs.declared.Record.{Record}
use Rattle.record.specs.declared.Refusal.{Refusal}
use Rattle.checks.specs.Checks.{breaks11}
use Rattle.table.specs.Entries.{breaks12, breaks13}
use Rattle.opening.specs.Opening.{length_verdict, text_verdict, range_verdict, overlap_verdict, entries_verdict, body_verdict, header_verdict, open_verdict, record_in, opened_of}
use Rattle.record.specs.declared.Refusal.TheVariants as refusal

-- what a test of x says of y, which x is
pub judged : {A : Type 0} (p : A → Bool) {x y : A} {b t : Bool} → b ≡ p x → x ≡ y → b ≡ t → p y ≡ t
judged p e is r = sym (e ∙ ap p is) ∙ r

module _ (r : Record) (f : List ℕ) where
  pub body_10 : length f < header_of r.description r.text → refused refusal.Headers ≡ body_verdict r f
  unfolding body_verdict length_verdict
  body_10 h = simp (lt-ltb _ _ h)

  pub body_11 : header_of r.description r.text ≤ length f → breaks11 (text_of f r.text) ≡ true → refused refusal.Text ≡ body_verdict r f
  unfolding body_verdict length_verdict text_verdict
  body_11 h e = simp (le-ltb _ _ h, e)

  pub body_rest : header_of r.description r.text ≤ length f → breaks11 (text_of f r.text) ≡ false → entries_verdict r f ≡ body_verdict r f
  unfolding body_verdict length_verdict text_verdict
  body_rest h e = simp (le-ltb _ _ h, e)

  -- checks 12 and 13 as the searches answer them
  module _ (o : ℕ) (is-o : o ≡ first (breaks12 r f) (bricks_of r.description)) where
    pub found_12 : o < bricks_of r.description → refused (refusal.Range o) ≡ entries_verdict r f
    unfolding entries_verdict range_verdict
    found_12 h = simp (sym is-o, lt-ltb o (bricks_of r.description) h)

    module _ (none : bricks_of r.description ≤ o) (p : ℕ) (is-p : p ≡ first (breaks13 r f) (bricks_of r.description)) where
      pub found_13 : p < bricks_of r.description → refused (refusal.Overlap p) ≡ entries_verdict r f
      unfolding entries_verdict range_verdict overlap_verdict
      found_13 h = simp (sym is-o, le-ltb o (bricks_of r.description) none, sym is-p, lt-ltb p (bricks_of r.description) h)

      pub found_none : bricks_of r.description ≤ p → Taken ≡ entries_verdict r f
      unfolding entries_verdict range_verdict overlap_verdict
      found_none h = simp (sym is-o, le-ltb o (bricks_of r.description) none, sym is-p, le-ltb p (bricks_of r.description) h)

-- the header's verdict decides where it refuses, else the body's does
module _ (f : List ℕ) where
  pub opened_early : (x : Refusal) → header_verdict f ≡ refused x → Err x ≡ opened_of f
  unfolding opened_of open_verdict
  opened_early x e = rw e

  pub opened_body : (r : Record) → header_verdict f ≡ Taken → r ≡ record_in f → answered (body_verdict r f) r ≡ opened_of f
  unfolding opened_of open_verdict
  opened_body r e i = rw (e, i)
