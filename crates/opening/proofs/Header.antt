-- What a file owes that passes checks 1 to 9. Assumes nothing.
use mathlib.Core.Bool.{true, false}
use mathlib.Core.List.{List}
use mathlib.Core.Path.{◌≡◌, refl}
use Prim.Native.Nat.{ℕ, ◌+◌, ◌≤◌, ◌<◌}
use native.Mathlib.Omega.{arith}
use lib.ListN.{length}
use borrow.Author.Tests.{ltb-false, lt-ltb, le-ltb}
use Rattle.geometry.specs.Limits.{text_start}
use Rattle.record.specs.Answers.{refused, Taken}
use Rattle.record.specs.Header.{version_of, description_of, text_length_of}
use Rattle.record.specs.Record.{table_of, record_of}
use Rattle.record.specs.declared.Description.{Description}
use Rattle.checks.specs.Checks.{breaks2, breaks3, described}
use Rattle.checks.proofs.Described.{passed, Described, described-all}
use Rattle.table.specs.Entries.{Derived}
use Rattle.opening.specs.Opening.{header_verdict}
use Rattle.record.specs.declared.Refusal.TheVariants as refusal

-- checks 1 to 9, none of which applies
pub record Head (f : List ℕ) : Type 0 where
  pub long : text_start ≤ length f
  pub not2 : breaks2 f ≡ false
  pub not3 : breaks3 (version_of f) ≡ false
  pub is-described : Described (description_of f) (text_length_of f)

module _ (f : List ℕ) where
  pub head : header_verdict f ≡ Taken → Head f
  unfolding header_verdict
  head e =
      let a = passed _ _ _ e in
      let b = passed _ _ _ a.1 in
      let c = passed _ _ _ b.1 in
      record { long = ltb-false _ _ a.0; not2 = b.0; not3 = c.0; is-described = described-all _ _ c.1 }

  -- one check after the other
  pub header_1 : length f < text_start → header_verdict f ≡ refused refusal.Short
  unfolding header_verdict
  header_1 h = simp (lt-ltb _ _ h)

  module _ (long : text_start ≤ length f) where
    pub header_2 : breaks2 f ≡ true → header_verdict f ≡ refused refusal.Magic
    unfolding header_verdict
    header_2 e = simp (le-ltb _ _ long, e)

    module _ (not2 : breaks2 f ≡ false) where
      pub header_3 : breaks3 (version_of f) ≡ true → header_verdict f ≡ refused refusal.Version
      unfolding header_verdict
      header_3 e = simp (le-ltb _ _ long, not2, e)

      pub header_rest : breaks3 (version_of f) ≡ false → header_verdict f ≡ described (description_of f) (text_length_of f)
      unfolding header_verdict
      header_rest e = simp (le-ltb _ _ long, not2, e)

-- the record that is made of a description is derived
pub made_derived : (v : ℕ) (d : Description) (t n : ℕ) → described d t ≡ Taken → Derived (record_of v d t n)
unfolding record_of
made_derived v d t n e = record { passes = e; header_is = refl; bricks-is = refl; alphas-is = refl }

-- the text lies before the brick table
pub text_before : (d : Description) (t : ℕ) → text_start + t ≤ table_of d t
unfolding table_of
text_before d t = omega arith
