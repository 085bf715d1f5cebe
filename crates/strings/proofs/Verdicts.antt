-- What the verdict on a cube's strings says of its text. Assumes nothing.
use mathlib.Core.Bool.{false}
use mathlib.Core.List.{List, []}
use mathlib.Core.Path.{◌≡◌}
use Prim.Native.Nat.{ℕ, ◌+◌, ◌≤◌}
use native.Mathlib.Omega.{arith}
use lib.ListN.{length}
use Rattle.geometry.specs.Limits.{text_start}
use Rattle.record.specs.Header.{text_of}
use Rattle.record.specs.Record.{header_of}
use Rattle.record.specs.declared.Record.{Record}
use Rattle.record.specs.declared.Refusal.{Refusal}
use Rattle.record.specs.Answers.{Taken, refused}
use Rattle.checks.specs.Checks.{breaks11}
use Rattle.checks.specs.Fits.{breaks14_with}
use Rattle.checks.proofs.Described.{passed, described_text}
use Rattle.checks.proofs.Records.{with_fit}
use Rattle.strings.specs.Strings.{strings_verdict, text_in, turn_in}
use Rattle.strings.specs.Five.{Five}
use Rattle.std.specs.Prelude.{Err}
use Rattle.strings.proofs.Fives.{text_five}

module _ (r : Record) (f : List ℕ) where
  -- a record that passes check 14 has its text inside the file
  pub text_inside : breaks14_with r (length f) ≡ false → (5 ≤ r.text) × (text_start + r.text ≤ length f)
  unfolding header_of
  text_inside e =
      let p = with_fit r (length f) e in
      ((described_text _ _ p.0.is-described).0, omega (arith, p.0.header_is, p.0.long, p.1))

  pub taken-passes : strings_verdict r f ≡ Taken → (breaks14_with r (length f) ≡ false) × (breaks11 (text_of f r.text) ≡ false)
  unfolding strings_verdict
  taken-passes e =
      let p = passed _ _ _ e in
      (p.0, (passed _ _ _ p.1).0)

  pub text_taken : strings_verdict r f ≡ Taken → text_in r f ≡ text_of f r.text
  unfolding text_in
  text_taken e = rw e

  pub text_refused : (x : Refusal) → strings_verdict r f ≡ refused x → text_in r f ≡ []
  unfolding text_in
  text_refused x e = rw e

  pub cube_five : strings_verdict r f ≡ Taken → (text_in r f ≡ text_of f r.text) × Five (text_in r f)
  cube_five e = (text_taken e, rw (text_taken e) (text_five _ (taken-passes e).1))

  pub refused_turns : (n : ℕ) (x : Refusal) → strings_verdict r f ≡ refused x → (text_in r f ≡ []) × (turn_in r f n ≡ Err x)
  refused_turns n x e = (text_refused x e, rw e)
