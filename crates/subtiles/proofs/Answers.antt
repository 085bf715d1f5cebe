-- The answer of a permutation, by the tests that led to it. Assumes nothing.
use mathlib.Core.Bool.{Bool, true, false, ◌||◌}
use mathlib.Core.Path.{◌≡◌, refl, sym, ◌∙◌}
use mathlib.Core.List.{List}
use Prim.Native.Nat.{ℕ, ◌≤◌}
use lib.Dec.{ltb}
use borrow.Author.Tests.{ltb-false}
use Rattle.std.proofs.lemmas.Bool.{both_ways}
use Rattle.subtiles.specs.Subtiles.{breaks20}
use Rattle.subtiles.specs.Answers.{bytes_in, breaks18, permute_answer, buffer_after}
use Rattle.record.specs.Answers.{Done}
use Rattle.std.specs.Prelude.{Ok, Err}
use Rattle.record.specs.declared.Refusal.TheVariants as refusal

module _ (side : List ℕ) (w from into : ℕ) where
  pub answer_20 : breaks20 side w ≡ true → permute_answer side w from into ≡ Err refusal.Subtiles
  unfolding permute_answer
  answer_20 e = rw e

  pub answer_18 : {n : ℕ} → n ≡ bytes_in side w → breaks20 side w ≡ false → breaks18 n from into ≡ true → permute_answer side w from into ≡ Err refusal.Room
  unfolding permute_answer
  answer_18 n e b = rw (e, ← n, b)

  pub answer-taken : {n : ℕ} → n ≡ bytes_in side w → breaks20 side w ≡ false → breaks18 n from into ≡ false → permute_answer side w from into ≡ Ok n
  unfolding permute_answer
  answer-taken n e b = rw (e, ← n, b)

  -- answer and buffer after the call, from the case at hand
  pub answered : {d e : Done} {last : List ℕ} (moved buffer : List ℕ) → permute_answer side w from into ≡ e → d ≡ e → last ≡ buffer_after e moved buffer
      → (d ≡ permute_answer side w from into) × (last ≡ buffer_after (permute_answer side w from into) moved buffer)
  answered moved buffer p q r = (q ∙ sym p, rw p r)

-- neither buffer is too short
pub long-enough : (n from into : ℕ) → breaks18 n from into ≡ false → (n ≤ from) × (n ≤ into)
long-enough n from into e = go (ltb from n) (ltb into n) refl refl e
  where
    go : (a b : Bool) → ltb from n ≡ a → ltb into n ≡ b → (a || b) ≡ false → (n ≤ from) × (n ≤ into)
    go true b p q r = absurd (both_ways true r refl)
    go false b p q r = (ltb-false from n p, ltb-false into n (q ∙ r))
