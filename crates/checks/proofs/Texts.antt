-- Counting the zero bytes of a text. Assumes nothing.
use Prim.Native.Nat.{ℕ, ◌+◌}
use mathlib.Core.Bool.{cond}
use mathlib.Core.List.{List}
use mathlib.Core.Path.{◌≡◌, ◌∙◌}
use lib.Dec.{eqb}
use lib.ListN.{get_or}
use borrow.Author.Tests.{eq-eqb, ne_eqb}
use Rattle.endian.specs.Loops.{sum_to}
use Rattle.endian.proofs.Search.{sum_more}

-- the zeros among the first i bytes
abbrev pub zeros_to : List ℕ → ℕ → ℕ
zeros_to s i = sum_to (λ k. cond (eqb (get_or s k 0) 0) 1 0) i

pub zero_more : (s : List ℕ) (i : ℕ) → get_or s i 0 ≡ 0 → zeros_to s (i + 1) ≡ zeros_to s i + 1
zero_more s i e = sum_more _ i ∙ rw (eq-eqb (get_or s i 0) 0 e)

pub other-more : (s : List ℕ) (i : ℕ) → (get_or s i 0 ≡ 0 → ⊥) → zeros_to s (i + 1) ≡ zeros_to s i + 0
other-more s i e = sum_more _ i ∙ rw (ne_eqb (get_or s i 0) 0 e)
