-- The cases of a type number, and bounds of a description's counts. Assumes nothing.
use mathlib.Core.Bool.{Bool, true, false, cond}
use Prim.Native.Nat.{ℕ, ◌+◌, ◌-◌, ◌*◌, ◌^◌, ◌≤◌, ◌<◌}
use mathlib.Core.List.{List}
use mathlib.Core.Logic.{◌⊎◌, inl, inr, ⊎_elim}
use mathlib.Core.Path.{◌≡◌, refl, ap, ◌∙◌}
use native.Mathlib.Nat.{add-sub_cancel_left}
use native.Mathlib.Omega.{arith}
use lib.Dec.{eqb}
use lib.ListN.{take, drop}
use borrow.Author.Tests.{eqb-true}
use Rattle.geometry.specs.Limits.{text_start, level_cap}
use Rattle.geometry.specs.Geometry.{Small, shape_of}
use Rattle.geometry.specs.declared.Shape.{Shape}
use Rattle.geometry.proofs.Levels.{ceil_pos, levels-le, alphas-le, sizes_small}
use Rattle.record.specs.Header.{text_of}
use Rattle.record.specs.Types.{coding_of, item_width, width_of}
use Rattle.record.specs.Record.{count_of, levels_of, bricks_of, alphas_of, Sized}
use Rattle.record.specs.declared.Description.{Description}
use Rattle.record.specs.declared.Coding.{Coding}
use Rattle.record.specs.declared.Coding.TheVariants.{Scaled, Float32}
use Rattle.record.specs.declared.Refusal.{Refusal}
use Rattle.record.specs.declared.Refusal.TheVariants as refusal
use Rattle.std.specs.Prelude.{Result, Ok, Err}
use Rattle.record.specs.Answers.{Verdict, Taken, refused, answered}

-- what holds of each type and of every other number holds of what a type number says
pub coding_each : (P : ℕ → Result Coding Refusal → Type 0) → P 0 (Ok (Scaled 1 128)) → P 2 (Ok (Scaled 2 32768)) → P 6 (Ok (Float32 4)) → ((k : ℕ) → P k (Err refusal.Datatype))
    → (k : ℕ) → P k (coding_of k)
unfolding coding_of
coding_each P int8 int16 float32 other k = go (eqb k 0) (eqb k 2) (eqb k 6) refl refl refl
  where
    go : (a b c : Bool) → eqb k 0 ≡ a → eqb k 2 ≡ b → eqb k 6 ≡ c
        → P k (cond a (Ok (Scaled 1 128)) (cond b (Ok (Scaled 2 32768)) (cond c (Ok (Float32 4)) (Err refusal.Datatype))))
    go true b c p q r = rw (eqb-true k 0 p) int8
    go false true c p q r = rw (eqb-true k 2 q) int16
    go false false true p q r = rw (eqb-true k 6 r) float32
    go false false false p q r = other k

-- an item has at most 4 bytes
pub width-le : (k : ℕ) → width_of k ≤ 4
unfolding width_of
width-le = coding_each (λ k x. item_width x ≤ 4) (omega arith) (omega arith) (omega arith) (λ k. omega arith)

module _ (d : Description) (s : Sized d) where
  pub small : Small (count_of d 0) (count_of d 1) (count_of d 2)
  small = sizes_small s

  pub levels-few : levels_of d ≤ level_cap + 1
  unfolding levels_of
  levels-few = levels-le _ _ _

  pub alphas-few : alphas_of d ≤ bricks_of d
  unfolding alphas_of bricks_of
  alphas-few = alphas-le _ _ _ (ceil_pos _ _ s.size2.low (omega (arith, s.side2.low)))

-- the shape of a description's counts, by its names
pub shape-levels : (d : Description) → (shape_of (count_of d 0) (count_of d 1) (count_of d 2)).levels ≡ levels_of d
unfolding levels_of
shape-levels d = refl

pub shape-bricks : (d : Description) → (shape_of (count_of d 0) (count_of d 1) (count_of d 2)).bricks ≡ bricks_of d
unfolding bricks_of
shape-bricks d = refl

pub shape-alphas : (d : Description) → (shape_of (count_of d 0) (count_of d 1) (count_of d 2)).alphas ≡ alphas_of d
unfolding alphas_of
shape-alphas d = refl

-- and of a shape that was worked out from them
pub record Shaped (d : Description) (s : Shape) : Type 0 where
  pub levels-are : s.levels ≡ levels_of d
  pub bricks-are : s.bricks ≡ bricks_of d
  pub alphas-are : s.alphas ≡ alphas_of d

pub shaped : (d : Description) {s : Shape} → s ≡ shape_of (count_of d 0) (count_of d 1) (count_of d 2) → Shaped d s
shaped d e = record {
  levels-are = ap (λ (s : Shape). s.levels) e ∙ shape-levels d;
  bricks-are = ap (λ (s : Shape). s.bricks) e ∙ shape-bricks d;
  alphas-are = ap (λ (s : Shape). s.alphas) e ∙ shape-alphas d;
}

-- the integer types, and the numbers of their items
module _ (k w h : ℕ) where
  pub scaled_is : coding_of k ≡ Ok (Scaled w h) → ((w ≡ 1) × (h ≡ 128)) ⊎ ((w ≡ 2) × (h ≡ 32768))
  scaled_is =
      coding_each (λ k x. x ≡ Ok (Scaled w h) → ((w ≡ 1) × (h ≡ 128)) ⊎ ((w ≡ 2) × (h ≡ 32768))) (λ q. inl (cc, cc)) (λ q. inr (cc, cc))
      (λ q. let z : ◌≡◌ {A = ℕ} 0 1 = cc in absurd (omega arith))
      (λ k q. let z : ◌≡◌ {A = ℕ} 0 1 = cc in absurd (omega arith))
      k

  pub scaled_fits : (n : ℕ) → coding_of k ≡ Ok (Scaled w h) → n < 256 ^ w → (h ≤ 32768) × (0 < h) × (n < 2 * h)
  scaled_fits n e l =
      ⊎_elim
      (λ (q : (w ≡ 1) × (h ≡ 128)). let l' : n < 256 ^ 1 = rw q.0 at l in (omega arith, omega arith, omega arith))
      (λ (q : (w ≡ 2) × (h ≡ 32768)). let l' : n < 256 ^ 2 = rw q.0 at l in (omega arith, omega arith, omega arith))
      (scaled_is e)

-- the part of a file that is its text
pub text_part : (f : List ℕ) (n : ℕ) → take (text_start + n - text_start) (drop text_start f) ≡ text_of f n
text_part f n = rw add-sub_cancel_left

-- what an answer says of its verdict and its value
pub answered_ok : {A : Type 0} (v : Verdict) (x : A) {y : A} → answered v x ≡ Ok y → (v ≡ Taken) × (x ≡ y)
answered_ok (Ok u) x e = (refl, cc)
answered_ok (Err y) x e = let z : ◌≡◌ {A = ℕ} 0 1 = cc in absurd (omega arith)

pub answered_err : {A : Type 0} (v : Verdict) (x : A) {y : Refusal} → answered v x ≡ Err y → v ≡ refused y
answered_err (Ok u) x e = let z : ◌≡◌ {A = ℕ} 0 1 = cc in absurd (omega arith)
answered_err (Err y) x e = cc
