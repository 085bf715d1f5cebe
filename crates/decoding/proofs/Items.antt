-- A buffer filled item by item, and what a type number says of its items. Assumes nothing.
use Prim.Native.Nat.{ℕ, ◌+◌, ◌*◌, ◌<◌}
use mathlib.Core.Path.{◌≡◌, refl, sym, ap, ◌∙◌}
use mathlib.Core.Logic.{inl, inr, ⊎_elim}
use mathlib.Core.List.{List, [], ◌∷◌, ◌++◌}
use native.Mathlib.Omega.{arith}
use lib.Ieee.{Float}
use lib.ListN.{length, get_or, set}
use Rattle.endian.specs.Loops.{cat}
use Rattle.endian.specs.Bytes.{le}
use Rattle.record.specs.Types.{coding_of, item_width, width_of, decode_by, decode_of}
use Rattle.std.specs.Prelude.{Result, Ok}
use Rattle.record.specs.declared.Refusal.{Refusal}
use Rattle.record.specs.declared.Coding.{Coding}
use Rattle.record.specs.declared.Coding.TheVariants.{Scaled, Float32}
use Rattle.record.proofs.Laws.{coding_each, scaled_is}
use Rattle.decoding.specs.Items.{Integers}
use Rattle.endian.proofs.Cats.{cat-more}
use Rattle.endian.proofs.Parts.{Filled, filled_store}

-- ---- a loop that stores one item a turn: g n is the n-th

module _ {A : Type 0} (g : ℕ → A) where
  pub items_more : {d out : List A} {n : ℕ} (x : A) → Filled d (cat n (λ t. g t ∷ [])) out n → n < length out → x ≡ g n → Filled d (cat (n + 1) (λ t. g t ∷ [])) (set out n x) (n + 1)
  items_more {n = n} x f l e = filled_store x f (omega (arith, f.size)) (cat-more n (λ t. g t ∷ []) ∙ ap (λ y. cat n (λ t. g t ∷ []) ++ (y ∷ [])) (sym e))

-- ---- what a type number says

-- one byte is a number of one byte
pub one : (s : List ℕ) (at : ℕ) → get_or s at 0 ≡ le 1 s at
unfolding le
one s at = omega arith

-- the integer types, and the float type
module _ (k w h : ℕ) where
  -- of one byte, and of more
  pub int8_is : coding_of k ≡ Ok (Scaled w h) → w ≡ 1 → coding_of k ≡ Ok (Scaled 1 128)
  int8_is e one = ⊎_elim (λ (q : (w ≡ 1) × (h ≡ 128)). rw (q.0, q.1) at e) (λ (q : (w ≡ 2) × (h ≡ 32768)). absurd (omega arith)) (scaled_is k w h e)

  pub int16_is : coding_of k ≡ Ok (Scaled w h) → (w ≡ 1 → ⊥) → coding_of k ≡ Ok (Scaled 2 32768)
  int16_is e more = ⊎_elim (λ (q : (w ≡ 1) × (h ≡ 128)). absurd (more q.0)) (λ (q : (w ≡ 2) × (h ≡ 32768)). rw (q.0, q.1) at e) (scaled_is k w h e)

pub float_is : (k w : ℕ) → coding_of k ≡ Ok (Float32 w) → coding_of k ≡ Ok (Float32 4)
float_is k w =
    coding_each (λ k x. x ≡ Ok (Float32 w) → x ≡ Ok (Float32 4)) (λ q. let z : ◌≡◌ {A = ℕ} 0 1 = cc in absurd (omega arith))
    (λ q. let z : ◌≡◌ {A = ℕ} 0 1 = cc in absurd (omega arith))
    (λ q. refl)
    (λ k q. let z : ◌≡◌ {A = ℕ} 0 1 = cc in absurd (omega arith))
    k

pub int8 : Integers 1 128
int8 = record { wide = inl refl; some = omega arith; few = omega arith; all = refl }

pub int16 : Integers 2 32768
int16 = record { wide = inr (inl refl); some = omega arith; few = omega arith; all = refl }

-- items of a type, by what its number says
module _ (k : ℕ) (x : Result Coding Refusal) (e : coding_of k ≡ x) where
  pub width_as : width_of k ≡ item_width x
  unfolding width_of
  width_as = ap item_width e

  pub decoded_as : (min max : Float) (bytes : List ℕ) (m : ℕ)
      → cat m (λ n. decode_by x min max (le (item_width x) bytes (n * item_width x)) ∷ []) ≡ cat m (λ n. decode_of k min max (le (width_of k) bytes (n * width_of k)) ∷ [])
  unfolding decode_of width_of
  decoded_as min max bytes m = ap (λ (y : Result Coding Refusal). cat m (λ n. decode_by y min max (le (item_width y) bytes (n * item_width y)) ∷ [])) (sym e)
