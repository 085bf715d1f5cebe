-- Powers of two: the test that finds an exponent, and the zeros that say it. Assumes nothing.
use mathlib.Core.Bool.{Bool, true, false, ◌||◌, false≢true}
use mathlib.Core.Path.{◌≡◌, refl, sym, ap, ◌∙◌}
use Prim.Native.Nat.{ℕ, zero, suc, ◌+◌, ◌-◌, ◌/◌, ◌%◌, ◌^◌, ◌≤◌, ◌<◌}
use native.Mathlib.Nat.{pow-suc}
use native.Mathlib.Omega.{arith}
use lib.Count.{count_trailing_zeros}
use lib.Dec.{eqb}
use borrow.Author.Tests.{eqb-true, eq-eqb}
use Rattle.std.proofs.lemmas.Bool.{or_right}
use Rattle.geometry.specs.Limits.{greatest_exponent, power_from, power_in, IsPower}

-- ---- the test, and the exponent
from-power : (a k n : ℕ) → power_from a k n ≡ true → (e : ℕ) × (a ≤ e) × (e ≤ a + k) × (n ≡ 2 ^ e)
from-power a zero n t = (a, omega arith, omega arith, eqb-true n (2 ^ a) t)
from-power a (suc k) n t = go (eqb n (2 ^ a)) refl t (from-power (a + 1) k n)
  where
    go : (b : Bool) → eqb n (2 ^ a) ≡ b → b || power_from (a + 1) k n ≡ true
        → (power_from (a + 1) k n ≡ true → (e : ℕ) × (a + 1 ≤ e) × (e ≤ a + 1 + k) × (n ≡ 2 ^ e))
        → (e : ℕ) × (a ≤ e) × (e ≤ a + suc k) × (n ≡ 2 ^ e)
    go true q t later = (a, omega arith, omega arith, eqb-true n (2 ^ a) q)
    go false q t later = let r = later t in (r.0, omega (arith, r.1), omega (arith, r.2), r.3)

power-from : (a k d n : ℕ) → d ≤ k → n ≡ 2 ^ (a + d) → power_from a k n ≡ true
power-from a zero zero n h q = eq-eqb n (2 ^ a) (q ∙ ap (λ (e : ℕ). 2 ^ e) (omega arith))
power-from a zero (suc d) n h q = absurd (omega arith)
power-from a (suc k) zero n h q = rw (eq-eqb n (2 ^ a) (q ∙ ap (λ (e : ℕ). 2 ^ e) (omega arith)))
power-from a (suc k) (suc d) n h q =
    or_right (eqb n (2 ^ a)) (power_from (a + 1) k n) (power-from (a + 1) k d n (omega arith) (q ∙ ap (λ (e : ℕ). 2 ^ e) (omega arith)))

pub power_of : (a n : ℕ) → a ≤ greatest_exponent → power_in a n ≡ true → IsPower a n
power_of a n h t = let r = from-power a (greatest_exponent - a) n t in record { exponent = r.0; least = r.1; greatest = omega arith; power = r.3 }

pub power-is : (a n : ℕ) → IsPower a n → power_in a n ≡ true
power-is a n p =
    let least = p.least in
    let greatest = p.greatest in
    power-from a (greatest_exponent - a) (p.exponent - a) n (omega arith) (p.power ∙ ap (λ (e : ℕ). 2 ^ e) (omega arith))

-- ---- the zeros of a power of two are its exponent
pub zeros-power : (k e : ℕ) → e < k → count_trailing_zeros k (2 ^ e) ≡ e
unfolding count_trailing_zeros
zeros-power zero e h = absurd (omega arith)
zeros-power (suc k) zero h = refl
zeros-power (suc k) (suc e) h =
    let even : 2 ^ suc e % 2 ≡ 0 = omega (arith, pow-suc 2 e) in
    let half : 2 ^ suc e / 2 ≡ 2 ^ e = omega (arith, pow-suc 2 e) in
    rw (even, half) (ap suc (zeros-power k e (omega arith)))

-- a power of two is that of its zeros, and no other exponent makes it one
module _ (a n : ℕ) (h : a ≤ greatest_exponent) where
  abbrev zeros : ℕ
  zeros = count_trailing_zeros 32 n

  exponent-is : (p : IsPower a n) → p.exponent ≡ zeros
  exponent-is p = sym (ap (count_trailing_zeros 32) p.power ∙ zeros-power 32 p.exponent (omega (arith, p.greatest)))

  pub no_power : (IsPower a n → ⊥) → false ≡ power_in a n
  no_power none = go (power_in a n) refl
    where
      go : (b : Bool) → power_in a n ≡ b → false ≡ b
      go true t = absurd (none (power_of a n h t))
      go false t = refl

  pub below-least : zeros < a → false ≡ power_in a n
  below-least l = no_power (λ p. omega (arith, exponent-is p, p.least))

  pub above-greatest : greatest_exponent < zeros → false ≡ power_in a n
  above-greatest l = no_power (λ p. omega (arith, exponent-is p, p.greatest))

  pub by-zeros : a ≤ zeros → zeros ≤ greatest_exponent → eqb n (2 ^ zeros) ≡ power_in a n
  by-zeros l m = go (eqb n (2 ^ zeros)) refl
    where
      go : (b : Bool) → eqb n (2 ^ zeros) ≡ b → b ≡ power_in a n
      go true t = sym (power-is a n (record { exponent = zeros; least = l; greatest = m; power = eqb-true n (2 ^ zeros) t }))
      go false t = no_power (λ p. false≢true (sym t ∙ eq-eqb n (2 ^ zeros) (p.power ∙ ap (λ (e : ℕ). 2 ^ e) (exponent-is p))))
