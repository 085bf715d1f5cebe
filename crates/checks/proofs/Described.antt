-- What a description owes that passes checks 4 to 9. Assumes nothing.
use mathlib.Core.Bool.{Bool, true, false, not, cond, ◌&&◌, ◌||◌, false≢true}
use mathlib.Core.List.{List}
use mathlib.Core.Logic.{◌⊎◌, inl, inr, ⊎_elim}
use mathlib.Core.Path.{◌≡◌, refl, sym, ap, ◌∙◌}
use Prim.Native.Nat.{ℕ, zero, suc, ◌+◌, ◌-◌, ◌*◌, ◌^◌, ◌≤◌, ◌<◌}
use native.Mathlib.Nat.{le_trans, mul-pos, pow-le-pow_right}
use native.Mathlib.Omega.{arith}
use lib.Count.{count_trailing_zeros}
use lib.Dec.{leb}
use lib.ListN.{get_or}
use lib.Pow.{pow-add}
use borrow.Author.Tests.{leb-true, ltb-false}
use Rattle.std.proofs.lemmas.Bool.{and_parts, not-false}
use Rattle.geometry.specs.Limits.{least_exponent, IsPower, size_limit, shortest_text, longest_text, side_room}
use Rattle.geometry.specs.Geometry.{Between, Power}
use Rattle.geometry.proofs.Powers.{power_of, power-is, zeros-power}
use Rattle.record.specs.Answers.{refused, is_taken, and_then, Verdict, Taken}
use Rattle.record.specs.Types.{coding_of, item_width, no_type, width_of}
use Rattle.record.specs.Record.{bricks_of, brick_bytes_of, Sized}
use Rattle.record.specs.declared.Description.{Description}
use Rattle.record.proofs.Laws.{coding_each}
use Rattle.checks.specs.Checks.{all3, side_ok, size_ok, brick_limit, breaks4, verdict5, breaks5, breaks6, breaks7, breaks8, breaks9, fields_fit, described}
use Rattle.record.specs.declared.Refusal.{Refusal}
use Rattle.record.specs.declared.Refusal.TheVariants as refusal
use Rattle.std.specs.Prelude.{Ok, Err}

-- one check peeled off: it did not apply, and the later ones took the call
pub passed : (b : Bool) (x : Refusal) (later : Verdict) → cond b (refused x) later ≡ Taken → (b ≡ false) × (later ≡ Taken)
passed true x later e = let z : ◌≡◌ {A = ℕ} 0 1 = cc in absurd (omega arith)
passed false x later e = (refl, e)

-- the same of a check that comes as a verdict
pub passed_verdict : (v later : Verdict) → and_then v later ≡ Taken → (is_taken v ≡ true) × (later ≡ Taken)
passed_verdict (Ok u) later e = (refl, e)
passed_verdict (Err x) later e = let z : ◌≡◌ {A = ℕ} 0 1 = cc in absurd (omega arith)

pub taken_is : (v : Verdict) → is_taken v ≡ true → v ≡ Taken
taken_is (Ok u) e = refl
taken_is (Err x) e = absurd (false≢true e)

-- what holds of all three directions holds of each
pub all3-each : (p : ℕ → Bool) (l : List ℕ) → all3 p l ≡ true → (p (get_or l 0 0) ≡ true) × (p (get_or l 1 0) ≡ true) × (p (get_or l 2 0) ≡ true)
all3-each p l e =
    let x = and_parts (p (get_or l 0 0) && p (get_or l 1 0)) (p (get_or l 2 0)) e in
    let y = and_parts (p (get_or l 0 0)) (p (get_or l 1 0)) x.0 in
    (y.0, y.1, x.1)

-- what holds of 0, 1 and 2 holds of each direction
pub each_of : (P : ℕ → Type 0) → P 0 → P 1 → P 2 → (i : ℕ) → i < 3 → P i
each_of P a b c zero h = a
each_of P a b c (suc zero) h = b
each_of P a b c (suc (suc zero)) h = c
each_of P a b c (suc (suc (suc i))) h = absurd (omega arith)

-- an allowed side's exponent, and a number that has one
pub side-exponent : (n : ℕ) → side_ok n ≡ true → IsPower least_exponent n
unfolding side_ok
side-exponent n e = power_of least_exponent n (omega arith) e

pub side-is : (n : ℕ) → IsPower least_exponent n → side_ok n ≡ true
unfolding side_ok
side-is n p = power-is least_exponent n p

pub side-range : (n : ℕ) → side_ok n ≡ true → Between (2 ^ least_exponent) side_room n
side-range n e =
    let p = side-exponent n e in
    rw p.power (record {
      low = pow-le-pow_right (omega arith) p.least;
      high = le_trans (pow-le-pow_right (omega arith) p.greatest) (omega arith);
    })

-- a side is the power of two that its zeros say
pub side-power : (n : ℕ) → side_ok n ≡ true → Power n
side-power n e =
    let p = side-exponent n e in
    let zeros : count_trailing_zeros 64 (2 ^ p.exponent) ≡ p.exponent = zeros-power 64 p.exponent (omega (arith, p.greatest)) in
    rw p.power (record { exponent = ap (λ (z : ℕ). 2 ^ z) zeros; small = omega (arith, zeros, p.greatest) })

-- and a whole number of the least side
pub side_multiple : (n : ℕ) → side_ok n ≡ true → (m : ℕ) × (n ≡ 2 ^ least_exponent * m)
side_multiple n e =
    let p = side-exponent n e in
    let split : least_exponent + (p.exponent - least_exponent) ≡ p.exponent = omega (arith, p.least) in
    (2 ^ (p.exponent - least_exponent), p.power ∙ ap (λ (x : ℕ). 2 ^ x) (sym split) ∙ pow-add 2 least_exponent (p.exponent - least_exponent))

pub size-range : (n : ℕ) → size_ok n ≡ true → Between 1 size_limit n
unfolding size_ok
size-range n e = let p = and_parts (leb 1 n) (leb n size_limit) e in record { low = leb-true 1 n p.0; high = leb-true n size_limit p.1 }

-- sides and sizes that checks 4 and 6 let pass
pub sized : (d : Description) → breaks4 d ≡ false → breaks6 d ≡ false → Sized d
unfolding breaks4 breaks6
sized d e4 e6 =
    let s = all3-each side_ok d.side (not-false (all3 side_ok d.side) e4) in
    let n = all3-each size_ok d.size (not-false (all3 size_ok d.size) e6) in
    record {
      side0 = side-range _ s.0;
      side1 = side-range _ s.1;
      side2 = side-range _ s.2;
      size0 = size-range _ n.0;
      size1 = size-range _ n.1;
      size2 = size-range _ n.2;
      power0 = side-power _ s.0;
      power1 = side-power _ s.1;
      power2 = side-power _ s.2;
    }

-- and so where none of checks 4 to 7 applies
pub fields_sized : (d : Description) → fields_fit d ≡ true → Sized d
unfolding fields_fit
fields_sized d e = let p = go (breaks4 d) (breaks6 d) (breaks7 d) (and_parts (is_taken (verdict5 d)) _ e).1 in sized d p.0 p.1
  where
    go : (a b c : Bool) → not (a || b || c) ≡ true → (a ≡ false) × (b ≡ false)
    go true b c h = absurd (false≢true h)
    go false true c h = absurd (false≢true h)
    go false false c h = (refl, refl)

-- a text length that check 9 lets pass
pub text_few : (t : ℕ) → breaks9 t ≡ false → (shortest_text ≤ t) × (t ≤ longest_text)
unfolding breaks9
text_few t e =
    let q = and_parts (leb shortest_text t) (leb t longest_text) (not-false _ e) in (leb-true shortest_text t q.0, leb-true t longest_text q.1)

-- checks 4 to 9, none of which applies
pub record Described (d : Description) (t : ℕ) : Type 0 where
  pub not4 : breaks4 d ≡ false
  pub not5 : breaks5 d ≡ false
  pub not6 : breaks6 d ≡ false
  pub not7 : breaks7 d ≡ false
  pub not8 : breaks8 d ≡ false
  pub not9 : breaks9 t ≡ false

pub described-all : (d : Description) (t : ℕ) → described d t ≡ Taken → Described d t
unfolding described breaks5
described-all d t e =
    let a = passed _ _ _ e in
    let b = passed_verdict (verdict5 d) _ a.1 in
    let c = passed _ _ _ b.1 in
    let f = passed _ _ _ c.1 in
    let g = passed _ _ _ f.1 in
    let h = passed _ _ _ g.1 in
    record { not4 = a.0; not5 = ap not b.0; not6 = c.0; not7 = f.0; not8 = g.0; not9 = h.0 }

pub described-is : (d : Description) (t : ℕ) → Described d t → described d t ≡ Taken
unfolding described breaks5
described-is d t p = simp (p.not4, taken_is (verdict5 d) (not-false _ p.not5), p.not6, p.not7, p.not8, p.not9)

-- checks 4 to 7, 8 and 9 of a record, each asked once, and the rest of check 14
pub fits_as : (d : Description) (t : ℕ) (v g n : Bool)
    → not v && is_taken (described d t) && g && n ≡ cond (v || breaks9 t) false (cond (fields_fit d) (g && (not (breaks8 d) && n)) false)
unfolding described fields_fit
fits_as d t v g n = go v (breaks4 d) (verdict5 d) (breaks6 d) (breaks7 d) (breaks8 d) (breaks9 t) g n
  where
    go : (v a : Bool) (b : Verdict) (c d e f g n : Bool)
        → not v && is_taken (cond a (refused refusal.Side) (and_then b (cond c (refused refusal.Size) (cond d (refused refusal.Floats) (cond e (refused refusal.Bricks) (cond f (refused refusal.TextLength) Taken)))))) && g && n
        ≡ cond (v || f) false (cond (is_taken b && not (a || c || d)) (g && (not e && n)) false)
    go true a b c d e f g n = refl
    go false true (Ok u) c d e true g n = refl
    go false true (Ok u) c d e false g n = refl
    go false true (Err x) c d e true g n = refl
    go false true (Err x) c d e false g n = refl
    go false false (Err x) c d e true g n = refl
    go false false (Err x) c d e false g n = refl
    go false false (Ok u) true d e true g n = refl
    go false false (Ok u) true d e false g n = refl
    go false false (Ok u) false true e true g n = refl
    go false false (Ok u) false true e false g n = refl
    go false false (Ok u) false false true true g n = refl
    go false false (Ok u) false false true false true n = refl
    go false false (Ok u) false false true false false n = refl
    go false false (Ok u) false false false true g n = refl
    go false false (Ok u) false false false false true n = refl
    go false false (Ok u) false false false false false n = refl

module _ (d : Description) (t : ℕ) (p : Described d t) where
  pub described_sized : Sized d
  described_sized = sized d p.not4 p.not6

  pub described_sides : (side_ok (get_or d.side 0 0) ≡ true) × (side_ok (get_or d.side 1 0) ≡ true) × (side_ok (get_or d.side 2 0) ≡ true)
  unfolding breaks4
  described_sides = all3-each side_ok d.side (not-false (all3 side_ok d.side) p.not4)

  pub described-few : bricks_of d ≤ brick_limit
  unfolding breaks8
  described-few = ltb-false brick_limit (bricks_of d) p.not8

  pub described_text : (shortest_text ≤ t) × (t ≤ longest_text)
  described_text = text_few t p.not9

-- a type that check 5 lets pass has items of 1, 2 or 4 bytes
pub type_width : (k : ℕ) → no_type (coding_of k) ≡ false → (width_of k ≡ 1) ⊎ ((width_of k ≡ 2) ⊎ (width_of k ≡ 4))
unfolding width_of
type_width =
    coding_each (λ k x. no_type x ≡ false → (item_width x ≡ 1) ⊎ ((item_width x ≡ 2) ⊎ (item_width x ≡ 4)))
    (λ q. inl refl)
    (λ q. inr (inl refl))
    (λ q. inr (inr refl))
    (λ k q. absurd (false≢true (sym q)))

module _ (d : Description) (t : ℕ) (p : Described d t) where
  pub described-width : (width_of d.datatype ≡ 1) ⊎ ((width_of d.datatype ≡ 2) ⊎ (width_of d.datatype ≡ 4))
  unfolding breaks5
  described-width = type_width d.datatype p.not5

  -- a brick has at least one byte
  pub described-brick : 0 < brick_bytes_of d
  unfolding brick_bytes_of
  described-brick =
      let s = described_sized d t p in
      mul-pos (mul-pos (mul-pos (omega (arith, s.side0.low)) (omega (arith, s.side1.low))) (omega (arith, s.side2.low)))
      (⊎_elim (λ (e : width_of d.datatype ≡ 1). omega arith) (⊎_elim (λ (e : width_of d.datatype ≡ 2). omega arith) (λ (e : width_of d.datatype ≡ 4). omega arith)) described-width)
