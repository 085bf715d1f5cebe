-- Laws of text that is poured piece by piece: one pouring after the other is a pouring of both. Assumes nothing.
use mathlib.Core.List.{List, [], ◌∷◌, ◌++◌}
use mathlib.Core.Path.{◌≡◌, refl, ap, sym, ◌∙◌}
use Prim.Native.Nat.{ℕ, zero, suc, ◌+◌, ◌-◌, ◌≤◌, ◌<◌, min}
use native.Mathlib.Nat.{zero-add, suc-add}
use native.Mathlib.Omega.{arith}
use lib.ListN.{length, take, set, length-append}
use lib.Seq.{take-length}
use borrow.Rule.Slice.PartMut.{put_mid}
use Rattle.text.specs.Text.{poured, after, Pours}
use Rattle.text.specs.Writing.{Writes}
use Rattle.text.specs.declared.Writer.{Writer}

-- `poured`, byte by byte
pour_past : (a : ℕ) (bs : List ℕ) → poured [] a bs ≡ []
unfolding poured
pour_past a bs = refl

pour_on : (x : ℕ) (out : List ℕ) (a : ℕ) (bs : List ℕ) → poured (x ∷ out) (suc a) bs ≡ x ∷ poured out a bs
unfolding poured
pour_on x out a bs = rw suc-add

pour_none : (x : ℕ) (out : List ℕ) → poured (x ∷ out) zero [] ≡ x ∷ out
unfolding poured
pour_none x out = take-length (x ∷ out)

pour_byte : (x : ℕ) (out : List ℕ) (b : ℕ) (bs : List ℕ) → poured (x ∷ out) zero (b ∷ bs) ≡ b ∷ poured out zero bs
unfolding poured
pour_byte x out b bs = simp zero-add

-- `after`, byte by byte
after_on : (x : ℕ) (out : List ℕ) (a : ℕ) (bs : List ℕ) → after (x ∷ out) (suc a) bs ≡ suc (after out a bs)
after_on x out a bs = omega arith

after_none : (out : List ℕ) → after out zero [] ≡ zero
after_none out = omega arith

after_byte : (x : ℕ) (out : List ℕ) (b : ℕ) (bs : List ℕ) → after (x ∷ out) zero (b ∷ bs) ≡ suc (after out zero bs)
after_byte x out b bs = omega arith

-- no bytes change nothing
pub poured_nil : (out : List ℕ) (a : ℕ) → poured out a [] ≡ out
poured_nil [] a = pour_past a []
poured_nil (x ∷ out) zero = pour_none x out
poured_nil (x ∷ out) (suc a) = pour_on x out a [] ∙ ap (λ (l : List ℕ). x ∷ l) (poured_nil out a)

-- where there is no room, nothing changes
pub poured_full : (out : List ℕ) (a : ℕ) (bs : List ℕ) → length out ≤ a → poured out a bs ≡ out
poured_full [] a bs h = pour_past a bs
poured_full (x ∷ out) zero bs h = absurd (omega arith)
poured_full (x ∷ out) (suc a) bs h = pour_on x out a bs ∙ ap (λ (l : List ℕ). x ∷ l) (poured_full out a bs (omega arith))

-- where there is room for it, one byte is a store
pub poured-one : (out : List ℕ) (a b : ℕ) → a < length out → poured out a (b ∷ []) ≡ set out a b
poured-one [] a b h = absurd (omega arith)
poured-one (x ∷ out) zero b h = pour_byte x out b [] ∙ ap (λ (l : List ℕ). b ∷ l) (poured_nil out zero)
poured-one (x ∷ out) (suc a) b h = pour_on x out a (b ∷ []) ∙ ap (λ (l : List ℕ). x ∷ l) (poured-one out a b (omega arith))

-- the slice keeps its length
pub poured-length : (out : List ℕ) (a : ℕ) (bs : List ℕ) → length (poured out a bs) ≡ length out
poured-length [] a bs = ap length (pour_past a bs)
poured-length (x ∷ out) zero [] = ap length (pour_none x out)
poured-length (x ∷ out) zero (b ∷ bs) = ap length (pour_byte x out b bs) ∙ ap suc (poured-length out zero bs)
poured-length (x ∷ out) (suc a) bs = ap length (pour_on x out a bs) ∙ ap suc (poured-length out a bs)

-- one pouring after the other
pub poured-more : (out : List ℕ) (a : ℕ) (xs ys : List ℕ) → poured (poured out a xs) (after out a xs) ys ≡ poured out a (xs ++ ys)
poured-more [] a xs ys = rw (pour_past a xs, pour_past a (xs ++ ys)) (pour_past (after [] a xs) ys)
poured-more (x ∷ out) zero [] ys = rw (pour_none x out, after_none (x ∷ out))
poured-more (x ∷ out) zero (b ∷ xs) ys =
    rw (pour_byte x out b xs, after_byte x out b xs, pour_on b (poured out zero xs) (after out zero xs) ys, poured-more out zero xs ys, pour_byte x out b (xs ++ ys))
poured-more (x ∷ out) (suc a) xs ys =
    rw (pour_on x out a xs, after_on x out a xs, pour_on x (poured out a xs) (after out a xs) ys, poured-more out a xs ys, pour_on x out a (xs ++ ys))

pub after_more : (out : List ℕ) (a : ℕ) (xs ys : List ℕ) → after (poured out a xs) (after out a xs) ys ≡ after out a (xs ++ ys)
after_more out a xs ys = omega (arith, poured-length out a xs, length-append xs ys)

-- a writer before its next call
pub writes_none : (w : Writer) → Writes w [] w
writes_none w = record {
  same = refl;
  pours = record { bytes = sym (poured_nil w.out.now w.at); place = omega (arith, w.inside) };
}

-- a writer's calls, one after the other
pub writes_step : {w v u : Writer} {xs ys : List ℕ} → Writes w xs v → Writes v ys u → Writes w (xs ++ ys) u
writes_step {w} {v} {u} {xs} {ys} p q = record {
  same = q.same ∙ p.same;
  pours = record {
    bytes = q.pours.bytes ∙ rw (p.pours.bytes, p.pours.place) (poured-more w.out.now w.at xs ys);
    place = q.pours.place ∙ rw (p.pours.bytes, p.pours.place) (after_more w.out.now w.at xs ys);
  };
}

-- the part of bs that fits, written in place
poured_part : (out : List ℕ) (a : ℕ) (bs : List ℕ) (k : ℕ) → k ≡ min (length bs) (length out - a) → poured out a bs ≡ put_mid a k out (take k bs)
poured_part [] zero bs k e =
    let z : k ≡ 0 = omega arith in
    rw (z, pour_past 0 bs)
poured_part [] (suc a) bs k e =
    let z : k ≡ 0 = omega arith in
    rw (z, pour_past (suc a) bs)
poured_part (x ∷ out) zero [] k e =
    let z : k ≡ 0 = omega arith in
    rw (z, pour_none x out)
poured_part (x ∷ out) zero (b ∷ bs) zero e = absurd (omega arith)
poured_part (x ∷ out) zero (b ∷ bs) (suc k) e =
    pour_byte x out b bs ∙ ap (λ (l : List ℕ). b ∷ l) (poured_part out zero bs k (omega arith))
poured_part (x ∷ out) (suc a) bs k e =
    pour_on x out a bs ∙ ap (λ (l : List ℕ). x ∷ l) (poured_part out a bs k (omega arith))

pub pours_part : {out : List ℕ} {a e : ℕ} (bs : List ℕ) {part : List ℕ} → e ≡ a + min (length bs) (length out - a) → a ≤ length out
    → part ≡ take (e - a) bs → Pours out a bs (put_mid a (e - a) out part) e
pours_part {out} {a} {e} bs q h r = record { bytes = rw r (sym (poured_part out a bs (e - a) (omega arith))); place = omega arith }
