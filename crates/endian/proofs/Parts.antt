-- A buffer that is filled from the front, item by item or part by part: the invariants of the loops that do it. Assumes nothing.
use Prim.Native.Nat.{ℕ, suc, ◌+◌, ◌*◌, ◌-◌, ◌≤◌, ◌<◌, zero-le}
use mathlib.Core.Path.{◌≡◌, refl, sym}
use mathlib.Core.List.{List, [], ◌∷◌, ◌++◌, append_assoc, append-nil}
use native.Mathlib.Nat.{zero-mul}
use native.Mathlib.Numerals.{add-one}
use native.Mathlib.Omega.{arith}
use lib.ListN.{length, get_or, drop, set, length-append, length-drop, drop_of_length-le}
use lib.Seq.{take_at, drop_at, set_at, drop-cons, drop-drop, append_snoc}
use borrow.Rule.Slice.PartMut.{put_mid, mid_of, mid_len}
use Rattle.endian.specs.Loops.{cat}
use Rattle.endian.proofs.Digits.{next_item}
use Rattle.endian.proofs.Cats.{cat-more}

module _ {A : Type 0} where
  -- out is d with acc, of a items, at its front
  pub record Filled (d acc out : List A) (a : ℕ) : Type 0 where
    pub same : out ≡ acc ++ drop a d
    pub long : length acc ≡ a
    pub within : a ≤ length d
    pub size : length out ≡ length d

  filled : {d acc out : List A} {a : ℕ} → out ≡ acc ++ drop a d → length acc ≡ a → a ≤ length d → Filled d acc out a
  filled {d} {acc} {out} {a} e l w = record { same = e; long = l; within = w; size = rw (e, length-append, length-drop) (omega arith) }

  pub filled_none : (d : List A) → Filled d [] d 0
  filled_none d = filled refl refl zero-le

  pub filled_store : {d acc acc' out : List A} {a : ℕ} (x : A) → Filled d acc out a → a < length d → acc' ≡ acc ++ (x ∷ []) → Filled d acc' (set out a x) (a + 1)
  filled_store {d} {acc} {acc'} {out} {a} x f l e =
      filled
      (rw (f.same, e, drop-cons d a x l, add-one, append_snoc) (set_at acc (get_or d a x) (drop (suc a) d) x a f.long))
      (rw (e, length-append) (omega (arith, f.long)))
      (omega arith)

  -- the part from a to e was lent, and came back as ys
  pub filled_part : {d acc acc' out : List A} {a e : ℕ} (ys : List A) → Filled d acc out a → a ≤ e → e ≤ length d → length ys ≡ length (mid_of a (e - a) out) → acc' ≡ acc ++ ys
      → Filled d acc' (put_mid a (e - a) out ys) e
  filled_part {d} {acc} {acc'} {out} {a} {e} ys f l r n s =
      let m : e ≤ length out = omega (arith, f.size) in
      let k : a + (e - a) ≡ e = omega arith in
      filled
      (rw (f.same, take_at acc (drop a d) a f.long, drop_at acc (drop a d) a f.long, drop-drop, k, s, append_assoc))
      (rw (s, length-append) (omega (arith, f.long, mid_len a e out m)))
      r

  pub filled_all : {d acc out : List A} {a : ℕ} → Filled d acc out a → length d ≤ a → out ≡ acc
  filled_all {d} {acc} {out} {a} f l = rw (f.same, drop_of_length-le d l, append-nil)

  -- ---- a loop that lends n parts of w items each: after t turns, t of the g's are at the front

  pub record Turns (d : List A) (g : ℕ → List A) (n w : ℕ) (out : List A) (a t : ℕ) : Type 0 where
    pub front : Filled d (cat t g) out a
    pub at : a ≡ t * w
    pub count : t ≤ n
    pub whole : length d ≡ n * w

  pub turns_none : (d : List A) (g : ℕ → List A) (n w : ℕ) → length d ≡ n * w → Turns d g n w d 0 0
  unfolding cat
  turns_none d g n w e = record { front = filled_none d; at = sym (zero-mul w); count = zero-le; whole = e }

  pub turns_room : {d : List A} {g : ℕ → List A} {n w : ℕ} {out : List A} {a t : ℕ} → Turns d g n w out a t → t < n → a + w ≤ length d
  turns_room {n = n} {w = w} {t = t} h l = omega (arith, next_item w t n l, h.at, h.whole)

  pub turns_more : {d : List A} {g : ℕ → List A} {n w : ℕ} {out ys : List A} {a t : ℕ} → Turns d g n w out a t → t < n
      → length ys ≡ length (mid_of a (a + w - a) out) → ys ≡ g t → Turns d g n w (put_mid a (a + w - a) out ys) (a + w) (t + 1)
  turns_more {g = g} {w = w} {ys = ys} {t = t} h l k e =
      record { front = filled_part ys h.front (omega arith) (turns_room h l) k (rw e (cat-more t g)); at = omega (arith, h.at); count = omega arith; whole = h.whole }
