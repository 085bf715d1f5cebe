-- A text that passes check 11 is five strings, each followed by a zero. Assumes nothing.
use mathlib.Core.Bool.{false, cond}
use mathlib.Core.List.{List, [], ◌∷◌, ◌++◌}
use mathlib.Core.Logic.{⊎_elim}
use mathlib.Core.Path.{◌≡◌, refl, sym, ap, ◌∙◌}
use Prim.Native.Nat.{ℕ, zero, suc, ◌+◌, ◌-◌, ◌≤◌, ◌<◌, zero-le}
use native.Mathlib.Decide.{dec_le}
use native.Mathlib.Nat.{eq-or-lt_of_le, le_refl}
use native.Mathlib.Numerals.{add-one}
use native.Mathlib.Omega.{arith}
use lib.Dec.{eqb}
use lib.ListN.{get_or, length, take, drop, length-take, take-append-drop, drop_of_length-le}
use lib.Seq.{drop-cons, drop-drop, get_or-take, get_or-drop}
use borrow.Author.Tests.{eqb-true}
use Rattle.std.proofs.lemmas.Bool.{and_parts, not-false}
use Rattle.endian.specs.Loops.{sum_to}
use Rattle.endian.proofs.Search.{sum_part}
use Rattle.checks.specs.Checks.{zeros, breaks11}
use Rattle.checks.proofs.Texts.{zeros_to, zero_more, other-more}
use Rattle.strings.specs.Strings.{end_of, string_at, turn_of, place_from, place_of, strings_from, strings_of, item}
use Rattle.strings.specs.Five.{nth, Five}
use Rattle.std.specs.Prelude.{Some}
use Rattle.strings.proofs.Ends.{end_low, end_high, end_zero, end_before}
use Rattle.strings.proofs.Turns.{turn-item, turn-done, place_next, place-stays, strings-item, strings-done}

-- bytes that are not zero add nothing to the count
zeros-same : (t : List ℕ) (a k : ℕ) → ((j : ℕ) → j < k → get_or t (a + j) 0 ≡ 0 → ⊥) → zeros_to t (a + k) ≡ zeros_to t a
zeros-same t a zero h = ap (zeros_to t) (omega arith)
zeros-same t a (suc k) h =
    let e : a + suc k ≡ a + k + 1 = omega arith in
    rw e (omega (arith, other-more t (a + k) (h k (omega arith)), zeros-same t a k (λ j g. h j (omega arith))))

-- a count never falls
zeros_mono : (t : List ℕ) (a b : ℕ) → a ≤ b → zeros_to t a ≤ zeros_to t b
zeros_mono t a b h = ⊎_elim (λ (e : a ≡ b). rw e (le_refl (zeros_to t b))) (λ (g : a < b). omega (arith, sum_part (λ (i : ℕ). cond (eqb (get_or t i 0) 0) 1 0) a b g)) (eq-or-lt_of_le h)

module _ (t : List ℕ) (count : zeros_to t (length t) ≡ 5) (last : get_or t (length t - 1) 0 ≡ 0) where
  -- a place within the text with n strings before it
  record After (n : ℕ) : Type 0 where
    inside : place_of t n ≤ length t
    zeros_before : zeros_to t (place_of t n) ≡ n
    bytes_before : n ≤ place_of t n

  -- the string there ends at a zero, as long as there are fewer than five before it
  ends : (n : ℕ) → n < 5 → After n → (end_of t (place_of t n) < length t) × (zeros_to t (end_of t (place_of t n)) ≡ n)
  ends n h a =
      elim (dec_le (length t) e) [
        | yes g ↦ let q : e ≡ length t = omega (arith, end_high t p a.inside) in absurd (omega (arith, rw q at same))
        | no g ↦ (omega arith, same)
      ]
    where
      p : ℕ
      p = place_of t n

      e : ℕ
      e = end_of t p

      same : zeros_to t e ≡ n
      same =
          let q : p + (e - p) ≡ e = omega (arith, end_low t p) in
          rw q at (zeros-same t p (e - p) (λ j g. end_before t p j (omega arith))) ∙ a.zeros_before

  after : (n : ℕ) → n ≤ 5 → After n
  unfolding place_from sum_to
  after zero h = record { inside = zero-le; zeros_before = refl; bytes_before = zero-le }
  after (suc n) h =
      let a = after n (omega arith) in
      let b = ends n h a in
      let q : place_of t (suc n) ≡ end_of t (place_of t n) + 1 = place_next t n (omega (arith, b.0, end_low t (place_of t n))) in
      record {
        inside = omega (arith, b.0);
        zeros_before = ap (zeros_to t) q ∙ zero_more t (end_of t (place_of t n)) (end_zero t (place_of t n) b.0) ∙ ap (λ (k : ℕ). k + 1) b.1 ∙ add-one n;
        bytes_before = omega (arith, a.bytes_before, end_low t (place_of t n));
      }

  -- turns 0 to 4 each find a string
  module _ (n : ℕ) (h : n < 5) where
    below : end_of t (place_of t n) < length t
    below = (ends n h (after n (omega arith))).0

    starts : place_of t n < length t
    starts = omega (arith, below, end_low t (place_of t n))

    next_is : place_of t (suc n) ≡ end_of t (place_of t n) + 1
    next_is = place_next t n starts

    item_n : turn_of t (place_of t n) ≡ Some (item (place_of t n) (end_of t (place_of t n)) (place_of t (suc n)))
    item_n = rw next_is (turn-item t (place_of t n) starts)

    clear : (i : ℕ) → i < length (nth t n) → get_or (nth t n) i 0 ≡ 0 → ⊥
    unfolding string_at
    clear i g z =
        let l : i < end_of t (place_of t n) - place_of t n = omega (arith, length-take (end_of t (place_of t n) - place_of t n) (drop (place_of t n) t)) in
        end_before t (place_of t n) i (omega arith) (sym (get_or-take _ (drop (place_of t n) t) i 0 l ∙ get_or-drop (place_of t n) t i 0) ∙ z)

    split : drop (place_of t n) t ≡ nth t n ++ (0 ∷ drop (place_of t (suc n)) t)
    unfolding string_at
    split =
        let p = place_of t n in
        let e = end_of t p in
        let q : p + (e - p) ≡ e = omega (arith, end_low t p) in
        let z : get_or t e 0 ≡ 0 = end_zero t p below in
        let w : place_of t (suc n) ≡ suc e = next_is ∙ add-one e in
        let rest : get_or t e 0 ∷ drop (suc e) t ≡ 0 ∷ drop (place_of t (suc n)) t = cc in
        sym (take-append-drop (e - p) (drop p t))
        ∙ ap (λ (l : List ℕ). take (e - p) (drop p t) ++ l) (drop-drop (e - p) p t ∙ ap (λ (k : ℕ). drop k t) q ∙ drop-cons t e 0 below ∙ rest)

  -- after five strings the text is at its end
  at_end : length t ≤ place_of t 5
  at_end = elim (dec_le (length t) (place_of t 5)) [ yes g ↦ g | no g ↦ absurd (short (omega arith)) ]
    where
      short : place_of t 5 < length t → ⊥
      short g =
          let q : length t - 1 + 1 ≡ length t = omega arith in
          omega (arith, (after 5 (le_refl 5)).zeros_before, zeros_mono t (place_of t 5) (length t - 1) (omega arith), rw q at (zero_more t (length t - 1) last))

  -- the strings from turn n on, k of them
  abbrev listed : ℕ → ℕ → List (List ℕ)
  listed n zero = []
  listed n (suc k) = nth t n ∷ listed (suc n) k

  list : (k n m : ℕ) → n + k ≡ 5 → k ≤ m → strings_from t m (place_of t n) ≡ listed n k
  list zero n m e h = let q : n ≡ 5 = omega arith in strings-done t (place_of t n) (rw q at_end) m
  list (suc k) n zero e h = absurd (omega arith)
  list (suc k) n (suc m) e h =
      strings-item t (place_of t n) (starts n (omega arith)) m
      ∙ ap (λ (l : List (List ℕ)). nth t n ∷ l) (ap (strings_from t m) (sym (next_is n (omega arith))) ∙ list k (suc n) m (omega arith) (omega arith))

  -- the text from turn n on: k strings, each followed by a zero
  abbrev joined : ℕ → ℕ → List ℕ
  joined n zero = []
  joined n (suc k) = nth t n ++ (0 ∷ joined (suc n) k)

  join : (k n : ℕ) → n + k ≡ 5 → drop (place_of t n) t ≡ joined n k
  join zero n e = let q : n ≡ 5 = omega arith in drop_of_length-le t {i = place_of t n} (rw q at_end)
  join (suc k) n e = split n (omega arith) ∙ ap (λ (l : List ℕ). nth t n ++ (0 ∷ l)) (join k (suc n) (omega arith))

  five : Five t
  unfolding strings_of place_from
  five =
      record {
        hands = item_n;
        done = λ n h. turn-done t (place_of t n) (rw (← place-stays t (place_of t 5) 5 n h refl at_end) at_end);
        stays = turn-done t;
        strings = list 5 0 (length t) refl (omega (arith, (after 5 (le_refl 5)).bytes_before, (after 5 (le_refl 5)).inside));
        no_zero = λ n i h. clear n h i;
        whole = join 5 0 refl;
      }

pub text_five : (t : List ℕ) → breaks11 t ≡ false → Five t
unfolding breaks11 zeros
text_five t e =
    let p = and_parts _ _ (not-false _ e) in
    five t (eqb-true _ _ p.0) (eqb-true _ _ p.1)
