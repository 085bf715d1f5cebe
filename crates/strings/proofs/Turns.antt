-- What a walker finds at a place, where it stands after n turns, and the strings that it hands out. Assumes nothing.
use mathlib.Core.List.{List, [], ◌∷◌}
use mathlib.Core.Path.{◌≡◌, refl, sym, ap, ◌∙◌}
use Prim.Native.Nat.{ℕ, zero, suc, ◌+◌, ◌-◌, ◌≤◌, ◌<◌}
use native.Mathlib.Decide.{dec_le}
use native.Mathlib.Nat.{add-zero, add-suc}
use native.Mathlib.Numerals.{add-one}
use native.Mathlib.Omega.{arith}
use lib.ListN.{get_or, length, drop_of_length-le}
use lib.Seq.{take-nil}
use borrow.Author.Tests.{lt-ltb, le-ltb}
use Rattle.strings.specs.Strings.{end_of, string_at, turn_of, place_from, place_of, strings_from, strings_of, item}
use Rattle.std.specs.Prelude.{Option, Some, None}
use Rattle.strings.specs.declared.Item.{Item}
use Rattle.strings.proofs.Ends.{end_low, end_high}

module _ (t : List ℕ) (at : ℕ) where
  pub turn-item : at < length t → turn_of t at ≡ Some (item at (end_of t at) (end_of t at + 1))
  unfolding turn_of
  turn-item h = rw (lt-ltb at (length t) h)

  pub turn-done : length t ≤ at → turn_of t at ≡ None
  unfolding turn_of
  turn-done h = rw (le-ltb at (length t) h)

  pub string_done : length t ≤ at → string_at t at ≡ []
  unfolding string_at
  string_done h = rw (drop_of_length-le t h, take-nil)

  -- a walker that is done stays where it is
  pub place-done : length t ≤ at → (n : ℕ) → place_from t at n ≡ at
  unfolding place_from
  place-done h zero = refl
  place-done h (suc n) = rw (place-done h n, turn-done h)

  -- n turns after the first
  pub place_front : at < length t → (n : ℕ) → place_from t at (suc n) ≡ place_from t (end_of t at + 1) n
  unfolding place_from
  place_front h zero = rw (turn-item h)
  place_front h (suc n) = rw (place_front h n)

  pub strings-done : length t ≤ at → (n : ℕ) → strings_from t n at ≡ []
  unfolding strings_from
  strings-done h zero = refl
  strings-done h (suc n) = rw (turn-done h)

  pub strings-item : at < length t → (n : ℕ) → strings_from t (suc n) at ≡ string_at t at ∷ strings_from t n (end_of t at + 1)
  unfolding strings_from string_at
  strings-item h n = rw (turn-item h)

pub place_next : (t : List ℕ) (n : ℕ) → place_of t n < length t → place_of t (suc n) ≡ end_of t (place_of t n) + 1
unfolding place_from
place_next t n h = rw (turn-item t (place_of t n) h)

-- past the text's end there is no string
none : (t : List ℕ) (at n : ℕ) → length t ≤ at → [] ≡ string_at t (place_from t at n)
none t at n h = sym (string_done t (place_from t at n) (rw (place-done t at h n) h))

-- the n-th string handed out stands where n turns lead, and is empty where there are fewer
strings-nth : (t : List ℕ) (m at n : ℕ) → length t ≤ at + m → get_or (strings_from t m at) n [] ≡ string_at t (place_from t at n)
unfolding strings_from place_from
strings-nth t zero at n h = none t at n (omega arith)
strings-nth t (suc m) at n h =
    elim (dec_le (length t) at) [
      | yes g ↦ rw (strings-done t at g (suc m)) (none t at n g)
      | no g ↦ rw (strings-item t at (omega arith) m) (item (omega arith) (λ k. strings-nth t m (end_of t at + 1) k (omega (arith, end_low t at))) n)
    ]
  where
    item : at < length t → ((k : ℕ) → get_or (strings_from t m (end_of t at + 1)) k [] ≡ string_at t (place_from t (end_of t at + 1) k)) → (k : ℕ) → get_or (string_at t at ∷ strings_from t m (end_of t at + 1)) k [] ≡ string_at t (place_from t at k)
    item l later zero = refl
    item l later (suc k) = later k ∙ ap (string_at t) (sym (place_front t at l k))

pub string_nth : (t : List ℕ) (n : ℕ) → get_or (strings_of t) n [] ≡ string_at t (place_of t n)
unfolding strings_of
string_nth t n = strings-nth t (length t) 0 n (omega arith)

-- the item of a turn that is one
some_item : Option Item → Item
some_item (Some x) = x
some_item None = item 0 0 0

-- a turn that is an item: its numbers
pub record Found (t : List ℕ) (at start end next : ℕ) : Type 0 where
  pub here : at < length t
  pub start_is : start ≡ at
  pub end_is : end ≡ end_of t at
  pub next_is : next ≡ end_of t at + 1

module _ (t : List ℕ) (at : ℕ) where
  pub item-found : (start end next : ℕ) → Some (item start end next) ≡ turn_of t at → Found t at start end next
  unfolding some_item
  item-found start end next e =
      elim (dec_le (length t) at) [
        | yes g ↦ let q = turn-done t at g in let z : ◌≡◌ {A = ℕ} 0 1 = cc in absurd (omega arith)
        | no g ↦
            let q : some_item (Some (item start end next)) ≡ some_item (Some (item at (end_of t at) (end_of t at + 1))) = ap some_item (e ∙ turn-item t at (omega arith)) in
            record { here = omega arith; start_is = ap (λ (x : Item). x.start) q; end_is = ap (λ (x : Item). x.end) q; next_is = ap (λ (x : Item). x.next) q }
      ]

  -- a string starts at the walker's place, and lies in the text
  pub item_within : {x : Item} → Some x ≡ turn_of t at → (x.start ≡ at) × (x.start ≤ x.end) × (x.end ≤ length t)
  item_within {x} e =
      let p = item-found x.start x.end x.next e in
      (p.start_is, omega (arith, end_low t at), omega (arith, end_high t at (omega arith)))

  -- a turn that is none
  pub turn-none : None ≡ turn_of t at → length t ≤ at
  turn-none e =
      elim (dec_le (length t) at) [
        | yes g ↦ g
        | no g ↦ let q = turn-item t at (omega arith) in let z : ◌≡◌ {A = ℕ} 0 1 = cc in absurd (omega arith)
      ]

-- a turn more leads past the string's zero
pub place-more : (t : List ℕ) (at i : ℕ) → at ≡ place_of t i → at < length t → end_of t at + 1 ≡ place_of t (i + 1)
place-more t at i p h = ap (λ (x : ℕ). end_of t x + 1) p ∙ sym (place_next t i (rw p at h)) ∙ ap (place_of t) (sym (add-one i))

-- and none leads on from where the walker is done
stays : (t : List ℕ) (at i : ℕ) → at ≡ place_of t i → length t ≤ at → (k : ℕ) → at ≡ place_of t (i + k)
unfolding place_from
stays t at i p h zero = rw add-zero p
stays t at i p h (suc k) = rw (add-suc, ← stays t at i p h k, turn-done t at h)

pub place-stays : (t : List ℕ) (at i n : ℕ) → i ≤ n → at ≡ place_of t i → length t ≤ at → at ≡ place_of t n
place-stays t at i n g p h = let q : i + (n - i) ≡ n = omega arith in rw q at (stays t at i p h (n - i))
