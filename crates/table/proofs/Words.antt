-- What an entry's word names, by the word's size, and the offset in it. Assumes nothing.
use Rattle.std.specs.Option.{IfSome}
use Rattle.std.proofs.Common.{Some, None}
use Rattle.std.proofs.lemmas.Option.{same_Some, none-some}
use mathlib.Core.Path.{◌≡◌, refl, sym, ap, ◌∙◌}
use mathlib.Core.List.{List}
use Prim.Native.Nat.{ℕ, ◌+◌, ◌*◌, ◌%◌, ◌^◌, ◌≤◌, ◌<◌}
use native.Mathlib.Decide.{ℕ_discrete, dec_le}
use native.Mathlib.Nat.{mod-lt, one-le-pow}
use native.Mathlib.Omega.{arith}
use lib.ListN.{get_or}
use borrow.Author.Tests.{le-leb, lt-leb, eq-eqb, ne_eqb}
use Rattle.endian.proofs.Bytes.{le_same}
use Rattle.table.specs.declared.Kind.{Kind}
use Rattle.table.specs.declared.Kind.TheVariants.{Missing, Constant, Stored}
use Rattle.table.specs.declared.Table.{Table}
use Rattle.table.specs.Entries.{kind_of, offset_in, stored_in, word_at, kind_at}
use Rattle.table.specs.Windows.{offset_at}

-- the cases of a word
pub kind_missing : (w v : ℕ) → v ≡ 0 → kind_of w v ≡ Missing
unfolding kind_of
kind_missing w v e = simp (eq-eqb v 0 e)

pub kind_zero : (w v : ℕ) → v ≡ 1 → kind_of w v ≡ Constant 0
unfolding kind_of
kind_zero w v e = simp (ne_eqb v 0 (λ z. omega arith), eq-eqb v 1 e)

pub kind_constant : (w v : ℕ) → 2 ^ 63 ≤ v → kind_of w v ≡ Constant (v % 256 ^ w)
unfolding kind_of
kind_constant w v h = simp (ne_eqb v 0 (λ z. omega arith), ne_eqb v 1 (λ z. omega arith), le-leb (2 ^ 63) v h)

pub kind_offset : (w v : ℕ) → 2 ≤ v → v < 2 ^ 63 → kind_of w v ≡ Stored v
unfolding kind_of
kind_offset w v lo hi = simp (ne_eqb v 0 (λ z. omega arith), ne_eqb v 1 (λ z. omega arith), lt-leb (2 ^ 63) v hi)

-- a word is 0, 1, at least 2 ^ 63, or between
pub words : {X : Type 0} (v : ℕ) → (v ≡ 0 → X) → (v ≡ 1 → X) → (2 ^ 63 ≤ v → X) → (2 ≤ v → v < 2 ^ 63 → X) → X
words v f g h k =
    elim (ℕ_discrete v 0) [ yes e ↦ f e | no e ↦ elim (ℕ_discrete v 1) [ yes d ↦ g d | no d ↦ elim (dec_le (2 ^ 63) v) [ yes q ↦ h q | no q ↦ k (omega arith) (omega arith) ] ] ]

not-missing : (o : ℕ) → Missing ≡ Stored o → ⊥
not-missing o e = let z : ◌≡◌ {A = ℕ} 0 1 = cc in omega arith

not_constant : (a o : ℕ) → Constant a ≡ Stored o → ⊥
not_constant a o e = let z : ◌≡◌ {A = ℕ} 0 1 = cc in omega arith

pub same_offset : (a o : ℕ) → Stored a ≡ Stored o → a ≡ o
same_offset a o e = cc

-- a stored brick's word is its offset, at least 2 and below 2 ^ 63
pub kind_stored : (w v o : ℕ) → kind_of w v ≡ Stored o → (v ≡ o) × (2 ≤ o) × (o < 2 ^ 63)
kind_stored w v o e =
    words v
    (λ z. absurd (not-missing o (sym (kind_missing w v z) ∙ e)))
    (λ z. absurd (not_constant 0 o (sym (kind_zero w v z) ∙ e)))
    (λ h. absurd (not_constant (v % 256 ^ w) o (sym (kind_constant w v h) ∙ e)))
    (λ lo hi. let q = same_offset v o (sym (kind_offset w v lo hi) ∙ e) in (q, omega arith, omega arith))

-- the offset in a kind, where it is one of a stored brick
in_stored : (k : Kind) → 0 < offset_in k → k ≡ Stored (offset_in k)
in_stored Missing h = absurd (omega arith)
in_stored (Constant v) h = absurd (omega arith)
in_stored (Stored o) h = refl

pub stored_some : (k : Kind) (o : ℕ) → stored_in k ≡ Some o → k ≡ Stored o
stored_some Missing o e = absurd (none-some o e)
stored_some (Constant v) o e = absurd (none-some o e)
stored_some (Stored p) o e = ap Stored (same_Some p o e)

-- an entry of a table
module _ (t : Table) (f : List ℕ) (e : ℕ) where
  -- its word is its offset, at least 2 and below 2 ^ 63
  pub at_stored : (o : ℕ) → kind_at t f e ≡ Stored o → (word_at t f e ≡ o) × (2 ≤ o) × (o < 2 ^ 63)
  unfolding kind_at
  at_stored = kind_stored t.width (word_at t f e)

  pub stored_small : IfSome (stored_in (kind_at t f e)) (λ o. (0 < o) × (o < 2 ^ 63))
  stored_small = go (kind_at t f e) refl
    where
      go : (k : Kind) → kind_at t f e ≡ k → IfSome (stored_in k) (λ o. (0 < o) × (o < 2 ^ 63))
      go Missing s = tt
      go (Constant v) s = tt
      go (Stored o) s = let q = at_stored o s in (omega (arith, q.1), q.2)

  pub stored_offset : (o : ℕ) → stored_in (kind_at t f e) ≡ Some o → offset_at t f e ≡ o
  unfolding offset_at
  stored_offset o = go (kind_at t f e)
    where
      go : (k : Kind) → stored_in k ≡ Some o → offset_in k ≡ o
      go Missing s = absurd (none-some o s)
      go (Constant v) s = absurd (none-some o s)
      go (Stored p) s = same_Some p o s

  pub stored_none : stored_in (kind_at t f e) ≡ None → offset_at t f e ≡ 0
  unfolding offset_at
  stored_none = go (kind_at t f e)
    where
      go : (k : Kind) → stored_in k ≡ None → offset_in k ≡ 0
      go Missing s = refl
      go (Constant v) s = refl
      go (Stored p) s = absurd (none-some p (sym s))

  pub offset_stored : 0 < offset_at t f e → kind_at t f e ≡ Stored (offset_at t f e)
  unfolding offset_at
  offset_stored = in_stored (kind_at t f e)

  -- it depends on its own 8 bytes alone
  pub word_same : (g : List ℕ) → ((i : ℕ) → t.start + 8 * e ≤ i → i < t.start + 8 * e + 8 → get_or f i 0 ≡ get_or g i 0) → word_at t f e ≡ word_at t g e
  unfolding word_at
  word_same g same = le_same 8 f g (t.start + 8 * e) same

  pub kind_same : (g : List ℕ) → ((i : ℕ) → t.start + 8 * e ≤ i → i < t.start + 8 * e + 8 → get_or f i 0 ≡ get_or g i 0) → kind_at t f e ≡ kind_at t g e
  unfolding kind_at
  kind_same g same = ap (kind_of t.width) (word_same g same)

-- a constant's number is one of its item's bytes
missing-not : (c : ℕ) → Missing ≡ Constant c → ⊥
missing-not c e = let z : ◌≡◌ {A = ℕ} 0 1 = cc in omega arith

not-stored : (o c : ℕ) → Stored o ≡ Constant c → ⊥
not-stored o c e = let z : ◌≡◌ {A = ℕ} 0 1 = cc in omega arith

same_constant : (a c : ℕ) → Constant a ≡ Constant c → a ≡ c
same_constant a c e = cc

pub constant_fits : (w v c : ℕ) → kind_of w v ≡ Constant c → c < 256 ^ w
constant_fits w v c e =
    let p : 0 < 256 ^ w = one-le-pow w 256 (omega arith) in
    words v
    (λ z. absurd (missing-not c (sym (kind_missing w v z) ∙ e)))
    (λ z. rw (← same_constant 0 c (sym (kind_zero w v z) ∙ e)) p)
    (λ h. rw (← same_constant (v % 256 ^ w) c (sym (kind_constant w v h) ∙ e)) (mod-lt v p))
    (λ lo hi. absurd (not-stored v c (sym (kind_offset w v lo hi) ∙ e)))

pub at_narrow : (t : Table) (f : List ℕ) (e c : ℕ) → kind_at t f e ≡ Constant c → c < 256 ^ t.width
unfolding kind_at
at_narrow t f e = constant_fits t.width (word_at t f e)
