-- Sample places in stored bricks share no byte with each other or with the headers. Assumes nothing.
use Prim.Native.Nat.{ℕ, ◌+◌, ◌*◌, ◌/◌, ◌%◌, ◌≤◌, ◌<◌}
use mathlib.Core.Path.{◌≡◌, sym, ap, ◌∙◌, subst}
use mathlib.Core.Logic.{◌≢◌, ◌⊎◌, inl, inr}
use mathlib.Core.List.{List}
use native.Mathlib.Omega.{arith}
use native.Mathlib.Decide.{ℕ_discrete, dec_lt}
use native.Mathlib.Nat.{le_trans, lt_of_lt_of_le, le-add_right, mod-lt, div-lt_iff_lt-mul}
use lib.ListN.{length}
use Rattle.endian.proofs.Digits.{tri_inj, tri-lt, next_item, by_parts}
use Rattle.geometry.specs.Geometry.{Brick}
use Rattle.geometry.proofs.Levels.{covers}
use Rattle.geometry.proofs.Entries.{entry_below, entry_same}
use Rattle.record.specs.Record.{side_of, size_of, count_of, bricks_along, extent_along, levels_of, bricks_of, brick_bytes_of}
use Rattle.record.specs.declared.Record.{Record}
use Rattle.checks.proofs.Described.{described_sized}
use Rattle.checks.proofs.Records.{Fit}
use Rattle.table.specs.declared.Kind.TheVariants.{Stored}
use Rattle.table.proofs.Words.{same_offset}
use Rattle.cube.specs.Places.{Place, item_bytes, kind_in, entry_in, brick_of, item_no, byte_of, Inside, Extent}
use Rattle.cube.proofs.Valid.{headers, entries, brick_length, Valid}

pub place_path : {p q : Place} → p.lvl ≡ q.lvl → p.i ≡ q.i → p.j ≡ q.j → p.k ≡ q.k → p ≡ q
place_path l a b c = λ t. record { lvl = l t; i = a t; j = b t; k = c t }

pub place_dec : (p q : Place) → Dec (p ≡ q)
place_dec p q = go (ℕ_discrete p.lvl q.lvl) (ℕ_discrete p.i q.i) (ℕ_discrete p.j q.j) (ℕ_discrete p.k q.k)
  where
    go : Dec (p.lvl ≡ q.lvl) → Dec (p.i ≡ q.i) → Dec (p.j ≡ q.j) → Dec (p.k ≡ q.k) → Dec (p ≡ q)
    go (yes l) (yes a) (yes b) (yes c) = yes (place_path l a b c)
    go (yes l) (yes a) (yes b) (no n) = no (λ e. n (ap (λ (x : Place). x.k) e))
    go (yes l) (yes a) (no n) c = no (λ e. n (ap (λ (x : Place). x.j) e))
    go (yes l) (no n) b c = no (λ e. n (ap (λ (x : Place). x.i) e))
    go (no n) a b c = no (λ e. n (ap (λ (x : Place). x.lvl) e))

module _ (r : Record) where
  -- the bytes of p, in a brick at o, and those of q, in one at o', have none in common
  abbrev pub Apart : ℕ → Place → ℕ → Place → Type 0
  Apart o p o' q = (byte_of r o p + item_bytes r ≤ byte_of r o' q) ⊎ (byte_of r o' q + item_bytes r ≤ byte_of r o p)

  pub byte_above : (o : ℕ) (p : Place) → o ≤ byte_of r o p
  unfolding byte_of
  byte_above o p = le-add_right _ _

  -- a brick of the cube
  abbrev pub BrickIn : ℕ → ℕ → ℕ → ℕ → Type 0
  BrickIn = Brick (count_of r.description 0) (count_of r.description 1) (count_of r.description 2)

  -- the bricks of a level cover its extent
  pub cover : (l i : ℕ) → 0 < side_of r.description i → extent_along r.description l i ≤ bricks_along r.description l i * side_of r.description i
  cover l i = covers (size_of r.description i) (side_of r.description i) l

  pub entry_lt : (l x y z : ℕ) → BrickIn l x y z → entry_in r l x y z < entries r
  unfolding entry_in bricks_of
  entry_lt l x y z b = entry_below _ _ _ b

module _ (r : Record) (ok : Fit r) where
  -- no side is 0
  pub sides : (0 < side_of r.description 0) × (0 < side_of r.description 1) × (0 < side_of r.description 2)
  sides =
      let s = described_sized r.description r.text ok.is-described in
      (omega (arith, s.side0.low), omega (arith, s.side1.low), omega (arith, s.side2.low))

  pub inside : (p : Place) → Extent r p → Inside r p
  inside p x =
      record {
        has-level = x.in_level;
        has_i = lt_of_lt_of_le x.in_i (cover r p.lvl 0 sides.0);
        has_j = lt_of_lt_of_le x.in_j (cover r p.lvl 1 sides.1);
        has-k = lt_of_lt_of_le x.in_k (cover r p.lvl 2 sides.2);
      }

  -- the brick of a place
  pub brick_of_lem : (p : Place) → Inside r p → BrickIn r p.lvl (p.i / side_of r.description 0) (p.j / side_of r.description 1) (p.k / side_of r.description 2)
  unfolding levels_of
  brick_of_lem p h =
      record {
        level = h.has-level;
        inline = (div-lt_iff_lt-mul sides.0).1 h.has_i;
        crossline = (div-lt_iff_lt-mul sides.1).1 h.has_j;
        vertical = (div-lt_iff_lt-mul sides.2).1 h.has-k;
      }

  -- two places of one brick with one item number are one place
  pub place_inj : (p q : Place) → Inside r p → Inside r q → brick_of r p ≡ brick_of r q → item_no r p ≡ item_no r q → p ≡ q
  unfolding item_no brick_of entry_in
  place_inj p q hp hq b e =
      let s0 : ℕ = side_of r.description 0 in
      let s1 : ℕ = side_of r.description 1 in
      let s2 : ℕ = side_of r.description 2 in
      let w = entry_same _ _ _ (brick_of_lem p hp) (brick_of_lem q hq) b in
      let t = tri_inj s1 s2 (p.i % s0) (p.j % s1) (p.k % s2) (q.i % s0) (q.j % s1) (q.k % s2)
      (mod-lt p.j sides.1) (mod-lt q.j sides.1) (mod-lt p.k sides.2) (mod-lt q.k sides.2) e in
      place_path w.0 (by_parts p.i q.i s0 w.1 t.0) (by_parts p.j q.j s1 w.2 t.1) (by_parts p.k q.k s2 w.3 t.2)

  pub brick-lt : (p : Place) → Inside r p → brick_of r p < entries r
  unfolding brick_of
  brick-lt p h = entry_lt r _ _ _ _ (brick_of_lem p h)

  -- an item's number is below the items of a brick, and its bytes are in the brick
  pub item-lt : (p : Place) → item_no r p < side_of r.description 0 * side_of r.description 1 * side_of r.description 2
  unfolding item_no
  item-lt p = tri-lt _ _ _ _ _ _ (mod-lt p.i sides.0) (mod-lt p.j sides.1) (mod-lt p.k sides.2)

  pub item-fits : (o : ℕ) (p : Place) → byte_of r o p + item_bytes r ≤ o + brick_length r
  unfolding byte_of brick_bytes_of
  item-fits o p = omega (arith, next_item (item_bytes r) (item_no r p) _ (item-lt p))

  -- two items of a brick
  items_apart : (o : ℕ) (p q : Place) → item_no r p ≢ item_no r q → Apart r o p o q
  unfolding byte_of
  items_apart o p q h = go (dec_lt (item_no r p) (item_no r q))
    where
      go : Dec (item_no r p < item_no r q) → Apart r o p o q
      go (yes l) = inl (omega (arith, next_item (item_bytes r) (item_no r p) (item_no r q) l))
      go (no n) = inr (omega (arith, next_item (item_bytes r) (item_no r q) (item_no r p) (omega arith)))

module _ (r : Record) (f : List ℕ) (v : Valid r f) where
  pub places_apart : (p q : Place) (o o' : ℕ) → Inside r p → Inside r q → p ≢ q → kind_in r f (brick_of r p) ≡ Stored o → kind_in r f (brick_of r q) ≡ Stored o' → Apart r o p o' q
  places_apart p q o o' hp hq ne e e' = go (ℕ_discrete (brick_of r p) (brick_of r q))
    where
      ok : Fit r
      ok = v.lent.fit

      bricks : (o + brick_length r ≤ o') ⊎ (o' + brick_length r ≤ o) → Apart r o p o' q
      bricks (inl l) = inl (omega (arith, item-fits r ok o p, byte_above r o' q))
      bricks (inr l) = inr (omega (arith, item-fits r ok o' q, byte_above r o p))

      go : Dec (brick_of r p ≡ brick_of r q) → Apart r o p o' q
      go (yes b) =
          let same : o ≡ o' = same_offset _ _ (sym e ∙ ap (kind_in r f) b ∙ e') in
          subst (λ (x : ℕ). Apart r o p x q) same (items_apart r ok o p q (λ i. ne (place_inj r ok p q hp hq b i)))
      go (no n) = bricks (v.apart (brick_of r p) (brick_of r q) o o' (brick-lt r ok p hp) (brick-lt r ok q hq) n e e')

  pub past_headers : (p : Place) (o : ℕ) → Inside r p → kind_in r f (brick_of r p) ≡ Stored o → headers r ≤ byte_of r o p
  past_headers p o h e = le_trans (v.low (brick_of r p) o (brick-lt r v.lent.fit p h) e) (byte_above r o p)

  pub in_file : (p : Place) (o : ℕ) → Inside r p → kind_in r f (brick_of r p) ≡ Stored o → byte_of r o p + item_bytes r ≤ length f
  in_file p o h e = le_trans (item-fits r v.lent.fit o p) (v.high (brick_of r p) o (brick-lt r v.lent.fit p h) e)
