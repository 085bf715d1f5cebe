-- The numbers of a lattice: they are those of the region's places, and none of their sums and products wraps. Assumes nothing.
use Prim.Native.Nat.{ℕ, ◌+◌, ◌*◌, ◌/◌, ◌%◌, ◌≤◌, ◌<◌}
use mathlib.Core.Bool.{true}
use mathlib.Core.Path.{◌≡◌, sym, ap, subst, ◌∙◌}
use mathlib.Core.List.{List}
use native.Mathlib.Omega.{arith}
use native.Mathlib.Nat.{mod-lt, mul-le-mul, le_trans, lt_of_lt_of_le, le-mul_of_pos_right}
use Rattle.geometry.specs.Limits.{count_room, side_room, brick_limit}
use Rattle.endian.specs.Loops.{tri}
use Rattle.geometry.specs.Geometry.{entry_at}
use Rattle.geometry.specs.declared.Level.{Level}
use Rattle.geometry.proofs.Levels.{half_le}
use Rattle.geometry.proofs.Entries.{entry_is}
use Rattle.record.specs.Record.{side_of, count_of, bricks_along, levels_of, bricks_of, Sized}
use Rattle.record.specs.declared.Record.{Record}
use Rattle.record.proofs.Laws.{small, levels-few}
use Rattle.checks.specs.Checks.{side_ok}
use Rattle.checks.proofs.Described.{side-range, described_sides, described_sized, described-few}
use Rattle.checks.proofs.Records.{Fit, fits_all}
use Rattle.table.specs.Entries.{kind_at, table_in, Readable}
use Rattle.table.specs.declared.Table.{Table}
use Rattle.table.proofs.Tables.{fits_derived, count-is, readable, kind_is}
use Rattle.cube.specs.declared.Region.{Region}
use Rattle.cube.specs.declared.MissingBrick.{MissingBrick}
use Rattle.cube.specs.Places.{item_bytes, kind_in, entry_in, brick_of, item_no, Inside, missing_brick}
use Rattle.cube.specs.Regions.{start_of, run_of, place}
use Rattle.cube.proofs.Places.{brick_of_lem, brick-lt, item-lt}
use Rattle.runs.specs.declared.Lattice.{Lattice}
use Rattle.runs.specs.Runs.{level_in, lattice_of, Allowed, Placed}

pub side-pos : (n : ℕ) → side_ok n ≡ true → 0 < n
side-pos n e = omega (arith, (side-range n e).low)

-- a number of three digits, with its partial sums
pub record Parts (m n a b c : ℕ) : Type 0 where
  pub first : a * m ≤ tri m n a b c
  pub second : a * m + b ≤ tri m n a b c
  pub third : (a * m + b) * n ≤ tri m n a b c

parts : (m n a b c : ℕ) → c < n → Parts m n a b c
parts m n a b c h =
    let pos : 0 < n = omega arith in
    let up : a * m + b ≤ (a * m + b) * n = le-mul_of_pos_right (a * m + b) pos in
    record { first = omega arith; second = omega arith; third = omega arith }

-- the numbers of the sample that is i, j, k past the start
pub record Numbers (q : Lattice) (i j k : ℕ) : Type 0 where
  pub side0 : 0 < q.side0
  pub side1 : 0 < q.side1
  pub side2 : 0 < q.side2
  pub ok0 : side_ok q.side0 ≡ true
  pub ok1 : side_ok q.side1 ≡ true
  pub ok2 : side_ok q.side2 ≡ true
  pub at0 : q.start0 + i < count_room * side_room
  pub at1 : q.start1 + j < count_room * side_room
  pub at2 : q.start2 + k < count_room * side_room
  pub inline : (q.start0 + i) / q.side0 < q.level.inline
  pub entry : entry_at q.level ((q.start0 + i) / q.side0) ((q.start1 + j) / q.side1) ((q.start2 + k) / q.side2) < brick_limit
  pub item : Parts q.side1 q.side2 ((q.start0 + i) % q.side0) ((q.start1 + j) % q.side1) ((q.start2 + k) % q.side2)
  pub items : tri q.side1 q.side2 ((q.start0 + i) % q.side0) ((q.start1 + j) % q.side1) ((q.start2 + k) % q.side2) < 16777216

-- an index among n bricks of side s
index-small : (s n x : ℕ) → s ≤ side_room → n ≤ count_room → x < n * s → x < count_room * side_room
index-small s n x hs hn h = lt_of_lt_of_le h (mul-le-mul hn hs)

module _ (r : Record) (g : Region) (i j k : ℕ) where
  -- its entry, by the lattice
  entry_on : entry_at (lattice_of r g).level (((lattice_of r g).start0 + i) / (lattice_of r g).side0) (((lattice_of r g).start1 + j) / (lattice_of r g).side1) (((lattice_of r g).start2 + k) / (lattice_of r g).side2)
      ≡ brick_of r (place g i j k)
  unfolding lattice_of brick_of entry_in
  entry_on = sym (entry_is (count_of r.description 0) (count_of r.description 1) (count_of r.description 2) g.level _ _ _)

  module _ (ok : Fit r) (h : Inside r (place g i j k)) where
    few : brick_of r (place g i j k) < brick_limit
    few = omega (arith, brick-lt r ok (place g i j k) h, described-few _ _ ok.is-described)

    items-few : item_no r (place g i j k) < 16777216
    items-few =
        let s = described_sized _ _ ok.is-described in
        lt_of_lt_of_le (item-lt r ok (place g i j k)) (mul-le-mul (mul-le-mul s.side0.high s.side1.high) s.side2.high)

    numbers_of_lem : Numbers (lattice_of r g) i j k
    unfolding lattice_of item_no
    numbers_of_lem =
        let s = described_sized _ _ ok.is-described in
        let o = described_sides _ _ ok.is-described in
        let m = small r.description s in
        let b = brick_of_lem r ok (place g i j k) h in
        let p2 : 0 < side_of r.description 2 = omega (arith, s.side2.low) in
        record {
          side0 = omega (arith, s.side0.low);
          side1 = omega (arith, s.side1.low);
          side2 = p2;
          ok0 = o.0;
          ok1 = o.1;
          ok2 = o.2;
          at0 = index-small _ (bricks_along r.description g.level 0) _ s.side0.high (le_trans (half_le _ g.level) m.inline) h.has_i;
          at1 = index-small _ (bricks_along r.description g.level 1) _ s.side1.high (le_trans (half_le _ g.level) m.crossline) h.has_j;
          at2 = index-small _ (bricks_along r.description g.level 2) _ s.side2.high (le_trans (half_le _ g.level) m.vertical) h.has-k;
          inline = b.inline;
          entry = rw entry_on few;
          item = parts _ _ _ _ _ (mod-lt (start_of g 2 + k) p2);
          items = items-few;
        }

module _ (r : Record) (g : Region) (q : Lattice) (i j k : ℕ) (p : Placed r g q i j k) where
  pub fit_of : Fit r
  fit_of = fits_all r p.fitting

  pub numbers : Numbers q i j k
  numbers = subst (λ (x : Lattice). Numbers x i j k) (sym p.laid) (numbers_of_lem r g i j k fit_of p.inside)

  -- what the functions make of the lattice's numbers
  pub entry_made : entry_at q.level ((q.start0 + i) / q.side0) ((q.start1 + j) / q.side1) ((q.start2 + k) / q.side2) ≡ brick_of r (place g i j k)
  entry_made =
      ap (λ (x : Lattice). entry_at x.level ((x.start0 + i) / x.side0) ((x.start1 + j) / x.side1) ((x.start2 + k) / x.side2)) p.laid
      ∙ entry_on r g i j k

  pub item_made : (((q.start0 + i) % q.side0) * q.side1 + (q.start1 + j) % q.side1) * q.side2 + (q.start2 + k) % q.side2 ≡ item_no r (place g i j k)
  unfolding lattice_of item_no
  item_made = ap (λ (x : Lattice). (((x.start0 + i) % x.side0) * x.side1 + (x.start1 + j) % x.side1) * x.side2 + (x.start2 + k) % x.side2) p.laid

  -- the entry is one of the table, which can be read in a file of the record's length
  table_is : q.table ≡ table_in r
  unfolding lattice_of
  table_is = ap (λ (x : Lattice). x.table) p.laid

  pub entry_in_lem : (n e : ℕ) → r.length ≡ n → e ≡ brick_of r (place g i j k) → Readable q.table n × (e < q.table.count)
  entry_in_lem n e l b = (
    readable r _ table_is (fits_derived r p.fitting) n (omega (arith, fit_of.long, fit_of.header_is)),
    omega (arith, brick-lt r fit_of (place g i j k) p.inside, count-is r _ table_is),
  )

  pub kind_made : (f : List ℕ) (e : ℕ) → e ≡ brick_of r (place g i j k) → kind_at q.table f e ≡ kind_in r f (brick_of r (place g i j k))
  kind_made f e b = kind_is r _ table_is f e ∙ ap (kind_in r f) b

-- ---- making a lattice

module _ (r : Record) (g : Region) (h : Allowed r g) where
  allowed_fit : Fit r
  allowed_fit = fits_all r h.fitting

  allowed_sized : Sized r.description
  allowed_sized = described_sized _ _ allowed_fit.is-described

  -- what `level_in` asks of the record and the region's level
  pub level_asks : Sized r.description × (r.bricks ≡ bricks_of r.description) × (g.level < levels_of r.description)
  level_asks = (allowed_sized, allowed_fit.bricks-is, rw (← allowed_fit.levels-is) h.leveled)

  -- no level that a cube has is past the bound of the code's shifts
  pub level-few : g.level ≤ 20
  level-few = omega (arith, level_asks.2, levels-few r.description allowed_sized)

  pub lattice_made : (t : Table) (v : Level) (x : MissingBrick) (s0 s1 s2 w a0 a1 a2 n0 n1 n2 : ℕ) → t ≡ table_in r → v ≡ level_in r.description g.level
      → s0 ≡ side_of r.description 0 → s1 ≡ side_of r.description 1 → s2 ≡ side_of r.description 2 → w ≡ item_bytes r → x ≡ missing_brick r
      → a0 ≡ start_of g 0 → a1 ≡ start_of g 1 → a2 ≡ start_of g 2 → n0 ≡ run_of g 0 → n1 ≡ run_of g 1 → n2 ≡ run_of g 2
      → record {
        table = t;
        level = v;
        side0 = s0;
        side1 = s1;
        side2 = s2;
        width = w;
        missing = x;
        start0 = a0;
        start1 = a1;
        start2 = a2;
        count0 = n0;
        count1 = n1;
        count2 = n2;
      } ≡ lattice_of r g
  unfolding lattice_of
  lattice_made t v x s0 s1 s2 w a0 a1 a2 n0 n1 n2 et ev e0 e1 e2 ew ex f0 f1 f2 m0 m1 m2 =
      rw (et, ev, e0, e1, e2, ew, ex, f0, f1, f2, m0, m1, m2)
