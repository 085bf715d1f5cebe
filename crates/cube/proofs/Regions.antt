-- What a region that passed its checks may rely on: its places, and the entries that it touches. Assumes nothing.
use Prim.Native.Nat.{ℕ, ◌+◌, ◌*◌, ◌/◌, ◌%◌, ◌≤◌, ◌<◌}
use mathlib.Core.Path.{◌≡◌, refl, ap}
use mathlib.Core.Bool.{Bool, true, false, not, ◌&&◌}
use mathlib.Core.List.{List}
use native.Mathlib.Omega.{arith}
use native.Mathlib.Nat.{div-lt_iff_lt-mul, mod-lt}
use lib.Arith.{digits_div, digits_mod}
use lib.ListN.{length}
use lib.Dec.{leb, ltb}
use borrow.Author.Tests.{leb-true, leb-false, ltb-false, lt-ltb, le-ltb, le-leb, lt-leb, eqb-true, eq-eqb}
use Rattle.std.proofs.lemmas.Bool.{and_parts, not-false}
use Rattle.endian.specs.Loops.{tri}
use Rattle.endian.proofs.Digits.{tri-lt, pos-right}
use Rattle.endian.proofs.Search.{any_at, any-is}
use Rattle.record.specs.Answers.{refused, Verdict, Taken}
use Rattle.record.specs.Record.{extent_along, levels_of}
use Rattle.record.specs.declared.Record.{Record}
use Rattle.checks.specs.Fits.{breaks14_with}
use Rattle.checks.proofs.Described.{passed}
use Rattle.checks.proofs.Records.{Fit, with_fit}
use Rattle.table.specs.Entries.{breaks12}
use Rattle.table.proofs.Tables.{stored-inside}
use Rattle.table.specs.declared.Kind.{Kind}
use Rattle.table.specs.declared.Kind.TheVariants.{Missing, Constant, Stored}
use Rattle.opening.proofs.Rules.{none_found}
use Rattle.cube.specs.declared.Region.{Region}
use Rattle.cube.specs.Places.{Place, item_bytes, kind_in, brick_of, Inside, Extent}
use Rattle.cube.specs.Regions.{start_of, run_of, place, size_of, place_at, run_inside, in_extent, touches, unless_touched, is_stored, not_stored, region_verdict, raw_verdict, float_verdict, write_verdict}
use Rattle.cube.proofs.Valid.{headers, entries, brick_length, Lent}
use Rattle.cube.proofs.Places.{brick-lt, inside}
use Rattle.record.specs.declared.Refusal.TheVariants as refusal

-- ---- the places of a region

-- the t-th place is so far past the region's start
pub digits_in : (g : Region) (t : ℕ) → t < size_of g → (t / run_of g 2 / run_of g 1 < run_of g 0) × (t / run_of g 2 % run_of g 1 < run_of g 1) × (t % run_of g 2 < run_of g 2)
digits_in g t h =
    let p2 : 0 < run_of g 2 = pos-right (run_of g 0 * run_of g 1) (run_of g 2) t h in
    let l : t / run_of g 2 < run_of g 0 * run_of g 1 = (div-lt_iff_lt-mul p2).1 h in
    let p1 : 0 < run_of g 1 = pos-right (run_of g 0) (run_of g 1) (t / run_of g 2) l in
    ((div-lt_iff_lt-mul p1).1 l, mod-lt (t / run_of g 2) p1, mod-lt t p2)

-- and the place that is i, j, k past it is the one with this number
pub place_at_lem : (g : Region) (i j k : ℕ) → j < run_of g 1 → k < run_of g 2 → place_at g (tri (run_of g 1) (run_of g 2) i j k) ≡ place g i j k
place_at_lem g i j k hj hk =
    rw (digits_div (i * run_of g 1 + j) hk, digits_mod (i * run_of g 1 + j) hk, digits_div i hj, digits_mod i hj)

-- ---- by which check a region is refused: the first in the order

module _ (r : Record) (f : List ℕ) (g : Region) (room need : ℕ) (later : Verdict) where
  pub stop14 : breaks14_with r (length f) ≡ true → refused refusal.Record ≡ region_verdict r f g room need later
  unfolding region_verdict
  stop14 e = simp e

  module _ (fits : breaks14_with r (length f) ≡ false) where
    pub stop15 : r.levels ≤ g.level → refused refusal.Level ≡ region_verdict r f g room need later
    unfolding region_verdict
    stop15 h = simp (fits, le-leb _ _ h)

    module _ (level : g.level < r.levels) where
      pub stop16 : in_extent r g ≡ false → refused refusal.Index ≡ region_verdict r f g room need later
      unfolding region_verdict
      stop16 e = simp (fits, lt-leb _ _ level, e)

      module _ (inside : in_extent r g ≡ true) where
        pub stop18 : room < need → refused refusal.Room ≡ region_verdict r f g room need later
        unfolding region_verdict
        stop18 h = simp (fits, lt-leb _ _ level, inside, lt-ltb _ _ h)

        pub go_on : need ≤ room → unless_touched r refusal.Range (touches r g) (breaks12 r f) later ≡ region_verdict r f g room need later
        unfolding region_verdict
        go_on h = simp (fits, lt-leb _ _ level, inside, le-ltb _ _ h)

module _ (r : Record) where
  -- what checks 15 and 16 leave
  pub record Within (g : Region) : Type 0 where
    pub level : g.level < levels_of r.description
    pub run0 : (1 ≤ run_of g 0) × (start_of g 0 + run_of g 0 ≤ extent_along r.description g.level 0)
    pub run1 : (1 ≤ run_of g 1) × (start_of g 1 + run_of g 1 ≤ extent_along r.description g.level 1)
    pub run2 : (1 ≤ run_of g 2) × (start_of g 2 + run_of g 2 ≤ extent_along r.description g.level 2)

  run_inside_lem : (g : Region) (i : ℕ) → run_inside r g i ≡ true → (1 ≤ run_of g i) × (start_of g i + run_of g i ≤ extent_along r.description g.level i)
  run_inside_lem g i e =
      let h = and_parts (leb 1 (run_of g i)) _ e in
      (leb-true _ _ h.0, leb-true _ _ h.1)

  pub within : (g : Region) → Fit r → leb r.levels g.level ≡ false → in_extent r g ≡ true → Within g
  unfolding in_extent
  within g ok x y =
      let t = and_parts (run_inside r g 0 && run_inside r g 1) (run_inside r g 2) y in
      let u = and_parts (run_inside r g 0) (run_inside r g 1) t.0 in
      record {
        level = omega (arith, leb-false r.levels g.level x, ok.levels-is);
        run0 = run_inside_lem g 0 u.0;
        run1 = run_inside_lem g 1 u.1;
        run2 = run_inside_lem g 2 t.1;
      }

  pub extents : (g : Region) → Within g → (i j k : ℕ) → i < run_of g 0 → j < run_of g 1 → k < run_of g 2 → Extent r (place g i j k)
  extents g w i j k hi hj hk =
      record { in_level = w.level; in_i = omega (arith, w.run0.1); in_j = omega (arith, w.run1.1); in_k = omega (arith, w.run2.1) }

  -- ---- touched entries

  -- the entry of a place's brick is touched, and each that is touched is one
  pub touches-place : (g : Region) (i j k : ℕ) → i < run_of g 0 → j < run_of g 1 → k < run_of g 2 → touches r g (brick_of r (place g i j k)) ≡ true
  unfolding touches
  touches-place g i j k hi hj hk =
      any-is _ (size_of g) (tri (run_of g 1) (run_of g 2) i j k) (tri-lt (run_of g 0) (run_of g 1) (run_of g 2) i j k hi hj hk)
      (eq-eqb _ _ (ap (brick_of r) (place_at_lem g i j k hj hk)))

  pub touches_at : (g : Region) (e : ℕ) → touches r g e ≡ true → (t : ℕ) × (t < size_of g) × (brick_of r (place_at g t) ≡ e)
  unfolding touches
  touches_at g e h = let a = any_at _ (size_of g) h in (a.0, a.1, eqb-true _ _ a.2)

  -- no entry is both touched and bad
  abbrev pub AllPass : Region → (ℕ → Bool) → Type 0
  AllPass g bad = (e : ℕ) → e < entries r → touches r g e && bad e ≡ false

  -- a test that no touched entry passes fails at the brick of every place
  touched_none : Fit r → (g : Region) → Within g → (bad : ℕ → Bool) → AllPass g bad
      → (i j k : ℕ) → i < run_of g 0 → j < run_of g 1 → k < run_of g 2 → bad (brick_of r (place g i j k)) ≡ false
  touched_none ok g w bad h i j k hi hj hk =
      let e : ℕ = brick_of r (place g i j k) in
      let l : e < entries r = brick-lt r ok (place g i j k) (inside r ok (place g i j k) (extents g w i j k hi hj hk)) in
      let n : touches r g e && bad e ≡ false = h e l in
      rw (touches-place g i j k hi hj hk) at n

  is-stored : (κ : Kind) → not (is_stored κ) ≡ false → (o : ℕ) × (κ ≡ Stored o)
  is-stored Missing e = let n : ◌≡◌ {A = ℕ} 0 1 = cc in absurd (omega arith)
  is-stored (Constant v) e = let n : ◌≡◌ {A = ℕ} 0 1 = cc in absurd (omega arith)
  is-stored (Stored o) e = (o, refl)

  -- ---- what a taken call may rely on

  -- checks 14, 15, 16, 18 and 12
  pub record Passed (f : List ℕ) (g : Region) (room need : ℕ) : Type 0 where
    pub lent : Lent r f
    pub region : Within g
    pub enough : need ≤ room
    pub ranged : AllPass g (breaks12 r f)

  pub region_passed : (f : List ℕ) (g : Region) (room need : ℕ) (later : Verdict) → region_verdict r f g room need later ≡ Taken → Passed f g room need × (later ≡ Taken)
  unfolding region_verdict
  region_passed f g room need later e =
      let a = passed (breaks14_with r (length f)) _ _ e in
      let b = passed (leb r.levels g.level) _ _ a.1 in
      let c = passed (not (in_extent r g)) _ _ b.1 in
      let d = passed (ltb room need) _ _ c.1 in
      let u = none_found refusal.Range (λ e. touches r g e && breaks12 r f e) (entries r) later d.1 in
      let l = with_fit r (length f) a.0 in (
        record {
          lent = record { fit = l.0; same_length = l.1 };
          region = within g l.0 b.0 (not-false (in_extent r g) c.0);
          enough = ltb-false room need d.0;
          ranged = u.0;
        },
        u.1,
      )

  pub raw_passed : (f : List ℕ) (g : Region) (n : ℕ) → raw_verdict r f g n ≡ Taken → Passed f g n (size_of g * item_bytes r)
  unfolding raw_verdict
  raw_passed f g n e = (region_passed f g n _ Taken e).0

  pub float_passed : (f : List ℕ) (g : Region) (n : ℕ) → float_verdict r f g n ≡ Taken → Passed f g n (size_of g)
  unfolding float_verdict
  float_passed f g n e = (region_passed f g n _ Taken e).0

  -- a place in a stored brick that lies after the headers and in the file
  pub record Held (f : List ℕ) (p : Place) : Type 0 where
    pub placed : Inside r p
    pub offset : ℕ
    pub at_offset : kind_in r f (brick_of r p) ≡ Stored offset
    pub low : headers r ≤ offset
    pub high : offset + brick_length r ≤ length f

  -- every place of the region is so
  abbrev pub Covered : List ℕ → Region → Type 0
  Covered f g = (i j k : ℕ) → i < run_of g 0 → j < run_of g 1 → k < run_of g 2 → Held f (place g i j k)

  module _ (f : List ℕ) (g : Region) (room need : ℕ) (h : Passed f g room need) where
    -- a stored brick of the region's places lies after the headers and in the file
    pub touched_fits : (i j k : ℕ) → i < run_of g 0 → j < run_of g 1 → k < run_of g 2 → (o : ℕ) → kind_in r f (brick_of r (place g i j k)) ≡ Stored o
        → (headers r ≤ o) × (o + brick_length r ≤ length f)
    touched_fits i j k hi hj hk = stored-inside r f (brick_of r (place g i j k)) (touched_none h.lent.fit g h.region (breaks12 r f) h.ranged i j k hi hj hk)

    pub all-inside : (i j k : ℕ) → i < run_of g 0 → j < run_of g 1 → k < run_of g 2 → Inside r (place g i j k)
    all-inside i j k hi hj hk = inside r h.lent.fit (place g i j k) (extents g h.region i j k hi hj hk)

    -- and where check 19 finds nothing too, every place is in a stored brick
    pub covered : AllPass g (not_stored r f) → Covered f g
    covered e i j k hi hj hk =
        let s = is-stored (kind_in r f (brick_of r (place g i j k))) (touched_none h.lent.fit g h.region (not_stored r f) e i j k hi hj hk) in
        let t = touched_fits i j k hi hj hk s.0 s.1 in
        record { placed = all-inside i j k hi hj hk; offset = s.0; at_offset = s.1; low = t.0; high = t.1 }

  pub write_passed : (f : List ℕ) (g : Region) (n : ℕ) → write_verdict r f g n ≡ Taken → Passed f g n (size_of g * item_bytes r) × Covered f g
  unfolding write_verdict
  write_passed f g n e =
      let h = region_passed f g n (size_of g * item_bytes r) (unless_touched r refusal.NotStored (touches r g) (not_stored r f) Taken) e in
      (h.0, covered f g n (size_of g * item_bytes r) h.0 (none_found refusal.NotStored (λ e. touches r g e && not_stored r f e) (entries r) Taken h.1).0)
