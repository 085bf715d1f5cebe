-- What a site knows of its samples. Assumes nothing.
use Prim.Native.Nat.{ℕ, zero, suc, ◌+◌, ◌-◌, ◌%◌, ◌≤◌, ◌<◌, min}
use mathlib.Core.Bool.{true}
use mathlib.Core.List.{List}
use mathlib.Core.Path.{◌≡◌, refl, ◌∙◌}
use native.Mathlib.Omega.{arith}
use Rattle.checks.specs.Checks.{side_ok}
use Rattle.record.specs.Record.{side_of}
use Rattle.record.specs.declared.Record.{Record}
use Rattle.cube.specs.declared.Region.{Region}
use Rattle.cube.specs.Places.{Inside}
use Rattle.cube.specs.Regions.{start_of, run_of, place}
use Rattle.runs.specs.declared.Lattice.{Lattice}
use Rattle.runs.specs.declared.site.Site.{Site}
use Rattle.runs.specs.declared.parts.Parts.{Parts}
use Rattle.runs.specs.declared.site.Span.{Span}
use Rattle.runs.specs.Boxes.{Along}
use Rattle.runs.specs.Runs.{lattice_of, Placed, Ready, Holds}
use Rattle.runs.proofs.Boxes.{along}
use Rattle.runs.proofs.Lattices.{side-pos, Numbers, numbers}
use Rattle.runs.proofs.Steps.{counts}
use Rattle.runs.proofs.Rows.{numbers_at}

module _ (s : Site) {i j k : ℕ} (h : Inside s.record.now (place s.region.now i j k)) where
  pub site_placed : Placed s.record.now s.region.now s.lattice i j k
  site_placed = record { laid = s.laid.laid; fitting = s.laid.fitting; inside = h }

  pub site_numbers : Numbers s.lattice i j k
  site_numbers = numbers s.record.now s.region.now s.lattice i j k site_placed

-- the lattice's numbers along a direction
abbrev pub side_on : Lattice → ℕ → ℕ
side_on q zero = q.side0
side_on q (suc zero) = q.side1
side_on q (suc (suc d)) = q.side2

abbrev pub start_on : Lattice → ℕ → ℕ
start_on q zero = q.start0
start_on q (suc zero) = q.start1
start_on q (suc (suc d)) = q.start2

abbrev pub count_on : Lattice → ℕ → ℕ
count_on q zero = q.count0
count_on q (suc zero) = q.count1
count_on q (suc (suc zero)) = q.count2
count_on q (suc (suc (suc d))) = 0

-- an iterator over the parts of a direction, wherever it stands
pub record PartsOf (q : Lattice) (d : ℕ) (p : Parts) : Type 0 where
  pub start : p.start ≡ start_on q d
  pub side : p.side ≡ side_on q d
  pub end : p.end ≡ count_on q d

-- and it goes on over the same direction
pub parts_on : {q : Lattice} {d : ℕ} {p t : Parts} → PartsOf q d p → t.start ≡ p.start → t.side ≡ p.side → t.end ≡ p.end → PartsOf q d t
parts_on was es ei ee = record { start = es ∙ was.start; side = ei ∙ was.side; end = ee ∙ was.end }

module _ {r : Record} {f : List ℕ} {g : Region} {q : Lattice} (ready : Ready r f g q) where
  numbers_from : (i j k : ℕ) → i < q.count0 → j < q.count1 → k < q.count2 → Numbers q i j k
  numbers_from i j k hi hj hk =
      let n = counts r f g q ready in
      numbers_at ready i j k (omega (arith, n)) (omega (arith, n)) (omega (arith, n))

  -- the numbers at the last sample of each direction
  last : Holds g 0 0 0 → Numbers q (q.count0 - 1) (q.count1 - 1) (q.count2 - 1)
  last some =
      let n = counts r f g q ready in
      numbers_from _ _ _ (omega (arith, n, some.inline)) (omega (arith, n, some.crossline)) (omega (arith, n, some.vertical))

  -- what an iterator over a direction's parts asks: the sum is so small that it fits with another direction's start too
  pub asks_on : (d : ℕ) → d ≤ 2 → Holds g 0 0 0 → (side_ok (side_on q d) ≡ true) × (start_on q d + count_on q d ≤ 2147483648)
  asks_on zero l some = let n = last some in (n.ok0, omega (arith, n.at0))
  asks_on (suc zero) l some = let n = last some in (n.ok1, omega (arith, n.at1))
  asks_on (suc (suc zero)) l some = let n = last some in (n.ok2, omega (arith, n.at2))
  asks_on (suc (suc (suc d))) l some = absurd (omega arith)

  -- the numbers are those of the record and of the region
  numbers_on : (d : ℕ) → d ≤ 2 → (side_on q d ≡ side_of r.description d) × (start_on q d ≡ start_of g d) × (count_on q d ≡ run_of g d)
  unfolding lattice_of
  numbers_on zero l = rw ready.laid (refl, refl, refl)
  numbers_on (suc zero) l = rw ready.laid (refl, refl, refl)
  numbers_on (suc (suc zero)) l = rw ready.laid (refl, refl, refl)
  numbers_on (suc (suc (suc d))) l = absurd (omega arith)

  -- a part that it gives, and where it ends
  pub turn_on : (d : ℕ) {p : Parts} (x : Span) → d ≤ 2 → PartsOf q d p → p.at < p.end → x.at ≡ p.at → x.n ≡ min (p.side - (p.start + p.at) % p.side) (p.end - p.at) → Along r g d x.at x.n
  turn_on d {p} x l c h a e =
      let n = numbers_on d l in
      rw a (along _ _ d p.at p.end x.n (rw (← n.0, ← c.side) (side-pos _ p.ok.0)) h (c.end ∙ n.2) (rw (← n.0, ← n.1, ← c.start, ← c.side) e))

  pub end_on : (d : ℕ) {p : Parts} → d ≤ 2 → PartsOf q d p → p.at ≡ p.end → p.at ≡ run_of g d
  end_on d l c e = e ∙ c.end ∙ (numbers_on d l).2
