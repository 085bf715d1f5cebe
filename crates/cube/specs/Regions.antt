-- Regions (FORMAT 8.7, 8.8, 9.3): their order, what reading one gives and what writing one leaves, the entries that one touches, and the checks.
use Rattle.std.specs.Prelude.{Bool, true, false, not, ◌&&◌, cond, List, [], ◌∷◌, ◌++◌, ℕ, ◌+◌, ◌-◌, ◌*◌, ◌/◌, ◌%◌, eqb, leb, ltb, Float, get_or, length, drop, Ok, Err}
use Rattle.endian.specs.Loops.{cat, up, first, any, tri}
use Rattle.endian.specs.Bytes.{peek, put}
use Rattle.record.specs.Answers.{refused, unless_found, Verdict, Taken}
use Rattle.record.specs.Record.{extent_along, bricks_of}
use Rattle.record.specs.declared.Record.{Record}
use Rattle.checks.specs.Fits.{breaks14_with}
use Rattle.table.specs.Entries.{offset_in, breaks12}
use Rattle.table.specs.declared.Kind.{Kind}
use Rattle.table.specs.declared.Kind.TheVariants.{Missing, Constant, Stored}
use Rattle.cube.specs.declared.Region.{Region}
use Rattle.cube.specs.Places.{Place, Row, item_bytes, kind_in, brick_of, byte_of, raw_of, float_of}
use Rattle.record.specs.declared.Refusal.{Refusal}
use Rattle.record.specs.declared.Refusal.TheVariants as refusal

-- start and count of a region in direction i
abbrev pub start_of : Region → ℕ → ℕ
start_of g i = get_or g.start i 0

abbrev pub run_of : Region → ℕ → ℕ
run_of g i = get_or g.count i 0

-- the place that is i, j, k past the region's start
abbrev pub place : Region → ℕ → ℕ → ℕ → Place
place g i j k = record { lvl = g.level; i = start_of g 0 + i; j = start_of g 1 + j; k = start_of g 2 + k }

-- how many places it has
abbrev pub size_of : Region → ℕ
size_of g = run_of g 0 * run_of g 1 * run_of g 2

-- its t-th place in a raw read's order: vertical fastest, inline slowest
abbrev pub place_at : Region → ℕ → Place
place_at g t = place g (t / run_of g 2 / run_of g 1) (t / run_of g 2 % run_of g 1) (t % run_of g 2)

abbrev pub between : ℕ → ℕ → ℕ → Bool
between a c x = leb a x && ltb x (a + c)

-- whether it has the place, and the place's number in that order
unfoldable pub has : Region → Place → Bool
has g p = eqb g.level p.lvl && (between (start_of g 0) (run_of g 0) p.i && (between (start_of g 1) (run_of g 1) p.j && between (start_of g 2) (run_of g 2) p.k))

unfoldable pub index : Region → Place → ℕ
index g p = tri (run_of g 1) (run_of g 2) (p.i - start_of g 0) (p.j - start_of g 1) (p.k - start_of g 2)

-- the t-th item of w bytes
abbrev pub chunk : ℕ → List ℕ → ℕ → List ℕ
chunk w d t = peek d (t * w) w

abbrev pub is_stored : Kind → Bool
is_stored Missing = false
is_stored (Constant v) = false
is_stored (Stored o) = true

module _ (r : Record) where
  -- the rows of a region in the read's order, as bytes and as floats
  unfoldable pub raw_rows : (Place → Row) → Region → List ℕ
  raw_rows row g = cat (size_of g) (λ t. raw_of r (row (place_at g t)))

  unfoldable pub float_rows : (Place → Row) → Region → List Float
  float_rows row g = cat (size_of g) (λ t. float_of r (row (place_at g t)) ∷ [])

  -- where a place's bytes start in the file, its brick being stored
  unfoldable pub place_byte : List ℕ → Place → ℕ
  place_byte f p = byte_of r (offset_in (kind_in r f (brick_of r p))) p

  -- one item's bytes put there
  unfoldable pub store : List ℕ → Place → List ℕ → List ℕ
  store f p b = put f (place_byte f p) b

  -- the cube with the lent item of each place of the region in that place, in a raw read's order. Where two of its bricks share a byte, which
  -- no cube that opened lets them, the rules leave open whose byte stands: here it is the later place's
  unfoldable pub written : Region → List ℕ → List ℕ → List ℕ
  written g d f = up (size_of g) (λ t h. store h (place_at g t) (chunk (item_bytes r) d t)) f

  -- ---- the entries that a region touches

  -- entry e is touched: a sample of the region lies in its brick
  unfoldable pub touches : Region → ℕ → Bool
  touches g e = any (λ t. eqb (brick_of r (place_at g t)) e) (size_of g)

  -- refused by this check with the lowest entry that is touched and bad; where there is none, the later checks
  abbrev pub unless_touched : (ℕ → Refusal) → (ℕ → Bool) → (ℕ → Bool) → Verdict → Verdict
  unless_touched check touched bad later = unless_found check (first (λ e. touched e && bad e) (bricks_of r.description)) (bricks_of r.description) later

  -- ---- the checks

  -- a count of at least 1, and the run inside the level's extent
  abbrev pub run_inside : Region → ℕ → Bool
  run_inside g i = leb 1 (run_of g i) && leb (start_of g i + run_of g i) (extent_along r.description g.level i)

  unfoldable pub in_extent : Region → Bool
  in_extent g = run_inside g 0 && run_inside g 1 && run_inside g 2

  -- entry e is not stored
  abbrev pub not_stored : List ℕ → ℕ → Bool
  not_stored f e = not (is_stored (kind_in r f e))

  -- checks 14, 15, 16, 18 and 12: room is what the lent buffer has, need what the region takes
  unfoldable pub region_verdict : List ℕ → Region → ℕ → ℕ → Verdict → Verdict
  region_verdict f g room need later =
      cond (breaks14_with r (length f)) (refused refusal.Record)
      (cond (leb r.levels g.level) (refused refusal.Level)
      (cond (not (in_extent g)) (refused refusal.Index)
      (cond (ltb room need) (refused refusal.Room)
      (unless_touched refusal.Range (touches g) (breaks12 r f)
      later))))

  -- a raw read into a buffer of n bytes, a float read into one of n floats, a write of n lent bytes
  unfoldable pub raw_verdict : List ℕ → Region → ℕ → Verdict
  raw_verdict f g n = region_verdict f g n (size_of g * item_bytes r) Taken

  unfoldable pub float_verdict : List ℕ → Region → ℕ → Verdict
  float_verdict f g n = region_verdict f g n (size_of g) Taken

  unfoldable pub write_verdict : List ℕ → Region → ℕ → Verdict
  write_verdict f g n = region_verdict f g n (size_of g * item_bytes r) (unless_touched refusal.NotStored (touches g) (not_stored f) Taken)

-- what stands after a call: what it makes where it is taken, what stood before where it is refused
abbrev pub after : {A : Type 0} → Verdict → List A → List A → List A
after (Ok u) new old = new
after (Err x) new old = old

-- a buffer whose front is overwritten, and whose tail stays
abbrev pub over : {A : Type 0} → List A → List A → List A
over s b = s ++ drop (length s) b
