-- The rows of a region, read as bytes and as floats: what they depend on, and how long they are. Assumes nothing.
use Prim.Native.Nat.{ℕ, ◌+◌, ◌*◌, ◌/◌, ◌%◌, ◌^◌, ◌≤◌, ◌<◌}
use mathlib.Core.Path.{◌≡◌, refl, sym, ap, ◌∙◌}
use mathlib.Core.List.{List, [], ◌∷◌}
use native.Mathlib.Nat.{mul-one, add-zero, le_trans, one-le-pow}
use native.Mathlib.Omega.{arith}
use lib.Ieee.{Float, nan}
use lib.ListN.{length, get_or, take, drop}
use lib.Seq.{get_or-take, get_or-drop}
use Rattle.endian.specs.Loops.{cat}
use Rattle.record.specs.declared.Record.{Record}
use Rattle.table.specs.declared.Kind.{Kind}
use Rattle.table.specs.declared.Kind.TheVariants.{Missing, Constant, Stored}
use Rattle.cube.specs.declared.Region.{Region}
use Rattle.cube.specs.Places.{Place, Row, item_bytes, kind_in, brick_of, byte_of, row_in, rows_of, missing_brick, raw_of, float_of, reading_of, Inside}
use Rattle.cube.specs.Regions.{run_of, place, size_of, place_at, chunk, raw_rows, float_rows}
use Rattle.endian.proofs.Cats.{cat-same, cat-cat, cat_part, length-cat}
use Rattle.endian.proofs.Puts.{length-lows, length-peek}
use Rattle.cube.proofs.Valid.{Valid}
use Rattle.cube.proofs.Places.{item-fits, in_file}
use Rattle.cube.proofs.Regions.{digits_in, Passed, touched_fits}

-- one element of a list, as the first of the part that it makes
one_part : (l : List Float) (a : ℕ) (x : Float) → take 1 (drop (a * 1) l) ≡ (x ∷ []) → get_or l a nan ≡ x
one_part l a x e =
    sym (get_or-drop a l 0 nan ∙ ap (λ (n : ℕ). get_or l n nan) (add-zero a))
    ∙ sym (get_or-take 1 (drop a l) 0 nan (omega arith))
    ∙ ap (λ (y : List Float). get_or y 0 nan) (ap (λ (n : ℕ). take 1 (drop n l)) (sym (mul-one a)) ∙ e)

-- the places of a region one after the other: three loops, one inside the other
pub by_place : {A : Type 0} (g : Region) (h : Place → List A)
    → cat (run_of g 0) (λ i. cat (run_of g 1) (λ j. cat (run_of g 2) (λ k. h (place g i j k)))) ≡ cat (size_of g) (λ t. h (place_at g t))
by_place g h =
    cat-cat (run_of g 0) (run_of g 1) (λ i j. cat (run_of g 2) (λ k. h (place g i j k)))
    ∙ cat-cat (run_of g 0 * run_of g 1) (run_of g 2) (λ t k. h (place g (t / run_of g 1) (t % run_of g 1) k))

module _ (r : Record) where
  -- a missing brick's value is a number of an item's bytes
  pub missing_narrow : (missing_brick r).value < 256 ^ item_bytes r
  unfolding missing_brick
  missing_narrow = one-le-pow (item_bytes r) 256 (omega arith)

  -- what holds of every place of a region
  abbrev pub AtAll : Region → (Place → Type 0) → Type 0
  AtAll g P = (t : ℕ) → t < size_of g → P (place_at g t)

  -- a read looks at the readings of its region's rows alone
  module _ (g : Region) (row row' : Place → Row) (same : AtAll g (λ p. reading_of r (row p) ≡ reading_of r (row' p))) where
    pub raw_same : raw_rows r row g ≡ raw_rows r row' g
    unfolding raw_rows
    raw_same = cat-same (size_of g) _ _ (λ t l. ap (λ (x : List ℕ × Float). x.0) (same t l))

    pub float_same : float_rows r row g ≡ float_rows r row' g
    unfolding float_rows
    float_same = cat-same (size_of g) _ _ (λ t l. ap (λ (x : List ℕ × Float). x.1 ∷ []) (same t l))

  -- a row whose bytes are in the file is an item
  pub row_width : (f : List ℕ) (p : Place) → ((o : ℕ) → kind_in r f (brick_of r p) ≡ Stored o → byte_of r o p + item_bytes r ≤ length f) → length (raw_of r (rows_of r f p)) ≡ item_bytes r
  unfolding rows_of raw_of
  row_width f p fits = go (kind_in r f (brick_of r p)) fits
    where
      go : (κ : Kind) → ((o : ℕ) → κ ≡ Stored o → byte_of r o p + item_bytes r ≤ length f) → length (raw_of r (row_in r κ f p)) ≡ item_bytes r
      go Missing h = length-lows (item_bytes r) (missing_brick r).value
      go (Constant v) h = length-lows (item_bytes r) v
      go (Stored o) h = length-peek f (byte_of r o p) (item_bytes r) (h o refl)

  pub valid_width : (f : List ℕ) → Valid r f → (p : Place) → Inside r p → length (raw_of r (rows_of r f p)) ≡ item_bytes r
  valid_width f v p hp = row_width f p (λ o. in_file r f v p o hp)

  -- a raw read of whole items has as many bytes as they have, a float read a float for each place
  pub raw-length : (g : Region) (row : Place → Row) → AtAll g (λ p. length (raw_of r (row p)) ≡ item_bytes r) → length (raw_rows r row g) ≡ size_of g * item_bytes r
  unfolding raw_rows
  raw-length g row h = length-cat (size_of g) (item_bytes r) _ h

  pub float_length : (g : Region) (row : Place → Row) → length (float_rows r row g) ≡ size_of g
  unfolding float_rows
  float_length g row = length-cat (size_of g) 1 _ (λ t l. refl) ∙ mul-one (size_of g)

  -- the t-th item of a read
  pub raw-item : (g : Region) (row : Place → Row) → AtAll g (λ p. length (raw_of r (row p)) ≡ item_bytes r)
      → (t : ℕ) → t < size_of g → chunk (item_bytes r) (raw_rows r row g) t ≡ raw_of r (row (place_at g t))
  unfolding raw_rows
  raw-item g row h t l = cat_part (size_of g) (item_bytes r) t _ h l

  pub float_item : (g : Region) (row : Place → Row) (t : ℕ) → t < size_of g → get_or (float_rows r row g) t nan ≡ float_of r (row (place_at g t))
  unfolding float_rows
  float_item g row t l = one_part _ t _ (cat_part (size_of g) 1 t _ (λ s k. refl) l)

  -- of a region that passed its checks
  module _ (f : List ℕ) (g : Region) (room need : ℕ) (h : Passed r f g room need) where
    pub passed_width : AtAll g (λ p. length (raw_of r (rows_of r f p)) ≡ item_bytes r)
    passed_width t l =
        let d = digits_in g t l in
        row_width f (place_at g t) (λ o e. le_trans (item-fits r h.lent.fit o (place_at g t)) (touched_fits r f g room need h _ _ _ d.0 d.1 d.2 o e).1)

    pub passed_length : length (raw_rows r (rows_of r f) g) ≡ size_of g * item_bytes r
    passed_length = raw-length g (rows_of r f) passed_width
