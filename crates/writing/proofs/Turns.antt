-- The turns of the loops of a write: what the calls of a turn answered comes in as equations. Assumes nothing.
use Prim.Native.Nat.{ℕ, ◌/◌, ◌+◌, ◌-◌, ◌*◌, ◌≤◌, ◌<◌, zero-le}
use mathlib.Core.Path.{◌≡◌, refl, sym, ap, subst, ◌∙◌}
use mathlib.Core.List.{List, ◌++◌}
use native.Mathlib.Omega.{arith}
use native.Mathlib.Nat.{add-sub_cancel_left, suc-mul, zero-mul, lt_of_mul-lt-mul_right, le_of_mul-le-mul_right, mul-pos, mul-div_cancel_left, mul_assoc, add-mul, le_trans, mul-le-mul_right}
use native.Mathlib.Numerals.{add-one}
use lib.ListN.{length, take, drop, length-append, length-drop}
use lib.Seq.{drop-drop, take_at, drop_at}
use Rattle.endian.specs.Loops.{up}
use Rattle.endian.specs.Bytes.{peek, put}
use Rattle.record.specs.declared.Record.{Record}
use Rattle.cube.specs.declared.Region.{Region}
use Rattle.cube.specs.Places.{item_bytes, Inside, kind_in, brick_of, item_no, byte_of}
use Rattle.table.specs.Entries.{offset_in}
use Rattle.cube.specs.Regions.{run_of, place, size_of, chunk}
use Rattle.endian.proofs.Cats.{up-add}
use Rattle.endian.proofs.Puts.{length-peek}
use Rattle.cube.proofs.Places.{brick-lt, byte_above}
use Rattle.cube.proofs.Regions.{Held}
use Rattle.cube.proofs.Runs.{run_write}
use Rattle.cube.proofs.Writes.{Kept, kept_refl}
use Rattle.runs.specs.declared.Lattice.{Lattice}
use Rattle.runs.proofs.Steps.{some_bytes, counts, ready-width, step_fits}
use Rattle.runs.proofs.Rows.{along_in}
use Rattle.runs.specs.Boxes.{Along}
use Rattle.writing.specs.Writes.{run_bytes, plane_bytes, sample_to, Writable}
use Rattle.writing.proofs.Keeps.{fit_in, covers-all, run_kept, writable_kept}

module _ {A : Type 0} where
  pub up_more : (n : ℕ) (h : ℕ → A → A) (s : A) → up (n + 1) h s ≡ h n (up n h s)
  unfolding up
  up_more n h s = rw add-one

-- ---- a vertical run, of which d has the bytes

module _ (r : Record) (f : List ℕ) (g : Region) (q : Lattice) (h : Writable r f g q) (i j k c : ℕ) (hi : i < run_of g 0) (hj : j < run_of g 1)
    (s : Along r g 2 k c) where
  held : Held r f (place g i j k)
  held = covers-all r f g q h i j k hi hj (along_in s)

  -- the items that a turn writes are the brick's
  in_brick : held.offset + (item_no r (place g i j k) + c) * item_bytes r ≤ length f
  in_brick = le_trans (step_fits r g i j k c held.offset (fit_in r f g q h) s) held.high

  module _ (d : List ℕ) (full : length d ≡ run_bytes r g) where
    -- and the run has their bytes
    in_run : (k + c) * item_bytes r ≤ length d
    in_run = omega (arith, full, mul-le-mul_right (item_bytes r) s.within)

    -- one put for the samples of a turn
    one-put : put f (held.offset + item_no r (place g i j k) * item_bytes r) (peek d (k * item_bytes r) (c * item_bytes r)) ≡ up c (λ t. sample_to r g i j d (k + t)) f
    unfolding byte_of
    one-put =
        sym (run_write r f g i j k held.offset held.at_offset (le_trans held.low (byte_above r held.offset (place g i j k))) (brick-lt r (fit_in r f g q h) (place g i j k) held.placed) d
        k c s.brick (omega (arith, add-mul (item_no r (place g i j k)) c (item_bytes r), in_brick)) in_run)

    module _ (o m w : ℕ) (eo : o ≡ offset_in (kind_in r f (brick_of r (place g i j k)))) (em : m ≡ item_no r (place g i j k)) (ew : w ≡ item_bytes r) where
      offset_is : o ≡ held.offset
      offset_is = eo ∙ ap offset_in held.at_offset

      -- the part of a turn, what it asks of the file, and what it leaves
      abbrev part : List ℕ
      part = peek d (k * w) (k * w + c * w - k * w)

      part_is : part ≡ peek d (k * w) (c * w)
      part_is = ap (peek d (k * w)) (add-sub_cancel_left (k * w) (c * w))

      pub turn-fits : o + m * w + length part ≤ length f
      turn-fits =
          let some : (k + c) * w ≤ length d = rw ew in_run in
          let n : length part ≡ c * w = ap length part_is ∙ length-peek d (k * w) (c * w) (omega (arith, add-mul k c w, some)) in
          let room : o + (m + c) * w ≤ length f = rw (em, ew, offset_is) in_brick in
          omega (arith, n, add-mul m c w, room)

      pub turn-put : put f (o + m * w) part ≡ up c (λ t. sample_to r g i j d (k + t)) f
      turn-put = ap (put f (o + m * w)) part_is ∙ rw (em, ew, offset_is) one-put

-- a run of k samples written, and c more
pub run_more : (r : Record) (g : Region) (i j : ℕ) (d : List ℕ) (k c : ℕ) (f₀ f f' : List ℕ) → f ≡ up k (sample_to r g i j d) f₀ → f' ≡ up c (λ t. sample_to r g i j d (k + t)) f
    → f' ≡ up (k + c) (sample_to r g i j d) f₀
run_more r g i j d k c f₀ f f' e e' = e' ∙ ap (up c (λ t. sample_to r g i j d (k + t))) e ∙ sym (up-add k c (sample_to r g i j d) f₀)

-- a turn of the loop over a run, of which k samples are written: the c that lie in one brick
module _ {r : Record} {f₀ : List ℕ} {g : Region} {q : Lattice} (h : Writable r f₀ g q) {i j k c : ℕ} (at : (i < run_of g 0) × (j < run_of g 1)) (a : Along r g 2 k c) where
  pub turn_inside : Inside r (place g i j k)
  turn_inside = h.ready.inside i j k at.0 at.1 (along_in a)

  -- the bytes of a turn lie in the run, of which d has the bytes
  pub turn_part : {w : ℕ} → w ≡ q.width → (d : List ℕ) → length d ≡ run_bytes r g → k * w + c * w ≤ length d
  turn_part {w} ew d full =
      let some : (k + c) * item_bytes r ≤ length d = omega (arith, full, mul-le-mul_right (item_bytes r) a.within) in
      rw (ew, ready-width r f₀ g q h.ready) (omega (arith, some, add-mul k c (item_bytes r)))

  module _ (d : List ℕ) {f : List ℕ} (full : length d ≡ run_bytes r g) (so_far : f ≡ up k (sample_to r g i j d) f₀) where
    pub turn_still : Writable r f g q
    turn_still =
        writable_kept r f₀ g q h f (subst (Kept r f₀) (sym so_far) (run_kept r f₀ g q h i j at.0 at.1 d full f₀ (kept_refl r f₀) k (omega (arith, along_in a))))

    module _ {o m w : ℕ} (eo : o ≡ offset_in (kind_in r f (brick_of r (place g i j k)))) (em : m ≡ item_no r (place g i j k)) (ew : w ≡ q.width) where
      turn_width : w ≡ item_bytes r
      turn_width = ew ∙ ready-width r f₀ g q h.ready

      pub turn_fits : o + m * w + length (peek d (k * w) (k * w + c * w - k * w)) ≤ length f
      turn_fits = turn-fits r f g q turn_still i j k c at.0 at.1 a d full o m w eo em turn_width

      pub turn_more : {f' : List ℕ} → f' ≡ put f (o + m * w) (peek d (k * w) (k * w + c * w - k * w)) → f' ≡ up (k + c) (sample_to r g i j d) f₀
      turn_more {f'} e = run_more r g i j d k c f₀ f f' so_far (e ∙ turn-put r f g q turn_still i j k c at.0 at.1 a d full o m w eo em turn_width)

-- ---- a loop over the parts of w bytes of d, each of which s writes: t came, rest has what is left, and the headers are those of the start

module _ (r : Record) (f₀ : List ℕ) (s : ℕ → List ℕ → List ℕ → List ℕ) (w : ℕ) (d : List ℕ) where
  abbrev pub each : ℕ → List ℕ → List ℕ
  each t = s t (chunk w d t)

  pub record Parts (f : List ℕ) (t size : ℕ) (rest : List ℕ) : Type 0 where
    pub same : f ≡ up t each f₀
    pub kept : Kept r f₀ f
    pub sized : size ≡ w
    pub left : rest ≡ drop (t * w) d
    pub count : t * w ≤ length d

  pub parts-none : {size t : ℕ} {rest : List ℕ} → t ≡ 0 → rest ≡ d → size ≡ w → Parts f₀ t size rest
  unfolding up
  parts-none et e es = record { same = rw et refl; kept = kept_refl r f₀; sized = es; left = rw (et, zero-mul) e; count = rw (et, zero-mul) zero-le }

module _ {r : Record} {f₀ f : List ℕ} {s : ℕ → List ℕ → List ℕ → List ℕ} {w t size : ℕ} {d rest : List ℕ} (h : Parts r f₀ s w d f t size rest) where
  rest-long : length rest ≡ length d - t * w
  rest-long = ap length h.left ∙ length-drop (t * w) d

  -- the next part
  module _ (x rest' : List ℕ) {j : ℕ} (ej : j ≡ t) (e : (rest ≡ x ++ rest') × (length x ≡ size)) where
    it_is : x ≡ chunk w d t
    it_is = sym (take_at x rest' w (e.1 ∙ h.sized)) ∙ ap (take w) (sym e.0 ∙ h.left)

    it_in : (t + 1) * w ≤ length d
    it_in =
        let more : length rest ≡ length x + length rest' = ap length e.0 ∙ length-append x rest' in
        omega (arith, more, e.1, h.sized, h.count, rest-long, add-mul t 1 w)

    pub part_here : (n : ℕ) → length d ≡ n * w → 0 < w → j < n
    part_here n full some = let l : t + 1 ≤ n = le_of_mul-le-mul_right (rw full at it_in) some in omega (arith, ej, l)

    pub parts_more : {f' : List ℕ} {t' size' : ℕ} → t' ≡ t + 1 → size' ≡ size → f' ≡ s j x f → Kept r f₀ (s j x f) → Parts r f₀ s w d f' t' size' rest'
    parts_more et es ef κ =
        let one : s j x f ≡ s t (chunk w d t) f = rw (ej, it_is) in
        record {
          same = ef ∙ one ∙ ap (s t (chunk w d t)) h.same ∙ sym (up_more t (each r f₀ s w d) f₀) ∙ ap (λ (n : ℕ). up n (each r f₀ s w d) f₀) (sym et);
          kept = subst (Kept r f₀) (sym ef) κ;
          sized = es ∙ h.sized;
          left =
              sym (drop_at x rest' w (e.1 ∙ h.sized)) ∙ ap (drop w) (sym e.0 ∙ h.left) ∙ drop-drop w (t * w) d
              ∙ ap (λ (n : ℕ). drop n d) (rw (et, add-one, suc-mul) refl);
          count = rw et it_in;
        }

  -- none is left
  pub parts-all : (n : ℕ) → length d ≡ n * w → 0 < w → length rest < size → f ≡ up n (each r f₀ s w d) f₀
  parts-all n full some none =
      let low : n < t + 1 = lt_of_mul-lt-mul_right w (omega (arith, none, h.sized, h.count, full, rest-long, add-mul t 1 w)) in
      let high : t ≤ n = le_of_mul-le-mul_right (rw full at h.count) some in
      let e : t ≡ n = omega (arith, low, high) in
      h.same ∙ ap (λ (m : ℕ). up m (each r f₀ s w d) f₀) e

-- the parts that a lattice's counts cut the bytes of an inline and of a region into
module _ {r : Record} {f : List ℕ} {g : Region} {q : Lattice} (h : Writable r f g q) where
  pub run_some : 0 < run_bytes r g
  run_some = mul-pos h.some.vertical (some_bytes r f g q h.ready)

  pub plane_some : 0 < plane_bytes r g
  plane_some = mul-pos h.some.crossline run_some

  pub runs_some : 0 < q.count1
  runs_some = rw (counts r f g q h.ready).1 h.some.crossline

  pub planes_some : 0 < q.count0
  planes_some = rw (counts r f g q h.ready).0 h.some.inline

  pub run_size : (d : List ℕ) → length d ≡ plane_bytes r g → length d / q.count1 ≡ run_bytes r g
  run_size d e = rw (e, (counts r f g q h.ready).1) (mul-div_cancel_left (run_bytes r g) h.some.crossline)

  -- the bytes of a region, by inlines
  pub by_planes : (d : List ℕ) → length d ≡ size_of g * item_bytes r → length d ≡ run_of g 0 * plane_bytes r g
  by_planes d e = e ∙ mul_assoc (run_of g 0 * run_of g 1) (run_of g 2) (item_bytes r) ∙ mul_assoc (run_of g 0) (run_of g 1) (run_bytes r g)

  pub plane_size : (d : List ℕ) → length d ≡ size_of g * item_bytes r → length d / q.count0 ≡ plane_bytes r g
  plane_size d e = rw (by_planes d e, (counts r f g q h.ready).0) (mul-div_cancel_left (plane_bytes r g) h.some.inline)
