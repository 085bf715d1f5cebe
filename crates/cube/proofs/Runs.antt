-- Vertical runs: what the code's loops, which move a run of one brick at a time, need to meet the definitions, which go sample by sample.
-- Assumes nothing.
use Prim.Native.Nat.{ℕ, zero, suc, ◌+◌, ◌*◌, ◌/◌, ◌%◌, ◌^◌, ◌≤◌, ◌<◌}
use mathlib.Core.Path.{◌≡◌, sym, ap, ◌∙◌}
use mathlib.Core.List.{List, [], ◌∷◌, ◌++◌}
use native.Mathlib.Omega.{arith}
use native.Mathlib.Nat.{zero-mul, suc-mul, add-zero, add_assoc, add-mul, div-add-mod'}
use lib.ListN.{length, take, drop, take-append-drop}
use lib.Seq.{take-add, drop-drop}
use lib.Arith.{digits_div, digits_mod}
use Rattle.endian.specs.Loops.{cat, up}
use Rattle.endian.specs.Bytes.{peek, put, le, lows}
use Rattle.endian.proofs.Bytes.{le-peek, le-lows}
use Rattle.record.specs.Types.{decode_of}
use Rattle.record.specs.Record.{side_of}
use Rattle.record.specs.declared.Record.{Record}
use Rattle.table.specs.declared.Kind.{Kind}
use Rattle.table.specs.declared.Kind.TheVariants.{Missing, Constant, Stored}
use Rattle.cube.specs.declared.Region.{Region}
use Rattle.cube.specs.Places.{Place, Row, item_bytes, kind_in, brick_of, item_no, byte_of, row_in, rows_of, missing_brick, raw_of, float_of}
use Rattle.table.specs.Entries.{offset_in}
use Rattle.cube.specs.Regions.{start_of, place, chunk, place_byte, store}
use Rattle.endian.proofs.Cats.{cat-same, cat-peek}
use Rattle.endian.proofs.Puts.{length-peek, put-put}
use Rattle.cube.proofs.Valid.{headers, entries}
use Rattle.cube.proofs.Writes.{put-kept, kept_kind}

-- ---- a vertical run inside a brick: one brick, items one after the other

module _ (r : Record) (g : Region) (i j k m : ℕ) (one-brick : (start_of g 2 + k) % side_of r.description 2 + m < side_of r.description 2) where
  split : start_of g 2 + (k + m) ≡ (start_of g 2 + k) / side_of r.description 2 * side_of r.description 2 + ((start_of g 2 + k) % side_of r.description 2 + m)
  split = omega (arith, div-add-mod' (start_of g 2 + k) (side_of r.description 2))

  pub run_brick : brick_of r (place g i j (k + m)) ≡ brick_of r (place g i j k)
  unfolding brick_of
  run_brick = rw (split, digits_div ((start_of g 2 + k) / side_of r.description 2) one-brick)

  pub run_item : (o : ℕ) → byte_of r o (place g i j (k + m)) ≡ byte_of r o (place g i j k) + m * item_bytes r
  unfolding byte_of item_no
  run_item o = rw (split, digits_mod ((start_of g 2 + k) / side_of r.description 2) one-brick) (simp (add-mul, add_assoc))

  pub run_row : (f : List ℕ) → rows_of r f (place g i j (k + m)) ≡ row_in r (kind_in r f (brick_of r (place g i j k))) f (place g i j (k + m))
  unfolding rows_of
  run_row f = ap (λ (e : ℕ). row_in r (kind_in r f e) f (place g i j (k + m))) run_brick

-- ---- m samples from place g i j k on, all in one brick, read one by one

module _ (r : Record) (f : List ℕ) (g : Region) (i j k m : ℕ) (fits : (start_of g 2 + k) % side_of r.description 2 + m ≤ side_of r.description 2) where
  -- whatever a row is read as
  run_any : {A : Type 0} (κ : Kind) → kind_in r f (brick_of r (place g i j k)) ≡ κ → (read : Row → List A)
      → cat m (λ n. read (rows_of r f (place g i j (k + n)))) ≡ cat m (λ n. read (row_in r κ f (place g i j (k + n))))
  run_any κ e read =
      cat-same m _ _ (λ n l. ap read (run_row r g i j k n (omega arith) f ∙ ap (λ (x : Kind). row_in r x f (place g i j (k + n))) e))

  -- as bytes: the value of a missing or a constant brick again and again, one part of the file of a stored one
  pub run_missing : kind_in r f (brick_of r (place g i j k)) ≡ Missing → cat m (λ n. raw_of r (rows_of r f (place g i j (k + n)))) ≡ cat m (λ n. lows (item_bytes r) (missing_brick r).value)
  unfolding raw_of
  run_missing e = run_any Missing e (raw_of r)

  pub run_constant : (v : ℕ) → kind_in r f (brick_of r (place g i j k)) ≡ Constant v → cat m (λ n. raw_of r (rows_of r f (place g i j (k + n)))) ≡ cat m (λ n. lows (item_bytes r) v)
  unfolding raw_of
  run_constant v e = run_any (Constant v) e (raw_of r)

  pub run_read : (o : ℕ) → kind_in r f (brick_of r (place g i j k)) ≡ Stored o → cat m (λ n. raw_of r (rows_of r f (place g i j (k + n)))) ≡ peek f (byte_of r o (place g i j k)) (m * item_bytes r)
  unfolding raw_of
  run_read o e =
      run_any (Stored o) e (raw_of r)
      ∙ cat-same m _ _ (λ n l. ap (λ (a : ℕ). peek f a (item_bytes r)) (run_item r g i j k n (omega arith) o))
      ∙ cat-peek f (byte_of r o (place g i j k)) (item_bytes r) m

  -- as floats
  pub float_missing : kind_in r f (brick_of r (place g i j k)) ≡ Missing → cat m (λ n. float_of r (rows_of r f (place g i j (k + n))) ∷ []) ≡ cat m (λ n. (missing_brick r).float ∷ [])
  unfolding float_of
  float_missing e = run_any Missing e (λ x. float_of r x ∷ [])

  pub float_constant : (v : ℕ) → v < 256 ^ item_bytes r → kind_in r f (brick_of r (place g i j k)) ≡ Constant v
      → cat m (λ n. float_of r (rows_of r f (place g i j (k + n))) ∷ []) ≡ cat m (λ n. decode_of r.description.datatype r.grid.min r.grid.max v ∷ [])
  unfolding float_of
  float_constant v h e =
      run_any (Constant v) e (λ x. float_of r x ∷ [])
      ∙ ap (λ (x : ℕ). cat m (λ n. decode_of r.description.datatype r.grid.min r.grid.max x ∷ [])) (le-lows (item_bytes r) v h)

  pub float_read_lem : (o : ℕ) → kind_in r f (brick_of r (place g i j k)) ≡ Stored o
      → cat m (λ n. float_of r (rows_of r f (place g i j (k + n))) ∷ [])
      ≡ cat m (λ n. decode_of r.description.datatype r.grid.min r.grid.max (le (item_bytes r) f (byte_of r o (place g i j k) + n * item_bytes r)) ∷ [])
  unfolding float_of
  float_read_lem o e =
      run_any (Stored o) e (λ x. float_of r x ∷ [])
      ∙ cat-same m _ _ (λ n l.
      ap (λ (x : ℕ). decode_of r.description.datatype r.grid.min r.grid.max x ∷ [])
      (le-peek (item_bytes r) f (byte_of r o (place g i j (k + n))) ∙ ap (le (item_bytes r) f) (run_item r g i j k n (omega arith) o)))

-- ---- m samples written one by one, from the t-th item of the lent bytes on, are one overwrite

module _ (r : Record) (f : List ℕ) (g : Region) (i j k o : ℕ) (at : kind_in r f (brick_of r (place g i j k)) ≡ Stored o)
    (low : headers r ≤ byte_of r o (place g i j k)) (known : brick_of r (place g i j k) < entries r) (d : List ℕ) (t : ℕ) where
  pub run_write : (m : ℕ) → (start_of g 2 + k) % side_of r.description 2 + m ≤ side_of r.description 2
      → byte_of r o (place g i j k) + m * item_bytes r ≤ length f → (t + m) * item_bytes r ≤ length d
      → up m (λ n h. store r h (place g i j (k + n)) (chunk (item_bytes r) d (t + n))) f ≡ put f (byte_of r o (place g i j k)) (peek d (t * item_bytes r) (m * item_bytes r))
  unfolding up store place_byte
  run_write zero fits high room = rw (zero-mul, add-zero) (sym (take-append-drop (byte_of r o (place g i j k)) f))
  run_write (suc m) fits high room =
      let w : ℕ = item_bytes r in
      let a : ℕ = byte_of r o (place g i j k) in
      let x : List ℕ = peek d (t * w) (m * w) in
      let e1 : suc m * w ≡ m * w + w = suc-mul m w in
      let e2 : (t + suc m) * w ≡ t * w + (m * w + w) = add-mul t (suc m) w ∙ ap (λ (y : ℕ). t * w + y) e1 in
      let lx : length x ≡ m * w = length-peek d (t * w) (m * w) (omega arith) in
      let lc : length (chunk w d (t + m)) ≡ w = length-peek d ((t + m) * w) w (omega (arith, add-mul t m w)) in
      let q : Place = place g i j (k + m) in
      let here : kind_in r (put f a x) (brick_of r q) ≡ Stored o =
      ap (kind_in r (put f a x)) (run_brick r g i j k m (omega arith)) ∙ kept_kind r f (put f a x) (put-kept r f a x low (omega arith)) (brick_of r (place g i j k)) known ∙ at in
      ap (λ (h : List ℕ). store r h q (chunk w d (t + m))) (run_write m (omega arith) (omega arith) (omega (arith, add-mul t m w)))
      ∙ ap (λ (κ : Kind). put (put f a x) (byte_of r (offset_in κ) q) (chunk w d (t + m))) here
      ∙ ap (λ (n : ℕ). put (put f a x) n (chunk w d (t + m))) (run_item r g i j k m (omega arith) o ∙ ap (λ (n : ℕ). a + n) (sym lx))
      ∙ put-put f a x (chunk w d (t + m)) (omega arith)
      ∙ ap (put f a)
      (ap (λ (n : ℕ). x ++ peek d n w) (add-mul t m w)
      ∙ ap (λ (y : List ℕ). x ++ take w y) (sym (drop-drop (m * w) (t * w) d))
      ∙ sym (take-add (m * w) w (drop (t * w) d))
      ∙ ap (λ (n : ℕ). peek d (t * w) n) (sym e1))
