-- A taken write, byte by byte. Assumes nothing.
use Prim.Native.Nat.{ℕ, suc, ◌+◌, ◌-◌, ◌*◌, ◌≤◌, ◌<◌}
use mathlib.Core.Path.{◌≡◌, refl, sym, ap, ◌∙◌}
use mathlib.Core.Logic.{◌≢◌}
use mathlib.Core.List.{List}
use native.Mathlib.Omega.{arith}
use native.Mathlib.Decide.{dec_lt}
use lib.ListN.{length, get_or, drop}
use lib.Seq.{get_or-take, get_or-drop}
use Rattle.endian.specs.Bytes.{peek, put}
use Rattle.endian.proofs.Puts.{drop-put-after, take_put}
use Rattle.record.specs.declared.Record.{Record}
use Rattle.table.specs.declared.Kind.{Kind}
use Rattle.checks.proofs.Records.{Fit}
use Rattle.cube.specs.declared.Region.{Region}
use Rattle.cube.specs.Places.{bytes, item_bytes, brick_of, byte_of, row_in, rows_of}
use Rattle.table.specs.Entries.{offset_in}
use Rattle.table.proofs.Words.{same_offset}
use Rattle.cube.specs.Regions.{size_of, place_at, chunk, place_byte, store, written}
use Rattle.cube.specs.Written.{WrittenBytes}
use Rattle.cube.proofs.Valid.{Valid}
use Rattle.cube.proofs.Places.{item-fits, brick-lt}
use Rattle.cube.proofs.Regions.{digits_in, Held, Covered}
use Rattle.cube.proofs.Writes.{Kept, kept_refl, kept_kind, held_at, chunk_full, has_at, index_at, written_rule, step_kept, store_at, written-kept, written-rows}

-- one byte of a part
peek_byte : (f : List ℕ) (a n b : ℕ) → b < n → get_or (peek f a n) b 0 ≡ get_or f (a + b) 0
peek_byte f a n b h = get_or-take n (drop a f) b 0 h ∙ get_or-drop a f b 0

-- a byte outside the part that is overwritten
put_other : (f : List ℕ) (a : ℕ) (bs : List ℕ) → a + length bs ≤ length f → (x : ℕ) → ((b : ℕ) → b < length bs → x ≢ a + b) → get_or (put f a bs) x 0 ≡ get_or f x 0
put_other f a bs fits x far = go (dec_lt x a)
  where
    go : Dec (x < a) → get_or (put f a bs) x 0 ≡ get_or f x 0
    go (yes l) =
        sym (get_or-take (suc x) (put f a bs) x 0 (omega arith)) ∙ ap (λ (l : List ℕ). get_or l x 0) (take_put f a bs fits (suc x) l) ∙ get_or-take (suc x) f x 0 (omega arith)
    go (no n) = past (dec_lt x (a + length bs))
      where
        past : Dec (x < a + length bs) → get_or (put f a bs) x 0 ≡ get_or f x 0
        past (yes l) = absurd (far (x - a) (omega arith) (omega arith))
        past (no m) =
            let e : x ≡ (a + length bs) + (x - (a + length bs)) = omega arith in
            ap (λ (n : ℕ). get_or (put f a bs) n 0) e
            ∙ sym (get_or-drop (a + length bs) (put f a bs) (x - (a + length bs)) 0)
            ∙ ap (λ (l : List ℕ). get_or l (x - (a + length bs)) 0) (drop-put-after f a bs fits (a + length bs) (omega arith))
            ∙ get_or-drop (a + length bs) f (x - (a + length bs)) 0
            ∙ ap (λ (n : ℕ). get_or f n 0) (sym e)

module _ (r : Record) (f : List ℕ) (v : Valid r f) (g : Region) (d : List ℕ) (room : size_of g * item_bytes r ≤ length d) (cov : Covered r f g) where
  ok : Fit r
  ok = v.lent.fit

  -- the t-th place, in a stored brick
  at : (t : ℕ) → t < size_of g → Held r f (place_at g t)
  at t l = let x = digits_in g t l in cov _ _ _ x.0 x.1 x.2

  place_byte_lem : (t : ℕ) (l : t < size_of g) → place_byte r f (place_at g t) ≡ byte_of r (at t l).offset (place_at g t)
  unfolding place_byte
  place_byte_lem t l = ap (λ (κ : Kind). byte_of r (offset_in κ) (place_at g t)) (at t l).at_offset

  -- after the write the place has the item lent for it
  item_there : (t : ℕ) (l : t < size_of g) → peek (written r g d f) (byte_of r (at t l).offset (place_at g t)) (item_bytes r) ≡ chunk (item_bytes r) d t
  unfolding rows_of
  item_there t l = bytes_inj (sym stored ∙ written-rows r f v g d room cov (place_at g t) (at t l).placed ∙ rw (has_at g t l, index_at g t))
    where
      bytes_inj : {x y : List ℕ} → bytes x ≡ bytes y → x ≡ y
      bytes_inj e = cc

      stored : rows_of r (written r g d f) (place_at g t) ≡ bytes (peek (written r g d f) (byte_of r (at t l).offset (place_at g t)) (item_bytes r))
      stored =
          ap (λ (κ : Kind). row_in r κ (written r g d f) (place_at g t))
          (kept_kind r f (written r g d f) (written-kept r ok f g d room cov) (brick_of r (place_at g t)) (brick-lt r ok (place_at g t) (at t l).placed) ∙ (at t l).at_offset)

  -- a byte of no place stays
  byte_stays : (x : ℕ) → ((t b : ℕ) → t < size_of g → b < item_bytes r → x ≢ place_byte r f (place_at g t) + b) → get_or (written r g d f) x 0 ≡ get_or f x 0
  byte_stays x far = (written_rule r g d f (λ t h. Kept r f h × (get_or h x 0 ≡ get_or f x 0)) (kept_refl r f, refl) (λ t h l H. (step_kept r ok f g d room cov t h l H.0, one t h l H.0 ∙ H.1))).1
    where
      one : (t : ℕ) (h : List ℕ) → t < size_of g → Kept r f h → get_or (store r h (place_at g t) (chunk (item_bytes r) d t)) x 0 ≡ get_or h x 0
      one t h l K =
          let c : List ℕ = chunk (item_bytes r) d t in
          let full : length c ≡ item_bytes r = chunk_full r g d room t l in
          let here : Held r h (place_at g t) = held_at r ok f g d room cov h K t l in
          let o : ℕ = here.offset in
          let same : o ≡ (at t l).offset = same_offset _ _ (sym here.at_offset ∙ kept_kind r f h K (brick_of r (place_at g t)) (brick-lt r ok (place_at g t) (at t l).placed) ∙ (at t l).at_offset) in
          ap (λ (y : List ℕ). get_or y x 0) (store_at r ok h (place_at g t) here c full)
          ∙ put_other h (byte_of r o (place_at g t)) c (omega (arith, full, item-fits r ok o (place_at g t), here.high)) x (λ b lb e. far t b l (omega arith) (e ∙ ap (λ (n : ℕ). byte_of r n (place_at g t) + b) same ∙ ap (λ (n : ℕ). n + b) (sym (place_byte_lem t l))))

  pub written-bytes : WrittenBytes r f g d (written r g d f)
  written-bytes =
      record {
        same_length = (written-kept r ok f g d room cov).same_length;
        lent-bytes = λ t b l lb.
            ap (λ (n : ℕ). get_or (written r g d f) (n + b) 0) (place_byte_lem t l)
            ∙ sym (peek_byte (written r g d f) (byte_of r (at t l).offset (place_at g t)) (item_bytes r) b lb)
            ∙ ap (λ (y : List ℕ). get_or y b 0) (item_there t l)
            ∙ peek_byte d (t * item_bytes r) (item_bytes r) b lb;
        other-bytes = byte_stays;
      }
