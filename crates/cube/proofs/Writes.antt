-- What a write of a region leaves: each place of the region has the bytes lent for it, every other place, and every header byte, what it had.
-- Assumes nothing.
use Prim.Native.Nat.{ℕ, suc, ◌+◌, ◌-◌, ◌*◌, ◌/◌, ◌%◌, ◌≤◌, ◌<◌}
use mathlib.Core.Path.{◌≡◌, refl, sym, ap, ◌∙◌}
use mathlib.Core.Logic.{◌≢◌, inl, inr}
use mathlib.Core.Bool.{Bool, true, false, ◌&&◌, cond}
use mathlib.Core.List.{List}
use native.Mathlib.Omega.{arith}
use native.Mathlib.Decide.{dec_lt}
use native.Mathlib.Nat.{add-sub_cancel_left, le_trans, le_refl, div-add-mod'}
use lib.ListN.{length, take}
use lib.Dec.{eqb, leb, ltb}
use borrow.Author.Tests.{ltb-true, leb-true, eqb-true, lt-ltb, le-ltb, le-leb, eq-eqb}
use Rattle.std.proofs.lemmas.Bool.{and_parts}
use Rattle.endian.specs.Loops.{tri}
use Rattle.endian.specs.Bytes.{peek, put}
use Rattle.endian.proofs.Digits.{tri_inj, tri-lt, next_item}
use Rattle.record.specs.Record.{header_of, table_of}
use Rattle.record.specs.declared.Record.{Record}
use Rattle.checks.proofs.Records.{Fit}
use Rattle.table.specs.declared.Kind.{Kind}
use Rattle.table.specs.declared.Kind.TheVariants.{Missing, Constant, Stored}
use Rattle.table.proofs.Tables.{names_same}
use Rattle.cube.specs.declared.Region.{Region}
use Rattle.cube.specs.Places.{Place, Row, bytes, item_bytes, kind_in, brick_of, byte_of, row_in, rows_of, Inside}
use Rattle.table.specs.Entries.{offset_in}
use Rattle.cube.specs.Regions.{start_of, run_of, place, size_of, place_at, between, has, index, chunk, place_byte, store, written}
use Rattle.endian.proofs.Cats.{up_rule}
use Rattle.endian.proofs.Puts.{put-length, peek-put-same, take_put, peek-put_before, peek-put-after, front_byte, length-peek}
use Rattle.cube.proofs.Valid.{headers, entries, Lent, Valid}
use Rattle.cube.proofs.Places.{Apart, place_path, place_dec, byte_above, item-fits, brick-lt, places_apart}
use Rattle.cube.proofs.Regions.{digits_in, Held, Covered}

-- ---- the places of a region

-- what `has` tests
record In (g : Region) (p : Place) : Type 0 where
  level : g.level ≡ p.lvl
  from0 : start_of g 0 ≤ p.i
  to0 : p.i < start_of g 0 + run_of g 0
  from1 : start_of g 1 ≤ p.j
  to1 : p.j < start_of g 1 + run_of g 1
  from2 : start_of g 2 ≤ p.k
  to2 : p.k < start_of g 2 + run_of g 2

pub between-true : (a c x : ℕ) → between a c x ≡ true → (a ≤ x) × (x < a + c)
between-true a c x e =
    let h = and_parts (leb a x) (ltb x (a + c)) e in
    (leb-true a x h.0, ltb-true x (a + c) h.1)

between_at : (a c i : ℕ) → i < c → between a c (a + i) ≡ true
between_at a c i h = simp (le-leb a (a + i) (omega arith), lt-ltb (a + i) (a + c) (omega arith))

module _ (g : Region) where
  has-true : (p : Place) → has g p ≡ true → In g p
  unfolding has
  has-true p e =
      let h = and_parts (eqb g.level p.lvl) _ e in
      let h0 = and_parts (between (start_of g 0) (run_of g 0) p.i) _ h.1 in
      let h1 = and_parts (between (start_of g 1) (run_of g 1) p.j) _ h0.1 in
      let b0 = between-true (start_of g 0) (run_of g 0) p.i h0.0 in
      let b1 = between-true (start_of g 1) (run_of g 1) p.j h1.0 in
      let b2 = between-true (start_of g 2) (run_of g 2) p.k h1.1 in
      record { level = eqb-true g.level p.lvl h.0; from0 = b0.0; to0 = b0.1; from1 = b1.0; to1 = b1.1; from2 = b2.0; to2 = b2.1 }

  pub has-place : (i j k : ℕ) → i < run_of g 0 → j < run_of g 1 → k < run_of g 2 → has g (place g i j k) ≡ true
  unfolding has
  has-place i j k hi hj hk =
      simp (
        eq-eqb g.level g.level refl,
        between_at (start_of g 0) (run_of g 0) i hi,
        between_at (start_of g 1) (run_of g 1) j hj,
        between_at (start_of g 2) (run_of g 2) k hk,
      )

  pub index-place : (i j k : ℕ) → index g (place g i j k) ≡ tri (run_of g 1) (run_of g 2) i j k
  unfolding index
  index-place i j k = simp add-sub_cancel_left

  index-lt : (p : Place) → In g p → index g p < size_of g
  unfolding index
  index-lt p h = tri-lt (run_of g 0) (run_of g 1) (run_of g 2) (p.i - start_of g 0) (p.j - start_of g 1) (p.k - start_of g 2) (omega arith) (omega arith) (omega arith)

  -- a region's places are told apart by their index
  index_inj : (p : Place) (t : ℕ) → In g p → t < size_of g → index g p ≡ t → p ≡ place_at g t
  unfolding index
  index_inj p t h l e =
      let n1 : ℕ = run_of g 1 in
      let n2 : ℕ = run_of g 2 in
      let d = digits_in g t l in
      let back : tri n1 n2 (t / n2 / n1) (t / n2 % n1) (t % n2) ≡ t = rw (div-add-mod' (t / n2) n1, div-add-mod' t n2) in
      let u = tri_inj n1 n2 (p.i - start_of g 0) (p.j - start_of g 1) (p.k - start_of g 2) (t / n2 / n1) (t / n2 % n1) (t % n2)
      (omega arith) d.1 (omega arith) d.2 (e ∙ sym back) in
      place_path (sym h.level) (omega arith) (omega arith) (omega arith)

  -- the t-th place is one of them, with the index t
  pub has_at : (t : ℕ) → t < size_of g → has g (place_at g t) ≡ true
  has_at t l = let d = digits_in g t l in has-place _ _ _ d.0 d.1 d.2

  pub index_at : (t : ℕ) → index g (place_at g t) ≡ t
  index_at t = index-place _ _ _ ∙ rw (div-add-mod' (t / run_of g 2) (run_of g 1), div-add-mod' t (run_of g 2))

ltb_step : (x t : ℕ) → x ≢ t → ltb x (suc t) ≡ ltb x t
ltb_step x t n = go (dec_lt x t)
  where
    go : Dec (x < t) → ltb x (suc t) ≡ ltb x t
    go (yes l) = lt-ltb x (suc t) (omega arith) ∙ sym (lt-ltb x t l)
    go (no m) = le-ltb x (suc t) (omega arith) ∙ sym (le-ltb x t (omega arith))

module _ (r : Record) where
  -- ---- the headers stay

  -- h has the headers and the length of f
  pub record Kept (f h : List ℕ) : Type 0 where
    pub same_length : length h ≡ length f
    pub same_header : take (headers r) h ≡ take (headers r) f

  pub kept_refl : (f : List ℕ) → Kept f f
  kept_refl f = record { same_length = refl; same_header = refl }

  pub kept_trans : (f h l : List ℕ) → Kept f h → Kept h l → Kept f l
  kept_trans f h l a b = record { same_length = b.same_length ∙ a.same_length; same_header = b.same_header ∙ a.same_header }

  -- bytes put after the headers keep them
  pub put-kept : (f : List ℕ) (a : ℕ) (b : List ℕ) → headers r ≤ a → a + length b ≤ length f → Kept f (put f a b)
  put-kept f a b low fits = record { same_length = put-length f a b fits; same_header = take_put f a b fits (headers r) low }

  module _ (f h : List ℕ) (κ : Kept f h) where
    -- and so every entry
    pub kept_kind : (e : ℕ) → e < entries r → kind_in r h e ≡ kind_in r f e
    unfolding header_of table_of
    kept_kind e l = names_same r h e f (λ i a b. front_byte h f (headers r) i κ.same_header (omega arith))

    pub kept-lent : Lent r f → Lent r h
    kept-lent l = record { fit = l.fit; same_length = l.same_length ∙ sym κ.same_length }

    pub kept_valid : Valid r f → Valid r h
    kept_valid v =
        record {
          lent = kept-lent v.lent;
          low = λ e o l s. v.low e o l (sym (kept_kind e l) ∙ s);
          high = λ e o l s. omega (arith, κ.same_length, v.high e o l (sym (kept_kind e l) ∙ s));
          apart = λ e e' o o' l l' n s s'. v.apart e e' o o' l l' n (sym (kept_kind e l) ∙ s) (sym (kept_kind e' l') ∙ s');
        }

    pub kept_held : Fit r → (p : Place) → Held r f p → Held r h p
    kept_held ok p d =
        record {
          placed = d.placed;
          offset = d.offset;
          at_offset = kept_kind (brick_of r p) (brick-lt r ok p d.placed) ∙ d.at_offset;
          low = d.low;
          high = omega (arith, κ.same_length, d.high);
        }

  -- ---- one sample

  module _ (ok : Fit r) (f : List ℕ) (q : Place) (at : Held r f q) (b : List ℕ) (full : length b ≡ item_bytes r) where
    pub store_at : store r f q b ≡ put f (byte_of r at.offset q) b
    unfolding store place_byte
    store_at = ap (λ (κ : Kind). put f (byte_of r (offset_in κ) q) b) at.at_offset

    fits : byte_of r at.offset q + length b ≤ length f
    fits = omega (arith, item-fits r ok at.offset q, at.high)

    pub store_kept : Kept f (store r f q b)
    store_kept = rw store_at (put-kept f (byte_of r at.offset q) b (le_trans at.low (byte_above r at.offset q)) fits)

    store_kind : (p : Place) → Inside r p → kind_in r (store r f q b) (brick_of r p) ≡ kind_in r f (brick_of r p)
    store_kind p hp = kept_kind f (store r f q b) store_kept (brick_of r p) (brick-lt r ok p hp)

    store_same : rows_of r (store r f q b) q ≡ bytes b
    unfolding rows_of
    store_same =
        ap (λ (κ : Kind). row_in r κ (store r f q b) q) (store_kind q at.placed ∙ at.at_offset)
        ∙ ap (λ (h : List ℕ). bytes (peek h (byte_of r at.offset q) (item_bytes r))) store_at
        ∙ ap (λ (n : ℕ). bytes (peek (put f (byte_of r at.offset q) b) (byte_of r at.offset q) n)) (sym full)
        ∙ ap bytes (peek-put-same f (byte_of r at.offset q) b fits)

    store_other : Valid r f → (p : Place) → Inside r p → p ≢ q → rows_of r (store r f q b) p ≡ rows_of r f p
    unfolding rows_of
    store_other v p hp ne = ap (λ (κ : Kind). row_in r κ (store r f q b) p) (store_kind p hp) ∙ go (kind_in r f (brick_of r p)) refl
      where
        o : ℕ
        o = at.offset

        far : (o' : ℕ) → Apart r o' p o q → peek (put f (byte_of r o q) b) (byte_of r o' p) (item_bytes r) ≡ peek f (byte_of r o' p) (item_bytes r)
        far o' (inl l) = peek-put_before f (byte_of r o q) b fits (byte_of r o' p) (item_bytes r) l
        far o' (inr l) = peek-put-after f (byte_of r o q) b fits (byte_of r o' p) (item_bytes r) (omega arith)

        go : (κ : Kind) → kind_in r f (brick_of r p) ≡ κ → row_in r κ (store r f q b) p ≡ row_in r κ f p
        go Missing e = refl
        go (Constant c) e = refl
        go (Stored o') e =
            ap (λ (h : List ℕ). bytes (peek h (byte_of r o' p) (item_bytes r))) store_at
            ∙ ap bytes (far o' (places_apart r f v p q o' o hp at.placed ne e at.at_offset))

  -- ---- a region

  -- a chunk of the lent bytes is an item
  pub chunk_full : (g : Region) (d : List ℕ) → size_of g * item_bytes r ≤ length d → (t : ℕ) → t < size_of g → length (chunk (item_bytes r) d t) ≡ item_bytes r
  chunk_full g d room t l = length-peek d (t * item_bytes r) (item_bytes r) (le_trans (next_item (item_bytes r) t (size_of g) l) room)

  -- the rule of a region's write: what holds of the first t places' bytes holds of one place more
  pub written_rule : (g : Region) (d f : List ℕ) (P : ℕ → List ℕ → Type 0) → P 0 f
      → ((t : ℕ) (h : List ℕ) → t < size_of g → P t h → P (suc t) (store r h (place_at g t) (chunk (item_bytes r) d t))) → P (size_of g) (written r g d f)
  unfolding written
  written_rule g d f P z step = up_rule P (size_of g) _ f z step

  module _ (ok : Fit r) (f : List ℕ) (g : Region) (d : List ℕ) (room : size_of g * item_bytes r ≤ length d) (cov : Covered r f g) where
    -- the t-th place, in a file with the headers of f
    pub held_at : (h : List ℕ) → Kept f h → (t : ℕ) → t < size_of g → Held r h (place_at g t)
    held_at h K t l = let x = digits_in g t l in kept_held f h K ok (place_at g t) (cov _ _ _ x.0 x.1 x.2)

    -- each store of the write keeps the headers
    pub step_kept : (t : ℕ) (h : List ℕ) → t < size_of g → Kept f h → Kept f (store r h (place_at g t) (chunk (item_bytes r) d t))
    step_kept t h l K = kept_trans f h _ K (store_kept ok h (place_at g t) (held_at h K t l) _ (chunk_full g d room t l))

    -- and so does the write
    pub written-kept : Kept f (written r g d f)
    written-kept = written_rule g d f (λ t. Kept f) (kept_refl f) step_kept

  module _ (f : List ℕ) (v : Valid r f) (g : Region) (d : List ℕ) (room : size_of g * item_bytes r ≤ length d) (cov : Covered r f g) where
    ok : Fit r
    ok = v.lent.fit

    -- the row of p, once the places with an index below t are written
    upto : ℕ → Place → Row
    upto t p = cond (has g p && ltb (index g p) t) (bytes (chunk (item_bytes r) d (index g p))) (rows_of r f p)

    record Holds (t : ℕ) (h : List ℕ) : Type 0 where
      kept : Kept f h
      rows : (p : Place) → Inside r p → rows_of r h p ≡ upto t p

    begin : Holds 0 f
    unfolding upto
    begin = record { kept = kept_refl f; rows = λ p hp. go p (has g p) }
      where
        go : (p : Place) (b : Bool) → rows_of r f p ≡ cond (b && ltb (index g p) 0) (bytes (chunk (item_bytes r) d (index g p))) (rows_of r f p)
        go p false = refl
        go p true = rw (le-ltb (index g p) 0 (omega arith))

    module _ (t : ℕ) (l : t < size_of g) where
      upto_same : upto (suc t) (place_at g t) ≡ bytes (chunk (item_bytes r) d t)
      unfolding upto
      upto_same = rw (has_at g t l, index_at g t, lt-ltb t (suc t) (le_refl (suc t)))

      upto_other : (p : Place) → p ≢ place_at g t → upto (suc t) p ≡ upto t p
      unfolding upto
      upto_other p ne = go (has g p) refl
        where
          go : (b : Bool) → has g p ≡ b
              → cond (b && ltb (index g p) (suc t)) (bytes (chunk (item_bytes r) d (index g p))) (rows_of r f p)
              ≡ cond (b && ltb (index g p) t) (bytes (chunk (item_bytes r) d (index g p))) (rows_of r f p)
          go false e = refl
          go true e = rw (ltb_step (index g p) t (λ s. ne (index_inj g p t (has-true g p e) l s)))

      advance : (h : List ℕ) → Holds t h → Holds (suc t) (store r h (place_at g t) (chunk (item_bytes r) d t))
      advance h H = record { kept = step_kept ok f g d room cov t h l H.kept; rows = λ p hp. go p hp (place_dec p (place_at g t)) }
        where
          b : List ℕ
          b = chunk (item_bytes r) d t

          here : Held r h (place_at g t)
          here = held_at ok f g d room cov h H.kept t l

          go : (p : Place) → Inside r p → Dec (p ≡ place_at g t) → rows_of r (store r h (place_at g t) b) p ≡ upto (suc t) p
          go p hp (yes e) =
              ap (rows_of r (store r h (place_at g t) b)) e ∙ store_same ok h (place_at g t) here b (chunk_full g d room t l) ∙ sym upto_same ∙ ap (upto (suc t)) (sym e)
          go p hp (no n) = store_other ok h (place_at g t) here b (chunk_full g d room t l) (kept_valid f h H.kept v) p hp n ∙ H.rows p hp ∙ sym (upto_other p n)

    all-written : Holds (size_of g) (written r g d f)
    all-written = written_rule g d f Holds begin (λ t h l H. advance t l h H)

    -- each row is as the ledger says
    pub written-rows : (p : Place) → Inside r p → rows_of r (written r g d f) p ≡ cond (has g p) (bytes (chunk (item_bytes r) d (index g p))) (rows_of r f p)
    unfolding upto
    written-rows p hp = all-written.rows p hp ∙ go (has g p) refl
      where
        go : (b : Bool) → has g p ≡ b
            → cond (b && ltb (index g p) (size_of g)) (bytes (chunk (item_bytes r) d (index g p))) (rows_of r f p)
            ≡ cond b (bytes (chunk (item_bytes r) d (index g p))) (rows_of r f p)
        go false e = refl
        go true e = rw (lt-ltb (index g p) (size_of g) (index-lt g p (has-true g p e)))
