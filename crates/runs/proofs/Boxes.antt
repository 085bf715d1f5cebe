-- Laws of boxes: a buffer that is filled box by box is, in the end, the region's items in their order. Assumes nothing.
use Prim.Native.Nat.{ℕ, zero, suc, ◌+◌, ◌-◌, ◌*◌, ◌/◌, ◌%◌, ◌≤◌, ◌<◌, min}
use mathlib.Core.Bool.{Bool, true, false, ◌||◌, cond, and-or_distrib_left, and-or_distrib_right}
use mathlib.Core.Path.{◌≡◌, refl, sym, ap, ◌∙◌}
use mathlib.Core.List.{List, ◌++◌}
use native.Mathlib.Omega.{arith}
use native.Mathlib.Decide.{dec_lt}
use native.Mathlib.Nat.{zero-mul, suc-mul, add_assoc, add-mul, mul-zero, mul_assoc, mul-le-mul_right, mod-lt, div-add-mod', div-lt_iff_lt-mul, add-sub_of_le}
use lib.Arith.{digits_lt, digits_div, digits_mod}
use lib.ListN.{length, take, drop, length-drop, take-append-drop}
use lib.Seq.{length-take-le, take_all, take-add, drop-drop, drop_at, take-append-le, drop-append-le}
use borrow.Author.Tests.{lt-ltb, le-leb}
use borrow.Rule.Slice.PartMut.{put_mid, mid_len, same_len_mid, drop_put}
use Rattle.std.proofs.lemmas.Bool.{and_parts}
use Rattle.cube.proofs.Writes.{between-true}
use Rattle.endian.specs.Loops.{cat, tri}
use Rattle.endian.proofs.Digits.{tri_inj, next_item}
use Rattle.endian.proofs.Cats.{cat-same, length-cat, cat-cat, cat_part}
use Rattle.record.specs.Record.{side_of}
use Rattle.record.specs.declared.Record.{Record}
use Rattle.checks.proofs.Records.{Fit}
use Rattle.std.proofs.lemmas.Bool.{false_from_ne_true}
use Rattle.cube.specs.declared.Region.{Region}
use Rattle.cube.specs.Places.{brick_of, item_no}
use Rattle.cube.specs.Regions.{start_of, run_of, place, between}
use Rattle.cube.proofs.Places.{sides}
use Rattle.runs.specs.Boxes.{Along, in_box, item_at, Boxed}

-- ---- growing

-- a run from a, c long, has x, or has it not
between-yes : (a c x : ℕ) → a ≤ x → x < a + c → between a c x ≡ true
between-yes a c x h k = simp (le-leb a x h, lt-ltb x (a + c) k)

between_no : (a c x : ℕ) → (a ≤ x → x < a + c → ⊥) → between a c x ≡ false
between_no a c x f = false_from_ne_true (between a c x) (λ e. let h = between-true a c x e in f h.0 h.1)

-- a run with more after it
between_more : (a c d x : ℕ) → between a (c + d) x ≡ between a c x || between (a + c) d x
between_more a c d x = go (dec_lt x a) (dec_lt x (a + c)) (dec_lt x (a + c + d))
  where
    go : Dec (x < a) → Dec (x < a + c) → Dec (x < a + c + d) → between a (c + d) x ≡ between a c x || between (a + c) d x
    go (yes h) p q = rw (between_no a (c + d) x (λ u v. omega arith), between_no a c x (λ u v. omega arith), between_no (a + c) d x (λ u v. omega arith))
    go (no h) (yes p) q = rw (between-yes a (c + d) x (omega arith) (omega arith), between-yes a c x (omega arith) p)
    go (no h) (no p) (yes q) = rw (between-yes a (c + d) x (omega arith) (omega arith), between_no a c x (λ u v. omega arith), between-yes (a + c) d x (omega arith) q)
    go (no h) (no p) (no q) = rw (between_no a (c + d) x (λ u v. omega arith), between_no a c x (λ u v. omega arith), between_no (a + c) d x (λ u v. omega arith))

-- two choices of one thing are one
cond_or : {X : Type 0} (a b : Bool) (u v : X) → cond b u (cond a u v) ≡ cond (a || b) u v
cond_or true true u v = refl
cond_or true false u v = refl
cond_or false b u v = refl

module _ {A : Type 0} {w l m n : ℕ} {g : ℕ → ℕ → ℕ → List A} where
  -- a box that has the items of two
  boxed_both : {i ni j nj k nk i1 ni1 j1 nj1 k1 nk1 : ℕ} (i2 ni2 j2 nj2 k2 nk2 : ℕ) {d e f : List A} → Boxed w l m n g i ni j nj k nk d e → Boxed w l m n g i1 ni1 j1 nj1 k1 nk1 e f
      → ((x y z : ℕ) → in_box i2 ni2 j2 nj2 k2 nk2 x y z ≡ in_box i ni j nj k nk x y z || in_box i1 ni1 j1 nj1 k1 nk1 x y z) → Boxed w l m n g i2 ni2 j2 nj2 k2 nk2 d f
  boxed_both i2 ni2 j2 nj2 k2 nk2 a b or =
      record {
        size = b.size ∙ a.size;
        items = λ x y z hx hy hz. rw (b.items x y z hx hy hz, a.items x y z hx hy hz, or x y z, cond_or);
      }

  -- a box, and one beside it along each direction
  pub boxed_more0 : {i ni c j nj k nk : ℕ} {d e f : List A} → Boxed w l m n g i ni j nj k nk d e → Boxed w l m n g (i + ni) c j nj k nk e f → Boxed w l m n g i (ni + c) j nj k nk d f
  boxed_more0 {i} {ni} {c} {j} {nj} {k} {nk} a b = boxed_both i (ni + c) j nj k nk a b (λ x y z. rw (between_more i ni c x, and-or_distrib_right))

  pub boxed_more1 : {i ni j nj c k nk : ℕ} {d e f : List A} → Boxed w l m n g i ni j nj k nk d e → Boxed w l m n g i ni (j + nj) c k nk e f → Boxed w l m n g i ni j (nj + c) k nk d f
  boxed_more1 {i} {ni} {j} {nj} {c} {k} {nk} a b = boxed_both i ni j (nj + c) k nk a b (λ x y z. rw (between_more j nj c y, and-or_distrib_right, and-or_distrib_left))

  pub boxed_more2 : {i ni j nj k nk c : ℕ} {d e f : List A} → Boxed w l m n g i ni j nj k nk d e → Boxed w l m n g i ni j nj (k + nk) c e f → Boxed w l m n g i ni j nj k (nk + c) d f
  boxed_more2 {i} {ni} {j} {nj} {k} {nk} {c} a b = boxed_both i ni j nj k (nk + c) a b (λ x y z. rw (between_more k nk c z, and-or_distrib_left (between j nj y), and-or_distrib_left))

-- ---- numbers of three digits

-- the first digit, the second go up by t
tri-first : (m n a b c t : ℕ) → tri m n (a + t) b c ≡ tri m n a b c + t * (m * n)
tri-first m n a b c t = simp (add-mul, mul_assoc) (omega arith)

tri-second : (m n a b c t : ℕ) → tri m n a (b + t) c ≡ tri m n a b c + t * n
tri-second m n a b c t = simp add-mul (omega arith)

-- a factor of a number above another
no_zero : (q n s : ℕ) → s < q * n → 0 < n
no_zero q zero s h = absurd (omega (arith, mul-zero q))
no_zero q (suc n) s h = omega arith

-- where c items of a row, where nj whole rows lie: among the items, and in the buffer
run_in : (l m n i j k c : ℕ) → i < l → j < m → k + c ≤ n → tri m n i j k + c ≤ l * m * n
run_in l m n i j k c hi hj hk = omega (arith, next_item n (i * m + j) (l * m) (digits_lt hi hj))

rows_in : (l m n i j nj : ℕ) → i < l → j + nj ≤ m → tri m n i j 0 + nj * n ≤ l * m * n
rows_in l m n i j nj hi hj =
    let a : i * m + j + nj ≤ l * m = omega (arith, next_item m i l hi) in
    omega (arith, mul-le-mul_right n a, add-mul (i * m + j) nj n)

pub run_room : (l m n i j k c w : ℕ) → i < l → j < m → k + c ≤ n → tri m n i j k * w + c * w ≤ l * m * n * w
run_room l m n i j k c w hi hj hk = omega (arith, mul-le-mul_right w (run_in l m n i j k c hi hj hk), add-mul (tri m n i j k) c w)

pub rows-room : (l m n i j nj w : ℕ) → i < l → j + nj ≤ m → tri m n i j 0 * w + nj * n * w ≤ l * m * n * w
rows-room l m n i j nj w hi hj = omega (arith, mul-le-mul_right w (rows_in l m n i j nj hi hj), add-mul (tri m n i j 0) (nj * n) w)

-- ---- items

module _ {A : Type 0} (w : ℕ) where
  -- the first n items, one after the other
  items_front : (n : ℕ) (d : List A) → cat n (item_at w d) ≡ take (n * w) d
  unfolding cat
  items_front zero d = rw zero-mul
  items_front (suc n) d = rw (suc-mul n w, take-add (n * w) w d) (ap (λ (x : List A). x ++ item_at w d n) (items_front n d))

  -- a list of n items is its items, one after the other
  items-all : (n : ℕ) (d : List A) → length d ≡ n * w → d ≡ cat n (item_at w d)
  items-all n d e = sym (items_front n d ∙ take_all (n * w) d (omega arith))

  -- an item of the front of a list
  item_front : (x y : List A) (t : ℕ) → t * w + w ≤ length x → item_at w (x ++ y) t ≡ item_at w x t
  item_front x y t h = rw (drop-append-le (t * w) x y (omega arith)) (take-append-le w (drop (t * w) x) y (simp length-drop (omega arith)))

-- lists that are the same from e on are so from any later place on
drop-after : {A : Type 0} (x y : List A) (e b : ℕ) → e ≤ b → drop e x ≡ drop e y → drop b x ≡ drop b y
drop-after x y e b h q = rw (← add-sub_of_le h, ← drop-drop (b - e) e x, ← drop-drop (b - e) e y, q)

-- the part from the t0-th item on was lent, and came back as ys, c items: those before, those of the part, those after
module _ {A : Type 0} (w t0 c a e : ℕ) (d ys : List A) (ea : a ≡ t0 * w) (ee : e ≡ a + c * w) (long : length ys ≡ c * w) (room : e ≤ length d) where
  put_before : (t : ℕ) → t < t0 → item_at w (put_mid a (e - a) d ys) t ≡ item_at w d t
  put_before t h =
      let k : t * w + w ≤ length (take a d) = rw (length-take-le a d (omega arith)) (omega (arith, next_item w t t0 h)) in
      item_front w (take a d) _ t k ∙ sym (item_front w (take a d) (drop a d) t k) ∙ ap (λ (x : List A). item_at w x t) (take-append-drop a d)

  put_in : (s : ℕ) → s < c → item_at w (put_mid a (e - a) d ys) (t0 + s) ≡ item_at w ys s
  put_in s h =
      rw (add-mul t0 s w, ← ea, ← drop-drop (s * w) a (put_mid a (e - a) d ys), drop_at (take a d) (ys ++ drop (e - a) (drop a d)) a (length-take-le a d (omega arith)))
      (item_front w ys _ s (omega (arith, next_item w s c h)))

  put-after : (t : ℕ) → t0 + c ≤ t → item_at w (put_mid a (e - a) d ys) t ≡ item_at w d t
  put-after t h = ap (take w) (drop-after _ _ e (t * w) (omega (arith, mul-le-mul_right w h, add-mul t0 c w)) (drop_put a e d ys (omega arith) room (omega arith)))

-- ---- the items of a box

-- x, y, z is in the box: what the test says
record Within (i ni j nj k nk x y z : ℕ) : Type 0 where
  from0 : i ≤ x
  to0 : x < i + ni
  from1 : j ≤ y
  to1 : y < j + nj
  from2 : k ≤ z
  to2 : z < k + nk

within_box : (i ni j nj k nk x y z : ℕ) → Within i ni j nj k nk x y z → in_box i ni j nj k nk x y z ≡ true
within_box i ni j nj k nk x y z h = rw (between-yes i ni x h.from0 h.to0, between-yes j nj y h.from1 h.to1) (between-yes k nk z h.from2 h.to2)

box_within : (i ni j nj k nk x y z : ℕ) → in_box i ni j nj k nk x y z ≡ true → Within i ni j nj k nk x y z
box_within i ni j nj k nk x y z e =
    let p = and_parts (between i ni x) _ e in
    let q = and_parts (between j nj y) _ p.1 in
    let u = between-true i ni x p.0 in
    let v = between-true j nj y q.0 in
    let o = between-true k nk z q.1 in
    record { from0 = u.0; to0 = u.1; from1 = v.0; to1 = v.1; from2 = o.0; to2 = o.1 }

module _ {A : Type 0} {w l m n : ℕ} {g : ℕ → ℕ → ℕ → List A} where
  -- c items came back; they are the box's, and g's
  module _ (i ni j nj k nk t0 c a e : ℕ) (d ys : List A) (h : ℕ → List A) (size : length d ≡ l * m * n * w) (room : t0 + c ≤ l * m * n) (ea : a ≡ t0 * w) (ee : e ≡ a + c * w)
      (is : ys ≡ cat c h) (wide : (s : ℕ) → s < c → length (h s) ≡ w)
      (mine : (x y z s : ℕ) → x < l → y < m → z < n → s < c → tri m n x y z ≡ t0 + s → Within i ni j nj k nk x y z × (h s ≡ g x y z))
      (only : (x y z : ℕ) → z < n → Within i ni j nj k nk x y z → (t0 ≤ tri m n x y z) × (tri m n x y z < t0 + c)) where
    part_long : length ys ≡ c * w
    part_long = rw is (length-cat c w h wide)

    part_room : e ≤ length d
    part_room = omega (arith, mul-le-mul_right w room, add-mul t0 c w)

    part_else : (x y z : ℕ) → z < n → (t0 ≤ tri m n x y z → tri m n x y z < t0 + c → ⊥) → in_box i ni j nj k nk x y z ≡ false
    part_else x y z hz f = false_from_ne_true (in_box i ni j nj k nk x y z) (λ b. let o = only x y z hz (box_within i ni j nj k nk x y z b) in f o.0 o.1)

    part_item : (x y z : ℕ) → x < l → y < m → z < n → Dec (tri m n x y z < t0) → Dec (tri m n x y z < t0 + c)
        → item_at w (put_mid a (e - a) d ys) (tri m n x y z) ≡ cond (in_box i ni j nj k nk x y z) (g x y z) (item_at w d (tri m n x y z))
    part_item x y z hx hy hz (yes p) q = rw (part_else x y z hz (λ u v. omega arith)) (put_before w t0 c a e d ys ea ee part_long part_room (tri m n x y z) p)
    part_item x y z hx hy hz (no p) (yes q) =
        let s : ℕ = tri m n x y z - t0 in
        let es : tri m n x y z ≡ t0 + s = omega arith in
        let b = mine x y z s hx hy hz (omega arith) es in
        rw (within_box i ni j nj k nk x y z b.0, es) (put_in w t0 c a e d ys ea ee part_long part_room s (omega arith) ∙ ap (λ (v : List A). item_at w v s) is ∙ cat_part c w s h wide (omega arith) ∙ b.1)
    part_item x y z hx hy hz (no p) (no q) = rw (part_else x y z hz (λ u v. omega arith)) (put-after w t0 c a e d ys ea ee part_long part_room (tri m n x y z) (omega arith))

    boxed_part : Boxed w l m n g i ni j nj k nk d (put_mid a (e - a) d ys)
    boxed_part =
        record {
          size = same_len_mid a (e - a) d ys (omega (arith, part_long, mid_len a e d part_room));
          items = λ x y z hx hy hz. part_item x y z hx hy hz (dec_lt (tri m n x y z) t0) (dec_lt (tri m n x y z) (t0 + c));
        }

  -- the whole region
  pub boxed_all : {d e : List A} → length d ≡ l * m * n * w → Boxed w l m n g 0 l 0 m 0 n d e → e ≡ cat l (λ x. cat m (λ y. cat n (λ z. g x y z)))
  boxed_all {d} {e} h b =
      items-all w (l * m * n) e (b.size ∙ h)
      ∙ cat-same (l * m * n) _ _ (λ r hr.
      let on : 0 < n = no_zero (l * m) n r hr in
      let hq : r / n < l * m = (div-lt_iff_lt-mul on).1 hr in
      let om : 0 < m = no_zero l m (r / n) hq in
      let x : ℕ = r / n / m in
      let y : ℕ = r / n % m in
      let hx : x < l = (div-lt_iff_lt-mul om).1 hq in
      let hy : y < m = mod-lt (r / n) om in
      let hz : r % n < n = mod-lt r on in
      let q : tri m n x y (r % n) ≡ r = rw (div-add-mod' (r / n) m) (div-add-mod' r n) in
      ap (item_at w e) (sym q) ∙ b.items x y (r % n) hx hy hz
      ∙ rw (within_box 0 l 0 m 0 n x y (r % n) (search arith)))
      ∙ sym (cat-cat l m (λ x y. cat n (g x y)) ∙ cat-cat (l * m) n (λ q z. g (q / m) (q % m) z))

  -- ---- one lent part: c items of a row, or nj whole rows, came back as ys

  pub boxed_run : (i j k c a e : ℕ) (d ys : List A) → ((x y z : ℕ) → x < l → y < m → z < n → length (g x y z) ≡ w) → length d ≡ l * m * n * w
      → i < l → j < m → k + c ≤ n → a ≡ tri m n i j k * w → e ≡ a + c * w
      → ys ≡ cat c (λ t. g i j (k + t)) → Boxed w l m n g i 1 j 1 k c d (put_mid a (e - a) d ys)
  boxed_run i j k c a e d ys long size hi hj hk ea ee y =
      boxed_part i 1 j 1 k c (tri m n i j k) c a e d ys (λ t. g i j (k + t)) size (run_in l m n i j k c hi hj hk) ea ee y (λ s h. long i j (k + s) hi hj (omega arith))
      (λ x y z s hx hy hz h q.
      let p = tri_inj m n x y z i j (k + s) hy hj hz (omega arith) (omega arith) in
      (search arith, rw (p.0, p.1, p.2)))
      (λ x y z hz b.
      let p : x ≡ i = omega arith in
      let q : y ≡ j = omega arith in
      rw (p, q) (omega arith, omega arith))

  pub boxed_rows : (i j nj a e : ℕ) (d ys : List A) → ((x y z : ℕ) → x < l → y < m → z < n → length (g x y z) ≡ w) → length d ≡ l * m * n * w
      → i < l → j + nj ≤ m → a ≡ tri m n i j 0 * w → e ≡ a + nj * n * w
      → ys ≡ cat nj (λ s. cat n (λ t. g i (j + s) t)) → Boxed w l m n g i 1 j nj 0 n d (put_mid a (e - a) d ys)
  boxed_rows i j nj a e d ys long size hi hj ea ee y =
      boxed_part i 1 j nj 0 n (tri m n i j 0) (nj * n) a e d ys (λ s. g i (j + s / n) (s % n)) size (rows_in l m n i j nj hi hj) ea ee (y ∙ cat-cat nj n (λ s t. g i (j + s) t))
      (λ s h.
      let o : 0 < n = no_zero nj n s h in
      long i (j + s / n) (s % n) hi (omega (arith, (div-lt_iff_lt-mul o).1 h)) (mod-lt s o))
      (λ x y z s hx hy hz h q.
      let o : s / n < nj = (div-lt_iff_lt-mul (omega arith)).1 h in
      let p = tri_inj m n x y z i (j + s / n) (s % n) hy (omega arith) hz (mod-lt s (omega arith)) (omega (arith, tri-second m n i j (s % n) (s / n), div-add-mod' s n)) in
      (search arith, rw (p.0, p.1, p.2)))
      (λ x y z hz b.
      let p : x ≡ i = omega arith in
      rw p (omega (arith, mul-le-mul_right n b.from1, add-mul (i * m) j n, add-mul (i * m) y n), omega (arith, next_item n (i * m + y) (i * m + j + nj) (omega arith), add-mul (i * m + j) nj n)))

-- ---- inside a brick

-- what `left` answers
pub along : (r : Record) (g : Region) (d at n c : ℕ) → 0 < side_of r.description d → at < n → n ≡ run_of g d
    → c ≡ min (side_of r.description d - (start_of g d + at) % side_of r.description d) (n - at) → Along r g d at c
along r g d at n c side h e ec =
    let m = mod-lt (start_of g d + at) side in
    record { some = omega arith; within = omega arith; brick = omega arith }

-- t past x, and still in x's brick of side s
module _ (s x t : ℕ) (h : x % s + t < s) where
  past : x + t ≡ x / s * s + (x % s + t)
  past = omega (arith, div-add-mod' x s)

  past_brick : (x + t) / s ≡ x / s
  past_brick = rw past (digits_div (x / s) h)

  past_item : (x + t) % s ≡ x % s + t
  past_item = rw past (digits_mod (x / s) h)

-- the t-th inline, the t-th row of a box: its brick, and its first item
module _ (r : Record) (g : Region) (i j k t : ℕ) where
  pub inline-brick : (ni : ℕ) → Along r g 0 i ni → t < ni → brick_of r (place g (i + t) j k) ≡ brick_of r (place g i j k)
  unfolding brick_of
  inline-brick ni a h = rw (← add_assoc (start_of g 0) i t, past_brick (side_of r.description 0) (start_of g 0 + i) t (omega arith))

  pub inline-item : (ni : ℕ) → Along r g 0 i ni → t < ni → item_no r (place g (i + t) j k) ≡ item_no r (place g i j k) + t * (side_of r.description 1 * side_of r.description 2)
  unfolding item_no
  inline-item ni a h =
      rw (← add_assoc (start_of g 0) i t, past_item (side_of r.description 0) (start_of g 0 + i) t (omega arith))
      (tri-first (side_of r.description 1) (side_of r.description 2) _ _ _ t)

  pub row_brick : (nj : ℕ) → Along r g 1 j nj → t < nj → brick_of r (place g i (j + t) k) ≡ brick_of r (place g i j k)
  unfolding brick_of
  row_brick nj a h = rw (← add_assoc (start_of g 1) j t, past_brick (side_of r.description 1) (start_of g 1 + j) t (omega arith))

  pub row_item : (nj : ℕ) → Along r g 1 j nj → t < nj → item_no r (place g i (j + t) k) ≡ item_no r (place g i j k) + t * side_of r.description 2
  unfolding item_no
  row_item nj a h =
      rw (← add_assoc (start_of g 1) j t, past_item (side_of r.description 1) (start_of g 1 + j) t (omega arith))
      (tri-second (side_of r.description 1) (side_of r.description 2) _ _ _ t)

-- the items of a box's rows from one on are the brick's
pub row_fits : (r : Record) (g : Region) (i j k nj nk : ℕ) → Fit r → Along r g 1 j nj → Along r g 2 k nk
    → item_no r (place g i j k) + nk ≤ side_of r.description 0 * side_of r.description 1 * side_of r.description 2
unfolding item_no
row_fits r g i j k nj nk ok aj ak =
    run_in _ _ _ _ _ _ nk (mod-lt (start_of g 0 + i) (sides r ok).0) (mod-lt (start_of g 1 + j) (sides r ok).1) ak.brick

-- whole columns of a brick, one after the other
pub rows_fit : (r : Record) (g : Region) (i j nj : ℕ) → Fit r → Along r g 1 j nj → Along r g 2 0 (side_of r.description 2)
    → item_no r (place g i j 0) + nj * side_of r.description 2 ≤ side_of r.description 0 * side_of r.description 1 * side_of r.description 2
unfolding item_no
rows_fit r g i j nj ok aj ak =
    omega (arith, rows_in _ _ (side_of r.description 2) _ _ nj (mod-lt (start_of g 0 + i) (sides r ok).0) aj.brick, ak.brick)
