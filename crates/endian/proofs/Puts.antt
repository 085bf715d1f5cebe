-- Laws of a part of a file, and of a part overwritten. Assumes nothing.
use Prim.Native.Nat.{ℕ, zero, suc, ◌+◌, ◌-◌, ◌/◌, ◌≤◌, ◌<◌}
use mathlib.Core.Path.{◌≡◌, refl, sym, ap, ◌∙◌}
use mathlib.Core.List.{List, ◌++◌, append_assoc}
use native.Mathlib.Omega.{arith}
use native.Mathlib.Nat.{add_assoc, add-sub_of_le}
use lib.ListN.{length, get_or, take, drop, length-append, length-take, length-drop, take-append-drop}
use lib.Seq.{take_at, drop_at, take-append-le, drop-append-le, drop-append-add, drop-drop, take-take, length-take-le, get_or-take}
use Rattle.endian.specs.Bytes.{peek, put, lows}

module _ (f : List ℕ) (a : ℕ) (bs : List ℕ) (fits : a + length bs ≤ length f) where
  pub put-length : length (put f a bs) ≡ length f
  put-length = simp (length-append, length-take, length-drop) (omega arith)

  pub peek-put-same : peek (put f a bs) a (length bs) ≡ bs
  peek-put-same =
      ap (take (length bs)) (drop_at (take a f) (bs ++ drop (a + length bs) f) a (length-take-le a f (omega arith)))
      ∙ take_at bs (drop (a + length bs) f) (length bs) refl

  -- bytes before those overwritten
  pub take_put : (h : ℕ) → h ≤ a → take h (put f a bs) ≡ take h f
  take_put h l =
      take-append-le h (take a f) (bs ++ drop (a + length bs) f) (simp length-take (omega arith)) ∙ take-take h a f l

-- n bytes from b on are those of any front that has them
pub peek_front : (x y : List ℕ) (b n : ℕ) → b + n ≤ length x → peek (x ++ y) b n ≡ peek x b n
peek_front x y b n h =
    ap (take n) (drop-append-le b x y (omega arith)) ∙ take-append-le n (drop b x) y (simp length-drop (omega arith))

pub peek-take : (f : List ℕ) (h b n : ℕ) → h ≤ length f → b + n ≤ h → peek f b n ≡ peek (take h f) b n
peek-take f h b n l e =
    ap (λ (x : List ℕ). peek x b n) (sym (take-append-drop h f))
    ∙ peek_front (take h f) (drop h f) b n (simp length-take (omega arith))

-- a part of a part
pub peek_part : (f : List ℕ) (a m b k : ℕ) → a + m ≤ length f → b + k ≤ m → peek (peek f a m) b k ≡ peek f (a + b) k
peek_part f a m b k h l = sym (peek-take (drop a f) m b k (simp length-drop (omega arith)) l) ∙ ap (take k) (drop-drop b a f)

-- files with the same first h bytes have each of them
pub front_byte : (f g : List ℕ) (h i : ℕ) → take h f ≡ take h g → i < h → get_or f i 0 ≡ get_or g i 0
front_byte f g h i e l = sym (get_or-take h f i 0 l) ∙ ap (λ (x : List ℕ). get_or x i 0) e ∙ get_or-take h g i 0 l

drop_past : (x y : List ℕ) (b c : ℕ) → length x ≡ c → c ≤ b → drop b (x ++ y) ≡ drop (b - c) y
drop_past x y b c e h =
    let s : b ≡ length x + (b - c) = omega arith in
    ap (λ (n : ℕ). drop n (x ++ y)) s ∙ drop-append-add x y (b - c)

module _ (f : List ℕ) (a : ℕ) (bs : List ℕ) (fits : a + length bs ≤ length f) where
  pub drop-put-after : (b : ℕ) → a + length bs ≤ b → drop b (put f a bs) ≡ drop b f
  drop-put-after b h =
      ap (drop b) (sym (append_assoc (take a f) bs (drop (a + length bs) f)))
      ∙ drop_past (take a f ++ bs) (drop (a + length bs) f) b (a + length bs) (simp (length-append, length-take) (omega arith)) h
      ∙ drop-drop (b - (a + length bs)) (a + length bs) f
      ∙ ap (λ (x : ℕ). drop x f) (add-sub_of_le h)

  pub take-put_end : take (a + length bs) (put f a bs) ≡ take a f ++ bs
  take-put_end =
      ap (take (a + length bs)) (sym (append_assoc (take a f) bs (drop (a + length bs) f)))
      ∙ take_at (take a f ++ bs) (drop (a + length bs) f) (a + length bs) (simp (length-append, length-take) (omega arith))

  module _ (b n : ℕ) where
    pub peek-put_before : b + n ≤ a → peek (put f a bs) b n ≡ peek f b n
    peek-put_before h =
        peek_front (take a f) (bs ++ drop (a + length bs) f) b n (simp length-take (omega arith)) ∙ sym (peek-take f a b n (omega arith) h)

    pub peek-put-after : a + length bs ≤ b → peek (put f a bs) b n ≡ peek f b n
    peek-put-after h = ap (take n) (drop-put-after b h)

pub length-lows : (n v : ℕ) → length (lows n v) ≡ n
unfolding lows
length-lows zero v = refl
length-lows (suc n) v = ap suc (length-lows n (v / 256))

pub length-peek : (f : List ℕ) (a n : ℕ) → a + n ≤ length f → length (peek f a n) ≡ n
length-peek f a n h = simp (length-take, length-drop) (omega arith)

-- two overwrites side by side are one
pub put-put : (f : List ℕ) (a : ℕ) (x y : List ℕ) → a + length x + length y ≤ length f → put (put f a x) (a + length x) y ≡ put f a (x ++ y)
put-put f a x y h =
    rw (take-put_end f a x (omega arith), drop-put-after f a x (omega arith) (a + length x + length y) (omega arith))
    (simp (append_assoc, length-append, add_assoc))
