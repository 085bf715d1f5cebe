-- A piece that is copied by way of a buffer of its own, a block in two pieces, and blocks from the front with a last one over the end. Assumes nothing.
use Prim.Native.Nat.{ℕ, ◌+◌, ◌-◌, ◌≤◌}
use mathlib.Core.Path.{◌≡◌, sym, ap, ap₂, ◌∙◌}
use mathlib.Core.List.{List, ◌++◌, append-nil}
use native.Mathlib.Omega.{arith}
use lib.ListN.{length, take, drop, length-drop, take-append-drop, drop_of_length-le}
use lib.Seq.{take_all, take_at, take-take, take-append-le, take-add, drop-drop}
use borrow.Rule.Slice.PartMut.{put_mid, mid_of}
use Rattle.endian.specs.Bytes.{peek, put}
use Rattle.endian.proofs.Puts.{length-peek, put-put}
use Rattle.endian.proofs.Parts.{Filled, filled_part}

-- ---- a part given by its start and its end
module _ (f : List ℕ) (at size : ℕ) (fits : at + size ≤ length f) where
  pub part_is : mid_of at (at + size - at) f ≡ peek f at size
  part_is =
      let k : at + size - at ≡ size = omega arith in
      ap (λ (n : ℕ). take n (drop at f)) k

  pub part_length : length (mid_of at (at + size - at) f) ≡ size
  part_length = ap length part_is ∙ length-peek f at size fits

  pub part_put : (bs : List ℕ) → length bs ≡ size → put_mid at (at + size - at) f bs ≡ put f at bs
  part_put bs e =
      let k : at + (at + size - at) ≡ at + length bs = omega arith in
      ap (λ (x : List ℕ). take at f ++ (bs ++ x)) (drop-drop (at + size - at) at f ∙ ap (λ (n : ℕ). drop n f) k)

-- ---- the front of a buffer, which holds ys
module _ (ys zs : List ℕ) (size : ℕ) (long : length ys ≡ size) where
  pub front_is : take size (ys ++ zs) ≡ ys
  front_is = take_at ys zs size long

-- ---- a block in two pieces, the first of m bytes
module _ (src out : List ℕ) (at m size : ℕ) (less : m ≤ size) (in_src : at + size ≤ length src) (in-out : at + size ≤ length out) where
  peek-two : peek src at m ++ peek src (at + m) (size - m) ≡ peek src at size
  peek-two =
      let k : m + (size - m) ≡ size = omega arith in
      ap (λ (x : List ℕ). peek src at m ++ take (size - m) x) (sym (drop-drop m at src))
      ∙ sym (take-add m (size - m) (drop at src))
      ∙ ap (λ (n : ℕ). peek src at n) k

  pub put_two : put (put out at (peek src at m)) (at + m) (peek src (at + m) (size - m)) ≡ put out at (peek src at size)
  put_two =
      let x : length (peek src at m) ≡ m = length-peek src at m (omega arith) in
      let y : length (peek src (at + m) (size - m)) ≡ size - m = length-peek src (at + m) (size - m) (omega arith) in
      let k : at + m ≡ at + length (peek src at m) = omega arith in
      ap (λ (n : ℕ). put (put out at (peek src at m)) n (peek src (at + m) (size - m))) k
      ∙ put-put out at (peek src at m) (peek src (at + m) (size - m)) (omega arith)
      ∙ ap (put out at) peek-two

-- ---- the first t bytes of out are those of src
module _ (src : List ℕ) {d out : List ℕ} {t : ℕ} (same : length src ≡ length d) (front : Filled d (take t src) out t) where
  pub block_more : (size : ℕ) → t + size ≤ length src → Filled d (take (t + size) src) (put out t (peek src t size)) (t + size)
  block_more size fits =
      let room : t + size ≤ length out = omega (arith, front.size) in
      let n : length (peek src t size) ≡ size = length-peek src t size fits in
      rw (← part_put out t size room (peek src t size) n)
      (filled_part (peek src t size) front (omega arith) (omega arith) (n ∙ sym (part_length out t size room)) (take-add t size src))

  -- the last block ends where src does, and starts before t or at it
  pub block_last : (last size : ℕ) → last ≤ t → last + size ≡ length src → put out last (peek src last size) ≡ src
  block_last last size before end =
      let n : length (peek src last size) ≡ size = length-peek src last size (omega arith) in
      let all : length (drop last src) ≤ size = rw length-drop (omega arith) in
      let past : length out ≤ last + length (peek src last size) = omega (arith, front.size) in
      let start : take last out ≡ take last src =
      ap (take last) front.same ∙ take-append-le last (take t src) (drop t d) (omega (arith, front.long)) ∙ take-take last t src before in
      ap₂ ◌++◌ start (ap (λ (x : List ℕ). peek src last size ++ x) (drop_of_length-le out past) ∙ append-nil (peek src last size) ∙ take_all size (drop last src) all)
      ∙ take-append-drop last src
