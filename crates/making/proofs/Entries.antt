-- The text, the entries and the bricks of a made file, read again. Assumes nothing.
use mathlib.Core.List.{List, ◌++◌, append_assoc}
use mathlib.Core.Logic.{⊎_elim}
use mathlib.Core.Path.{◌≡◌, refl, ap, ◌∙◌}
use Prim.Native.Nat.{ℕ, ◌+◌, ◌-◌, ◌*◌, ◌%◌, ◌^◌, ◌≤◌, ◌<◌}
use native.Mathlib.Omega.{arith}
use lib.ListN.{length, take, drop, replicate, length-append}
use lib.Seq.{take_at, drop_at, drop-append-add}
use Rattle.geometry.specs.Limits.{text_start}
use Rattle.endian.specs.Loops.{cat}
use Rattle.endian.specs.Bytes.{peek, le}
use Rattle.endian.proofs.Digits.{next_item}
use Rattle.record.specs.Types.{width_of}
use Rattle.record.specs.Header.{text_of}
use Rattle.record.specs.Record.{alphas_of, bricks_of, brick_bytes_of, table_of, header_of, record_of}
use Rattle.record.specs.declared.Description.{Description}
use Rattle.record.specs.Answers.{Taken}
use Rattle.checks.specs.Checks.{described}
use Rattle.checks.proofs.Described.{described-all, described-width}
use Rattle.table.specs.Entries.{word_at, table_in, word_in, kind_in, Width}
use Rattle.table.specs.declared.Kind.TheVariants as kind
use Rattle.table.proofs.Tables.{names_constant, names_offset}
use Rattle.making.specs.Making.{zero_bytes, file_header, info_header, first_brick, entry_bytes, after_headers, made_file}
use Rattle.making.specs.MadeOpens.{brick_at, made_kind}
use Rattle.making.specs.declared.Fill.{Fill}
use Rattle.making.specs.declared.Fill.TheVariants.{Constant, Stored}
use Rattle.endian.proofs.Bytes.{le-lows}
use Rattle.making.proofs.Bytes.{le-after, le-cat, peek-zeros}
use Rattle.making.proofs.Sizes.{header_few, brick-few, first-brick, bricks-bytes}
use Rattle.making.proofs.Files.{file_header_length, info_header_length, entry_length, before_table, before_length, headers-length}

-- ---- the file in two parts, at its text and at its table

regroup : (a b c x y t z : List ℕ) → a ++ b ++ c ++ x ++ y ++ t ++ z ≡ a ++ b ++ (c ++ (x ++ (y ++ (t ++ z))))
regroup a b c x y t z = simp append_assoc

-- what follows the text
abbrev pub after_text : Description → List ℕ → Fill → List ℕ
after_text d text fill =
    zero_bytes 2064 ++ (zero_bytes (8 * alphas_of d) ++ (cat (bricks_of d) (entry_bytes d (length text) fill) ++ zero_bytes (after_headers d (length text) fill)))

pub at_text : (d : Description) (text : List ℕ) (fill : Fill) → made_file d text fill ≡ file_header ++ info_header d (length text) ++ (text ++ after_text d text fill)
unfolding made_file
at_text d text fill =
    regroup file_header (info_header d (length text)) text (zero_bytes 2064) (zero_bytes (8 * alphas_of d)) (cat (bricks_of d) (entry_bytes d (length text) fill)) (zero_bytes (after_headers d (length text) fill))

pub at_table : (d : Description) (text : List ℕ) (fill : Fill)
    → made_file d text fill ≡ before_table d text ++ (cat (bricks_of d) (entry_bytes d (length text) fill) ++ zero_bytes (after_headers d (length text) fill))
unfolding made_file
at_table d text fill =
    append_assoc (before_table d text) (cat (bricks_of d) (entry_bytes d (length text) fill)) (zero_bytes (after_headers d (length text) fill))

pub text_read : (d : Description) (text : List ℕ) (fill : Fill) → text_of (made_file d text fill) (length text) ≡ text
text_read d text fill =
    let head : length (file_header ++ info_header d (length text)) ≡ text_start = length-append file_header (info_header d (length text)) ∙ omega (arith, file_header_length, info_header_length d (length text)) in
    ap (λ (f : List ℕ). take (length text) (drop text_start f)) (at_text d text fill)
    ∙ ap (λ (f : List ℕ). take (length text) f) (drop_at (file_header ++ info_header d (length text)) (text ++ after_text d text fill) text_start head)
    ∙ take_at text (after_text d text fill) (length text) refl

-- ---- entries

entry_word_lem : (d : Description) (text : List ℕ) (fill : Fill) (e : ℕ) → e < bricks_of d
    → le 8 (made_file d text fill) (table_of d (length text) + 8 * e) ≡ le 8 (entry_bytes d (length text) fill e) 0
entry_word_lem d text fill e h =
    ap (λ (f : List ℕ). le 8 f (table_of d (length text) + 8 * e)) (at_table d text fill)
    ∙ le-after 8 (before_table d text) _ (table_of d (length text) + 8 * e) (e * 8) (omega (arith, before_length d text))
    ∙ le-cat 8 (bricks_of d) e (entry_bytes d (length text) fill) (zero_bytes (after_headers d (length text) fill)) (entry_length d (length text) fill) h

top_bit : (w : ℕ) → Width w → 2 ^ 63 % 256 ^ w ≡ 0
top_bit w = ⊎_elim (λ (e : w ≡ 1). rw e) (⊎_elim (λ (e : w ≡ 2). rw e) (λ (e : w ≡ 4). rw e))

header_real : (d : Description) (n : ℕ) → 2 ≤ header_of d n
unfolding header_of
header_real d n = omega arith

-- where a brick is stored
pub record Placed (d : Description) (n e : ℕ) : Type 0 where
  pub after_header : header_of d n ≤ brick_at d n e
  pub inside : brick_at d n e + brick_bytes_of d ≤ header_of d n + (first_brick d n - header_of d n + bricks_of d * brick_bytes_of d)
  pub not_low : 2 ≤ brick_at d n e
  pub small : brick_at d n e < 2 ^ 63

module _ (d : Description) (n : ℕ) (taken : described d n ≡ Taken) where
  pub placed : (e : ℕ) → e < bricks_of d → Placed d n e
  unfolding first_brick
  placed e h =
      let q = first-brick d n taken in
      let within : e * brick_bytes_of d + brick_bytes_of d ≤ bricks_of d * brick_bytes_of d = next_item (brick_bytes_of d) e (bricks_of d) h in
      let few = header_few d n taken in
      let brick = brick-few d n taken in
      let all = bricks-bytes d n taken in
      let real = header_real d n in
      record { after_header = omega (arith, q); inside = omega (arith, q); not_low = omega (arith, q); small = omega (arith, q) }

-- what the entries name, for a record of the description and the text's length
module _ (d : Description) (text : List ℕ) (v m : ℕ) where
  made_word : (fill : Fill) (e : ℕ) → e < bricks_of d
      → word_in (record_of v d (length text) m) (made_file d text fill) e ≡ le 8 (entry_bytes d (length text) fill e) 0
  unfolding word_in word_at table_in record_of
  made_word fill e h = entry_word_lem d text fill e h

  pub kinds_read : (fill : Fill) → described d (length text) ≡ Taken → (e : ℕ) → e < bricks_of d
      → kind_in (record_of v d (length text) m) (made_file d text fill) e ≡ made_kind d (length text) fill e
  unfolding record_of
  kinds_read Constant taken e h =
      let q : word_in (record_of v d (length text) m) (made_file d text Constant) e ≡ 2 ^ 63 = made_word Constant e h ∙ le-lows 8 (2 ^ 63) (omega arith) in
      names_constant _ _ e (omega arith) ∙ rw q (ap kind.Constant (top_bit (width_of d.datatype) (described-width d _ (described-all d _ taken))))
  kinds_read Stored taken e h =
      let p = placed d (length text) taken e h in
      let q : word_in (record_of v d (length text) m) (made_file d text Stored) e ≡ brick_at d (length text) e =
      made_word Stored e h ∙ le-lows 8 _ (omega (arith, p.small)) in
      names_offset _ _ e (omega (arith, p.not_low)) (omega (arith, p.small)) ∙ ap kind.Stored q

-- ---- bricks

pub brick_read : (d : Description) (text : List ℕ) → described d (length text) ≡ Taken → (e : ℕ) → e < bricks_of d
    → peek (made_file d text Stored) (brick_at d (length text) e) (brick_bytes_of d) ≡ replicate (brick_bytes_of d) 0
unfolding made_file
brick_read d text taken e h =
    let n = length text in
    let p = placed d n taken e h in
    let y = before_table d text ++ cat (bricks_of d) (entry_bytes d n Stored) in
    let r = first_brick d n - header_of d n + bricks_of d * brick_bytes_of d in
    let k = brick_at d n e - header_of d n in
    let place : brick_at d n e ≡ length y + k = omega (arith, headers-length d text Stored, p.after_header) in
    ap (λ (a : ℕ). take (brick_bytes_of d) (drop a (y ++ zero_bytes r))) place
    ∙ ap (λ (l : List ℕ). take (brick_bytes_of d) l) (drop-append-add y (zero_bytes r) k)
    ∙ peek-zeros k (brick_bytes_of d) r (omega (arith, p.inside, p.after_header))
