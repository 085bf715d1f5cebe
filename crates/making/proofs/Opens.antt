-- A made cube opens again. Assumes nothing.
use mathlib.Core.Bool.{false}
use mathlib.Core.List.{List}
use mathlib.Core.Logic.{◌⊎◌, inl}
use mathlib.Core.Path.{◌≡◌, refl, sym, ◌∙◌}
use Prim.Native.Nat.{ℕ, ◌+◌, ◌-◌, ◌*◌, ◌≤◌, ◌<◌}
use native.Mathlib.Omega.{arith}
use lib.ListN.{get_or, length, replicate}
use Rattle.geometry.specs.Limits.{text_start}
use Rattle.endian.specs.Bytes.{Bytes, peek}
use Rattle.endian.proofs.Digits.{next_item}
use Rattle.record.specs.Header.{version_of, description_of, text_length_of, text_of}
use Rattle.record.specs.Record.{alphas_of, bricks_of, brick_bytes_of, header_of, record_of}
use Rattle.record.specs.declared.Description.{Description}
use Rattle.record.specs.declared.Record.{Record}
use Rattle.record.specs.Answers.{Taken}
use Rattle.checks.specs.Checks.{breaks2, breaks3, breaks11, described}
use Rattle.checks.proofs.Described.{described-all}
use Rattle.table.specs.Entries.{kind_in, breaks12, breaks13}
use Rattle.table.specs.declared.Kind.TheVariants as kind
use Rattle.table.proofs.Tables.{inside-passes, apart_passes}
use Rattle.opening.specs.Opening.{record_in}
use Rattle.opening.proofs.Rules.{Passed, passed_opened}
use Rattle.making.specs.Making.{three, stored_id, survey_of, file_header, brick_fields, id_fields, grid_fields, current_fields, survey_fields, unit_fields, info_header, first_brick, entry_bytes, after_headers, made_length, made_file}
use Rattle.making.specs.MadeOpens.{Items, Machine, brick_at, made_kind, MadeOpens}
use Rattle.making.specs.declared.Fill.{Fill}
use Rattle.making.specs.declared.Fill.TheVariants.{Constant, Stored}
use Rattle.making.proofs.Bytes.{IsBytes, cons_bytes, one_byte, ◌and◌, lows-bytes, zeros-bytes, cat-bytes}
use Rattle.making.proofs.Sizes.{text_few}
use Rattle.making.proofs.Files.{checked, file_length}
use Rattle.making.proofs.Fields.{front_magic, front_version, front_text, front_description}
use Rattle.making.proofs.Entries.{at_text, text_read, placed, kinds_read, brick_read}

-- ---- every number of the file is a byte

three-bytes : (l : List ℕ) → IsBytes (three l)
three-bytes l = lows-bytes 4 (get_or l 0 0) and lows-bytes 4 (get_or l 1 0) and lows-bytes 4 (get_or l 2 0)

id_bytes : (l : List ℕ) → Items 16 256 l → IsBytes (stored_id l)
id_bytes l m =
    cons_bytes (m.below 3) (cons_bytes (m.below 2) (cons_bytes (m.below 1) (cons_bytes (m.below 0)
    (cons_bytes (m.below 5) (cons_bytes (m.below 4) (cons_bytes (m.below 7) (cons_bytes (m.below 6)
    (cons_bytes (m.below 8) (cons_bytes (m.below 9) (cons_bytes (m.below 10) (cons_bytes (m.below 11)
    (cons_bytes (m.below 12) (cons_bytes (m.below 13) (cons_bytes (m.below 14) (one_byte (m.below 15))))))))))))))))

module _ (d : Description) (m : Machine d) where
  brick-bytes : IsBytes (brick_fields d)
  unfolding brick_fields
  brick-bytes = three-bytes d.side and one_byte m.datatype and lows-bytes 4 (get_or d.range 0 0) and lows-bytes 4 (get_or d.range 1 0)

  ids_bytes : IsBytes (id_fields d)
  unfolding id_fields
  ids_bytes = id_bytes d.dataid m.dataid and id_bytes d.verid m.verid and id_bytes d.previd m.previd and one_byte m.srctype

  grid-bytes : IsBytes (grid_fields d)
  unfolding grid_fields
  grid-bytes = three-bytes d.orig and three-bytes d.inc and three-bytes d.size

  current_bytes : IsBytes (current_fields d)
  unfolding current_fields
  current_bytes = zeros-bytes 12 and three-bytes d.size and zeros-bytes 32

  survey_bytes : IsBytes (survey_fields d)
  unfolding survey_fields
  survey_bytes =
      three-bytes d.orig and (lows-bytes 4 (survey_of d 0) and lows-bytes 4 (survey_of d 1) and lows-bytes 4 (survey_of d 2)) and one_byte (omega arith)

  unit_bytes : IsBytes (unit_fields d)
  unfolding unit_fields
  unit_bytes = one_byte m.hdim and lows-bytes 8 d.hfactor and one_byte m.vdim and lows-bytes 8 d.vfactor

  info_bytes : (n : ℕ) → IsBytes (info_header d n)
  unfolding info_header
  info_bytes n =
      brick-bytes and ids_bytes and grid-bytes and current_bytes and survey_bytes and zeros-bytes 128 and unit_bytes and lows-bytes 4 n

header_bytes : IsBytes file_header
unfolding file_header
header_bytes =
    cons_bytes (omega arith) (cons_bytes (omega arith) (cons_bytes (omega arith) (one_byte (omega arith)))) and lows-bytes 4 3 and one_byte (omega arith)

entry_bytes_lem : (d : Description) (n : ℕ) (fill : Fill) (e : ℕ) → IsBytes (entry_bytes d n fill e)
entry_bytes_lem d n Constant e = lows-bytes 8 _
entry_bytes_lem d n Stored e = lows-bytes 8 _

file_bytes : (d : Description) (text : List ℕ) (fill : Fill) → Machine d → Bytes text → IsBytes (made_file d text fill)
unfolding made_file
file_bytes d text fill m b =
    let n = length text in
    let given : IsBytes text = record { each = b } in
    header_bytes and info_bytes d m n and given and zeros-bytes 2064 and zeros-bytes (8 * alphas_of d)
    and cat-bytes (bricks_of d) (entry_bytes d n fill) (entry_bytes_lem d n fill)
    and zeros-bytes (after_headers d n fill)

-- ---- the file opens

-- what a made file says when it is read
abbrev made_record : Description → ℕ → Fill → Record
made_record d n fill = record_of 3 d n (made_length d n fill)

record Read (d : Description) (text : List ℕ) (fill : Fill) (f : List ℕ) : Type 0 where
  magic : breaks2 f ≡ false
  version : version_of f ≡ 3
  description : description_of f ≡ d
  text_length : text_length_of f ≡ length text
  file_long : length f ≡ made_length d (length text) fill
  text_is : text_of f (length text) ≡ text
  kinds_are : (e : ℕ) → e < bricks_of d → kind_in (made_record d (length text) fill) f e ≡ made_kind d (length text) fill e

read_made : (d : Description) (text : List ℕ) (fill : Fill) → Machine d → described d (length text) ≡ Taken → Read d text fill (made_file d text fill)
read_made d text fill m taken = record {
  magic = rw (at_text d text fill) (front_magic d (length text) _);
  version = rw (at_text d text fill) (front_version d (length text) _);
  description = rw (at_text d text fill) (front_description d (length text) _ m);
  text_length = rw (at_text d text fill) (front_text d (length text) _ (omega (arith, text_few d (length text) taken)));
  file_long = file_length d text fill;
  text_is = text_read d text fill;
  kinds_are = kinds_read d text 3 _ fill taken;
}

-- a made entry that is stored
stored_at : (d : Description) (n : ℕ) (fill : Fill) (e o : ℕ) → made_kind d n fill e ≡ kind.Stored o → (fill ≡ Stored) × (o ≡ brick_at d n e)
stored_at d n Constant e o q = let z : ◌≡◌ {A = ℕ} 0 1 = cc in absurd (omega arith)
stored_at d n Stored e o q = (refl, cc)

stored-long : (d : Description) (n : ℕ) (fill : Fill) → fill ≡ Stored → made_length d n fill ≡ header_of d n + (first_brick d n - header_of d n + bricks_of d * brick_bytes_of d)
unfolding made_length
stored-long d n fill e = rw e

module _ (d : Description) (text : List ℕ) (fill : Fill) (f : List ℕ) (taken : described d (length text) ≡ Taken) (r : Read d text fill f) where
  no_12 : (e : ℕ) → e < bricks_of d → breaks12 (made_record d (length text) fill) f e ≡ false
  unfolding record_of
  no_12 e h = inside-passes _ f e inside
    where
      inside : (o : ℕ) → kind_in (made_record d (length text) fill) f e ≡ kind.Stored o → (header_of d (length text) ≤ o) × (o + brick_bytes_of d ≤ length f)
      inside o k =
          let s = stored_at d (length text) fill e o (sym (r.kinds_are e h) ∙ k) in
          let p = placed d (length text) taken e h in
          (omega (arith, s.1, p.after_header), omega (arith, s.1, p.inside, r.file_long, stored-long d (length text) fill s.0))

  no_13 : (e : ℕ) → e < bricks_of d → breaks13 (made_record d (length text) fill) f e ≡ false
  unfolding record_of
  no_13 e h = apart_passes _ f e apart
    where
      apart : (a o p : ℕ) → a < e → kind_in (made_record d (length text) fill) f a ≡ kind.Stored o → kind_in (made_record d (length text) fill) f e ≡ kind.Stored p
          → (o + brick_bytes_of d ≤ p) ⊎ (p + brick_bytes_of d ≤ o)
      apart a o p g k l =
          let s = stored_at d (length text) fill a o (sym (r.kinds_are a (omega arith)) ∙ k) in
          let t = stored_at d (length text) fill e p (sym (r.kinds_are e h) ∙ l) in
          inl (omega (arith, s.1, t.1, next_item (brick_bytes_of d) a e g))

  header_fits : header_of d (length text) ≤ length f
  unfolding made_length
  header_fits = omega (arith, r.file_long)

  header_long : text_start ≤ header_of d (length text)
  unfolding header_of
  header_long = omega arith

  version_ok : breaks3 (version_of f) ≡ false
  unfolding breaks3
  version_ok = rw r.version

  record_is : record_in f ≡ made_record d (length text) fill
  unfolding record_in
  record_is = rw (r.version, r.description, r.text_length, r.file_long)

  passes : breaks11 text ≡ false → Passed f
  passes five = record {
    header = record {
      long = omega (arith, header_long, header_fits);
      not2 = r.magic;
      not3 = version_ok;
      is-described = rw (r.description, r.text_length) (described-all d (length text) taken);
    };
    long = rw (r.description, r.text_length) header_fits;
    not11 = rw (r.text_length, r.text_is) five;
    not12 = rw (r.description, record_is) no_12;
    not13 = rw (r.description, record_is) no_13;
  }

zeroed_read : (d : Description) (text : List ℕ) (fill : Fill) → described d (length text) ≡ Taken → fill ≡ Stored → (e : ℕ) → e < bricks_of d
    → peek (made_file d text fill) (brick_at d (length text) e) (brick_bytes_of d) ≡ replicate (brick_bytes_of d) 0
zeroed_read d text fill taken s e h = rw s (brick_read d text taken e h)

pub made_opens : MadeOpens
unfolding MadeOpens
made_opens d text fill room m b e =
    let c = checked d text fill room e in
    let r = read_made d text fill m c.is-described in
    let i = record_is d text fill (made_file d text fill) c.is-described r in
    record {
      bytes = (file_bytes d text fill m b).each;
      long = r.file_long;
      taken = passed_opened (made_file d text fill) (passes d text fill (made_file d text fill) c.is-described r c.five);
      same_record = i;
      same_text = r.text_is;
      kinds = rw i r.kinds_are;
      zeroed = zeroed_read d text fill c.is-described;
    }
