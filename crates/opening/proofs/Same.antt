-- A file that has the length and the header bytes of a cube is a cube with the same record. Assumes nothing.
use mathlib.Core.List.{List}
use mathlib.Core.Path.{◌≡◌, sym, ap, ◌∙◌}
use Prim.Native.Nat.{ℕ, ◌+◌, ◌*◌, ◌≤◌, ◌<◌}
use native.Mathlib.Omega.{arith}
use lib.ListN.{length, get_or, take}
use Rattle.geometry.specs.Limits.{text_start}
use Rattle.endian.specs.Bytes.{peek}
use Rattle.endian.proofs.Bytes.{le_same}
use Rattle.endian.proofs.Puts.{front_byte, peek-take}
use Rattle.record.specs.Header.{three_at, two_at, id_at, version_of, description_of, text_length_of, text_of}
use Rattle.record.specs.Record.{bricks_of, table_of, header_of, record_of}
use Rattle.record.specs.declared.Description.{Description}
use Rattle.record.specs.declared.Record.{Record}
use Rattle.record.specs.Answers.{Taken}
use Rattle.table.specs.Entries.{kind_in}
use Rattle.table.proofs.Tables.{header_table, names_same}
use Rattle.opening.specs.Opening.{open_verdict, record_in}
use Rattle.opening.specs.Cube.{Cube, OpensExactly}
use Rattle.opening.proofs.Header.{text_before}
use Rattle.opening.proofs.Rules.{opens_exactly}

-- the headers end after the fields, the text and the table
header_long : (d : Description) (t : ℕ) → (text_start + t ≤ header_of d t) × (table_of d t + 8 * bricks_of d ≡ header_of d t)
header_long d t = (omega (arith, text_before d t, header_table d t), sym (header_table d t))

module _ (f h : List ℕ) (same : (i : ℕ) → i < text_start → get_or h i 0 ≡ get_or f i 0) where
  -- fields of the header
  three-same : (a : ℕ) → a + 12 ≤ text_start → three_at h a ≡ three_at f a
  three-same a l =
      rw (le_same 4 h f a (λ i lo hi. same i (omega arith)), le_same 4 h f (a + 4) (λ i lo hi. same i (omega arith)), le_same 4 h f (a + 8) (λ i lo hi. same i (omega arith)))

  two-same : (a : ℕ) → a + 8 ≤ text_start → two_at h a ≡ two_at f a
  two-same a l = rw (le_same 4 h f a (λ i lo hi. same i (omega arith)), le_same 4 h f (a + 4) (λ i lo hi. same i (omega arith)))

  id_same : (a : ℕ) → a + 16 ≤ text_start → id_at h a ≡ id_at f a
  id_same a l =
      let b : (k : ℕ) → k < 16 → get_or h (a + k) 0 ≡ get_or f (a + k) 0 = λ k m. same (a + k) (omega arith) in
      rw (
        same a (omega arith),
        b 1 (omega arith),
        b 2 (omega arith),
        b 3 (omega arith),
        b 4 (omega arith),
        b 5 (omega arith),
        b 6 (omega arith),
        b 7 (omega arith),
        b 8 (omega arith),
        b 9 (omega arith),
        b 10 (omega arith),
        b 11 (omega arith),
        b 12 (omega arith),
        b 13 (omega arith),
        b 14 (omega arith),
        b 15 (omega arith),
      )

  version-same : version_of h ≡ version_of f
  unfolding version_of
  version-same = le_same 4 h f 4 (λ i lo hi. same i (omega arith))

  text_length-same : text_length_of h ≡ text_length_of f
  unfolding text_length_of
  text_length-same = le_same 4 h f (9 + 333) (λ i lo hi. same i (omega arith))

  description_same : description_of h ≡ description_of f
  unfolding description_of
  description_same = λ x. record {
    side = three-same 9 (omega arith) x;
    datatype = same 21 (omega arith) x;
    range = two-same 22 (omega arith) x;
    dataid = id_same 30 (omega arith) x;
    verid = id_same 46 (omega arith) x;
    previd = id_same 62 (omega arith) x;
    srctype = same 78 (omega arith) x;
    orig = three-same 79 (omega arith) x;
    inc = three-same 91 (omega arith) x;
    size = three-same 103 (omega arith) x;
    hdim = same 324 (omega arith) x;
    hfactor = le_same 8 h f 325 (λ i lo hi. same i (omega arith)) x;
    vdim = same 333 (omega arith) x;
    vfactor = le_same 8 h f 334 (λ i lo hi. same i (omega arith)) x;
  }

module _ (f h : List ℕ) (long : length h ≡ length f) (c : Cube f)
    (front : take (header_of (description_of f) (text_length_of f)) h ≡ take (header_of (description_of f) (text_length_of f)) f) where
  abbrev end : ℕ
  end = header_of (description_of f) (text_length_of f)

  same_byte : (i : ℕ) → i < end → get_or h i 0 ≡ get_or f i 0
  same_byte i l = front_byte h f end i front l

  in_header : (i : ℕ) → i < text_start → get_or h i 0 ≡ get_or f i 0
  in_header i l = same_byte i (omega (arith, header_long (description_of f) (text_length_of f)))

  same_part : (a n : ℕ) → a + n ≤ end → peek h a n ≡ peek f a n
  same_part a n l =
      peek-take h end a n (omega (arith, long, c.rule10)) l ∙ ap (λ (x : List ℕ). peek x a n) front ∙ sym (peek-take f end a n c.rule10 l)

  pub same_record : record_in h ≡ record_in f
  unfolding record_in
  same_record = rw (version-same f h in_header, description_same f h in_header, text_length-same f h in_header, long)

  same_kind : (e : ℕ) → e < bricks_of (description_of f) → kind_in (record_in h) h e ≡ kind_in (record_in f) f e
  unfolding record_in record_of
  same_kind e l =
      ap (λ (r : Record). kind_in r h e) same_record
      ∙ names_same (record_in f) h e f (λ i lo hi. same_byte i (omega (arith, header_long (description_of f) (text_length_of f))))

  same-cube : Cube h
  same-cube =
      let ed = description_same f h in_header in
      let et = text_length-same f h in_header in
      let ex : text_of h (text_length_of f) ≡ text_of f (text_length_of f) = same_part text_start (text_length_of f) (header_long (description_of f) (text_length_of f)).0 in
      record {
        rule1 = rw long c.rule1;
        rule2 = same_part 0 4 (omega (arith, header_long (description_of f) (text_length_of f))) ∙ c.rule2;
        rule3 = rw (version-same f h in_header) c.rule3;
        rule4 = rw ed c.rule4;
        rule5 = rw ed c.rule5;
        rule6 = rw ed c.rule6;
        rule7 = rw ed c.rule7;
        rule8 = rw ed c.rule8;
        rule9 = rw et c.rule9;
        rule10 = rw (ed, et, long) c.rule10;
        rule11 = rw (et, ex) c.rule11;
        rule12 = rw (ed, et, long) (λ e o l s. c.rule12 e o l (sym (same_kind e l) ∙ s));
        rule13 = rw ed (λ d e o p m l s t. c.rule13 d e o p m l (sym (same_kind d (omega arith)) ∙ s) (sym (same_kind e l) ∙ t));
      }

  pub same-opens : open_verdict h ≡ Taken
  unfolding OpensExactly
  same-opens = (opens_exactly h).1 same-cube
