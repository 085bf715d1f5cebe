-- The fields of a made header, read again: everything up to the text is computed. Assumes nothing.
use mathlib.Core.Bool.{false}
use mathlib.Core.List.{List, [], ◌∷◌, ◌++◌}
use mathlib.Core.Path.{◌≡◌, refl}
use Prim.Native.Nat.{ℕ, suc, ◌<◌}
use native.Mathlib.Omega.{arith}
use lib.ListN.{get_or, length}
use Rattle.endian.specs.Bytes.{le, lows}
use Rattle.record.specs.Header.{version_of, description_of, text_length_of}
use Rattle.record.specs.declared.Description.{Description}
use Rattle.checks.specs.Checks.{breaks2}
use Rattle.making.specs.Making.{file_header, brick_fields, id_fields, grid_fields, current_fields, survey_fields, unit_fields, info_header}
use Rattle.making.specs.MadeOpens.{Items, Machine}
use Rattle.endian.proofs.Bytes.{le-lows}

-- a list of two, three, sixteen numbers
two_of : (l : List ℕ) → length l ≡ 2 → get_or l 0 0 ∷ get_or l 1 0 ∷ [] ≡ l
two_of [] e = absurd (omega arith)
two_of (a ∷ []) e = absurd (omega arith)
two_of (a ∷ b ∷ []) e = refl
two_of (a ∷ b ∷ c ∷ l) e = absurd (omega arith)

cons_of : (l : List ℕ) (n : ℕ) → length l ≡ suc n → (x : ℕ) × (t : List ℕ) × (length t ≡ n) × (l ≡ x ∷ t)
cons_of [] n e = absurd (omega arith)
cons_of (x ∷ t) n e = (x, t, omega arith, refl)

three_of : (l : List ℕ) → length l ≡ 3 → get_or l 0 0 ∷ get_or l 1 0 ∷ get_or l 2 0 ∷ [] ≡ l
three_of l e = let (x, t, n, q) = cons_of l 2 e in rw (q, two_of t n)

nine_of : (l : List ℕ) → length l ≡ 9
    → get_or l 0 0 ∷ get_or l 1 0 ∷ get_or l 2 0 ∷ get_or l 3 0 ∷ get_or l 4 0 ∷ get_or l 5 0 ∷ get_or l 6 0 ∷ get_or l 7 0 ∷ get_or l 8 0 ∷ [] ≡ l
nine_of l e =
    let (a, l1, n1, q1) = cons_of l 8 e in
    let (b, l2, n2, q2) = cons_of l1 7 n1 in
    let (c, l3, n3, q3) = cons_of l2 6 n2 in
    let (d, l4, n4, q4) = cons_of l3 5 n3 in
    let (f, l5, n5, q5) = cons_of l4 4 n4 in
    let (g, l6, n6, q6) = cons_of l5 3 n5 in
    rw (q1, q2, q3, q4, q5, q6, three_of l6 n6)

sixteen_of : (l : List ℕ) → length l ≡ 16
    → get_or l 0 0 ∷ get_or l 1 0 ∷ get_or l 2 0 ∷ get_or l 3 0 ∷ get_or l 4 0 ∷ get_or l 5 0 ∷ get_or l 6 0 ∷ get_or l 7 0
    ∷ get_or l 8 0 ∷ get_or l 9 0 ∷ get_or l 10 0 ∷ get_or l 11 0 ∷ get_or l 12 0 ∷ get_or l 13 0 ∷ get_or l 14 0 ∷ get_or l 15 0 ∷ [] ≡ l
sixteen_of l e =
    let (a, l1, n1, q1) = cons_of l 15 e in
    let (b, l2, n2, q2) = cons_of l1 14 n1 in
    let (c, l3, n3, q3) = cons_of l2 13 n2 in
    let (d, l4, n4, q4) = cons_of l3 12 n3 in
    let (f, l5, n5, q5) = cons_of l4 11 n4 in
    let (g, l6, n6, q6) = cons_of l5 10 n5 in
    let (h, l7, n7, q7) = cons_of l6 9 n6 in
    rw (q1, q2, q3, q4, q5, q6, q7, nine_of l7 n7)

-- fields of 32 bits, written and read again
three_read : (l : List ℕ) → Items 3 4294967296 l
    → le 4 (lows 4 (get_or l 0 0)) 0 ∷ le 4 (lows 4 (get_or l 1 0)) 0 ∷ le 4 (lows 4 (get_or l 2 0)) 0 ∷ [] ≡ l
three_read l m = rw (le-lows 4 _ (m.below 0), le-lows 4 _ (m.below 1), le-lows 4 _ (m.below 2)) (three_of l m.count)

two_read : (l : List ℕ) → Items 2 4294967296 l → le 4 (lows 4 (get_or l 0 0)) 0 ∷ le 4 (lows 4 (get_or l 1 0)) 0 ∷ [] ≡ l
two_read l m = rw (le-lows 4 _ (m.below 0), le-lows 4 _ (m.below 1)) (two_of l m.count)

rebuilt : (d : Description) (side : List ℕ) (datatype : ℕ) (range dataid verid previd : List ℕ) (srctype : ℕ) (orig inc size : List ℕ) (hdim hfactor vdim vfactor : ℕ)
    → side ≡ d.side → datatype ≡ d.datatype → range ≡ d.range → dataid ≡ d.dataid → verid ≡ d.verid → previd ≡ d.previd → srctype ≡ d.srctype
    → orig ≡ d.orig → inc ≡ d.inc → size ≡ d.size → hdim ≡ d.hdim → hfactor ≡ d.hfactor → vdim ≡ d.vdim → vfactor ≡ d.vfactor
    → ◌≡◌ {A = Description} (record { side = side; datatype = datatype; range = range; dataid = dataid; verid = verid; previd = previd; srctype = srctype; orig = orig; inc = inc; size = size; hdim = hdim; hfactor = hfactor; vdim = vdim; vfactor = vfactor }) d
rebuilt d side datatype range dataid verid previd srctype orig inc size hdim hfactor vdim vfactor e1 e2 e3 e4 e5 e6 e7 e8 e9 e10 e11 e12 e13 e14 =
    rw (e1, e2, e3, e4, e5, e6, e7, e8, e9, e10, e11, e12, e13, e14)

-- the headers of a cube with a text of n bytes, with what follows them
abbrev pub front : Description → ℕ → List ℕ → List ℕ
front d n rest = file_header ++ info_header d n ++ rest

module _ (d : Description) (n : ℕ) (rest : List ℕ) where
  pub front_magic : breaks2 (front d n rest) ≡ false
  unfolding breaks2 file_header
  front_magic = refl

  pub front_version : version_of (front d n rest) ≡ 3
  unfolding version_of file_header lows le
  front_version = refl

  pub front_text : n < 4294967296 → text_length_of (front d n rest) ≡ n
  unfolding text_length_of file_header info_header brick_fields id_fields grid_fields current_fields survey_fields unit_fields lows le
  front_text h = le-lows 4 n h

  -- every field of the description
  pub front_description : Machine d → description_of (front d n rest) ≡ d
  unfolding description_of file_header info_header brick_fields id_fields grid_fields current_fields survey_fields unit_fields lows le
  front_description m =
      rebuilt d _ _ _ _ _ _ _ _ _ _ _ _ _ _
      (three_read d.side m.side)
      refl
      (two_read d.range m.range)
      (sixteen_of d.dataid m.dataid.count)
      (sixteen_of d.verid m.verid.count)
      (sixteen_of d.previd m.previd.count)
      refl
      (three_read d.orig m.orig)
      (three_read d.inc m.inc)
      (three_read d.size m.size)
      refl
      (le-lows 8 d.hfactor m.hfactor)
      refl
      (le-lows 8 d.vfactor m.vfactor)
