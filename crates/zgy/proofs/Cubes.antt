-- Demand 2. Assumes nothing.
use mathlib.Core.List.{List, [], ◌∷◌}
use mathlib.Core.Path.{◌≡◌, refl, sym, ap, ◌∙◌}
use Prim.Native.Nat.{ℕ, zero, suc, ◌+◌, ◌-◌, ◌*◌, ◌≤◌}
use native.Mathlib.Omega.{arith}
use lib.Ieee.{Float, nan}
use lib.ListN.{get_or, length, drop, replicate, length-append, length-drop, get_or-append}
use lib.Seq.{get_or-append-add, get_or-drop}
use Rattle.endian.specs.Bytes.{lows}
use Rattle.endian.proofs.Digits.{next_item}
use Rattle.endian.proofs.Puts.{peek_front}
use Rattle.record.specs.declared.Record.{Record}
use Rattle.table.specs.Entries.{word_at, table_in, word_in}
use Rattle.table.specs.declared.Kind.{Kind}
use Rattle.table.proofs.Tables.{names_missing, names_zero, names_constant, names_offset}
use Rattle.opening.specs.Opening.{record_in}
use Rattle.opening.proofs.Rules.{opens_exactly, record_passes}
use Rattle.cube.specs.declared.Region.{Region}
use Rattle.cube.specs.Places.{Place, Row, bytes, item_bytes, brick_of, byte_of, row_in, rows_of}
use Rattle.cube.specs.Regions.{size_of, raw_rows, float_rows, over}
use Rattle.cube.specs.Calls.{raw, floats}
use Rattle.cube.proofs.Calls.{taken-raw, taken_float}
use Rattle.cube.proofs.Regions.{raw_passed, float_passed}
use Rattle.cube.proofs.Rows.{passed_width, passed_length, raw-item, float_item, float_length}
use Rattle.making.proofs.Bytes.{lows_mod}
use Rattle.making.proofs.Opens.{made_opens}
use Rattle.zgy.specs.Cubes.{entry_word, RulesPut, ReadsGive, OpensReadsAndMakes}

lows-zero : (n : ℕ) → lows n 0 ≡ replicate n 0
unfolding lows
lows-zero zero = refl
lows-zero (suc n) = ap (λ (l : List ℕ). 0 ∷ l) (lows-zero n)

-- ---- a buffer whose front is overwritten by s

module _ {A : Type 0} (s b : List A) (fits : length s ≤ length b) where
  over-length : length (over s b) ≡ length b
  over-length = length-append s (drop (length s) b) ∙ rw length-drop (omega arith)

  over-after : (x : ℕ) (d : A) → length s ≤ x → get_or (over s b) x d ≡ get_or b x d
  over-after x d h =
      let e : x ≡ length s + (x - length s) = omega arith in
      ap (λ (n : ℕ). get_or (over s b) n d) e ∙ get_or-append-add s (drop (length s) b) (x - length s) d ∙ get_or-drop (length s) b (x - length s) d
      ∙ ap (λ (n : ℕ). get_or b n d) (sym e)

module _ (r : Record) (f : List ℕ) where
  -- the entry's word, as the table has it
  word_is : (p : Place) → entry_word r f p ≡ word_in r f (brick_of r p)
  unfolding word_in word_at table_in
  word_is p = refl

  puts : (p : Place) → RulesPut r f p
  unfolding rows_of byte_of
  puts p =
      let e : ℕ = brick_of r p in
      let w = word_is p in
      let row : Kind → Row = λ k. row_in r k f p in
      record {
        of_zero = λ q. ap row (names_missing r f e (sym w ∙ q));
        of_one = λ q. ap row (names_zero r f e (sym w ∙ q)) ∙ ap bytes (lows-zero (item_bytes r));
        of_top_bit = λ q. ap row (names_constant r f e (rw w at q)) ∙ ap bytes (lows_mod (item_bytes r) (word_in r f e) ∙ ap (lows (item_bytes r)) (sym w));
        of_offset = λ q l. ap row (names_offset r f e (rw w at q) (rw w at l)) ∙ rw w;
      }

  reads : (g : Region) → ReadsGive r f g
  reads g = record {
    raw-gives = λ b b' e q.
        let h = raw_passed r f g (length b) e in
        let s : List ℕ = raw_rows r (rows_of r f) g in
        let n : length s ≡ size_of g * item_bytes r = passed_length r f g _ _ h in
        let is : b' ≡ over s b = raw_inj (q ∙ taken-raw r f g b e) in
        rw is
        (record {
          room = over-length s b (omega (arith, h.enough));
          each = λ t l.
              peek_front s (drop (length s) b) (t * item_bytes r) (item_bytes r) (omega (arith, next_item (item_bytes r) t (size_of g) l))
              ∙ raw-item r g (rows_of r f) (passed_width r f g _ _ h) t l;
          after = λ x l. over-after s b (omega (arith, h.enough)) x 0 (omega arith);
        });
    float_gives = λ b b' e q.
        let h = float_passed r f g (length b) e in
        let s : List Float = float_rows r (rows_of r f) g in
        let n : length s ≡ size_of g = float_length r g (rows_of r f) in
        let is : b' ≡ over s b = float_inj (q ∙ taken_float r f g b e) in
        rw is
        (record {
          room = over-length s b (omega (arith, h.enough));
          each = λ t l. get_or-append s (drop (length s) b) nan t (omega arith) ∙ float_item r g (rows_of r f) t l;
          after = λ x l. over-after s b (omega (arith, h.enough)) x nan (omega arith);
        });
  }
    where
      raw_inj : {x y : List ℕ} → raw x ∷ [] ≡ raw y ∷ [] → x ≡ y
      raw_inj e = cc

      float_inj : {x y : List Float} → floats x ∷ [] ≡ floats y ∷ [] → x ≡ y
      float_inj e = cc

pub opens-reads-and-makes : OpensReadsAndMakes
opens-reads-and-makes = record {
  opens = opens_exactly;
  passes = record_passes;
  puts = λ f e p. puts (record_in f) f p;
  reads = λ f e g. reads (record_in f) f g;
  makes = made_opens;
}
