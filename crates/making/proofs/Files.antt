-- The made file: as it is poured, its length, and the answers. Assumes nothing.
use mathlib.Core.Bool.{true, false}
use mathlib.Core.List.{List, ◌++◌}
use mathlib.Core.Path.{◌≡◌, refl, sym, ap, ◌∙◌}
use Prim.Native.Nat.{ℕ, ◌+◌, ◌*◌, ◌≤◌, ◌<◌}
use native.Mathlib.Nat.{zero-add}
use native.Mathlib.Omega.{arith}
use lib.ListN.{length, drop, length-append, length-drop, length-replicate, replicate}
use lib.Seq.{take_all}
use borrow.Author.Tests.{lt-ltb, le-ltb, ltb-false}
use Rattle.endian.specs.Loops.{cat}
use Rattle.endian.specs.Bytes.{lows}
use Rattle.text.specs.Text.{poured, Pours}
use Rattle.record.specs.Answers.{refused, and_then, Verdict, Taken}
use Rattle.record.specs.Record.{bricks_of, alphas_of, table_of, header_of}
use Rattle.record.specs.declared.Description.{Description}
use Rattle.record.specs.declared.Refusal.{Refusal}
use Rattle.checks.specs.Checks.{breaks11, described}
use Rattle.checks.proofs.Described.{passed}
use Rattle.making.specs.Making.{zero_bytes, file_header, brick_fields, id_fields, grid_fields, current_fields, survey_fields, unit_fields, info_header, entry_bytes, after_headers, made_length, made_file, make_verdict, make_answer, make_buffer}
use Rattle.making.specs.Plan.{stepped, first_entry, entry_step, plan_of, headed, rest_verdict}
use Rattle.making.specs.declared.Fill.{Fill}
use Rattle.making.specs.declared.Fill.TheVariants.{Constant, Stored}
use Rattle.making.specs.declared.Plan.{Plan}
use Rattle.endian.proofs.Cats.{cat-same, length-cat}
use Rattle.endian.proofs.Puts.{length-lows}
use Rattle.record.specs.declared.Refusal.TheVariants as refusal
use Rattle.std.specs.Prelude.{Ok, Err}

-- an entry, from the first and the step
pub entry_is : (d : Description) (n : ℕ) (fill : Fill) (e : ℕ) → stepped (first_entry d n fill) (entry_step d fill) e ≡ entry_bytes d n fill e
entry_is d n Constant e = ap (lows 8) (omega arith)
entry_is d n Stored e = refl

-- the file as it is poured
pub cube-is : (d : Description) (text : List ℕ) (fill : Fill) (p : Plan) → p ≡ plan_of d (length text) fill
    → headed d text ++ zero_bytes (8 * p.alphas) ++ cat p.bricks (stepped p.first p.step) ++ zero_bytes p.after ≡ made_file d text fill
unfolding plan_of headed made_file
cube-is d text fill p e =
    rw (e, cat-same (bricks_of d) (stepped (first_entry d (length text) fill) (entry_step d fill)) (entry_bytes d (length text) fill) (λ e _. entry_is d (length text) fill e))

-- ---- lengths

pub file_header_length : length file_header ≡ 9
unfolding file_header lows
file_header_length = refl

pub info_header_length : (d : Description) (n : ℕ) → length (info_header d n) ≡ 337
unfolding info_header brick_fields id_fields grid_fields current_fields survey_fields unit_fields lows
info_header_length d n = refl

pub entry_length : (d : Description) (n : ℕ) (fill : Fill) (e : ℕ) → length (entry_bytes d n fill e) ≡ 8
entry_length d n Constant e = length-lows 8 _
entry_length d n Stored e = length-lows 8 _

pub table_length : (d : Description) (n : ℕ) (fill : Fill) (m : ℕ) → length (cat m (entry_bytes d n fill)) ≡ 8 * m
table_length d n fill m = omega (arith, length-cat m 8 (entry_bytes d n fill) (λ e _. entry_length d n fill e))

-- the headers before the brick table
abbrev pub before_table : Description → List ℕ → List ℕ
before_table d text = file_header ++ info_header d (length text) ++ text ++ zero_bytes 2064 ++ zero_bytes (8 * alphas_of d)

lengths5 : (a b c : List ℕ) (x y : ℕ) → length (a ++ b ++ c ++ replicate x 0 ++ replicate y 0) ≡ length a + length b + length c + x + y
lengths5 a b c x y = simp (length-append, length-replicate)

pub before_length : (d : Description) (text : List ℕ) → length (before_table d text) ≡ table_of d (length text)
unfolding table_of
before_length d text =
    lengths5 file_header (info_header d (length text)) text 2064 (8 * alphas_of d)
    ∙ omega (arith, file_header_length, info_header_length d (length text))

pub headers-length : (d : Description) (text : List ℕ) (fill : Fill) → length (before_table d text ++ cat (bricks_of d) (entry_bytes d (length text) fill)) ≡ header_of d (length text)
unfolding table_of header_of
headers-length d text fill =
    length-append (before_table d text) (cat (bricks_of d) (entry_bytes d (length text) fill))
    ∙ omega (arith, before_length d text, table_length d (length text) fill (bricks_of d))

pub file_length : (d : Description) (text : List ℕ) (fill : Fill) → length (made_file d text fill) ≡ made_length d (length text) fill
unfolding made_file made_length
file_length d text fill =
    let n = length text in
    length-append (before_table d text ++ cat (bricks_of d) (entry_bytes d n fill)) (zero_bytes (after_headers d n fill))
    ∙ omega (arith, headers-length d text fill, length-replicate {A = ℕ} (after_headers d n fill) 0)

-- ---- verdicts and answers

module _ (d : Description) (text : List ℕ) (fill : Fill) (room : ℕ) where
  pub making_refused : (v : Verdict) (x : Refusal) → v ≡ described d (length text) → v ≡ refused x → v ≡ make_verdict d text fill room
  unfolding make_verdict
  making_refused v x e r = r ∙ rw (sym e ∙ r)

  pub making_rest : (v : Verdict) → described d (length text) ≡ Taken → v ≡ rest_verdict d text fill room → v ≡ make_verdict d text fill room
  unfolding make_verdict rest_verdict
  making_rest v e r = r ∙ rw e

  pub rest_11 : breaks11 text ≡ true → refused refusal.Text ≡ rest_verdict d text fill room
  unfolding rest_verdict
  rest_11 e = simp e

  pub rest_18 : (n : ℕ) → n ≡ made_length d (length text) fill → breaks11 text ≡ false → room < n → refused refusal.Room ≡ rest_verdict d text fill room
  unfolding rest_verdict
  rest_18 n q e h = simp (e, sym q, lt-ltb room n h)

  pub rest-taken : (n : ℕ) → n ≡ made_length d (length text) fill → breaks11 text ≡ false → n ≤ room → Taken ≡ rest_verdict d text fill room
  unfolding rest_verdict
  rest-taken n q e h = simp (e, sym q, le-ltb room n h)

-- what a taken verdict owes
pub record Checked (d : Description) (text : List ℕ) (fill : Fill) (room : ℕ) : Type 0 where
  pub is-described : described d (length text) ≡ Taken
  pub five : breaks11 text ≡ false
  pub fits : made_length d (length text) fill ≤ room

then_taken : (v later : Verdict) → and_then v later ≡ Taken → (v ≡ Taken) × (later ≡ Taken)
then_taken (Ok u) later e = (refl, e)
then_taken (Err x) later e = let z : ◌≡◌ {A = ℕ} 0 1 = cc in absurd (omega arith)

pub checked : (d : Description) (text : List ℕ) (fill : Fill) (room : ℕ) → make_verdict d text fill room ≡ Taken → Checked d text fill room
unfolding make_verdict
checked d text fill room e =
    let a = then_taken _ _ e in
    let b = passed _ _ _ a.1 in
    let c = passed _ _ _ b.1 in
    record { is-described = a.0; five = b.0; fits = ltb-false _ _ c.0 }

-- where there is room, what is poured from the start stands there, and what follows stays
pub poured_front : (out bs : List ℕ) → length bs ≤ length out → poured out 0 bs ≡ bs ++ drop (length bs) out
unfolding poured
poured_front out bs h =
    let z : 0 + length bs ≡ length bs = zero-add (length bs) in
    rw z (take_all (length out) (bs ++ drop (length bs) out) (omega (arith, length-append bs (drop (length bs) out), length-drop (length bs) out)))

module _ (d : Description) (text : List ℕ) (fill : Fill) (out : List ℕ) where
  pub made_refused : (x : Refusal) → make_verdict d text fill (length out) ≡ refused x
      → (Err x ≡ make_answer d text fill (length out)) × (out ≡ make_buffer d text fill out)
  unfolding make_answer make_buffer
  made_refused x e = (rw e, rw e)

  pub made_taken : (out' : List ℕ) (r : ℕ) → make_verdict d text fill (length out) ≡ Taken → Pours out 0 (made_file d text fill) out' r
      → (Ok r ≡ make_answer d text fill (length out)) × (out' ≡ make_buffer d text fill out)
  unfolding make_answer make_buffer
  made_taken out' r e p =
      let f = made_file d text fill in
      let long : length f ≤ length out = omega (arith, file_length d text fill, (checked d text fill (length out) e).fits) in
      let place : r ≡ made_length d (length text) fill = omega (arith, p.place, file_length d text fill) in
      (rw (e, place), rw e (p.bytes ∙ poured_front out f long))
