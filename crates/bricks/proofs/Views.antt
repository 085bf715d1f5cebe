-- The verdicts of brick view and what it shows. Assumes nothing.
use mathlib.Core.Bool.{true, false}
use mathlib.Core.List.{List}
use mathlib.Core.Logic.{◌⊎◌, ⊎_elim}
use mathlib.Core.Path.{◌≡◌, ◌∙◌}
use Prim.Native.Nat.{ℕ, ◌+◌, ◌-◌, ◌*◌, ◌/◌, ◌≤◌, ◌<◌}
use native.Mathlib.Nat.{mul_assoc}
use native.Mathlib.Omega.{arith}
use lib.ListN.{length, take, drop}
use denote.Ref.{Bor}
use borrow.Author.Tests.{lt-ltb, le-ltb, ltb-false}
use Rattle.std.proofs.lemmas.Bool.{not-false}
use Rattle.record.specs.Answers.{refused, Taken}
use Rattle.record.specs.Types.{width_of}
use Rattle.record.specs.Record.{side_of, brick_bytes_of}
use Rattle.record.specs.declared.Description.{Description}
use Rattle.record.specs.declared.Record.{Record}
use Rattle.record.specs.declared.Refusal.{Refusal}
use Rattle.checks.specs.Checks.{all3, side_ok, breaks4}
use Rattle.checks.proofs.Described.{passed, all3-each, side_multiple, Described}
use Rattle.table.specs.declared.Kind.{Kind}
use Rattle.table.specs.declared.Kind.TheVariants.{Missing, Constant}
use Rattle.table.specs.Entries.{kind_in}
use Rattle.opening.proofs.Rules.{both_taken}
use Rattle.cube.specs.declared.MissingBrick.{MissingBrick}
use Rattle.cube.specs.Places.{item_bytes, missing_brick}
use Rattle.bricks.specs.Bricks.{fill_of, filled_with, room_verdict, value_verdict, filler_verdict, kind_verdict, shown_verdict, view_verdict, View, of_file, of_filler, shown_of, view_of, Shows}
use Rattle.record.specs.declared.Refusal.TheVariants as refusal

four_times : (a b c w m : ℕ) → a ≡ 4 * m → a * b * c * w ≡ 4 * (m * b * c * w)
four_times a b c w m e = rw e (simp mul_assoc)

-- a brick is a whole number of words, since its first side is
pub brick_words : (d : Description) (t : ℕ) → Described d t → brick_bytes_of d ≡ 4 * (brick_bytes_of d / 4)
unfolding brick_bytes_of breaks4
brick_words d t p =
    let s = all3-each side_ok d.side (not-false (all3 side_ok d.side) p.not4) in
    let m = side_multiple (side_of d 0) s.0 in
    let q : brick_bytes_of d ≡ 4 * (m.0 * side_of d 1 * side_of d 2 * width_of d.datatype) = four_times _ _ _ _ m.0 m.1 in
    omega arith

-- ---- the filler of a brick that is not stored
module _ (r : Record) (k : Kind) (filler : List ℕ) where
  pub filler_18 : length filler < brick_bytes_of r.description → filler_verdict r k filler ≡ refused refusal.Room
  unfolding filler_verdict room_verdict
  filler_18 h = simp (lt-ltb _ _ h)

  pub filler_17 : brick_bytes_of r.description ≤ length filler → filled_with (fill_of r k) filler (item_bytes r) (brick_bytes_of r.description) ≡ false → filler_verdict r k filler ≡ refused refusal.Filler
  unfolding filler_verdict room_verdict value_verdict
  filler_17 h e = simp (le-ltb _ _ h, e)

  pub filler_taken : brick_bytes_of r.description ≤ length filler → filled_with (fill_of r k) filler (item_bytes r) (brick_bytes_of r.description) ≡ true → filler_verdict r k filler ≡ Taken
  unfolding filler_verdict room_verdict value_verdict
  filler_taken h e = simp (le-ltb _ _ h, e)

  pub filler_long : filler_verdict r k filler ≡ Taken → brick_bytes_of r.description ≤ length filler
  unfolding filler_verdict room_verdict
  filler_long e = ltb-false _ _ (passed _ _ _ (both_taken (room_verdict r filler) (value_verdict r k filler) e).0).0

-- a missing brick is filled as a constant one of the value that it reads as
pub as_missing : (r : Record) (x : MissingBrick) (filler : List ℕ) → x ≡ missing_brick r → filler_verdict r (Constant x.value) filler ≡ filler_verdict r Missing filler
unfolding filler_verdict value_verdict
as_missing r x filler e = rw e

-- ---- the view
pub view_parts : (r : Record) (f filler : List ℕ) (e : ℕ) → view_verdict r f filler e ≡ Taken → (kind_verdict r f e ≡ Taken) × (shown_verdict r (kind_in r f e) filler ≡ Taken)
unfolding view_verdict
view_parts r f filler e t = both_taken (kind_verdict r f e) _ t

module _ (r : Record) (f filler : List ℕ) (e : ℕ) where
  pub view_refused : (x : Refusal) → kind_verdict r f e ≡ refused x → view_verdict r f filler e ≡ refused x
  unfolding view_verdict
  view_refused x v = simp v

  pub view_taken : kind_verdict r f e ≡ Taken → view_verdict r f filler e ≡ shown_verdict r (kind_in r f e) filler
  unfolding view_verdict
  view_taken v = simp v

  -- the filler of a brick that is shown and not stored is long enough
  pub missing-long : view_verdict r f filler e ≡ Taken → kind_in r f e ≡ Missing → brick_bytes_of r.description ≤ length filler
  missing-long t k = filler_long r Missing filler (rw k at (view_parts r f filler e t).1)

  pub constant_long : (v : ℕ) → view_verdict r f filler e ≡ Taken → kind_in r f e ≡ Constant v → brick_bytes_of r.description ≤ length filler
  constant_long v t k = filler_long r (Constant v) filler (rw k at (view_parts r f filler e t).1)

  -- what is shown, refused and taken, by the brick's kind
  pub view_none : (x : Refusal) → view_verdict r f filler e ≡ refused x → view_of r f filler e ≡ of_file 0 0
  unfolding view_of
  view_none x v = simp v

  pub view_kind : (k : Kind) → view_verdict r f filler e ≡ Taken → kind_in r f e ≡ k → view_of r f filler e ≡ shown_of k (brick_bytes_of r.description)
  unfolding view_of
  view_kind k v q = simp (v, q)

  -- a brick that is not stored: the filler is long enough, and its start is shown
  pub filler_shown : (k : Kind) → view_verdict r f filler e ≡ Taken → kind_in r f e ≡ k → (k ≡ Missing) ⊎ ((v : ℕ) × (k ≡ Constant v))
      → (brick_bytes_of r.description ≤ length filler) × (view_of r f filler e ≡ of_filler (brick_bytes_of r.description))
  filler_shown k t q = ⊎_elim
      (λ (m : k ≡ Missing). (missing-long t (q ∙ m), view_kind _ t (q ∙ m)))
      (λ (p : (v : ℕ) × (k ≡ Constant v)). (constant_long p.0 t (q ∙ p.1), view_kind _ t (q ∙ p.1)))

-- a part of the file, and the start of the filler, as they are lent on
module _ {v : View} {file filler s : Bor (List ℕ)} where
  pub shows_file : (o n m : ℕ) → v ≡ of_file o n → m ≡ n → s.now ≡ take (o + m - o) (drop o file.now) → s.ref_ptr ≡ (file.ref_ptr.0, o + file.ref_ptr.1)
      → Shows v file filler s
  shows_file o n m e q b p =
      let k : o + m - o ≡ n = omega arith in
      let h : o + file.ref_ptr.1 ≡ file.ref_ptr.1 + o = omega arith in
      rw e (record { bytes_are = rw k at b; place_is = rw h at p })

  pub shows_filler : (n m : ℕ) → v ≡ of_filler n → m ≡ n → s.now ≡ take (m - 0) filler.now → s.ref_ptr ≡ (filler.ref_ptr.0, 0 + filler.ref_ptr.1) → Shows v file filler s
  shows_filler n m e q b p =
      let k : m - 0 ≡ n = omega arith in
      let h : 0 + filler.ref_ptr.1 ≡ filler.ref_ptr.1 = omega arith in
      rw e (record { bytes_are = rw k at b; place_is = rw h at p })
