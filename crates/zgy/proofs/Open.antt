-- A cube that keeps its length, headers and entries is still open: it opens again with its record, no call on it is refused 12, and a write
-- changes the bytes of its samples alone. Assumes nothing.
use mathlib.Core.Bool.{Bool, true, false, not, ◌&&◌, cond}
use mathlib.Core.List.{List}
use mathlib.Core.Logic.{◌≢◌}
use mathlib.Core.Path.{◌≡◌, refl, sym, ap, ◌∙◌}
use Prim.Native.Nat.{ℕ, ◌<◌}
use native.Mathlib.Omega.{arith}
use lib.Dec.{leb, ltb}
use lib.ListN.{length}
use Rattle.endian.specs.Loops.{first}
use Rattle.record.specs.Answers.{number_of, refused, number, Verdict, Taken}
use Rattle.record.specs.declared.Refusal.{Refusal}
use Rattle.record.specs.Record.{record_of}
use Rattle.record.specs.declared.Record.{Record}
use Rattle.checks.specs.Fits.{breaks14_with}
use Rattle.table.specs.Entries.{breaks12}
use Rattle.table.proofs.Tables.{inside-passes}
use Rattle.opening.specs.Cube.{OpensExactly}
use Rattle.opening.specs.Opening.{open_verdict, record_in}
use Rattle.opening.proofs.Rules.{opens_exactly, finds_none}
use Rattle.opening.proofs.Same.{same_record, same-opens}
use Rattle.cube.specs.declared.Region.{Region}
use Rattle.cube.specs.Regions.{in_extent, touches, unless_touched, not_stored, region_verdict, raw_verdict, float_verdict, write_verdict}
use Rattle.cube.specs.Calls.{Call, raw_read, float_read, write, verdict_on, cube_after}
use Rattle.cube.specs.Written.{WrittenBytes}
use Rattle.cube.proofs.Valid.{entries, Valid}
use Rattle.cube.proofs.Regions.{write_passed}
use Rattle.cube.proofs.Writes.{Kept}
use Rattle.cube.proofs.Written.{written-bytes}
use Rattle.cube.proofs.Calls.{taken-write}
use Rattle.record.specs.declared.Refusal.TheVariants as refusal

module _ (f h : List ℕ) (e : open_verdict f ≡ Taken) (K : Kept (record_in f) f h) where
  pub kept-opens : open_verdict h ≡ Taken
  unfolding OpensExactly record_in record_of
  kept-opens = same-opens f h K.same_length ((opens_exactly f).0 e) K.same_header

  pub kept_record : record_in h ≡ record_in f
  unfolding OpensExactly record_in record_of
  kept_record = same_record f h K.same_length ((opens_exactly f).0 e) K.same_header

-- a check by another number, then later ones
by_check : (b : Bool) (x : Refusal) (later : Verdict) → number x ≢ 12 → number_of later ≢ 12 → number_of (cond b (refused x) later) ≢ 12
by_check true x later h l = h
by_check false x later h l = l

module _ (r : Record) (f : List ℕ) (v : Valid r f) where
  -- no entry is out of range
  ranged : (e : ℕ) → e < entries r → breaks12 r f e ≡ false
  ranged e l = inside-passes r f e (λ o s. (v.low e o l s, v.high e o l s))

  region_12 : (g : Region) (room need : ℕ) (later : Verdict) → number_of later ≢ 12 → number_of (region_verdict r f g room need later) ≢ 12
  unfolding region_verdict
  region_12 g room need later h =
      let last : Verdict = unless_touched r refusal.Range (touches r g) (breaks12 r f) later in
      by_check (breaks14_with r (length f)) refusal.Record _ (λ q. omega arith)
      (by_check (leb r.levels g.level) refusal.Level _ (λ q. omega arith)
      (by_check (not (in_extent r g)) refusal.Index (cond (ltb room need) (refused refusal.Room) last) (λ q. omega arith)
      (by_check (ltb room need) refusal.Room last (λ q. omega arith)
      (λ q. h (ap number_of (sym (finds_none refusal.Range (λ e. touches r g e && breaks12 r f e) (entries r) later none)) ∙ q)))))
    where
      none : (e : ℕ) → e < entries r → touches r g e && breaks12 r f e ≡ false
      none e l = go (touches r g e)
        where
          go : (b : Bool) → b && breaks12 r f e ≡ false
          go true = ranged e l
          go false = refl

  pub in_range : (c : Call) → number_of (verdict_on r f c) ≢ 12
  unfolding raw_verdict float_verdict write_verdict
  in_range (raw_read g b) = region_12 g _ _ Taken (λ q. omega arith)
  in_range (float_read g b) = region_12 g _ _ Taken (λ q. omega arith)
  in_range (write g d) = region_12 g _ _ _ (by_check (ltb (lowest g) (entries r)) (refusal.NotStored (lowest g)) Taken (λ q. omega arith) (λ q. omega arith))
    where
      lowest : Region → ℕ
      lowest g = first (λ e. touches r g e && not_stored r f e) (entries r)

  pub writes : (g : Region) (d : List ℕ) → verdict_on r f (write g d) ≡ Taken → WrittenBytes r f g d (cube_after r f (write g d))
  writes g d e = let h = write_passed r f g (length d) e in rw (taken-write r f g d e) (written-bytes r f v g d h.0.enough h.1)
