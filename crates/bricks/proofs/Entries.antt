-- The entry of a record that passes check 14: where it stands, its verdict, and what its kind owes. Assumes nothing.
use mathlib.Core.Bool.{Bool, true, false, cond}
use mathlib.Core.List.{List}
use mathlib.Core.Path.{◌≡◌, refl, sym, ◌∙◌}
use Prim.Native.Nat.{ℕ, ◌+◌, ◌^◌, ◌≤◌, ◌<◌}
use native.Mathlib.Omega.{arith}
use lib.ListN.{length}
use borrow.Author.Tests.{le-leb, lt-leb, leb-false}
use Rattle.record.specs.Types.{coding_of, width_of}
use Rattle.record.specs.Record.{brick_bytes_of, header_of}
use Rattle.record.specs.declared.Coding.{Coding}
use Rattle.record.specs.declared.Record.{Record}
use Rattle.record.specs.declared.Refusal.{Refusal}
use Rattle.record.specs.Answers.{Verdict, Taken, refused}
use Rattle.checks.specs.Fits.{breaks14_with}
use Rattle.checks.proofs.Records.{Fit, fits-is, with_fit}
use Rattle.table.specs.declared.Kind.{Kind}
use Rattle.table.specs.declared.Kind.TheVariants.{Stored}
use Rattle.table.specs.declared.Table.{Table}
use Rattle.table.specs.Entries.{table_in, kind_at, kind_in, breaks12, Derived, Readable}
use Rattle.table.proofs.Tables.{fits_derived, count-is, brick-is, kind_is, readable, names_narrow, stored-inside}
use Rattle.cube.specs.Places.{item_bytes}
use Rattle.bricks.specs.Bricks.{kind_verdict}
use Rattle.std.specs.Prelude.{Ok}
use Rattle.bricks.specs.Filler.{Narrow}
use Rattle.record.specs.declared.Refusal.TheVariants as refusal

-- ---- a constant's number

pub narrow_in : (r : Record) (f : List ℕ) (e : ℕ) → Narrow (item_bytes r) (kind_in r f e)
narrow_in = names_narrow

pub raw-fits : (k w h n : ℕ) → coding_of k ≡ Ok (Coding.Scaled w h) → n < 256 ^ width_of k → n < 256 ^ w
unfolding width_of
raw-fits k w h n e l = rw e at l

-- ---- the entry in the record's table
pub entry_in_lem : (r : Record) (t : Table) (f : List ℕ) (e : ℕ) → t ≡ table_in r → Fit r → r.length ≡ length f → e < r.bricks
    → Readable t (length f) × (e < t.count)
entry_in_lem r t f e is-t fit l h =
    (readable r t is-t (fits_derived r (fits-is r fit)) (length f) (omega (arith, fit.header_is, fit.long)), omega (arith, fit.bricks-is, count-is r t is-t))

pub fit_made : (r : Record) (f : List ℕ) → Fit r → r.length ≡ length f → Derived r × (header_of r.description r.text ≤ length f)
fit_made r f fit l = (fits_derived r (fits-is r fit), omega (arith, fit.header_is, fit.long))

-- ---- the verdict by its cases
module _ (r : Record) (f : List ℕ) (e : ℕ) where
  pub kind_14 : breaks14_with r (length f) ≡ true → kind_verdict r f e ≡ refused refusal.Record
  unfolding kind_verdict
  kind_14 p = simp p

  pub kind_16 : breaks14_with r (length f) ≡ false → r.bricks ≤ e → kind_verdict r f e ≡ refused refusal.Index
  unfolding kind_verdict
  kind_16 p h = simp (p, le-leb r.bricks e h)

  pub kind_12 : breaks14_with r (length f) ≡ false → e < r.bricks → breaks12 r f e ≡ true → kind_verdict r f e ≡ refused (refusal.Range e)
  unfolding kind_verdict
  kind_12 p h q = simp (p, lt-leb r.bricks e h, q)

  pub kind_taken : breaks14_with r (length f) ≡ false → e < r.bricks → breaks12 r f e ≡ false → kind_verdict r f e ≡ Taken
  unfolding kind_verdict
  kind_taken p h q = simp (p, lt-leb r.bricks e h, q)

-- what an entry owes that passes its checks
pub record Seen (r : Record) (f : List ℕ) (e : ℕ) : Type 0 where
  pub fit : Fit r
  pub length-is : r.length ≡ length f
  pub below : e < r.bricks
  pub in_range : breaks12 r f e ≡ false

-- one check peeled off: it did not apply, and the later ones took the call
passed_any : (b : Bool) (x : Refusal) (later : Verdict) → cond b (refused x) later ≡ Taken → (b ≡ false) × (later ≡ Taken)
passed_any true x later e = let z : ◌≡◌ {A = ℕ} 0 1 = cc in absurd (omega arith)
passed_any false x later e = (refl, e)

pub seen : (r : Record) (f : List ℕ) (e : ℕ) → kind_verdict r f e ≡ Taken → Seen r f e
unfolding kind_verdict
seen r f e t =
    let a = passed_any _ _ _ t in
    let b = passed_any _ _ _ a.1 in
    let c = passed_any _ _ _ b.1 in
    let p = with_fit r (length f) a.0 in
    record { fit = p.0; length-is = p.1; below = leb-false _ _ b.0; in_range = c.0 }

-- its record, and that its table can be read
module _ (r : Record) (f : List ℕ) (e : ℕ) (s : Seen r f e) where
  pub seen_derived : Derived r
  seen_derived = fits_derived r (fits-is r s.fit)

  pub seen_made : Derived r × (header_of r.description r.text ≤ length f)
  seen_made = fit_made r f s.fit s.length-is

  pub seen_in : (t : Table) → t ≡ table_in r → Readable t (length f) × (e < t.count)
  seen_in t is-t = entry_in_lem r t f e is-t s.fit s.length-is s.below

-- a stored brick lies in the file
pub stored_in : (r : Record) (f : List ℕ) (e o : ℕ) → Seen r f e → kind_in r f e ≡ Stored o → o + brick_bytes_of r.description ≤ length f
stored_in r f e o s k = (stored-inside r f e s.in_range o k).1

-- what the entries that are made of a record and a file answer: an entry's kind, and where a stored brick of it ends
module _ (r : Record) (f : List ℕ) (e : ℕ) {t : Table} {f' : List ℕ} {k : Kind} (et : t ≡ table_in r) (ef : f' ≡ f) (ek : k ≡ kind_at t f' e) where
  pub made_kind : k ≡ kind_in r f e
  made_kind = rw ef at ek ∙ kind_is r t et f e

  pub made_end : {o : ℕ} → Seen r f e → k ≡ Stored o → o + t.brick ≤ length f
  made_end {o} s i = rw (brick-is r t et) (stored_in r f e o s (sym made_kind ∙ i))
