-- What holds of a lent cube that opening took, as facts; every law of places, rows and writes goes by these alone. Assumes nothing.
use Prim.Native.Nat.{ℕ, ◌+◌, ◌≤◌, ◌<◌}
use mathlib.Core.Path.{◌≡◌, refl}
use mathlib.Core.Bool.{false}
use mathlib.Core.Logic.{◌≢◌, ◌⊎◌, inl, inr, ⊎_elim}
use mathlib.Core.List.{List}
use native.Mathlib.Omega.{arith}
use native.Mathlib.Decide.{dec_lt}
use lib.ListN.{length}
use Rattle.endian.specs.Bytes.{Bytes}
use Rattle.record.specs.Record.{bricks_of, brick_bytes_of, header_of, record_of}
use Rattle.record.specs.declared.Record.{Record}
use Rattle.record.specs.Answers.{Taken}
use Rattle.checks.proofs.Records.{Fit, record_fits_lem}
use Rattle.table.specs.declared.Kind.TheVariants.{Stored}
use Rattle.table.specs.Entries.{breaks13}
use Rattle.table.proofs.Tables.{stored-inside, stored_apart}
use Rattle.opening.specs.Opening.{open_verdict, record_in}
use Rattle.opening.proofs.Rules.{opened_passed, words}
use Rattle.cube.specs.Places.{kind_in}

-- where the headers end, the entries, the bytes of a brick
abbrev pub headers : Record → ℕ
headers r = header_of r.description r.text

abbrev pub entries : Record → ℕ
entries r = bricks_of r.description

abbrev pub brick_length : Record → ℕ
brick_length r = brick_bytes_of r.description

-- the record passes check 14 with the file f
pub record Lent (r : Record) (f : List ℕ) : Type 0 where
  pub fit : Fit r
  pub same_length : r.length ≡ length f

-- and every stored brick lies after the headers, in the file, and apart from the others
pub record Valid (r : Record) (f : List ℕ) : Type 0 where
  pub lent : Lent r f
  pub low : (e o : ℕ) → e < entries r → kind_in r f e ≡ Stored o → headers r ≤ o
  pub high : (e o : ℕ) → e < entries r → kind_in r f e ≡ Stored o → o + brick_length r ≤ length f
  pub apart : (e e' o o' : ℕ) → e < entries r → e' < entries r → e ≢ e' → kind_in r f e ≡ Stored o → kind_in r f e' ≡ Stored o'
      → (o + brick_length r ≤ o') ⊎ (o' + brick_length r ≤ o)

-- ---- from opening

-- what check 13 leaves of m entries, whichever of two is the lower
ordered : (r : Record) (f : List ℕ) (m : ℕ) → ((e : ℕ) → e < m → breaks13 r f e ≡ false) → (e e' o o' : ℕ) → e < m → e' < m → e ≢ e'
    → kind_in r f e ≡ Stored o → kind_in r f e' ≡ Stored o' → (o + brick_length r ≤ o') ⊎ (o' + brick_length r ≤ o)
ordered r f m q e e' o o' l l' ne s s' = go (dec_lt e e')
  where
    go : Dec (e < e') → (o + brick_length r ≤ o') ⊎ (o' + brick_length r ≤ o)
    go (yes k) = stored_apart r f e' (q e' l') e o o' k s s'
    go (no k) = ⊎_elim inr inl (stored_apart r f e (q e l) e' o' o (omega arith) s' s)

-- a cube that opening took is valid with its record
pub valid : (f : List ℕ) → Bytes f → open_verdict f ≡ Taken → Valid (record_in f) f
unfolding record_in record_of
valid f h e =
    let p = opened_passed f e in
    record {
      lent = record { fit = record_fits_lem _ _ _ _ p.header.not3 p.header.is-described (words f h) p.long; same_length = refl };
      low = λ e o l s. (stored-inside (record_in f) f e (p.not12 e l) o s).0;
      high = λ e o l s. (stored-inside (record_in f) f e (p.not12 e l) o s).1;
      apart = ordered (record_in f) f _ p.not13;
    }
