-- The verdict on a region, check by check, from what the functions answered. Assumes nothing.
use mathlib.Core.Bool.{Bool, true, false, cond}
use mathlib.Core.List.{List}
use mathlib.Core.Path.{◌≡◌, sym, ap, ◌∙◌}
use Prim.Native.Nat.{ℕ, ◌<◌, ◌≤◌}
use native.Mathlib.Nat.{le_refl}
use native.Mathlib.Omega.{arith}
use borrow.Author.Tests.{lt-ltb, le-ltb}
use Rattle.record.specs.Answers.{refused, Verdict, Taken}
use Rattle.record.specs.declared.Refusal.{Refusal}
use Rattle.std.specs.Prelude.{Option, None, Some}
use Rattle.std.specs.List.{find}
use Rattle.record.specs.Record.{header_of}
use Rattle.record.specs.declared.Record.{Record}
use Rattle.checks.specs.Fits.{breaks14_with}
use Rattle.checks.proofs.Records.{with_fit, fits-is}
use Rattle.runs.specs.Runs.{Allowed}
use Rattle.cube.specs.declared.Region.{Region}
use Rattle.cube.specs.Regions.{in_extent, touches, unless_touched, not_stored}
use Rattle.cube.proofs.Valid.{entries}
use Rattle.table.specs.Entries.{table_in, breaks12, Derived}
use Rattle.table.specs.declared.Table.{Table}
use Rattle.table.proofs.Tables.{fits_derived}
use Rattle.regions.specs.declared.Block.{Block}
use Rattle.regions.specs.Search.{fails, entries_in, Below, block_of, Passed, rest}
use Rattle.regions.proofs.Finds.{find_agree}
use Rattle.regions.proofs.Lowest.{touched, lowest-found, lowest-none}
use Rattle.regions.proofs.Blocks.{fit_of, within_of, block_touched, block_below, fails-is}
use Rattle.record.specs.declared.Refusal.TheVariants as refusal

-- ---- checks 12 and 19

-- what check 19 or check 12 is to find
abbrev bad : Record → List ℕ → Bool → ℕ → Bool
bad r f stored e = cond stored (not_stored r f e) (breaks12 r f e)

pub made : (r : Record) (g : Region) → Passed r g → (n : ℕ) → r.length ≡ n → Derived r × (header_of r.description r.text ≤ n)
made r g p n e = (fits_derived r p.fitting, omega (arith, (fit_of r g p).long, (fit_of r g p).header_is))

module _ (r : Record) (g : Region) (p : Passed r g) (t : Table) (b : Block) (et : t ≡ table_in r) (eb : b ≡ block_of r g) where
  pub search_below : Below b t.count
  unfolding table_in
  search_below = rw (et, eb) (block_below r g p)

  module _ (f : List ℕ) (stored : Bool) (answer : Option ℕ) (q : answer ≡ find (fails stored t f) (entries_in b)) where
    searched : answer ≡ find (bad r f stored) (touched r g)
    searched =
        q
        ∙ rw (et, eb)
        (find_agree (fails stored (table_in r) f) (bad r f stored) (fails-is r f stored) (entries_in (block_of r g)) ∙ ap (find (bad r f stored)) (block_touched r g))

    -- a refusal with the entry that was found
    pub refused_at_lem : (check : ℕ → Refusal) (e : ℕ) (later : Verdict) → answer ≡ Some e → refused (check e) ≡ unless_touched r check (touches r g) (bad r f stored) later
    refused_at_lem check e later found =
        let l = lowest-found r (fit_of r g p) g (within_of r g p) (bad r f stored) e (sym searched ∙ found) in
        rw (l.0, lt-ltb e (entries r) l.1)

    -- or the later checks
    pub passed_on : (check : ℕ → Refusal) (later : Verdict) → answer ≡ None → later ≡ unless_touched r check (touches r g) (bad r f stored) later
    passed_on check later found =
        rw (lowest-none r (fit_of r g p) g (within_of r g p) (bad r f stored) (sym searched ∙ found), le-ltb (entries r) (entries r) (le_refl (entries r)))

pub rest_read : (write : Bool) (r : Record) (f : List ℕ) (g : Region) → write ≡ false → Taken ≡ rest write r f g
rest_read write r f g e = rw e

pub rest-write : (write : Bool) (r : Record) (f : List ℕ) (g : Region) → write ≡ true → unless_touched r refusal.NotStored (touches r g) (not_stored r f) Taken ≡ rest write r f g
rest-write write r f g e = rw e

pub allowed_of : (r : Record) (n : ℕ) (g : Region) → breaks14_with r n ≡ false → g.level < r.levels → Allowed r g
allowed_of r n g fits level = record { fitting = fits-is r (with_fit r n fits).0; leveled = level }

pub passed_of : (r : Record) (n : ℕ) (g : Region) → breaks14_with r n ≡ false → g.level < r.levels → in_extent r g ≡ true → Passed r g × (r.length ≡ n)
passed_of r n g fits level inside =
    let w = with_fit r n fits in
    (record { fitting = fits-is r w.0; leveled = level; inside = inside }, w.1)
