-- What a call answers: a value or a refusal, with the number of FORMAT 9.2 and the second number of 9.3 for each of its cases.
use Rattle.std.specs.Prelude.{Bool, true, false, cond, ℕ, ltb, Result, Ok, Err}
use Rattle.record.specs.declared.Refusal.{Refusal}
use Rattle.record.specs.declared.Refusal.TheVariants as refusal

-- the number of the table
abbrev pub number : Refusal → ℕ
number refusal.Short = 1
number refusal.Magic = 2
number refusal.Version = 3
number refusal.Side = 4
number refusal.Datatype = 5
number refusal.Size = 6
number refusal.Floats = 7
number refusal.Bricks = 8
number refusal.TextLength = 9
number refusal.Headers = 10
number refusal.Text = 11
number (refusal.Range e) = 12
number (refusal.Overlap e) = 13
number refusal.Record = 14
number refusal.Level = 15
number refusal.Index = 16
number refusal.Filler = 17
number refusal.Room = 18
number (refusal.NotStored e) = 19
number refusal.Subtiles = 20

-- the second number: the lowest such entry for 12, 13 and 19, else 0
abbrev pub entry : Refusal → ℕ
entry refusal.Short = 0
entry refusal.Magic = 0
entry refusal.Version = 0
entry refusal.Side = 0
entry refusal.Datatype = 0
entry refusal.Size = 0
entry refusal.Floats = 0
entry refusal.Bricks = 0
entry refusal.TextLength = 0
entry refusal.Headers = 0
entry refusal.Text = 0
entry (refusal.Range e) = e
entry (refusal.Overlap e) = e
entry refusal.Record = 0
entry refusal.Level = 0
entry refusal.Index = 0
entry refusal.Filler = 0
entry refusal.Room = 0
entry (refusal.NotStored e) = e
entry refusal.Subtiles = 0

-- whether a call is carried out, or by which check it is refused
abbrev pub Verdict : Type 0
Verdict = Result (Unit {0}) Refusal

abbrev pub Taken : Verdict
Taken = Ok tt

abbrev pub refused : Refusal → Verdict
refused x = Err x

-- an answer's verdict, whatever value a taken call gives
abbrev pub verdict_of : {A : Type 0} → Result A Refusal → Verdict
verdict_of (Ok x) = Taken
verdict_of (Err x) = refused x

-- the number of the table, 0 where the call is taken
abbrev pub number_of : {A : Type 0} → Result A Refusal → ℕ
number_of (Ok x) = 0
number_of (Err x) = number x

-- the second number, 0 where it is taken
abbrev pub second_of : {A : Type 0} → Result A Refusal → ℕ
second_of (Ok x) = 0
second_of (Err x) = entry x

abbrev pub is_taken : {A : Type 0} → Result A Refusal → Bool
is_taken (Ok x) = true
is_taken (Err x) = false

-- a verdict, and after it the checks that come later
abbrev pub and_then : Verdict → Verdict → Verdict
and_then (Ok u) later = later
and_then (Err x) later = refused x

-- refused by this check where the lowest such entry, e, is one of m; else the later checks
abbrev pub unless_found : (ℕ → Refusal) → ℕ → ℕ → Verdict → Verdict
unless_found check e m later = cond (ltb e m) (refused (check e)) later

-- the answer of a call that gives x where it is taken
abbrev pub answered : {A : Type 0} → Verdict → A → Result A Refusal
answered (Ok u) x = Ok x
answered (Err y) x = Err y

-- what a call answers that moves bytes or floats, or makes a cube: how many
abbrev pub Done : Type 0
Done = Result ℕ Refusal

-- how much was moved: nothing where it is refused
abbrev pub moved_of : Done → ℕ
moved_of (Ok n) = n
moved_of (Err x) = 0
