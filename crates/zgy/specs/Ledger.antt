-- Lists of calls on an opened cube, and the ledger of demand 3 (FORMAT 12.4). r is the record that opening gave, f the cube's bytes.
use Rattle.std.specs.Prelude.{Bool, true, false, cond, List, [], ◌∷◌, ◌≡◌, ℕ, Ok, Err}
use Rattle.std.proofs.Math.Option.{Option, none, some}
use Rattle.record.specs.declared.Record.{Record}
use Rattle.record.specs.Answers.{Done}
use Rattle.cube.specs.Places.{Place, Row, bytes, item_bytes, rows_of}
use Rattle.cube.specs.Regions.{has, index, chunk, raw_rows, float_rows, over}
use Rattle.cube.specs.Calls.{Call, raw_read, float_read, write, Buffer, raw, floats, lent, answer_of, cube_after, buffers_after}

-- a call that was made: its arguments, its answer, and the cube and the lent buffers after it
pub record Event : Type 0 where
  pub call : Call
  pub answer : Done
  pub cube : List ℕ
  pub buffers : List Buffer

-- the cube after the last of a list of events
abbrev pub last_cube : List ℕ → List Event → List ℕ
last_cube f [] = f
last_cube f (e ∷ es) = last_cube e.cube es

abbrev pub taken : Done → Bool
taken (Ok n) = true
taken (Err x) = false

module _ (r : Record) where
  -- a call on the cube f, as the calls' contracts say it
  pub record CallOn (f : List ℕ) (e : Event) : Type 0 where
    pub answer-is : e.answer ≡ answer_of r f e.call
    pub cube-is : e.cube ≡ cube_after r f e.call
    pub buffers_are : e.buffers ≡ buffers_after r f e.call

  -- a list of them: each gets the cube as the one before left it
  abbrev pub CallsOn : List ℕ → List Event → Type 0
  CallsOn f [] = Unit {0}
  CallsOn f (e ∷ es) = CallOn f e × CallsOn e.cube es

  -- ---- the ledger

  -- a row for each sample place within its level's extent
  abbrev pub Ledger : Type 0
  Ledger = Place → Row

  -- at opening: the place's bytes, the constant's bytes, or the word missing
  abbrev pub opening : List ℕ → Ledger
  opening f = rows_of r f

  -- the bytes that a taken call puts into the row of p, if it does: a write those lent for that place, in a raw read's order
  abbrev pub into : Call → Place → Option (List ℕ)
  into (raw_read g b) p = none
  into (float_read g b) p = none
  into (write g d) p = cond (has g p) (some (chunk (item_bytes r) d (index g p))) none

  -- a refused call puts none: of its answer the ledger is told only whether it was taken
  abbrev pub puts : Event → Place → Option (List ℕ)
  puts e p = cond (taken e.answer) (into e.call p) none

  -- those bytes, or what stood there
  abbrev pub leaves : Row → Option (List ℕ) → Row
  leaves row none = row
  leaves row (some b) = bytes b

  unfoldable pub feed : Ledger → Event → Ledger
  feed l e p = leaves (l p) (puts e p)

  -- the ledger, fed the calls in their order
  unfoldable pub fed : Ledger → List Event → Ledger
  fed l [] = l
  fed l (e ∷ es) = fed (feed l e) es

  -- the last bytes that a list of calls puts into the row of p, if one does
  abbrev pub later : Option (List ℕ) → Option (List ℕ) → Option (List ℕ)
  later none b = b
  later (some a) b = some a

  unfoldable pub last_put : List Event → Place → Option (List ℕ)
  last_put [] p = none
  last_put (e ∷ es) p = later (last_put es p) (puts e p)

  -- what the ledger gives for a taken call's buffers: the region's rows in the read's order, as bytes or by the float rules, before the
  -- buffer's tail as it was lent
  abbrev pub gives : Ledger → Call → List Buffer
  gives l (raw_read g b) = raw (over (raw_rows r l g) b) ∷ []
  gives l (float_read g b) = floats (over (float_rows r l g) b) ∷ []
  gives l (write g d) = raw d ∷ []

  -- a refused call leaves its buffers
  unfoldable pub promised : Ledger → Event → List Buffer
  promised l e = cond (taken e.answer) (gives l e.call) (lent e.call)

  unfoldable pub promises : Ledger → List Event → List (List Buffer)
  promises l [] = []
  promises l (e ∷ es) = promised l e ∷ promises (feed l e) es
