-- Demand 3 (FORMAT 12.3) as one statement about a whole list of calls; and, apart from it, what the base's calls keep of the file.
use Rattle.std.specs.Prelude.{List, map, ◌≢◌, ◌⊎◌, ◌≡◌, ℕ, ◌+◌, ◌≤◌, ◌<◌, length, take}
use Rattle.endian.specs.Bytes.{Bytes}
use Rattle.record.specs.Answers.{number_of, Taken}
use Rattle.record.specs.Record.{bricks_of, header_of}
use Rattle.record.specs.declared.Record.{Record}
use Rattle.table.specs.declared.Kind.TheVariants.{Stored}
use Rattle.opening.specs.Opening.{open_verdict, record_in}
use Rattle.cube.specs.declared.Region.{Region}
use Rattle.cube.specs.Places.{Place, item_bytes, kind_in, brick_of, byte_of, rows_of, raw_of, reading_of, Inside, Extent}
use Rattle.cube.specs.Calls.{Call, write, verdict_on, cube_after}
use Rattle.cube.specs.Written.{WrittenBytes}
use Rattle.zgy.specs.Ledger.{Event, last_cube, CallOn, CallsOn, opening, fed, promised, promises, last_put, leaves}

module _ (r : Record) (f : List ℕ) where
  -- two different places in stored bricks share no byte with each other, nor with the headers
  pub record OnePlace : Type 0 where
    pub places : (p q : Place) (o o' : ℕ) → Inside r p → Inside r q → p ≢ q
        → kind_in r f (brick_of r p) ≡ Stored o → kind_in r f (brick_of r q) ≡ Stored o'
        → (byte_of r o p + item_bytes r ≤ byte_of r o' q) ⊎ (byte_of r o' q + item_bytes r ≤ byte_of r o p)
    pub headers : (p : Place) (o : ℕ) → Inside r p → kind_in r f (brick_of r p) ≡ Stored o → header_of r.description r.text ≤ byte_of r o p
    pub in_file : (p : Place) (o : ℕ) → Inside r p → kind_in r f (brick_of r p) ≡ Stored o → byte_of r o p + item_bytes r ≤ length f

  -- after a list of calls as they were made, one after the other
  pub record AfterCalls (es : List Event) : Type 0 where
    -- each sample reads, raw and as a float, as the ledger has it
    pub samples : (p : Place) → Extent r p → reading_of r (rows_of r (last_cube f es) p) ≡ reading_of r (fed r (opening r f) es p)
    -- which is: as the last taken write to it left it, or as at opening
    pub last-writes : (p : Place) → Extent r p → reading_of r (rows_of r (last_cube f es) p) ≡ reading_of r (leaves r (rows_of r f p) (last_put r es p))
    -- every call of the list left in its buffers what the ledger then gives
    pub reads : map (λ (e : Event). e.buffers) es ≡ promises r (opening r f) es
    -- and so does every call after the list
    pub reads-later : (e : Event) → CallOn r (last_cube f es) e → e.buffers ≡ promised r (fed r (opening r f) es) e
    -- each row is one item, so that a raw read's rows fill just the bytes that it answers
    pub items : (p : Place) → Extent r p → length (raw_of r (fed r (opening r f) es p)) ≡ item_bytes r

-- demand 3: of every cube that opening took, with the record that it gave, and every list of calls on it
unfoldable pub OnePlaceOneSample : Type 0
OnePlaceOneSample =
    (f : List ℕ) → Bytes f → open_verdict f ≡ Taken
    → OnePlace (record_in f) f × ((es : List Event) → CallsOn (record_in f) f es → AfterCalls (record_in f) f es)

-- h has the length, the header bytes and the entries of f
pub record SameHeaders (r : Record) (f h : List ℕ) : Type 0 where
  pub same_length : length h ≡ length f
  pub same_header : take (header_of r.description r.text) h ≡ take (header_of r.description r.text) f
  pub same_entries : (e : ℕ) → e < bricks_of r.description → kind_in r h e ≡ kind_in r f e

-- what holds of the cube h after a list of calls on the cube f, which opened with record r
pub record StillOpen (r : Record) (f h : List ℕ) : Type 0 where
  -- no call changed a header byte, an entry or the length
  pub headers : SameHeaders r f h
  -- it opens again, with the same record
  pub opens : open_verdict h ≡ Taken
  pub same_record : record_in h ≡ r
  -- no call on it is refused 12
  pub in_range : (c : Call) → number_of (verdict_on r h c) ≢ 12
  -- a taken write changes the bytes of its region's samples alone
  pub writes : (g : Region) (d : List ℕ) → verdict_on r h (write g d) ≡ Taken → WrittenBytes r h g d (cube_after r h (write g d))

-- after every list of calls a cube that opening took is still open
unfoldable pub StaysOpen : Type 0
StaysOpen =
    (f : List ℕ) → Bytes f → open_verdict f ≡ Taken
    → (es : List Event) → CallsOn (record_in f) f es → StillOpen (record_in f) f (last_cube f es)
