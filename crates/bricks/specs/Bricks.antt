-- Brick kind and brick view, by entry number (FORMAT 10.5, 10.6).
use Rattle.std.specs.Prelude.{Bool, not, cond, List, [], ◌≡◌, ℕ, ◌+◌, ◌%◌, eqb, leb, ltb, get_or, length, take, Result, Ok, Err}
use Rattle.std.specs.Borrow.{Bor}
use Rattle.endian.specs.Loops.{first}
use Rattle.endian.specs.Bytes.{peek, lows}
use Rattle.record.specs.Answers.{Verdict, Taken, refused, and_then, answered}
use Rattle.record.specs.Types.{value_of}
use Rattle.record.specs.Record.{brick_bytes_of}
use Rattle.record.specs.declared.Record.{Record}
use Rattle.record.specs.declared.Refusal.{Refusal}
use Rattle.record.specs.declared.Refusal.TheVariants as refusal
use Rattle.checks.specs.Fits.{breaks14_with}
use Rattle.table.specs.declared.Kind.{Kind}
use Rattle.table.specs.declared.Kind.TheVariants.{Missing, Constant, Stored}
use Rattle.table.specs.Entries.{kind_in, breaks12}
use Rattle.cube.specs.Places.{item_bytes, kind_in, missing_brick}
use Rattle.bricks.specs.declared.Brick.{Brick}
use Rattle.bricks.specs.declared.Brick.TheVariants as brick

-- a brick's kind as a caller sees it: missing, constant with its storage value as a float, unscaled, or stored with its offset
abbrev pub brick_of : ℕ → Kind → Brick
brick_of datatype Missing = brick.Missing
brick_of datatype (Constant v) = brick.Constant (value_of datatype v)
brick_of datatype (Stored o) = brick.Stored o

-- checks 14, 16 and 12
unfoldable pub kind_verdict : Record → List ℕ → ℕ → Verdict
kind_verdict r f e =
    cond (breaks14_with r (length f)) (refused refusal.Record)
    (cond (leb r.bricks e) (refused refusal.Index)
    (cond (breaks12 r f e) (refused (refusal.Range e))
    Taken))

-- what brick kind answers
unfoldable pub kind_answer : Record → List ℕ → ℕ → Result Brick Refusal
kind_answer r f e = answered (kind_verdict r f e) (brick_of r.description.datatype (kind_in r f e))

-- the bytes of one item of a brick that is not stored
abbrev pub fill_of : Record → Kind → List ℕ
fill_of r Missing = lows (item_bytes r) (missing_brick r).value
fill_of r (Constant v) = lows (item_bytes r) v
fill_of r (Stored o) = []

-- the first n bytes are the value of w bytes, again and again
unfoldable pub filled_with : List ℕ → List ℕ → ℕ → ℕ → Bool
filled_with value filler w n = eqb (first (λ i. not (eqb (get_or filler i 0) (get_or value (i % w) 0))) n) n

-- check 18, and check 17, of a brick that is not stored
unfoldable pub room_verdict : Record → List ℕ → Verdict
room_verdict r filler = cond (ltb (length filler) (brick_bytes_of r.description)) (refused refusal.Room) Taken

unfoldable pub value_verdict : Record → Kind → List ℕ → Verdict
value_verdict r k filler = cond (not (filled_with (fill_of r k) filler (item_bytes r) (brick_bytes_of r.description))) (refused refusal.Filler) Taken

-- checks 18 and 17
unfoldable pub filler_verdict : Record → Kind → List ℕ → Verdict
filler_verdict r k filler = and_then (room_verdict r filler) (value_verdict r k filler)

abbrev pub shown_verdict : Record → Kind → List ℕ → Verdict
shown_verdict r Missing filler = filler_verdict r Missing filler
shown_verdict r (Constant v) filler = filler_verdict r (Constant v) filler
shown_verdict r (Stored o) filler = Taken

-- checks 14, 16, 12, then for a brick that is not stored 18, 17
unfoldable pub view_verdict : Record → List ℕ → List ℕ → ℕ → Verdict
view_verdict r f filler e = and_then (kind_verdict r f e) (shown_verdict r (kind_in r f e) filler)

-- what a view shows: so many bytes of the file from an offset on, or so many from the filler's start
pub data View : Type 0 where
  of_file : ℕ → ℕ → View
  of_filler : ℕ → View

-- a brick of n bytes: a stored one's part of the file; the start of the filler for the others
abbrev pub shown_of : Kind → ℕ → View
shown_of Missing n = of_filler n
shown_of (Constant v) n = of_filler n
shown_of (Stored o) n = of_file o n

-- an empty part of the file where the view is refused
abbrev pub shown_if : Verdict → View → View
shown_if (Ok u) v = v
shown_if (Err x) v = of_file 0 0

-- what brick view shows
unfoldable pub view_of : Record → List ℕ → List ℕ → ℕ → View
view_of r f filler e = shown_if (view_verdict r f filler e) (shown_of (kind_in r f e) (brick_bytes_of r.description))

-- a view's bytes
abbrev pub bytes_of : View → List ℕ → List ℕ → List ℕ
bytes_of (of_file o n) f filler = peek f o n
bytes_of (of_filler n) f filler = take n filler

-- where it lies in memory, a block and a place in it, from where the file and the filler lie
abbrev pub place_of : View → ℕ × ℕ → ℕ × ℕ → ℕ × ℕ
place_of (of_file o n) file filler = (file.0, file.1 + o)
place_of (of_filler n) file filler = filler

-- the slice s is the part that the view names of the two lent slices, in its bytes and in its place
pub record Shows (v : View) (file filler s : Bor (List ℕ)) : Type 0 where
  pub bytes_are : s.now ≡ bytes_of v file.now filler.now
  pub place_is : s.ref_ptr ≡ place_of v file.ref_ptr filler.ref_ptr
