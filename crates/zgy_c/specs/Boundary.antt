-- What crosses the C boundary: each answer of a call as a plain struct. Number 0 says taken; what a refusal does not say is 0.
use Rattle.std.specs.Prelude.{cond, List, ℕ, ◌+◌, ◌-◌, eqb, Float, Option, Some, None, Result, Ok, Err}
use Rattle.std.proofs.Math.Option.{get_or}
use Rattle.std.specs.Float.{binary64}
use Rattle.std.specs.Float.Ieee.{of_bits}
use Rattle.geometry.specs.Limits.{text_start}
use Rattle.record.specs.Answers.{Verdict, Done, number, entry, number_of, second_of, moved_of}
use Rattle.record.specs.Record.{no_record}
use Rattle.record.specs.declared.Refusal.{Refusal}
use Rattle.record.specs.declared.Record.{Record}
use Rattle.bricks.specs.Bricks.{View, of_file, of_filler, view_verdict, view_of}
use Rattle.bricks.specs.declared.Brick.{Brick}
use Rattle.bricks.specs.declared.Brick.TheVariants as brick
use Rattle.positions.specs.Positions.{located_value}
use Rattle.strings.specs.declared.Item.{Item}
use Rattle.making.specs.declared.Fill.{Fill}
use Rattle.making.specs.declared.Fill.TheVariants as fill
use Rattle.zgy_c.specs.declared.ZgyDone.{ZgyDone}
use Rattle.zgy_c.specs.declared.ZgyKind.{ZgyKind}
use Rattle.zgy_c.specs.declared.ZgyOpened.{ZgyOpened}
use Rattle.zgy_c.specs.declared.ZgyPosition.{ZgyPosition}
use Rattle.zgy_c.specs.declared.ZgyString.{ZgyString}
use Rattle.zgy_c.specs.declared.ZgyView.{ZgyView}

-- how much a call moved, or made
abbrev pub done_c : Done → ZgyDone
done_c a = record { number = number_of a; entry = second_of a; count = moved_of a }

-- how bricks are made: 0 is constant, any other number stored
abbrev pub fill_c : ℕ → Fill
fill_c n = cond (eqb n 0) fill.Constant fill.Stored

-- where an index stands: the value, or 0.0
abbrev pub position_c : Result Float Refusal → ZgyPosition
position_c a = record { number = number_of a; entry = second_of a; value = get_or (located_value a) (of_bits binary64 0) }

-- a known brick: 0 is missing, 1 constant, 2 stored
abbrev pub brick_c : Brick → ZgyKind
brick_c brick.Missing = record { number = 0; entry = 0; kind = 0; value = of_bits binary64 0; offset = 0 }
brick_c (brick.Constant x) = record { number = 0; entry = 0; kind = 1; value = x; offset = 0 }
brick_c (brick.Stored o) = record { number = 0; entry = 0; kind = 2; value = of_bits binary64 0; offset = o }

-- what a brick is
abbrev pub kind_c : Result Brick Refusal → ZgyKind
kind_c (Ok b) = brick_c b
kind_c (Err x) = record { number = number x; entry = entry x; kind = 0; value = of_bits binary64 0; offset = 0 }

-- what opening answers: the record, which is all zeros beside a refusal
abbrev pub opened_c : Result Record Refusal → ZgyOpened
opened_c (Ok r) = record { number = 0; entry = 0; cube = r }
opened_c (Err x) = record { number = number x; entry = entry x; cube = no_record }

-- where a view lies: source 1 is the file, 2 the filler
abbrev pub part_c : View → ZgyView
part_c (of_file o n) = record { number = 0; entry = 0; source = 1; offset = o; length = n }
part_c (of_filler n) = record { number = 0; entry = 0; source = 2; offset = 0; length = n }

-- the same by its verdict; source 0 is nowhere
abbrev pub view_by : Verdict → View → ZgyView
view_by (Ok u) v = part_c v
view_by (Err x) v = record { number = number x; entry = entry x; source = 0; offset = 0; length = 0 }

-- where the brick of an entry is shown
abbrev pub view_c : Record → List ℕ → List ℕ → ℕ → ZgyView
view_c r file filler e = view_by (view_verdict r file filler e) (view_of r file filler e)

-- whether a turn hands out a string, and where that stands in the file, after the text's start: found, offset and length
abbrev pub found_in : Result (Option Item) Refusal → ℕ × ℕ × ℕ
found_in (Ok (Some x)) = (1, text_start + x.start, x.end - x.start)
found_in (Ok None) = (0, 0, 0)
found_in (Err x) = (0, 0, 0)

-- what a turn says of a string
abbrev pub string_c : Result (Option Item) Refusal → ZgyString
string_c a = record { number = number_of a; entry = second_of a; found = (found_in a).0; offset = (found_in a).1; length = (found_in a).2 }
