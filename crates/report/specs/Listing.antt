-- What the listing says of a file (FORMAT 14), in bytes of text.
use Rattle.std.specs.Prelude.{cond, List, [], ◌∷◌, ◌++◌, ◌≡◌, refl, ℕ, ltb, get_or, length, Result, Ok, Err}
use Rattle.endian.specs.Loops.{cat}
use Rattle.floats.specs.Rules.{signed_of}
use Rattle.text.specs.Text.{bytes_of, digits, decimal, signed_decimal}
use Rattle.record.specs.Types.{coding_of}
use Rattle.record.specs.declared.Coding.{Coding}
use Rattle.record.specs.declared.Coding.TheVariants.{Scaled, Float32}
use Rattle.record.specs.declared.Record.{Record}
use Rattle.record.specs.declared.Refusal.{Refusal}
use Rattle.record.specs.Answers.{Verdict, number, entry}
use Rattle.record.specs.declared.Refusal.TheVariants as case
use Rattle.table.specs.declared.Kind.{Kind}
use Rattle.table.specs.declared.Kind.TheVariants.{Missing, Constant, Stored}
use Rattle.table.specs.Entries.{kind_in}
use Rattle.opening.specs.Opening.{open_verdict, record_in}

-- a space, and the end of a line
abbrev pub space : List ℕ
space = 32 ∷ []

abbrev pub newline : List ℕ
newline = 10 ∷ []

-- a word and a number
abbrev pub numbered : List ℕ → ℕ → List ℕ
numbered word n = word ++ decimal n

-- a line of a word and a number
abbrev pub number_line : List ℕ → ℕ → List ℕ
number_line word n = numbered word n ++ newline

-- a line of a word and three numbers
abbrev pub three_line : List ℕ → List ℕ → List ℕ
three_line word ns = numbered word (get_or ns 0 0) ++ numbered space (get_or ns 1 0) ++ number_line space (get_or ns 2 0)

-- `refused A B`: the number and the second number
abbrev pub refused_line : Refusal → List ℕ
refused_line x = numbered (bytes_of "refused ") (number x) ++ number_line space (entry x)

-- the seven lines of a record
unfoldable pub header_lines : Record → List ℕ
header_lines r =
    number_line (bytes_of "version ") r.version
    ++ number_line (bytes_of "type ") r.description.datatype
    ++ three_line (bytes_of "brick ") r.description.side
    ++ three_line (bytes_of "size ") r.description.size
    ++ number_line (bytes_of "levels ") r.levels
    ++ number_line (bytes_of "bricks ") r.bricks
    ++ number_line (bytes_of "header ") r.header

-- a constant, from the unsigned number of its bytes: the signed storage value; for floats the 32 bits as an unsigned number
abbrev pub constant_by : Result Coding Refusal → ℕ → List ℕ
constant_by (Ok (Scaled w h)) n = signed_decimal (signed_of h n)
constant_by (Ok (Float32 w)) n = decimal n
constant_by (Err x) n = decimal n

unfoldable pub constant_text : ℕ → ℕ → List ℕ
constant_text datatype n = constant_by (coding_of datatype) n

-- what an entry names
unfoldable pub kind_text : ℕ → Kind → List ℕ
kind_text datatype Missing = bytes_of " missing"
kind_text datatype (Constant n) = bytes_of " constant " ++ constant_text datatype n
kind_text datatype (Stored o) = numbered (bytes_of " stored ") o

-- the line of entry e
unfoldable pub entry_line : ℕ → ℕ → Kind → List ℕ
entry_line datatype e k = numbered (bytes_of "entry ") e ++ kind_text datatype k ++ newline

-- the lines of the first n entries, which name these kinds
abbrev pub entry_lines : ℕ → (ℕ → Kind) → ℕ → List ℕ
entry_lines datatype kinds n = cat n (λ e. entry_line datatype e (kinds e))

-- the listing of a file that opened with record r
unfoldable pub cube_lines : List ℕ → Record → List ℕ
cube_lines f r = header_lines r ++ entry_lines r.description.datatype (kind_in r f) r.bricks

-- the listing by opening's verdict
abbrev pub lines_by : Verdict → List ℕ → List ℕ
lines_by (Ok u) lines = lines
lines_by (Err x) lines = refused_line x

-- the most bytes that a listed file has
abbrev pub longest : ℕ
longest = 65536

-- the listing of a file
unfoldable pub listing_of : List ℕ → List ℕ
listing_of f = cond (ltb longest (length f)) (bytes_of "too long\n") (lines_by (open_verdict f) (cube_lines f (record_in f)))

-- examples
int8_constant : entry_line 0 2 (Constant 255) ≡ bytes_of "entry 2 constant -1\n"
unfolding entry_line kind_text constant_text coding_of signed_decimal decimal digits
int8_constant = refl

float32_constant : entry_line 6 0 (Constant 1065353216) ≡ bytes_of "entry 0 constant 1065353216\n"
unfolding entry_line kind_text constant_text coding_of decimal digits
float32_constant = refl

refusal : refused_line (case.Range 2) ≡ bytes_of "refused 12 2\n"
unfolding decimal digits
refusal = refl
