-- The strings of a cube's text section (FORMAT 10.11), and the turns in which a walker hands them out.
use Rattle.std.specs.Prelude.{cond, List, [], ◌∷◌, ℕ, zero, suc, ◌+◌, ◌-◌, eqb, ltb, length, drop, Option, Some, None, Result, Ok, Err}
use Rattle.std.specs.List.{position_or_len}
use Rattle.std.proofs.Math.Option as math
use Rattle.endian.specs.Bytes.{peek}
use Rattle.record.specs.Answers.{Verdict, Taken, refused, is_taken, answered}
use Rattle.record.specs.Header.{text_of}
use Rattle.record.specs.declared.Record.{Record}
use Rattle.record.specs.declared.Refusal.{Refusal}
use Rattle.record.specs.declared.Refusal.TheVariants as refusal
use Rattle.checks.specs.Checks.{breaks11}
use Rattle.checks.specs.Fits.{breaks14_with}
use Rattle.strings.specs.declared.Item.{Item}

-- check 14 with the file f, then check 11 of its text section
unfoldable pub strings_verdict : Record → List ℕ → Verdict
strings_verdict r f =
    cond (breaks14_with r (length f)) (refused refusal.Record)
    (cond (breaks11 (text_of f r.text)) (refused refusal.Text)
    Taken)

-- the text that a walker holds: the text section, or none where the walk is refused
unfoldable pub text_in : Record → List ℕ → List ℕ
text_in r f = cond (is_taken (strings_verdict r f)) (text_of f r.text) []

-- the place of the first x of a list, or the list's length where it has none
abbrev pub index_of : ℕ → List ℕ → ℕ
index_of x l = position_or_len (λ y. eqb y x) l

-- where the string at a place ends: at the first zero byte at or after it, or at the text's end where there is none
unfoldable pub end_of : List ℕ → ℕ → ℕ
end_of t at = at + index_of 0 (drop at t)

-- the string at a place, without its zero
unfoldable pub string_at : List ℕ → ℕ → List ℕ
string_at t at = peek t at (end_of t at - at)

-- the string from start to end, with the next one at next
abbrev pub item : ℕ → ℕ → ℕ → Item
item start end next = record { start = start; end = end; next = next }

-- what a walker at a place hands out: the string from there to its end, with the next one after its zero; past the text's last byte none
unfoldable pub turn_of : List ℕ → ℕ → Option Item
turn_of t at = cond (ltb at (length t)) (Some (item at (end_of t at) (end_of t at + 1))) None

-- the string that a turn hands out of a text, and where a walker at a place stands after it
abbrev pub turn_string : List ℕ → Result (Option Item) Refusal → math.Option (List ℕ)
turn_string t (Ok (Some x)) = math.some (peek t x.start (x.end - x.start))
turn_string t (Ok None) = math.none
turn_string t (Err x) = math.none

abbrev pub after_turn : ℕ → Option Item → ℕ
after_turn at (Some x) = x.next
after_turn at None = at

-- where a walker that starts at a place stands after n turns
unfoldable pub place_from : List ℕ → ℕ → ℕ → ℕ
place_from t at zero = at
place_from t at (suc n) = after_turn (place_from t at n) (turn_of t (place_from t at n))

-- where a walker stands after n turns from the start of a text
abbrev pub place_of : List ℕ → ℕ → ℕ
place_of t n = place_from t 0 n

-- turn n of a cube
abbrev pub turn_in : Record → List ℕ → ℕ → Result (Option Item) Refusal
turn_in r f n = answered (strings_verdict r f) (turn_of (text_in r f) (place_of (text_in r f) n))

-- a turn's string, and after it the later ones from the next place on
abbrev pub handed : List ℕ → Option Item → (ℕ → List (List ℕ)) → List (List ℕ)
handed t (Some x) later = peek t x.start (x.end - x.start) ∷ later x.next
handed t None later = []

-- the strings that n turns from a place on hand out
unfoldable pub strings_from : List ℕ → ℕ → ℕ → List (List ℕ)
strings_from t zero at = []
strings_from t (suc n) at = handed t (turn_of t at) (strings_from t n)

-- the strings of a text: those handed out until the walker is done, which takes no more turns than there are bytes
unfoldable pub strings_of : List ℕ → List (List ℕ)
strings_of t = strings_from t (length t) 0
