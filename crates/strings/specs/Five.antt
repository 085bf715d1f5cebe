-- The five strings of a text that passes check 11 (FORMAT 3.8), and of a cube whose strings are taken.
use Rattle.std.specs.Prelude.{false, List, [], ◌∷◌, ◌++◌, ◌≡◌, ℕ, suc, ◌≤◌, ◌<◌, get_or, length, Some, None, Err}
use Rattle.std.proofs.Math.Option
use Rattle.record.specs.Header.{text_of}
use Rattle.record.specs.declared.Record.{Record}
use Rattle.record.specs.declared.Refusal.{Refusal}
use Rattle.record.specs.Answers.{Taken, refused, verdict_of}
use Rattle.checks.specs.Checks.{breaks11}
use Rattle.strings.specs.Strings.{strings_verdict, text_in, end_of, string_at, item, turn_of, turn_string, place_of, turn_in, strings_of}

-- the string that turn n hands out
abbrev pub nth : List ℕ → ℕ → List ℕ
nth t n = string_at t (place_of t n)

-- a text of five strings
pub record Five (t : List ℕ) : Type 0 where
  -- each of the turns 0 to 4 hands out a string
  pub hands : (n : ℕ) → n < 5 → turn_of t (place_of t n) ≡ Some (item (place_of t n) (end_of t (place_of t n)) (place_of t (suc n)))
  -- the sixth and all later ones say none, and so does every turn at or past the text's end
  pub done : (n : ℕ) → 5 ≤ n → turn_of t (place_of t n) ≡ None
  pub stays : (at : ℕ) → length t ≤ at → turn_of t at ≡ None
  -- the strings are these five
  pub strings : strings_of t ≡ nth t 0 ∷ nth t 1 ∷ nth t 2 ∷ nth t 3 ∷ nth t 4 ∷ []
  -- no string holds a zero
  pub no_zero : (n i : ℕ) → n < 5 → i < length (nth t n) → get_or (nth t n) i 0 ≡ 0 → ⊥
  -- the text is the five in order, each followed by a zero
  pub whole : t ≡ nth t 0 ++ (0 ∷ (nth t 1 ++ (0 ∷ (nth t 2 ++ (0 ∷ (nth t 3 ++ (0 ∷ (nth t 4 ++ (0 ∷ [])))))))))

-- a text whose strings are ab, nothing, c, nothing and nothing
abbrev pub sample : List ℕ
sample = 97 ∷ 98 ∷ 0 ∷ 0 ∷ 99 ∷ 0 ∷ 0 ∷ 0 ∷ []

-- what check 11 and the verdict on a cube's strings mean
pub record FiveStrings : Type 0 where
  -- a text that passes check 11 is five strings
  pub of_text : (t : List ℕ) → breaks11 t ≡ false → Five t
  -- the text that a walker holds is the text section, five strings
  pub of_cube : (r : Record) (f : List ℕ) → strings_verdict r f ≡ Taken → (text_in r f ≡ text_of f r.text) × Five (text_in r f)
  -- where the walk is refused there is no text, and every turn is the refusal
  pub of_refused : (r : Record) (f : List ℕ) (n : ℕ) (x : Refusal) → strings_verdict r f ≡ refused x → (text_in r f ≡ []) × (turn_in r f n ≡ Err x)
  -- a turn's verdict is the walk's, and turn n hands out the n-th string
  pub of_turn : (r : Record) (f : List ℕ) (n : ℕ)
      → (verdict_of (turn_in r f n) ≡ strings_verdict r f) × (Option.get_or (turn_string (text_in r f) (turn_in r f n)) [] ≡ get_or (strings_of (text_in r f)) n [])
  -- there is such a text, and its strings are those
  pub of_sample : (breaks11 sample ≡ false) × (strings_of sample ≡ (97 ∷ 98 ∷ []) ∷ [] ∷ (99 ∷ []) ∷ [] ∷ [] ∷ [])
