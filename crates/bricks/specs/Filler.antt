-- What the calls of this crate ask of a kind and answer of words, for the filler's check.
use Rattle.std.specs.Prelude.{Bool, true, false, List, ◌≡◌, ℕ, ◌*◌, ◌%◌, ◌^◌, ◌<◌, get_or}
use Rattle.endian.specs.Bytes.{le, lows}
use Rattle.table.specs.declared.Kind.{Kind}
use Rattle.table.specs.declared.Kind.TheVariants.{Constant}

-- a constant is a number of w bytes
abbrev pub Narrow : ℕ → Kind → Type 0
Narrow w k = (v : ℕ) → k ≡ Constant v → v < 256 ^ w

-- the four bytes of a word are the w bytes of a value, again and again
abbrev pub Repeats : ℕ → ℕ → ℕ → Type 0
Repeats w value word = (i : ℕ) → i < 4 → get_or (lows 4 word) i 0 ≡ get_or (lows w value) (i % w) 0

-- the first n words of four bytes are this word
abbrev pub Words : List ℕ → ℕ → ℕ → Type 0
Words filler word n = (i : ℕ) → i < n → le 4 filler (4 * i) ≡ word

-- b says whether they are
pub record Same (filler : List ℕ) (word n : ℕ) (b : Bool) : Type 0 where
  pub holds : b ≡ true → Words filler word n
  pub fails : b ≡ false → Words filler word n → ⊥
