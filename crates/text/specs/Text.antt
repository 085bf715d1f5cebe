-- Text in a lent slice of bytes, and numbers in decimal.
use Rattle.std.specs.Prelude.{cond, List, [], ◌∷◌, ◌++◌, ◌≡◌, refl, ℕ, zero, suc, ◌+◌, ◌/◌, ◌%◌, min, ltb, ℤ, pos, negsuc, length, take, drop}
use Prim.Native.Char.{code}
use Prim.Native.String.{String, [] as none, ◌∷◌ as ◌then◌}
use Rattle.floats.specs.Rules.{signed_of}

-- out with the bytes bs from place a on; what does not fit is left out
unfoldable pub poured : List ℕ → ℕ → List ℕ → List ℕ
poured out a bs = take (length out) (take a out ++ (bs ++ drop (a + length bs) out))

-- the place after them
abbrev pub after : List ℕ → ℕ → List ℕ → ℕ
after out a bs = min (a + length bs) (length out)

-- what a call that pours bs promises: out' is out with bs from place a on, and r is the place after them
pub record Pours (out : List ℕ) (a : ℕ) (bs out' : List ℕ) (r : ℕ) : Type 0 where
  pub bytes : out' ≡ poured out a bs
  pub place : r ≡ after out a bs

-- the last digit of n, as a byte of text: 0 is 48
abbrev pub digit : ℕ → ℕ
digit n = 48 + n % 10

-- n in decimal, of at most k + 1 digits
unfoldable pub digits : ℕ → ℕ → List ℕ
digits zero n = digit n ∷ []
digits (suc k) n = cond (ltb n 10) (digit n ∷ []) (digits k (n / 10) ++ (digit n ∷ []))

-- a number below 2 ^ 64 in decimal
unfoldable pub decimal : ℕ → List ℕ
decimal n = digits 19 n

-- an integer in decimal, with a minus sign (45) where it is below zero
unfoldable pub signed_decimal : ℤ → List ℕ
signed_decimal (pos n) = decimal n
signed_decimal (negsuc n) = 45 ∷ decimal (suc n)

-- the bytes of an ASCII text: the code of each of its characters
abbrev pub bytes_of : String → List ℕ
bytes_of none = []
bytes_of (c then s) = code c ∷ bytes_of s

-- examples
version : bytes_of "version " ≡ 118 ∷ 101 ∷ 114 ∷ 115 ∷ 105 ∷ 111 ∷ 110 ∷ 32 ∷ []
version = refl

highest : decimal 18446744073709551615 ≡ bytes_of "18446744073709551615"
unfolding decimal digits
highest = refl

lowest : signed_decimal (signed_of 128 128) ≡ bytes_of "-128"
unfolding signed_decimal decimal digits
lowest = refl

cut_short : poured (bytes_of "........") 5 (bytes_of "version") ≡ bytes_of ".....ver"
unfolding poured
cut_short = refl
