-- Bytes of a file: a part, a part overwritten, and numbers in little-endian order.
use Rattle.std.specs.Prelude.{List, [], ◌∷◌, ◌++◌, ℕ, zero, suc, ◌+◌, ◌*◌, ◌/◌, ◌%◌, ◌<◌, length, get_or, take, drop}

-- the numbers of f are bytes
abbrev pub Bytes : List ℕ → Type 0
Bytes f = (i : ℕ) → get_or f i 0 < 256

-- the n bytes of f from place a on
abbrev pub peek : List ℕ → ℕ → ℕ → List ℕ
peek f a n = take n (drop a f)

-- f with the bytes bs from place a on
abbrev pub put : List ℕ → ℕ → List ℕ → List ℕ
put f a bs = take a f ++ (bs ++ drop (a + length bs) f)

-- the number in k bytes of f from place a on, the lowest byte first
unfoldable pub le : ℕ → List ℕ → ℕ → ℕ
le zero f a = 0
le (suc k) f a = get_or f a 0 + 256 * le k f (a + 1)

-- the low k bytes of v, the lowest first
unfoldable pub lows : ℕ → ℕ → List ℕ
lows zero v = []
lows (suc k) v = v % 256 ∷ lows k (v / 256)
