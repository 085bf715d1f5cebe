-- How many elements at the front of a list were filled.
use Rattle.std.specs.Prelude.{List, ℕ, ◌≡◌, ◌≤◌, length, take}

-- n counts elements at the front of xs
abbrev pub IsPrefixLen : ℕ → List ℕ → Type 0
IsPrefixLen n xs = (n ≤ length xs) × (n ≡ length (take n xs))
