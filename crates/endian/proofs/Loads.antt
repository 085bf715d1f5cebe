-- Four bytes, written out, as the definition `le` says them. Assumes nothing.
use Prim.Native.Nat.{ℕ, ◌+◌, ◌*◌}
use mathlib.Core.Path.{◌≡◌}
use mathlib.Core.List.{List}
use native.Mathlib.Nat.{add_assoc, add-zero}
use lib.ListN.{get_or}
use Rattle.endian.specs.Bytes.{le}

pub four : (s : List ℕ) (at : ℕ) → get_or s at 0 + 256 * (get_or s (at + 1) 0 + 256 * (get_or s (at + 2) 0 + 256 * get_or s (at + 3) 0)) ≡ le 4 s at
unfolding le
four s at = simp (add_assoc, add-zero)
