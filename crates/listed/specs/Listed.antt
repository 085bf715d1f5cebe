-- What is written of what is read.
use Rattle.std.specs.Prelude.{List, ℕ, ◌≤◌, length, take, Option}
use Rattle.std.specs.Io.KnownBytes.{Appends, Consumes}
use Rattle.report.specs.Listing.{listing_of}

-- the reader, which had `left` and has `rest`, gave some bytes, 65,537 at most, and the writer, which held `before` and holds `after`, took
-- their listing, or its first 262,144 bytes
abbrev pub Lists : Option (List ℕ) → Option (List ℕ) → Option (List ℕ) → Option (List ℕ) → Type 0
Lists left rest before after = (bs : List ℕ) × Consumes left rest bs × (length bs ≤ 65537) × Appends before after (take 262144 (listing_of bs))
