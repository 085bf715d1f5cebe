-- Check 14 (FORMAT 10.3): a record that breaks 3 to 9 or its derived numbers, whose file length is below the headers' end, or with which a file of another length is lent.
use Rattle.std.specs.Prelude.{Bool, not, ◌&&◌, List, ℕ, eqb, leb, get_or, Float}
use Rattle.std.specs.Float.{nan}
use Rattle.floats.specs.Rules.{same_bits}
use Rattle.record.specs.Answers.{is_taken}
use Rattle.record.specs.Record.{bound_of, header_of, levels_of, bricks_of, alphas_of}
use Rattle.record.specs.declared.Description.{Description}
use Rattle.record.specs.declared.Grid.{Grid}
use Rattle.record.specs.declared.Record.{Record}
use Rattle.checks.specs.Checks.{breaks3, described}

-- three floats have three fields' bits
abbrev pub same3 : List Float → List ℕ → Bool
same3 xs bs = same_bits (get_or xs 0 nan) (get_or bs 0 0) && same_bits (get_or xs 1 nan) (get_or bs 1 0) && same_bits (get_or xs 2 nan) (get_or bs 2 0)

-- the grid is the description's, by bits
unfoldable pub grid_fits : Description → Grid → Bool
grid_fits d g =
    same3 g.orig d.orig
    && same3 g.inc d.inc
    && same_bits g.min (bound_of d.datatype (get_or d.range 0 0))
    && same_bits g.max (bound_of d.datatype (get_or d.range 1 0))

-- header end, levels, bricks and alpha tiles are those that follow from the description and the text length, and the file has all headers
unfoldable pub numbers_fit : Record → Bool
numbers_fit r =
    eqb r.header (header_of r.description r.text)
    && eqb r.levels (levels_of r.description)
    && eqb r.bricks (bricks_of r.description)
    && eqb r.alphas (alphas_of r.description)
    && leb r.header r.length

unfoldable pub record_fits : Record → Bool
record_fits r =
    not (breaks3 r.version)
    && is_taken (described r.description r.text)
    && grid_fits r.description r.grid
    && numbers_fit r

-- check 14 where no file is lent
unfoldable pub breaks14 : Record → Bool
breaks14 r = not (record_fits r)

-- check 14 with a file of n bytes
unfoldable pub breaks14_with : Record → ℕ → Bool
breaks14_with r n = not (record_fits r && eqb r.length n)
