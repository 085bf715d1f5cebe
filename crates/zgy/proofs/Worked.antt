-- The worked numbers 1 to 10, by computation. Assumes nothing.
use mathlib.Core.Path.{◌≡◌, refl}
use Prim.Native.Nat.{◌-◌}
use lib.Ieee.{of_bits, lt}
use Rattle.endian.specs.Bytes.{le, lows}
use Rattle.endian.specs.Loops.{first_from, sum_to}
use Rattle.floats.specs.Rules.{integer_of, finite, range_ok}
use Rattle.geometry.specs.Geometry.{halved, level_base, entry_of}
use Rattle.record.specs.Answers.{refused, Taken}
use Rattle.record.specs.declared.Refusal.TheVariants as refusal
use Rattle.record.specs.Types.{coding_of, width_of, value_of}
use Rattle.record.specs.Header.{version_of, description_of, text_length_of}
use Rattle.record.specs.Record.{levels_of, bricks_of, alphas_of, brick_bytes_of, table_of, header_of, record_of}
use Rattle.checks.specs.Checks.{breaks2, breaks3, side_ok, breaks4, breaks5, size_ok, breaks6, breaks7, breaks8, breaks9, zeros, breaks11, described}
use Rattle.table.specs.Entries.{kind_of, word_at, kind_at, out_of_range, outside_at, overlap, overlaps_lower, overlaps_at, table_in, breaks12, breaks13}
use Rattle.opening.specs.Opening.{header_verdict, length_verdict, text_verdict, range_verdict, overlap_verdict, entries_verdict, body_verdict, record_in, open_verdict}
use Rattle.cube.specs.Places.{entry_in, brick_of, item_no, byte_of}
use Rattle.zgy.specs.Worked.{one_record, one_brick, WorkedNumbers}

below : open_verdict (one_brick (2431 - 1) 64) ≡ refused (refusal.Range 0)
unfolding one_brick lows open_verdict header_verdict body_verdict length_verdict text_verdict entries_verdict range_verdict overlap_verdict record_in record_of version_of description_of text_length_of le breaks2 breaks3 side_ok breaks4 breaks5 size_ok breaks6 breaks7 breaks8 breaks9 zeros breaks11 described coding_of width_of finite range_ok bricks_of alphas_of brick_bytes_of table_of header_of halved first_from sum_to kind_of word_at kind_at out_of_range outside_at table_in breaks12 of_bits lt
below = refl

whole : open_verdict (one_brick 2431 64) ≡ Taken
unfolding one_brick lows open_verdict header_verdict body_verdict length_verdict text_verdict entries_verdict range_verdict overlap_verdict record_in record_of version_of description_of text_length_of le breaks2 breaks3 side_ok breaks4 breaks5 size_ok breaks6 breaks7 breaks8 breaks9 zeros breaks11 described coding_of width_of finite range_ok bricks_of alphas_of brick_bytes_of table_of header_of halved first_from sum_to kind_of word_at kind_at out_of_range outside_at overlap overlaps_lower overlaps_at table_in breaks12 breaks13 of_bits lt
whole = refl

short : open_verdict (one_brick 2431 (64 - 1)) ≡ refused (refusal.Range 0)
unfolding one_brick lows open_verdict header_verdict body_verdict length_verdict text_verdict entries_verdict range_verdict overlap_verdict record_in record_of version_of description_of text_length_of le breaks2 breaks3 side_ok breaks4 breaks5 size_ok breaks6 breaks7 breaks8 breaks9 zeros breaks11 described coding_of width_of finite range_ok bricks_of alphas_of brick_bytes_of table_of header_of halved first_from sum_to kind_of word_at kind_at out_of_range outside_at table_in breaks12 of_bits lt
short = refl

pub worked : WorkedNumbers
unfolding one_record record_of first_from sum_to halved level_base entry_of levels_of bricks_of alphas_of brick_bytes_of header_of width_of entry_in brick_of item_no byte_of kind_of coding_of value_of integer_of
worked = record {
  case1 = refl;
  case2 = refl;
  case3 = refl;
  case4 = refl;
  case5 = refl;
  case6 = refl;
  case7 = refl;
  case8 = (refl, refl);
  case9 = (refl, below, whole, short);
  case10 = (refl, refl);
}
