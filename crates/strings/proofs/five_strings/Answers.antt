use mathlib.Core.Path.{refl}
use Rattle.endian.specs.Loops.{sum_to}
use Rattle.checks.specs.Checks.{zeros, breaks11}
use Rattle.strings.specs.Strings.{end_of, turn_of, strings_from, strings_of}
use Rattle.strings.proofs.Fives.{text_five}
use Rattle.strings.proofs.Verdicts.{cube_five, refused_turns}
use Rattle.strings.proofs.Parts.{turn_verdict_lem, turn-nth}
use Rattle.strings.proofs.five_strings.Goals as goal

pub returns : goal.returns
unfolding breaks11 zeros sum_to strings_of strings_from turn_of end_of
returns c = record {
  of_text = text_five;
  of_cube = cube_five;
  of_refused = refused_turns;
  of_turn = λ r f n. (turn_verdict_lem r f n, turn-nth r f n);
  of_sample = (refl, refl);
}
