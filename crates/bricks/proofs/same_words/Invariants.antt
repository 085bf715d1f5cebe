use Rattle.bricks.proofs.Words.{Gathered}
use Rattle.bricks.proofs.same_words.Given as goal

abbrev pub invariant-loop-bytes : goal.invariant-loop-bytes
invariant-loop-bytes l = Gathered l.filler l.word l.bytes-index l.different
