use mathlib.Core.List.{[]}
use native.Mathlib.Omega.{arith}
use lib.ListN.{get_or}
use Rattle.endian.proofs.Loads.{four}
use Rattle.bricks.proofs.Words.{chunk-is, gathered_more}
use Rattle.bricks.proofs.same_words.Goals as goal

pub loop-bytes-preserved : goal.loop-bytes-preserved
loop-bytes-preserved c =
    gathered_more _ _ _ _ _
    (chunk-is _ _ _ _ _ c.as_chunks.ensures.front (omega (arith, c.as_chunks.ensures.front_len))
    (omega (arith, c.from_le_bytes.ensures, four (get_or c.as_chunks.result.0.now c.loop-bytes.bytes-index []) 0)))
    c.loop-bytes.invariant
