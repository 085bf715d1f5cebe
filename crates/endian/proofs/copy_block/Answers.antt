use native.Mathlib.Omega.{arith}
use Rattle.endian.proofs.Blocks.{put_two}
use Rattle.endian.proofs.copy_block.Goals as goal

pub returns-else-size-le16 : goal.returns-else-size-le16
returns-else-size-le16 c =
    let a = c.args in
    rw (c.copy_piece-else-size-le16-2.ensures, c.copy_piece-else-size-le16.ensures)
    (put_two a.src.now a.out.now a.at 16 a.size (omega arith) (omega arith) (omega arith))
