use Rattle.endian.proofs.Bytes.{lows_32}
use Rattle.making.proofs.push_u32.Goals as goal

pub returns : goal.returns
returns c = rw (← lows_32 _ c.to_le_bytes.ensures) c.push_bytes.ensures
