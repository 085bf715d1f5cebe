use Rattle.endian.proofs.Bytes.{lows_64}
use Rattle.making.proofs.push_u64.Goals as goal

pub returns : goal.returns
returns c = rw (← lows_64 _ c.to_le_bytes.ensures) c.push_bytes.ensures
