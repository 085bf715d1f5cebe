use Rattle.std.proofs.Common.{rules}
use Rattle.making.proofs.Sizes.{measured}
use Rattle.making.proofs.survey_sizes.Goals as goal

pub survey_size-requires : goal.survey_size-requires
survey_size-requires c = let m = (measured _ _ c.args.cube.taken).inline in search rules

pub survey_size-requires-2 : goal.survey_size-requires-2
survey_size-requires-2 c = let m = (measured _ _ c.args.cube.taken).crossline in search rules

pub survey_size-requires-3 : goal.survey_size-requires-3
survey_size-requires-3 c = let m = (measured _ _ c.args.cube.taken).vertical in search rules
