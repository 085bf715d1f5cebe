use mathlib.Core.List.{List, [], ◌∷◌}
use mathlib.Core.Path.{sym, ap, ◌∙◌}
use lib.Ieee.{Float}
use Rattle.std.specs.Prelude.{Ok}
use Rattle.std.proofs.lemmas.Result.{err_from_is_err_and}
use Rattle.cube.specs.Calls.{float_read, floats}
use Rattle.cube.proofs.Calls.{refused-answer, refused-buffers, taken-answer, taken_float}
use Rattle.sampling.proofs.read_float.Goals as goal

pub returns-in_err-float_verdict : goal.returns-in_err-float_verdict
returns-in_err-float_verdict c =
    let call = float_read c.args.g c.args.out.now in
    let e = sym c.float_verdict.ensures ∙ c.in_err-float_verdict.was in
    let p = err_from_is_err_and c.from_residual.result c.from_residual.ensures.1 in
    record {
      answer = rw (p.1, p.2) (sym (refused-answer c.args.r c.args.file.now _ call e));
      buffer = sym (refused-buffers c.args.r c.args.file.now _ call e);
    }

pub returns : goal.returns
returns c =
    let call = float_read c.args.g c.args.out.now in
    let e = sym c.float_verdict.ensures ∙ c.in_ok-float_verdict.was in
    record {
      answer = ap Ok c.read_taken.ensures.0 ∙ sym (taken-answer c.args.r c.args.file.now call e);
      buffer = ap (λ (x : List Float). floats x ∷ []) c.read_taken.ensures.1 ∙ sym (taken_float c.args.r c.args.file.now c.args.g c.args.out.now e);
    }
