use mathlib.Core.Path.{sym, ap, ◌∙◌}
use Rattle.std.specs.Prelude.{Ok}
use Rattle.std.proofs.lemmas.Result.{err_from_is_err_and}
use Rattle.cube.specs.Calls.{write}
use Rattle.cube.proofs.Calls.{refused-answer, refused-cube, taken-answer, taken-write}
use Rattle.writing.proofs.write.Goals as goal

pub returns-in_err-write_verdict : goal.returns-in_err-write_verdict
returns-in_err-write_verdict c =
    let call = write c.args.g c.args.input.now in
    let e = sym c.write_verdict.ensures ∙ c.in_err-write_verdict.was in
    let p = err_from_is_err_and c.from_residual.result c.from_residual.ensures.1 in
    record {
      answer = rw (p.1, p.2) (sym (refused-answer c.args.r c.args.file.now _ call e));
      cube = sym (refused-cube c.args.r c.args.file.now _ call e);
    }

pub returns : goal.returns
returns c =
    let call = write c.args.g c.args.input.now in
    let e = sym c.write_verdict.ensures ∙ c.in_ok-write_verdict.was in
    record {
      answer = ap Ok c.write_region.ensures.count ∙ sym (taken-answer c.args.r c.args.file.now call e);
      cube = c.write_region.ensures.cube ∙ sym (taken-write c.args.r c.args.file.now c.args.g c.args.input.now e);
    }
