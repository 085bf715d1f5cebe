use Prim.Native.Nat.{ℕ}
use mathlib.Core.List.{List, [], ◌∷◌}
use mathlib.Core.Path.{sym, ap, ◌∙◌}
use Rattle.std.specs.Prelude.{Ok}
use Rattle.std.proofs.lemmas.Result.{err_from_is_err_and}
use Rattle.cube.specs.Calls.{raw_read, raw}
use Rattle.cube.proofs.Calls.{refused-answer, refused-buffers, taken-answer, taken-raw}
use Rattle.reading.proofs.read_raw.Goals as goal

pub returns-in_err-raw_verdict : goal.returns-in_err-raw_verdict
returns-in_err-raw_verdict c =
    let call = raw_read c.args.g c.args.out.now in
    let e = sym c.raw_verdict.ensures ∙ c.in_err-raw_verdict.was in
    let p = err_from_is_err_and c.from_residual.result c.from_residual.ensures.1 in
    record {
      answer = rw (p.1, p.2) (sym (refused-answer c.args.r c.args.file.now _ call e));
      buffer = sym (refused-buffers c.args.r c.args.file.now _ call e);
    }

pub returns : goal.returns
returns c =
    let e = sym c.raw_verdict.ensures ∙ c.in_ok-raw_verdict.was in
    record {
      answer = ap Ok c.read_region.ensures.count ∙ sym (taken-answer c.args.r c.args.file.now (raw_read c.args.g c.args.out.now) e);
      buffer = ap (λ (x : List ℕ). raw x ∷ []) c.read_region.ensures.buffer ∙ sym (taken-raw c.args.r c.args.file.now c.args.g c.args.out.now e);
    }
