use mathlib.Core.Path.{sym, ◌∙◌}
use Rattle.std.proofs.lemmas.Result.{err_from_is_err_and}
use Rattle.making.proofs.Sizes.{clamped}
use Rattle.making.proofs.Files.{making_refused, making_rest, made_refused, made_taken}
use Rattle.making.proofs.make.Goals as goal

pub invariant_of-cube : goal.invariant_of-cube
invariant_of-cube c =
    let e = c.check_description.ensures ∙ rw c.text_length.ensures (clamped _ _) in
    record { taken = sym e ∙ c.in_ok-check_description.was }

pub returns-in_err-check_description : goal.returns-in_err-check_description
returns-in_err-check_description c =
    let e = c.check_description.ensures ∙ rw c.text_length.ensures (clamped _ _) in
    let q = made_refused _ _ _ _ _ (sym (making_refused _ _ _ _ _ _ e c.in_err-check_description.was) ∙ c.in_err-check_description.was) in
    let p = err_from_is_err_and c.from_residual.result c.from_residual.ensures.1 in
    record { answer = rw (p.1, p.2) q.0; buffer = q.1 }

pub returns-in_err-check_rest : goal.returns-in_err-check_rest
returns-in_err-check_rest c =
    let e = c.check_description.ensures ∙ rw c.text_length.ensures (clamped _ _) in
    let v = making_rest _ _ _ _ _ (sym e ∙ c.in_ok-check_description.was) c.check_rest.ensures in
    let q = made_refused _ _ _ _ _ (sym v ∙ c.in_err-check_rest.was) in
    let p = err_from_is_err_and c.from_residual-in_err-check_rest.result c.from_residual-in_err-check_rest.ensures.1 in
    record { answer = rw (p.1, p.2) q.0; buffer = q.1 }

pub returns : goal.returns
returns c =
    let e = c.check_description.ensures ∙ rw c.text_length.ensures (clamped _ _) in
    let v = making_rest _ _ _ _ _ (sym e ∙ c.in_ok-check_description.was) c.check_rest.ensures in
    let q = made_taken _ _ _ _ _ _ (sym v ∙ c.in_ok-check_rest.was) c.push_cube.ensures in
    record { answer = q.0; buffer = q.1 }
