use mathlib.Core.Path.{◌≡◌, sym, ap, ap₂, ◌∙◌}
use native.Mathlib.Omega.{arith}
use Rattle.std.proofs.lemmas.Result.{err_from_is_err_and}
use Rattle.record.specs.Header.{version_of, text_length_of}
use Rattle.record.specs.Answers.{answered}
use Rattle.checks.specs.Checks.{breaks3, described}
use Rattle.checks.proofs.Described.{described-all, described_sized, described-few, described_text}
use Rattle.opening.specs.Opening.{header_verdict, record_in}
use Rattle.opening.proofs.Header.{header_1, header_2, header_3, header_rest, made_derived}
use Rattle.opening.proofs.Answers.{judged, opened_early, opened_body}
use Rattle.opening.proofs.open.Goals as goal
use Rattle.opening.proofs.open.Goals.{After-check_description, After-record_of-r}

pub returns-then-file-lt-TEXT_START : goal.returns-then-file-lt-TEXT_START
returns-then-file-lt-TEXT_START c = opened_early _ _ (header_1 _ c.if-file-lt-TEXT_START.true)

pub returns-then-check2 : goal.returns-then-check2
returns-then-check2 c = opened_early _ _ (header_2 _ c.if-file-lt-TEXT_START.false (sym c.check2.ensures ∙ c.if-check2.true))

pub returns-then-check3 : goal.returns-then-check3
unfolding version_of
returns-then-check3 c =
    opened_early _ _ (header_3 _ c.if-file-lt-TEXT_START.false (sym c.check2.ensures ∙ c.if-check2.false) (judged breaks3 c.check3.ensures c.u32_at-version.ensures c.if-check3.true))

pub record_of-r-requires : goal.record_of-r-requires
record_of-r-requires c =
    let h = described-all _ _ (sym c.check_description.ensures ∙ c.in_ok-check_description.was) in
    (described_sized _ _ h, omega (arith, described-few _ _ h), omega (arith, described_text _ _ h))

pub check_body-requires : goal.check_body-requires
check_body-requires c =
    rw c.record_of-r.ensures (made_derived _ _ _ _ (sym c.check_description.ensures ∙ c.in_ok-check_description.was))

-- the verdict on the header
header_is : (c : After-check_description) → header_verdict c.args.file.now ≡ c.check_description.result
unfolding version_of text_length_of
header_is c =
    header_rest _ c.if-file-lt-TEXT_START.false (sym c.check2.ensures ∙ c.if-check2.false) (judged breaks3 c.check3.ensures c.u32_at-version.ensures c.if-check3.false)
    ∙ sym (c.check_description.ensures ∙ ap₂ described c.description_at-d.ensures c.u32_at-text.ensures)

-- the record that the body is judged with
record_is : (c : After-record_of-r) → c.record_of-r.result ≡ record_in c.args.file.now
unfolding version_of text_length_of record_in
record_is c = c.record_of-r.ensures ∙ rw (c.u32_at-version.ensures, c.description_at-d.ensures, c.u32_at-text.ensures)

pub returns-in_err-check_description : goal.returns-in_err-check_description
returns-in_err-check_description c =
    let d = goal.at.returns-in_err-check_description c in
    let p = err_from_is_err_and c.from_residual.result c.from_residual.ensures.1 in
    rw (p.1, p.2) (opened_early _ _ (header_is d.After-check_description ∙ c.in_err-check_description.was))

pub returns-in_err-check_body : goal.returns-in_err-check_body
returns-in_err-check_body c =
    let d = goal.at.returns-in_err-check_body c in
    let p = err_from_is_err_and c.from_residual-in_err-check_body.result c.from_residual-in_err-check_body.ensures.1 in
    rw (p.1, p.2)
    (ap (λ v. answered v c.record_of-r.result) (sym c.in_err-check_body.was ∙ c.check_body.ensures)
    ∙ opened_body _ _ (header_is d.After-check_description ∙ c.in_ok-check_description.was) (record_is d.After-record_of-r))

pub returns : goal.returns
returns c =
    let d = goal.at.returns c in
    ap (λ v. answered v c.record_of-r.result) (sym c.in_ok-check_body.was ∙ c.check_body.ensures)
    ∙ opened_body _ _ (header_is d.After-check_description ∙ c.in_ok-check_description.was) (record_is d.After-record_of-r)
