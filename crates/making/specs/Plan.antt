-- The parts of making: the numbers that a made cube follows from, and what its functions ask of a description.
use Rattle.std.specs.Prelude.{true, cond, List, [], ◌∷◌, ◌++◌, ◌≡◌, ℕ, ◌+◌, ◌*◌, ◌^◌, ◌≤◌, ltb, get_or, length}
use Rattle.geometry.specs.Limits.{size_limit}
use Rattle.endian.specs.Bytes.{lows}
use Rattle.floats.specs.Rules.{finite_bits}
use Rattle.record.specs.Answers.{refused, Verdict, Taken}
use Rattle.record.specs.Record.{size_of, bricks_of, alphas_of, brick_bytes_of}
use Rattle.record.specs.declared.Description.{Description}
use Rattle.checks.specs.Checks.{breaks11}
use Rattle.making.specs.Making.{zero_bytes, survey_of, file_header, info_header, first_brick, after_headers, made_length}
use Rattle.making.specs.declared.Fill.{Fill}
use Rattle.making.specs.declared.Fill.TheVariants.{Constant, Stored}
use Rattle.making.specs.declared.Plan.{Plan}
use Rattle.record.specs.declared.Refusal.TheVariants as refusal

-- direction i has a finite inc and an allowed size
pub record MeasuredIn (d : Description) (i : ℕ) : Type 0 where
  pub inc-finite : finite_bits (get_or d.inc i 0) ≡ true
  pub size_small : size_of d i ≤ size_limit

pub record Measured (d : Description) : Type 0 where
  pub inline : MeasuredIn d 0
  pub crossline : MeasuredIn d 1
  pub vertical : MeasuredIn d 2

-- srvsize, in the three directions
abbrev pub survey_sizes : Description → List ℕ
survey_sizes d = survey_of d 0 ∷ survey_of d 1 ∷ survey_of d 2 ∷ []

-- entry e of a table whose first entry is v, and each next one s more
abbrev pub stepped : ℕ → ℕ → ℕ → List ℕ
stepped v s e = lows 8 (v + e * s)

-- the first entry, and what each next one is more
abbrev pub first_entry : Description → ℕ → Fill → ℕ
first_entry d n Constant = 2 ^ 63
first_entry d n Stored = first_brick d n

abbrev pub entry_step : Description → Fill → ℕ
entry_step d Constant = 0
entry_step d Stored = brick_bytes_of d

unfoldable pub plan_of : Description → ℕ → Fill → Plan
plan_of d n fill = record {
  alphas = alphas_of d;
  bricks = bricks_of d;
  first = first_entry d n fill;
  step = entry_step d fill;
  after = after_headers d n fill;
  length = made_length d n fill;
}

-- headers, text and an empty histogram
unfoldable pub headed : Description → List ℕ → List ℕ
headed d text = file_header ++ info_header d (length text) ++ text ++ zero_bytes 2064

-- checks 11 and 18
unfoldable pub rest_verdict : Description → List ℕ → Fill → ℕ → Verdict
rest_verdict d text fill room =
    cond (breaks11 text) (refused refusal.Text)
    (cond (ltb room (made_length d (length text) fill)) (refused refusal.Room)
    Taken)
