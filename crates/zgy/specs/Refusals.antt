-- Demand 1 (FORMAT 12.1): every refusal has a number of the table that its call may give, its second number is 0 but for 12, 13 and 19, and a refused call
-- leaves the cube and all lent buffers. That every call takes every input and ends is what the language itself proves of it.
use Rattle.std.specs.Prelude.{Bool, true, false, ◌&&◌, ◌||◌, List, [], ◌∷◌, ◌≡◌, ℕ, eqb, length, Ok, Err}
use Rattle.record.specs.Answers.{verdict_of, number, entry, Verdict, Taken, refused}
use Rattle.record.specs.declared.Description.{Description}
use Rattle.record.specs.declared.Record.{Record}
use Rattle.record.specs.declared.Refusal.{Refusal}
use Rattle.opening.specs.Opening.{opened_of}
use Rattle.cube.specs.Calls.{Call, raw_read, float_read, write, lent, answer_of}
use Rattle.bricks.specs.Bricks.{kind_answer, view_verdict}
use Rattle.positions.specs.Positions.{position_answer}
use Rattle.strings.specs.Strings.{strings_verdict, turn_in}
use Rattle.making.specs.Making.{make_answer, make_buffer}
use Rattle.making.specs.declared.Fill.{Fill}
use Rattle.subtiles.specs.Answers.{permute_answer, buffer_after}
use Rattle.zgy.specs.Ledger.{Event, CallOn}

-- n is one of the numbers
abbrev pub one_of : ℕ → List ℕ → Bool
one_of n [] = false
one_of n (k ∷ ks) = eqb n k || one_of n ks

-- a refusal by one of these numbers, with a second number for 12, 13 and 19 alone
unfoldable pub may_be : List ℕ → Verdict → Bool
may_be numbers (Ok u) = true
may_be numbers (Err x) = one_of (number x) numbers && (one_of (number x) (12 ∷ 13 ∷ 19 ∷ []) || eqb (entry x) 0)

-- the numbers that a call on a region may give, in the order of its checks
abbrev pub numbers_of : Call → List ℕ
numbers_of (raw_read g b) = 14 ∷ 15 ∷ 16 ∷ 18 ∷ 12 ∷ []
numbers_of (float_read g b) = 14 ∷ 15 ∷ 16 ∷ 18 ∷ 12 ∷ []
numbers_of (write g d) = 14 ∷ 15 ∷ 16 ∷ 18 ∷ 12 ∷ 19 ∷ []

-- the numbers of the table that each call's answer may give
pub record RefusedByNumber : Type 0 where
  pub opening : (f : List ℕ) → may_be (1 ∷ 2 ∷ 3 ∷ 4 ∷ 5 ∷ 6 ∷ 7 ∷ 8 ∷ 9 ∷ 10 ∷ 11 ∷ 12 ∷ 13 ∷ []) (verdict_of (opened_of f)) ≡ true
  pub brick_kind : (r : Record) (f : List ℕ) (e : ℕ) → may_be (14 ∷ 16 ∷ 12 ∷ []) (verdict_of (kind_answer r f e)) ≡ true
  pub brick_view : (r : Record) (f filler : List ℕ) (e : ℕ) → may_be (14 ∷ 16 ∷ 12 ∷ 18 ∷ 17 ∷ []) (view_verdict r f filler e) ≡ true
  pub region-call : (r : Record) (f : List ℕ) (c : Call) → may_be (numbers_of c) (verdict_of (answer_of r f c)) ≡ true
  pub position : (r : Record) (dimension index : ℕ) → may_be (14 ∷ 16 ∷ []) (verdict_of (position_answer r dimension index)) ≡ true
  pub strings : (r : Record) (f : List ℕ) → may_be (14 ∷ 11 ∷ []) (strings_verdict r f) ≡ true
  pub turn : (r : Record) (f : List ℕ) (n : ℕ) → may_be (14 ∷ 11 ∷ []) (verdict_of (turn_in r f n)) ≡ true
  pub make : (d : Description) (text : List ℕ) (fill : Fill) (n : ℕ) → may_be (4 ∷ 5 ∷ 6 ∷ 7 ∷ 8 ∷ 9 ∷ 11 ∷ 18 ∷ []) (verdict_of (make_answer d text fill n)) ≡ true
  pub permute : (side : List ℕ) (w from into : ℕ) → may_be (20 ∷ 18 ∷ []) (verdict_of (permute_answer side w from into)) ≡ true

-- what a refused call leaves: opening, kind, view, position and strings are lent nothing that they could change
pub record RefusedLeaves : Type 0 where
  -- a region call leaves the cube and its buffers
  pub region-call : (r : Record) (f : List ℕ) (e : Event) (x : Refusal) → CallOn r f e → verdict_of e.answer ≡ refused x → (e.cube ≡ f) × (e.buffers ≡ lent e.call)
  pub make : (d : Description) (text : List ℕ) (fill : Fill) (buffer : List ℕ) (x : Refusal)
      → verdict_of (make_answer d text fill (length buffer)) ≡ refused x → make_buffer d text fill buffer ≡ buffer
  pub permute : (side : List ℕ) (w from into : ℕ) (x : Refusal) (moved buffer : List ℕ)
      → verdict_of (permute_answer side w from into) ≡ refused x → buffer_after (permute_answer side w from into) moved buffer ≡ buffer

-- demand 1
pub record EveryCallRefusesByNumber : Type 0 where
  pub numbers : RefusedByNumber
  pub leaves : RefusedLeaves
