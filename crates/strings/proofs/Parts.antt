-- The string that a turn hands out: the n-th, and a part of the file. Assumes nothing.
use mathlib.Core.List.{List, []}
use mathlib.Core.Option as math
use mathlib.Core.Path.{◌≡◌, refl, sym, ap, ◌∙◌}
use Prim.Native.Nat.{ℕ, ◌+◌, ◌-◌, ◌≤◌}
use native.Mathlib.Decide.{dec_le}
use native.Mathlib.Omega.{arith}
use lib.ListN.{get_or, length}
use Rattle.geometry.specs.Limits.{text_start}
use Rattle.endian.specs.Bytes.{peek}
use Rattle.endian.proofs.Puts.{peek_part, length-peek}
use Rattle.record.specs.declared.Record.{Record}
use Rattle.record.specs.Answers.{Verdict, Taken, verdict_of, answered}
use Rattle.strings.specs.Strings.{strings_verdict, text_in, string_at, turn_of, turn_string, place_of, turn_in, strings_of, item}
use Rattle.strings.specs.declared.Item.{Item}
use Rattle.record.specs.declared.Refusal.{Refusal}
use Rattle.std.specs.Prelude.{Option, Result, Some, Ok, Err}
use Rattle.strings.proofs.Turns.{turn-item, turn-done, string_done, string_nth, item_within}
use Rattle.strings.proofs.Verdicts.{text_inside, taken-passes, text_taken, text_refused}

ok-same : {x y : Option Item} → ◌≡◌ {A = Result (Option Item) Refusal} (Ok x) (Ok y) → x ≡ y
ok-same e = cc

module _ (r : Record) (f : List ℕ) (n : ℕ) where
  abbrev t : List ℕ
  t = text_in r f

  abbrev at : ℕ
  at = place_of t n

  pub turn_verdict_lem : verdict_of (turn_in r f n) ≡ strings_verdict r f
  turn_verdict_lem = go (strings_verdict r f)
    where
      go : (v : Verdict) → verdict_of (answered v (turn_of t at)) ≡ v
      go (Ok u) = refl
      go (Err x) = refl

  pub turn-nth : math.get_or (turn_string t (turn_in r f n)) [] ≡ get_or (strings_of t) n []
  unfolding string_at
  turn-nth = go (strings_verdict r f) refl ∙ sym (string_nth t n)
    where
      go : (v : Verdict) → strings_verdict r f ≡ v → math.get_or (turn_string t (answered v (turn_of t at))) [] ≡ string_at t at
      go (Ok u) e =
          elim (dec_le (length t) at) [
            | yes g ↦ rw (turn-done t at g) (sym (string_done t at g))
            | no g ↦ rw (turn-item t at (omega arith))
          ]
      go (Err x) e = sym (string_done t at (omega (arith, ap length (text_refused r f x e))))

  module _ (start end next : ℕ) (e : Ok (Some (item start end next)) ≡ turn_in r f n) where
    -- where the walk is refused no string is handed out
    item-taken : strings_verdict r f ≡ Taken
    item-taken = sym (ap verdict_of e ∙ turn_verdict_lem)

    -- the string lies in the text section, and that in the file
    pub item-inside : (start ≤ end) × (end ≤ r.text) × (text_start + r.text ≤ length f)
    item-inside =
        let i = text_inside r f (taken-passes r f item-taken).0 in
        let q = item_within t at (ok-same (e ∙ ap (λ (v : Verdict). answered v (turn_of t at)) item-taken)) in
        let s : length t ≡ r.text = ap length (text_taken r f item-taken) ∙ length-peek f text_start r.text i.1 in
        (q.1, omega arith, i.1)

    -- the part of the file that a turn names is its string
    pub item_part : peek f (text_start + start) (end - start) ≡ get_or (strings_of t) n []
    item_part =
        let i = item-inside in
        sym (peek_part f text_start r.text start (end - start) i.2 (omega arith))
        ∙ ap (λ (l : List ℕ). peek l start (end - start)) (sym (text_taken r f item-taken))
        ∙ ap (λ (a : Result (Option Item) Refusal). math.get_or (turn_string t a) []) e
        ∙ turn-nth
