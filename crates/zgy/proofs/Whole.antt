-- Demand 3, `one-place-one-sample`, and beside it `stays_open`: the statements of specs/Demands.antt. Assumes nothing.
use Prim.Native.Nat.{ℕ}
use mathlib.Core.Path.{◌≡◌, refl, ap, ap₂, ◌∙◌}
use mathlib.Core.Option.{Option, none, some}
use mathlib.Core.List.{List, [], ◌∷◌, map}
use Rattle.record.specs.declared.Record.{Record}
use Rattle.opening.specs.Opening.{record_in}
use Rattle.cube.specs.Places.{Place, reading_of}
use Rattle.cube.proofs.Valid.{Valid, valid}
use Rattle.cube.proofs.Places.{places_apart, past_headers, in_file}
use Rattle.cube.proofs.Writes.{Kept, kept_refl, kept_trans, kept_kind, kept_valid}
use Rattle.zgy.specs.Ledger.{Event, last_cube, CallsOn, Ledger, opening, puts, leaves, feed, fed, later, last_put, promises}
use Rattle.zgy.specs.Demands.{OnePlace, AfterCalls, OnePlaceOneSample, StaysOpen}
use Rattle.zgy.proofs.Steps.{Agrees, items-whole, step_kept, step_agrees, step_gives}
use Rattle.zgy.proofs.Open.{kept-opens, kept_record, in_range, writes}

module _ (r : Record) where
  -- a row of the ledger is what the last taken write left
  last-put : (es : List Event) (l : Ledger r) (p : Place) → fed r l es p ≡ leaves r (l p) (last_put r es p)
  unfolding fed feed last_put
  last-put [] l p = refl
  last-put (e ∷ es) l p = last-put es (feed r l e) p ∙ go (last_put r es p)
    where
      go : (w : Option (List ℕ)) → leaves r (leaves r (l p) (puts r e p)) w ≡ leaves r (l p) (later r w (puts r e p))
      go none = refl
      go (some b) = refl

  -- ---- the list

  list_agrees : (es : List Event) (f : List ℕ) (l : Ledger r) → CallsOn r f es → Agrees r f l → Agrees r (last_cube f es) (fed r l es)
  unfolding fed
  list_agrees [] f l C A = A
  list_agrees (e ∷ es) f l C A = list_agrees es e.cube (feed r l e) C.1 (step_agrees r f l A e C.0)

  list_gives : (es : List Event) (f : List ℕ) (l : Ledger r) → CallsOn r f es → Agrees r f l → map (λ (e : Event). e.buffers) es ≡ promises r l es
  unfolding promises
  list_gives [] f l C A = refl
  list_gives (e ∷ es) f l C A =
      ap₂ ◌∷◌ (step_gives r f l A e C.0) (list_gives es e.cube (feed r l e) C.1 (step_agrees r f l A e C.0))

  list_kept : (es : List Event) (f : List ℕ) (l : Ledger r) → CallsOn r f es → Agrees r f l → Kept r f (last_cube f es)
  list_kept [] f l C A = kept_refl r f
  list_kept (e ∷ es) f l C A =
      kept_trans r f e.cube _ (step_kept r f l A e C.0) (list_kept es e.cube (feed r l e) C.1 (step_agrees r f l A e C.0))

  -- ---- the statements, of a valid cube

  module _ (f : List ℕ) (v : Valid r f) where
    one_place : OnePlace r f
    one_place = record { places = places_apart r f v; headers = past_headers r f v; in_file = in_file r f v }

    at_opening : Agrees r f (opening r f)
    at_opening = record { cube_valid = v; readings = λ p x. refl }

    module _ (es : List Event) (C : CallsOn r f es) where
      after_calls : AfterCalls r f es
      after_calls =
          let B : Agrees r (last_cube f es) (fed r (opening r f) es) = list_agrees es f (opening r f) C at_opening in
          record {
            samples = B.readings;
            last-writes = λ p x. B.readings p x ∙ ap (reading_of r) (last-put es (opening r f) p);
            reads = list_gives es f (opening r f) C at_opening;
            reads-later = step_gives r (last_cube f es) (fed r (opening r f) es) B;
            items = items-whole r (last_cube f es) (fed r (opening r f) es) B;
          }

      kept : Kept r f (last_cube f es)
      kept = list_kept es f (opening r f) C at_opening

pub one-place-one-sample : OnePlaceOneSample
unfolding OnePlaceOneSample
one-place-one-sample f h e =
    let v : Valid (record_in f) f = valid f h e in
    (one_place (record_in f) f v, after_calls (record_in f) f v)

pub stays_open : StaysOpen
unfolding StaysOpen
stays_open f h e es C =
    let r : Record = record_in f in
    let v : Valid r f = valid f h e in
    let K : Kept r f (last_cube f es) = kept r f v es C in
    let w : Valid r (last_cube f es) = kept_valid r f (last_cube f es) K v in
    record {
      headers = record { same_length = K.same_length; same_header = K.same_header; same_entries = kept_kind r f (last_cube f es) K };
      opens = kept-opens f (last_cube f es) e K;
      same_record = kept_record f (last_cube f es) e K;
      in_range = in_range r (last_cube f es) w;
      writes = writes r (last_cube f es) w;
    }
