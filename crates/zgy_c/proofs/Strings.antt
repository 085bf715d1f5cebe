-- The part of the file that the string call names is the cube's string. Assumes nothing.
use mathlib.Core.List.{List, []}
use mathlib.Core.Option as math
use mathlib.Core.Path.{◌≡◌, ap, ◌∙◌}
use Prim.Native.Nat.{ℕ}
use lib.ListN.{get_or}
use Rattle.endian.specs.Bytes.{peek}
use Rattle.record.specs.declared.Record.{Record}
use Rattle.strings.specs.Strings.{item, text_in, turn_string, turn_in, strings_of}
use Rattle.std.specs.Prelude.{Option, Some, Result, Ok}
use Rattle.record.specs.declared.Refusal.{Refusal}
use Rattle.strings.specs.declared.Item.{Item}
use Rattle.strings.proofs.Parts.{turn-nth, item_part}
use Rattle.zgy_c.specs.Boundary.{string_c}
use Rattle.zgy_c.specs.declared.ZgyString.{ZgyString}

module _ (r : Record) (f : List ℕ) (n : ℕ) where
  -- what the call promises of its answer
  abbrev Promised : ZgyString → Type 0
  Promised a = (a ≡ string_c (turn_in r f n)) × (peek f a.offset a.length ≡ get_or (strings_of (text_in r f)) n [])

  pub handed : (start end next : ℕ) → Ok (Some (item start end next)) ≡ turn_in r f n → Promised (string_c (Ok (Some (item start end next))))
  handed start end next e = (ap string_c e, item_part r f n start end next e)

  -- a turn t that hands out no string
  pub none : (t : Result (Option Item) Refusal) → t ≡ turn_in r f n → (a : ZgyString) → a ≡ string_c t
      → peek f (string_c t).offset (string_c t).length ≡ math.get_or (turn_string (text_in r f) t) [] → Promised a
  none t e a h s = (
    h ∙ ap string_c e,
    ap (λ (b : ZgyString). peek f b.offset b.length) h ∙ s ∙ ap
        (λ (b : Result (Option Item) Refusal). math.get_or (turn_string (text_in r f) b) []) e ∙ turn-nth r f n,
  )
