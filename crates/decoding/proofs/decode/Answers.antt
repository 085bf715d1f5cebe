use mathlib.Core.Path.{◌≡◌, refl, sym, ap, ◌∙◌}
use mathlib.Core.Logic.{inr}
use Prim.Native.Nat.{ℕ, ◌*◌}
use native.Mathlib.Omega.{arith}
use lib.ListN.{length}
use Rattle.record.specs.Types.{coding_of}
use Rattle.record.specs.declared.Coding.TheVariants.{Scaled, Float32}
use Rattle.std.specs.Prelude.{Ok}
use Rattle.decoding.proofs.Items.{int8, int16, int8_is, int16_is, float_is, width_as, decoded_as}
use Rattle.decoding.proofs.decode.Goals as goal

pub decode_scaled-requires : goal.decode_scaled-requires
decode_scaled-requires c =
    let in-int8 : coding_of c.args.datatype ≡ Ok (Scaled 1 128) = int8_is _ _ _ (sym c.coding_of.ensures ∙ c.in-Ok-Scaled.is ∙ ap Ok c.in-Ok-Scaled.field-0-is) c.if-width-eq1.true in
    (int8, c.requires.1 ∙ ap (λ (w : ℕ). length c.args.out.now * w) (width_as _ _ in-int8))

pub decode_scaled-requires-else-width-eq1 : goal.decode_scaled-requires-else-width-eq1
decode_scaled-requires-else-width-eq1 c =
    let in-int16 : coding_of c.args.datatype ≡ Ok (Scaled 2 32768) = int16_is _ _ _ (sym c.coding_of.ensures ∙ c.in-Ok-Scaled.is ∙ ap Ok c.in-Ok-Scaled.field-0-is) (λ z. omega arith) in
    (int16, c.requires.1 ∙ ap (λ (w : ℕ). length c.args.out.now * w) (width_as _ _ in-int16))

pub decode_widened-requires : goal.decode_widened-requires
decode_widened-requires c =
    let in_float : coding_of c.args.datatype ≡ Ok (Float32 4) = float_is _ _ (sym c.coding_of.ensures ∙ c.in-Ok-Float32.is ∙ ap Ok c.in-Ok-Float32.field-0-is) in
    (inr (inr refl), c.requires.1 ∙ ap (λ (w : ℕ). length c.args.out.now * w) (width_as _ _ in_float))

pub returns-then-width-eq1 : goal.returns-then-width-eq1
returns-then-width-eq1 c =
    let in-int8 : coding_of c.args.datatype ≡ Ok (Scaled 1 128) = int8_is _ _ _ (sym c.coding_of.ensures ∙ c.in-Ok-Scaled.is ∙ ap Ok c.in-Ok-Scaled.field-0-is) c.if-width-eq1.true in
    c.decode_scaled.ensures ∙ decoded_as c.args.datatype (Ok (Scaled 1 128)) in-int8 c.args.min c.args.max c.args.bytes.now (length c.args.out.now)

pub returns-else-width-eq1 : goal.returns-else-width-eq1
returns-else-width-eq1 c =
    let in-int16 : coding_of c.args.datatype ≡ Ok (Scaled 2 32768) = int16_is _ _ _ (sym c.coding_of.ensures ∙ c.in-Ok-Scaled.is ∙ ap Ok c.in-Ok-Scaled.field-0-is) (λ z. omega arith) in
    c.decode_scaled-else-width-eq1.ensures ∙ decoded_as c.args.datatype (Ok (Scaled 2 32768)) in-int16 c.args.min c.args.max c.args.bytes.now (length c.args.out.now)

pub returns-in-Ok-Float32 : goal.returns-in-Ok-Float32
returns-in-Ok-Float32 c =
    let in_float : coding_of c.args.datatype ≡ Ok (Float32 4) = float_is _ _ (sym c.coding_of.ensures ∙ c.in-Ok-Float32.is ∙ ap Ok c.in-Ok-Float32.field-0-is) in
    c.decode_widened.ensures ∙ decoded_as c.args.datatype (Ok (Float32 4)) in_float c.args.min c.args.max c.args.bytes.now (length c.args.out.now)
