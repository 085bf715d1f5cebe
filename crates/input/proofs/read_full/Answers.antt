use Rattle.std.proofs.Common.{◌≡◌, ℕ, ◌+◌, ◌-◌, ◌≤◌, List, ◌++◌, rules, arith, length, take, slice_range, sym, ap, ◌∙◌, subst, le_refl, drop_at, length-take-le}
use Rattle.std.proofs.lemmas.Slice.{take-put_mid_below}
use Rattle.std.specs.Io.KnownBytes.{Consumes}
use Rattle.std.proofs.KnownBytes.{Consumes-trans}
use borrow.Rule.Slice.PartMut.{put_mid, post_of}
use lib.Seq.{take-add, take-append-le}
use Rattle.input.proofs.read_full.Goals as goal

-- the first b items are the first a, which stayed, and those from there on
front_then_part : (a b : ℕ) (old new : List ℕ) → a ≤ b → take a new ≡ take a old → take a old ++ slice_range new a b ≡ take b new
front_then_part a b old new h front =
    let whole : a + (b - a) ≡ b = omega arith in
    ap (λ l. l ++ slice_range new a b) (sym front) ∙ sym (take-add a (b - a) new) ∙ ap (λ n. take n new) whole

-- the first n items of a part that was put there
put_part : (a k n : ℕ) (xs ys : List ℕ) → a ≤ length xs → n ≤ length ys → slice_range (put_mid a k xs ys) a (a + n) ≡ take n ys
put_part a k n xs ys within fits =
    let count : (a + n) - a ≡ n = omega arith in
    let after = post_of a k xs in
    ap (take ((a + n) - a)) (drop_at (take a xs) (ys ++ after) a (length-take-le a xs within)) ∙ ap (λ m. take m (ys ++ after)) count ∙ take-append-le n ys after fits

pub loop-preserved : goal.loop-preserved
loop-preserved g c =
    let at = c.loop.done in
    let room = length c.loop.out - at in
    let within = c.loop.invariant.2 in
    let part = put_part at room c.in-Ok.n c.loop.out c.read.new.buf within c.in-Ok.ensures.bound.0 in
    let joined = front_then_part at (at + c.in-Ok.n) c.loop.out (put_mid at room c.loop.out c.read.new.buf) (omega arith) (take-put_mid_below _ _ _ _ _ (le_refl _) within) in
    (search rules, search rules, search rules, subst (Consumes _ _) (ap (λ l. take at c.loop.out ++ l) (sym part) ∙ joined) (Consumes-trans _ _ _ _ _ c.loop.invariant.3 c.in-Ok.ensures.bytes.0))
