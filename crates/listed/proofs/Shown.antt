-- What stands at the front of a buffer after text was put there.
use Rattle.std.proofs.Common.{◌≡◌, ap, sym, ◌∙◌, ℕ, ◌+◌, List, length, take, min, arith}
use lib.Seq.{take-take, take-append-le}
use Rattle.std.proofs.lemmas.List.{take_min}
use Rattle.text.proofs.Pour.{poured-length}
use Rattle.text.specs.Text.{poured, after, Pours}

take-poured : (out bs : List ℕ) → take (after out 0 bs) (poured out 0 bs) ≡ take (length out) bs
unfolding poured
take-poured out bs =
    let filled = min (0 + length bs) (length out) in
    let count : filled ≡ min (length out) (length bs) = omega arith in
    take-take filled (length out) _ (omega arith) ∙ take-append-le filled bs _ (omega arith) ∙ ap (λ k. take k bs) count ∙ take_min (length out) bs

-- the part that the text fills is as much of the text as there is room for
pub take-Pours : {out bs out' : List ℕ} {r : ℕ} (room : ℕ) → length out' ≡ room → Pours out 0 bs out' r → take r out' ≡ take room bs
take-Pours {out} {bs} room e p =
    let same : length out ≡ room = sym (poured-length out 0 bs) ∙ ap length (sym p.bytes) ∙ e in
    rw (p.bytes, p.place, sym same) (take-poured out bs)
