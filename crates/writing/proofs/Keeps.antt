-- Headers and length stay while a region is written, and with them all that the write relies on. Assumes nothing.
use Prim.Native.Nat.{ℕ, ◌+◌, ◌*◌, ◌/◌, ◌%◌, ◌≤◌, ◌<◌}
use mathlib.Core.Path.{◌≡◌, sym, ap, ◌∙◌}
use mathlib.Core.List.{List}
use native.Mathlib.Omega.{arith}
use native.Mathlib.Nat.{le_refl, lt_of_lt_of_le, div-add-mod', add-mul, mul_assoc, mul-le-mul_right}
use lib.ListN.{length, take}
use lib.Arith.{digits_lt}
use Rattle.endian.specs.Loops.{up, tri}
use Rattle.endian.specs.Bytes.{peek}
use Rattle.endian.proofs.Digits.{next_item}
use Rattle.endian.proofs.Puts.{length-peek, peek-take, peek_part}
use Rattle.record.specs.declared.Record.{Record}
use Rattle.record.specs.Answers.{Taken}
use Rattle.checks.proofs.Records.{Fit}
use Rattle.cube.specs.declared.Region.{Region}
use Rattle.cube.specs.Places.{item_bytes, brick_of}
use Rattle.cube.specs.Regions.{run_of, place, size_of, place_at, chunk, store, written, write_verdict}
use Rattle.endian.proofs.Cats.{up_rule, up_same, up_up}
use Rattle.cube.proofs.Places.{brick-lt}
use Rattle.cube.proofs.Regions.{Covered, write_passed}
use Rattle.cube.proofs.Writes.{Kept, kept_trans, kept_kind, kept_held, store_kept}
use Rattle.runs.specs.declared.Lattice.{Lattice}
use Rattle.runs.specs.Runs.{lattice_of}
use Rattle.runs.proofs.Steps.{ready, ready_fit, ready-kept, some_held}
use Rattle.writing.specs.Writes.{run_bytes, plane_bytes, sample_to, run_to, plane_to, Writable}

-- each of n items of w bytes is whole
pub length-chunk : (w n t : ℕ) (d : List ℕ) → length d ≡ n * w → t < n → length (chunk w d t) ≡ w
length-chunk w n t d e l = length-peek d (t * w) w (omega (arith, e, next_item w t n l))

-- from the verdict to the loops
pub writable : (r : Record) (f : List ℕ) (g : Region) (q : Lattice) (n : ℕ) → write_verdict r f g n ≡ Taken → q ≡ lattice_of r g → Writable r f g q
writable r f g q n e l =
    let h = write_passed r f g n e in
    record {
      ready = ready r f g n (size_of g * item_bytes r) h.0 q l;
      some = some_held r f g n (size_of g * item_bytes r) h.0;
      stored = λ i j k hi hj hk. let c = h.1 i j k hi hj hk in (c.offset, c.at_offset);
    }

module _ (r : Record) (f : List ℕ) (g : Region) (q : Lattice) (h : Writable r f g q) where
  pub fit_in : Fit r
  fit_in = ready_fit r f g q h.ready

  pub covers-all : Covered r f g
  covers-all i j k hi hj hk =
      let s = h.stored i j k hi hj hk in
      let e = h.ready.ends i j k hi hj hk s.0 s.1 in
      record { placed = h.ready.inside i j k hi hj hk; offset = s.0; at_offset = s.1; low = e.low; high = e.high }

  -- each sample, run and inline keeps the headers
  module _ (i j : ℕ) (hi : i < run_of g 0) (hj : j < run_of g 1) (d : List ℕ) (full : length d ≡ run_bytes r g) where
    sample-kept : (k : ℕ) → k < run_of g 2 → (x : List ℕ) → Kept r f x → Kept r f (sample_to r g i j d k x)
    sample-kept k hk x κ =
        kept_trans r f x _ κ (store_kept r fit_in x (place g i j k) (kept_held r f x κ fit_in (place g i j k) (covers-all i j k hi hj hk)) _
        (length-chunk (item_bytes r) (run_of g 2) k d full hk))

    pub run_kept : (x : List ℕ) → Kept r f x → (n : ℕ) → n ≤ run_of g 2 → Kept r f (up n (sample_to r g i j d) x)
    run_kept x κ n l = up_rule (λ k. Kept r f) n (sample_to r g i j d) x κ (λ k y hk κ'. sample-kept k (lt_of_lt_of_le hk l) y κ')

    pub whole_run_kept : (x : List ℕ) → Kept r f x → Kept r f (run_to r g i j d x)
    whole_run_kept x κ = run_kept x κ (run_of g 2) (le_refl (run_of g 2))

  pub plane_kept : (i : ℕ) → i < run_of g 0 → (d : List ℕ) → length d ≡ plane_bytes r g → (x : List ℕ) → Kept r f x → Kept r f (plane_to r g i d x)
  plane_kept i hi d full x κ =
      up_rule (λ j. Kept r f) (run_of g 1) _ x κ (λ j y hj κ'.
      whole_run_kept i j hi hj (chunk (run_bytes r g) d j) (length-chunk (run_bytes r g) (run_of g 1) j d full hj) y κ')

  pub writable_kept : (x : List ℕ) → Kept r f x → Writable r x g q
  writable_kept x κ =
      record {
        ready = ready-kept r f g q h.ready x κ;
        some = h.some;
        stored = λ i j k hi hj hk.
            let s = h.stored i j k hi hj hk in
            (s.0, kept_kind r f x κ (brick_of r (place g i j k)) (brick-lt r fit_in (place g i j k) (h.ready.inside i j k hi hj hk)) ∙ s.1);
      }

-- a part of so many items is the items' own
chunk-chunk : (w n : ℕ) (d : List ℕ) (j k : ℕ) → (j * n + n) * w ≤ length d → k < n → chunk w (chunk (n * w) d j) k ≡ chunk w d (j * n + k)
chunk-chunk w n d j k h l =
    peek_part d (j * (n * w)) (n * w) (k * w) w (omega (arith, h, add-mul (j * n) n w, mul_assoc j n w)) (next_item w k n l)
    ∙ ap (λ (a : ℕ). peek d a w) (omega (arith, add-mul (j * n) k w, mul_assoc j n w))

-- inline by inline, run by run and sample by sample is place by place
module _ (r : Record) (g : Region) (d : List ℕ) (full : length d ≡ size_of g * item_bytes r) where
  same-bytes : (i j k : ℕ) → i < run_of g 0 → j < run_of g 1 → k < run_of g 2
      → chunk (item_bytes r) (chunk (run_bytes r g) (chunk (plane_bytes r g) d i) j) k ≡ chunk (item_bytes r) d (tri (run_of g 1) (run_of g 2) i j k)
  same-bytes i j k hi hj hk =
      let n1 : ℕ = run_of g 1 in
      let n2 : ℕ = run_of g 2 in
      let w : ℕ = item_bytes r in
      let plane_in : (i * n1 + n1) * (n2 * w) ≤ run_of g 0 * n1 * (n2 * w) = mul-le-mul_right (n2 * w) (next_item n1 i (run_of g 0) hi) in
      let run_in : ((i * n1 + j) * n2 + n2) * w ≤ size_of g * w = mul-le-mul_right w (next_item n2 (i * n1 + j) (run_of g 0 * n1) (digits_lt hi hj)) in
      ap (λ (x : List ℕ). chunk w x k) (chunk-chunk (n2 * w) n1 d i j (omega (arith, full, plane_in, mul_assoc (run_of g 0 * n1) n2 w)) hj)
      ∙ chunk-chunk w n2 d (i * n1 + j) k (omega (arith, full, run_in)) hk

  pub all_planes : (f : List ℕ) → up (run_of g 0) (λ i. plane_to r g i (chunk (plane_bytes r g) d i)) f ≡ written r g d f
  unfolding written
  all_planes f =
      let n1 : ℕ = run_of g 1 in
      let n2 : ℕ = run_of g 2 in
      up_same (run_of g 0) _ _ f (λ i hi x. up_same n1 _ _ x (λ j hj y. up_same n2 _ _ y (λ k hk z. ap (store r z (place g i j k)) (same-bytes i j k hi hj hk))))
      ∙ up_up (run_of g 0) n1 (λ i j. up n2 (λ k h. store r h (place g i j k) (chunk (item_bytes r) d (tri n1 n2 i j k)))) f
      ∙ up_up (run_of g 0 * n1) n2 (λ t k h. store r h (place g (t / n1) (t % n1) k) (chunk (item_bytes r) d (tri n1 n2 (t / n1) (t % n1) k))) f
      ∙ up_same (size_of g) _ _ f (λ t l x. ap (λ (n : ℕ). store r x (place_at g t) (chunk (item_bytes r) d n)) (rw (div-add-mod' (t / n2) n1, div-add-mod' t n2)))

-- bytes past the region's are not written
pub written_front : (r : Record) (g : Region) (d f : List ℕ) (n : ℕ) → n ≡ size_of g * item_bytes r → n ≤ length d → written r g (take n d) f ≡ written r g d f
unfolding written
written_front r g d f n e l =
    let w : ℕ = item_bytes r in
    up_same (size_of g) _ _ f (λ t h x. ap (store r x (place_at g t)) (sym (peek-take d n (t * w) w l (omega (arith, e, next_item w t (size_of g) h)))))
