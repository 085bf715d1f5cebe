use mathlib.Core.List.{List}
use mathlib.Core.Path.{◌≡◌, sym, ◌∙◌}
use Prim.Native.Nat.{ℕ}
use Rattle.std.specs.Prelude.{replicate}
use Rattle.std.specs.Array.{AllOfLen}
use Rattle.std.proofs.lemmas.List.{ext_get_or, length-replicate, get_or-replicate}
use native.Mathlib.Omega.{arith}
use Rattle.record.specs.Record.{no_record}
use Rattle.record.proofs.no_record.Goals as goal

-- an array whose items are all z
all-one : {A : Type 0} {z : A} {xs : List A} {n : ℕ} → AllOfLen (λ x. x ≡ z) xs n → xs ≡ replicate n z
all-one {A} {z} {xs} {n} h =
    ext_get_or z xs (replicate n z) (h.long ∙ sym (length-replicate n z))
    (λ i l. h.at i z (omega (arith, h.long)) ∙ sym (get_or-replicate n i z z (omega (arith, h.long))))

pub returns : goal.returns
unfolding no_record
returns c =
    let h = c.default.ensures in
    let d = h.1.0 in
    let g = h.1.1.1.0 in
    let t = h.1.1.1.1 in
    λ i. record {
      version = h.0 i;
      description = record {
        side = all-one d.0 i;
        datatype = d.1.0 i;
        range = all-one d.1.1.0 i;
        dataid = all-one d.1.1.1.0 i;
        verid = all-one d.1.1.1.1.0 i;
        previd = all-one d.1.1.1.1.1.0 i;
        srctype = d.1.1.1.1.1.1.0 i;
        orig = all-one d.1.1.1.1.1.1.1.0 i;
        inc = all-one d.1.1.1.1.1.1.1.1.0 i;
        size = all-one d.1.1.1.1.1.1.1.1.1.0 i;
        hdim = d.1.1.1.1.1.1.1.1.1.1.0 i;
        hfactor = d.1.1.1.1.1.1.1.1.1.1.1.0 i;
        vdim = d.1.1.1.1.1.1.1.1.1.1.1.1.0 i;
        vfactor = d.1.1.1.1.1.1.1.1.1.1.1.1.1 i;
      };
      text = h.1.1.0 i;
      grid = record { orig = all-one g.0 i; inc = all-one g.1.0 i; min = g.1.1.0 i; max = g.1.1.1 i };
      header = t.0 i;
      levels = t.1.0 i;
      bricks = t.1.1.0 i;
      alphas = t.1.1.1.0 i;
      length = t.1.1.1.1 i;
    }
