-- That the items of a brick, read as floats, are the floats of its samples. Assumes nothing.
use Prim.Native.Nat.{ℕ, ◌+◌}
use mathlib.Core.Path.{◌≡◌, refl, sym, ap, ◌∙◌}
use mathlib.Core.List.{List, [], ◌∷◌}
use native.Mathlib.Omega.{arith}
use native.Mathlib.Nat.{add-mul}
use Rattle.endian.specs.Loops.{cat}
use Rattle.endian.specs.Bytes.{le}
use Rattle.endian.proofs.Cats.{cat-same}
use Rattle.record.specs.Types.{decode_of}
use Rattle.record.specs.declared.Record.{Record}
use Rattle.table.specs.declared.Kind.{Kind}
use Rattle.table.specs.declared.Kind.TheVariants.{Missing, Constant, Stored}
use Rattle.table.proofs.Tables.{names_narrow}
use Rattle.cube.specs.declared.Region.{Region}
use Rattle.cube.specs.Places.{item_bytes, kind_in, brick_of, item_no, byte_of}
use Rattle.cube.specs.Regions.{place}
use Rattle.cube.proofs.Runs.{float_missing, float_constant, float_read_lem}
use Rattle.runs.specs.declared.Lattice.{Lattice}
use Rattle.runs.specs.Boxes.{Rows}
use Rattle.runs.specs.Readers.{ItemsLaws}
use Rattle.sampling.specs.Samples.{one, float_at, floats_of}

row_floats : (r : Record) (f : List ℕ) (g : Region) (q : Lattice) (κ : Kind) (m i j k nj nk : ℕ) → Rows r f g q κ m i j k nj nk → floats_of r f κ m nk ≡ cat nk (λ t. float_at r f g i j (k + t))
unfolding byte_of
row_floats r f g q κ m i j k nj nk h = rw h.item (go κ h.kind)
  where
    go : (x : Kind) → x ≡ kind_in r f (brick_of r (place g i j k)) → floats_of r f x (item_no r (place g i j k)) nk ≡ cat nk (λ t. float_at r f g i j (k + t))
    go Missing e = sym (float_missing r f g i j k nk h.in_k.brick (sym e))
    go (Constant v) e = sym (float_constant r f g i j k nk h.in_k.brick v (names_narrow r f (brick_of r (place g i j k)) v (sym e)) (sym e))
    go (Stored o) e =
        let b : ℕ = item_bytes r in
        let n : ℕ = item_no r (place g i j k) in
        cat-same nk _ _ (λ t h. ap (λ (x : ℕ). decode_of r.description.datatype r.grid.min r.grid.max (le b f x) ∷ []) (omega (arith, add-mul n t b)))
        ∙ sym (float_read_lem r f g i j k nk h.in_k.brick o (sym e))

pub float_laws : ItemsLaws one float_at floats_of
float_laws = record { some = λ r f g q ready. omega arith; wide = λ r f g q ready x y z hx hy hz. refl; row = row_floats }
