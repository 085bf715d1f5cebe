-- Laws of check 12. Assumes nothing.
use mathlib.Core.Path.{◌≡◌, refl, sym, ap, ◌∙◌}
use mathlib.Core.Bool.{Bool, false, not, ◌&&◌, ◌||◌}
use mathlib.Core.List.{List}
use Prim.Native.Nat.{ℕ, ◌+◌, ◌≤◌}
use native.Mathlib.Omega.{arith}
use lib.Dec.{leb, ltb}
use lib.ListN.{length}
use borrow.Author.Tests.{leb-true, le-leb, not-false}
use Rattle.std.proofs.lemmas.Bool.{and_parts}
use Rattle.std.specs.Option.{MatchOption}
use Rattle.std.proofs.lemmas.Bool.Decides.{nat_tests}
use Rattle.table.specs.declared.Kind.{Kind}
use Rattle.table.specs.declared.Kind.TheVariants.{Missing, Constant, Stored}
use Rattle.table.specs.declared.Table.{Table}
use Rattle.table.specs.Entries.{stored_in, out_of_range, kind_at, outside_at}

fits : (h b n o : ℕ) → out_of_range h b n (Stored o) ≡ false → (h ≤ o) × (o + b ≤ n)
unfolding out_of_range
fits h b n o e =
    let p = and_parts (leb h o) (leb (o + b) n) (not-false (leb h o && leb (o + b) n) e) in
    (leb-true h o p.0, leb-true (o + b) n p.1)

not_out : (h b n : ℕ) (k : Kind) → ((o : ℕ) → k ≡ Stored o → (h ≤ o) × (o + b ≤ n)) → out_of_range h b n k ≡ false
unfolding out_of_range
not_out h b n Missing all = refl
not_out h b n (Constant v) all = refl
not_out h b n (Stored o) all = simp (le-leb h o (all o refl).0, le-leb (o + b) n (all o refl).1)

-- check 12 by the offset of a stored brick
pub out_stored : (h b n : ℕ) (k : Kind) (r : Bool) → MatchOption (stored_in k) (r ≡ false) (λ o. r ≡ (ltb o h || ltb n (o + b))) → r ≡ out_of_range h b n k
unfolding out_of_range
out_stored h b n Missing r e = e
out_stored h b n (Constant v) r e = e
out_stored h b n (Stored o) r e = e ∙ outside o
  where
    outside : (o : ℕ) → ltb o h || ltb n (o + b) ≡ not (leb h o && leb (o + b) n)
    outside o = grind (arith, nat_tests)

module _ (t : Table) (f : List ℕ) (e : ℕ) where
  -- check 12 of what the entry names
  pub outside_kind : (k : Kind) → kind_at t f e ≡ k → out_of_range t.header t.brick (length f) k ≡ outside_at t f e
  unfolding outside_at
  outside_kind k s = ap (out_of_range t.header t.brick (length f)) (sym s)

  -- a stored brick that passes check 12 lies between the headers and the end of the file
  pub at_fits : outside_at t f e ≡ false → (o : ℕ) → kind_at t f e ≡ Stored o → (t.header ≤ o) × (o + t.brick ≤ length f)
  unfolding outside_at
  at_fits no-e o s = fits t.header t.brick (length f) o (outside_kind (Stored o) s ∙ no-e)

  -- and one that lies there passes it
  pub at_passes : ((o : ℕ) → kind_at t f e ≡ Stored o → (t.header ≤ o) × (o + t.brick ≤ length f)) → outside_at t f e ≡ false
  unfolding outside_at
  at_passes = not_out t.header t.brick (length f) (kind_at t f e)
