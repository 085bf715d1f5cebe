use Rattle.std.proofs.Common.{◌≡◌, T, sym, refl, subst}
use lib.Ieee.{binary32, binary64, add, mul, fits}
use Rattle.floats.specs.Position.{position_of, Near}
use Rattle.floats.proofs.Places.{near}
use Rattle.floats.proofs.position.Goals as goal

pub returns : goal.returns
unfolding position_of
returns c =
    let orig-held : T (fits binary32 c.args.orig) = subst T (sym c.well_formed.0.1) tt in
    let inc-held : T (fits binary32 c.args.inc) = subst T (sym c.well_formed.1.0.1) tt in
    let exact : add binary64 c.from.result (mul binary64 c.from-2.result c.from-3.result) ≡ position_of c.args.orig c.args.inc c.args.i =
    rw (c.from.ensures, c.from-2.ensures, c.from-3.ensures) refl in
    record {
      value = exact;
      error = subst (Near c.args.orig c.args.inc c.args.i) (sym exact) (near c.args.orig c.args.inc c.args.i orig-held inc-held c.requires.0 c.requires.1 c.requires.2);
    }
