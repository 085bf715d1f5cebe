use mathlib.Core.Path.{sym, ap, ◌∙◌}
use native.Mathlib.Omega.{arith}
use native.Mathlib.Nat.{mul-one}
use mathlib.Core.List.{[], ◌∷◌}
use lib.ListN.{length}
use lib.Seq.{length-take-le}
use Rattle.cube.specs.Places.{rows_of, float_of}
use Rattle.cube.specs.Regions.{float_rows}
use Rattle.cube.proofs.Rows.{by_place}
use Rattle.runs.proofs.Answers.{front_over}
use Rattle.sampling.proofs.Taken.{taken_allowed, taken_laid, taken-ready, taken_some, whole_is, plane_fits, whole-fits}
use Rattle.sampling.proofs.read_taken.Goals as goal

pub lattice_of-q-requires : goal.lattice_of-q-requires
lattice_of-q-requires c = taken_allowed c.args.r c.args.file.now c.args.g (length c.args.out.now) c.requires

pub overflow_mul-n : goal.overflow_mul-n
overflow_mul-n c = omega (
  arith,
  plane_fits c.args.r c.args.file.now c.args.g (length c.args.out.now) c.requires c.lattice_of-q.result
      c.lattice_of-q.ensures,
  whole-fits c.args.r c.args.file.now c.args.g (length c.args.out.now) c.requires c.lattice_of-q.result c.lattice_of-q.ensures,
  c,
)

pub overflow_mul-n-2 : goal.overflow_mul-n-2
overflow_mul-n-2 c = omega (
  arith,
  whole-fits c.args.r c.args.file.now c.args.g (length c.args.out.now) c.requires c.lattice_of-q.result
      c.lattice_of-q.ensures,
  c,
)

pub slice_bounds-read_bricks-end : goal.slice_bounds-read_bricks-end
slice_bounds-read_bricks-end c = whole-fits c.args.r c.args.file.now c.args.g (length c.args.out.now) c.requires c.lattice_of-q.result c.lattice_of-q.ensures

pub slice_bounds-read_bricks-end-2 : goal.slice_bounds-read_bricks-end-2
slice_bounds-read_bricks-end-2 c = sym (length-take-le _ _ (whole-fits c.args.r c.args.file.now c.args.g (length c.args.out.now) c.requires
    c.lattice_of-q.result c.lattice_of-q.ensures))

pub invariant_of-site : goal.invariant_of-site
invariant_of-site c = record {
  laid = taken_laid c.args.r c.args.file.now c.args.g (length c.args.out.now) c.requires c.lattice_of-q.result
      c.lattice_of-q.ensures;
}

pub invariant_of-read_bricks : goal.invariant_of-read_bricks
invariant_of-read_bricks c = record {
  ready = taken-ready c.args.r c.args.file.now c.args.g (length c.args.out.now) c.requires c.lattice_of-q.result
      c.lattice_of-q.ensures;
  some = taken_some c.args.r c.args.file.now c.args.g (length c.args.out.now) c.requires;
}

pub read_bricks-requires : goal.read_bricks-requires
read_bricks-requires c =
    record {
      fits = c.range_of.ensures;
      room = length-take-le _ _ (whole-fits c.args.r c.args.file.now c.args.g (length c.args.out.now) c.requires
          c.lattice_of-q.result c.lattice_of-q.ensures) ∙ whole_is c.args.r c.args.file.now c.args.g (length c.args.out.now) c.requires
          c.lattice_of-q.result c.lattice_of-q.ensures ∙ sym (mul-one _);
    }

pub returns : goal.returns
unfolding float_rows
returns c =
    let e = c.read_bricks.ensures ∙ by_place c.args.g (λ p. float_of c.args.r (rows_of c.args.r c.args.file.now p) ∷ []) in (
      whole_is c.args.r c.args.file.now c.args.g (length c.args.out.now) c.requires c.lattice_of-q.result c.lattice_of-q.ensures,
      front_over _ _ _ _ e
          (ap length (sym e) ∙ c.read_bricks.auto.out ∙ length-take-le _ _ (whole-fits c.args.r c.args.file.now c.args.g (length c.args.out.now) c.requires
          c.lattice_of-q.result c.lattice_of-q.ensures)),
    )
