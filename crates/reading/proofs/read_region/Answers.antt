use mathlib.Core.Path.{sym, ◌∙◌}
use native.Mathlib.Omega.{arith}
use lib.ListN.{length}
use lib.Seq.{length-take-le}
use Rattle.cube.specs.Regions.{raw_rows}
use Rattle.cube.specs.Places.{rows_of, raw_of}
use Rattle.cube.proofs.Rows.{by_place}
use Rattle.runs.proofs.Answers.{front_over}
use Rattle.reading.proofs.Taken.{taken_allowed, taken_long, taken_laid, taken_ready, taken_some, taken_sizes}
use Rattle.reading.proofs.read_region.Goals as goal

pub lattice_of-q-requires : goal.lattice_of-q-requires
lattice_of-q-requires c = taken_allowed c.args.r c.args.file.now c.args.g (length c.args.out.now) c.requires

pub overflow_mul-n : goal.overflow_mul-n
overflow_mul-n c = omega (
  arith,
  taken_sizes c.args.r c.args.file.now c.args.g (length c.args.out.now) c.requires _ c.lattice_of-q.ensures _
      c.index.ensures.0,
)

pub overflow_mul-n-2 : goal.overflow_mul-n-2
overflow_mul-n-2 c = omega (
  arith,
  taken_sizes c.args.r c.args.file.now c.args.g (length c.args.out.now) c.requires _ c.lattice_of-q.ensures _
      c.index.ensures.0,
)

pub overflow_mul-n-3 : goal.overflow_mul-n-3
overflow_mul-n-3 c = omega (
  arith,
  taken_sizes c.args.r c.args.file.now c.args.g (length c.args.out.now) c.requires _ c.lattice_of-q.ensures _
      c.index.ensures.0,
)

pub slice_bounds-read_bricks-end : goal.slice_bounds-read_bricks-end
slice_bounds-read_bricks-end c = omega (
  arith,
  taken_sizes c.args.r c.args.file.now c.args.g (length c.args.out.now) c.requires _
      c.lattice_of-q.ensures _ c.index.ensures.0,
)

pub slice_bounds-read_bricks-end-2 : goal.slice_bounds-read_bricks-end-2
slice_bounds-read_bricks-end-2 c = sym (length-take-le _ _ (taken_sizes c.args.r c.args.file.now c.args.g (length c.args.out.now) c.requires _
    c.lattice_of-q.ensures _ c.index.ensures.0).whole_in)

pub invariant_of-site : goal.invariant_of-site
invariant_of-site c = record { laid = taken_laid c.args.r c.args.file.now c.args.g (length c.args.out.now) c.requires _ c.lattice_of-q.ensures }

pub invariant_of-read_bricks : goal.invariant_of-read_bricks
invariant_of-read_bricks c = record {
  ready = taken_ready c.args.r c.args.file.now c.args.g (length c.args.out.now) c.requires _
      c.lattice_of-q.ensures;
  some = taken_some c.args.r c.args.file.now c.args.g (length c.args.out.now) c.requires;
}

pub read_bricks-requires : goal.read_bricks-requires
read_bricks-requires c =
    let p = taken_sizes c.args.r c.args.file.now c.args.g (length c.args.out.now) c.requires _ c.lattice_of-q.ensures _ c.index.ensures.0 in
    record { fits = tt; room = length-take-le _ _ p.whole_in ∙ p.size }

pub returns : goal.returns
unfolding raw_rows
returns c =
    let p = taken_sizes c.args.r c.args.file.now c.args.g (length c.args.out.now) c.requires _ c.lattice_of-q.ensures _ c.index.ensures.0 in
    record {
      count = p.size;
      buffer = front_over _ _ _ _ (c.read_bricks.ensures ∙ by_place c.args.g (λ p. raw_of c.args.r (rows_of c.args.r c.args.file.now p))) (taken_long
          c.args.r c.args.file.now c.args.g (length c.args.out.now) c.requires ∙ sym p.size);
    }
