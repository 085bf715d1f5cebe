use native.Mathlib.Omega.{arith}
use Rattle.runs.proofs.Rows.{number_small, number_is}
use Rattle.runs.proofs.site.View.sample_no.Goals as goal

pub overflow_mul-result : goal.overflow_mul-result
overflow_mul-result c = omega (arith, number_small c.args.self.now.ready c.requires)

pub overflow_add-result : goal.overflow_add-result
overflow_add-result c = omega (arith, number_small c.args.self.now.ready c.requires)

pub overflow_mul-result-2 : goal.overflow_mul-result-2
overflow_mul-result-2 c = omega (arith, number_small c.args.self.now.ready c.requires)

pub overflow_add-result-2 : goal.overflow_add-result-2
overflow_add-result-2 c = omega (arith, number_small c.args.self.now.ready c.requires)

pub returns : goal.returns
returns c = number_is c.args.self.now.ready _ _ _
