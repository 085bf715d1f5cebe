use mathlib.Core.Path.{sym, ap, ◌∙◌}
use native.Mathlib.Omega.{arith}
use Rattle.table.specs.declared.Kind.TheVariants.{Constant}
use Rattle.table.proofs.Words.{kind_missing, kind_zero, kind_constant, kind_offset}
use Rattle.table.proofs.kind_of.Goals as goal

pub returns-in-0 : goal.returns-in-0
returns-in-0 c = sym (kind_missing c.args.width c.args.word c.in-0.is)

pub returns-in-1 : goal.returns-in-1
returns-in-1 c = sym (kind_zero c.args.width c.args.word c.in-1.is)

pub returns-in-9223372036854775808-to-18446744073709551615 : goal.returns-in-9223372036854775808-to-18446744073709551615
returns-in-9223372036854775808-to-18446744073709551615 c =
    ap Constant c.low_bytes.ensures ∙ sym (kind_constant c.args.width c.args.word (omega arith))

pub returns-in_default : goal.returns-in_default
returns-in_default c =
    sym (kind_offset c.args.width c.args.word (omega arith) (omega arith))
