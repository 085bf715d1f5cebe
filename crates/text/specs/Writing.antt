-- What a writer's calls promise.
use Rattle.std.specs.Prelude.{List, ◌≡◌, ℕ}
use Rattle.text.specs.Text.{Pours}
use Rattle.text.specs.declared.Writer.{Writer}

-- a call that writes bs: it takes the writer from w to w', in the same slice
pub record Writes (w : Writer) (bs : List ℕ) (w' : Writer) : Type 0 where
  pub same : w'.out.ghost_name ≡ w.out.ghost_name
  pub pours : Pours w.out.now w.at bs w'.out.now w'.at
