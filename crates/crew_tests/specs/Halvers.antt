-- Labours that halve numbers.
use Rattle.std.specs.Prelude.{◌≡◌, ℕ, []}
use Rattle.pipe_labour.specs.declared.labour.PipeLabour.{PipeLabour}
use Rattle.crew_tests.specs.declared.halves.Half.{Half}
use Rattle.crew_tests.specs.declared.halves.Numbers.{Numbers}

-- it has read and made nothing
pub record IsNew (l : PipeLabour Numbers Half ℕ) : Type 0 where
  pub loaded : l.source.loaded.items ≡ []
  pub outs : l.outs.items ≡ []
