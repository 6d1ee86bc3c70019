-- What notes tell of the text that was said.
use Rattle.std.specs.Prelude.{ℕ, List, ◌++◌, Option}
use Rattle.std.specs.Option.{option_map}

-- the piece stands behind the text so far
unfoldable pub said : Option (List ℕ) → List ℕ → Option (List ℕ)
said text piece = option_map (λ told. told ++ piece) text
