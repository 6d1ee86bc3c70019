-- What an outcome of a round stands for.
use Rattle.std.specs.Prelude.{ℕ, ◌<◌}

-- the outcome fits an item that is right, and that failed only where failures were counted
abbrev pub IsFair : {T Out About : Type 0} → (About → T → Type 0) → (About → T → Type 0) → (About → T → Out → Type 0) → About → ℕ → Out → Type 0
IsFair {T} right failed fits about failures out = (item : T) × right about item × (failed about item → 0 < failures) × fits about item out
