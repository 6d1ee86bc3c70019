-- A part of a text, from a character on.
use Rattle.std.specs.Prelude.{[], ◌∷◌}
use Rattle.sub_types.specs.declared.value.Value.{Value}
use Rattle.plan_denote.specs.Computed.{Computed}
use Rattle.plan_denote.specs.Texts.{substring}

-- the characters of the first from the second on, as many as the third
abbrev pub part_from : Value → Value → Value → Computed
part_from text start count = substring (text ∷ start ∷ count ∷ [])
