-- What parts hold, and where they end.
use Rattle.std.specs.Prelude.{List, [], ◌∷◌, Option, None}
use Rattle.sub_types.specs.declared.fault.Fault.{Fault}
use Rattle.hash_join.specs.Built.{first_end}
use Rattle.hash_join.specs.declared.build_part.BuildPart.{BuildPart}
use Rattle.pipe_parts.specs.declared.part.Part.{Part}
use Rattle.pipe_parts.specs.declared.part.Part.TheVariants as kept

-- the part of a join's table
abbrev pub right_in : Part → List BuildPart
right_in (kept.Built right end) = right ∷ []
right_in _ = []

-- where a part ends; what is known of groups has its end within
abbrev pub end_in : Part → Option Fault
end_in (kept.Rows piece) = piece.end
end_in (kept.Built right end) = end
end_in _ = None

-- the fault of the first that ends in one
abbrev pub end_among : List Part → Option Fault
end_among [] = None
end_among (part ∷ parts) = first_end (end_in part) (end_among parts)
