-- Streams: rows, and an end that is none or a fault.
use Rattle.std.specs.Prelude.{List, [], ◌∷◌, ◌++◌, Option, Some, None, Result, Ok, Err, map}
use Rattle.sub_types.specs.declared.fault.Fault.{Fault}

pub record Stream (R : Type 0) : Type 0 where
  pub rows : List R
  pub end : Option Fault

-- these rows and no fault
abbrev pub rows_alone : {R : Type 0} → List R → Stream R
rows_alone rows = record { rows = rows; end = None }

-- no rows and this end
abbrev pub ended : {R : Type 0} → Option Fault → Stream R
ended end = record { rows = []; end = end }

-- a stream and then the rest, unless the stream ends in a fault
abbrev pub followed_by : {R : Type 0} → Stream R → Stream R → Stream R
followed_by s rest = elim s.end [ None ↦ record { rows = s.rows ++ rest.rows; end = rest.end } | Some fault ↦ s ]

-- the streams one after the other, up to the first fault
abbrev pub glue : {R : Type 0} → List (Stream R) → Stream R
glue [] = rows_alone []
glue (s ∷ rest) = followed_by s (glue rest)

-- each row gives a stream; these one after the other up to the first fault, and then the end
abbrev pub each_stream : {R S : Type 0} → (R → Stream S) → Stream R → Stream S
each_stream f s = followed_by (glue (map f s.rows)) (ended s.end)

-- rows without a fault, or a fault without rows
abbrev pub stream_of : {S : Type 0} → Result (List S) Fault → Stream S
stream_of (Ok rows) = rows_alone rows
stream_of (Err fault) = ended (Some fault)

-- each row gives rows or a fault: the rows before the first fault with that fault, or all of them with the end
abbrev pub each : {R S : Type 0} → (R → Result (List S) Fault) → Stream R → Stream S
each f = each_stream (λ row. stream_of (f row))
