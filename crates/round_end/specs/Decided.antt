-- Which outcome decides: the first, in order, at which a read or the work failed.
use Rattle.std.specs.Prelude.{◌≡◌, ℕ, ◌<◌, slice_get, List, [], ◌∷◌, ◌++◌, map, Option, Some, None}
use Rattle.std.specs.Option.{option_map}
use Rattle.sub_types.specs.declared.fault.Fault.{Fault}
use Rattle.sub_types.specs.Stream.{Stream, rows_alone}
use Rattle.round_end.specs.declared.outcome.Outcome.{Outcome}
use Rattle.round_end.specs.declared.outcome.Outcome.TheVariants.{Made, Ended, ReadFault}
use Rattle.round_end.specs.declared.outcome.Settled.{Settled}

-- what was made, in order, and the fault behind it
pub record Decided (M : Type 0) : Type 0 where
  pub made : List M
  pub end : Option Fault

module _ {M : Type 0} where
  -- more was made before
  abbrev pub made_before : List M → Decided M → Decided M
  made_before before d = record { made = before ++ d.made; end = d.end }

  -- what counts of outcomes: all that was made up to the first fault, or nothing where a read failed before it
  abbrev pub decided : List (Outcome M) → Option (Decided M)
  decided [] = Some (record { made = []; end = None })
  decided (Made made ∷ later) = option_map (made_before (made ∷ [])) (decided later)
  decided (Ended made fault ∷ later) = Some (record { made = made ∷ []; end = Some fault })
  decided (ReadFault ∷ later) = None

  -- at this place stands the first failure, which is that of a read
  pub record IsFirstUnread (outs : List (Outcome M)) (place : ℕ) : Type 0 where
    pub here : slice_get outs place ≡ Some ReadFault
    pub before : (j : ℕ) → j < place → (made : M) × (slice_get outs j ≡ Some (Made made))

  -- the fields of a value that a call gave
  abbrev pub settled_seen : Settled M → Decided M
  settled_seen settled = record { made = settled.made.items; end = settled.end }

  -- an outcome as a stream, where each thing that is made has rows; what a failed read stands for is free
  abbrev pub stream_of_outcome : {R : Type 0} → (M → List R) → Stream R → Outcome M → Stream R
  stream_of_outcome rows unread (Made made) = rows_alone (rows made)
  stream_of_outcome rows unread (Ended made fault) = record { rows = rows made; end = Some fault }
  stream_of_outcome rows unread ReadFault = unread
