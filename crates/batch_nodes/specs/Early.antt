-- Calls that end early: `and`, `or` and `coalesce`.
use Rattle.std.specs.Prelude.{◌≡◌, ◌⊎◌, ℕ, ◌+◌, ◌<◌, ◌≤◌, length, slice_index_or, List, Option, Some, None, Ok, not, if◌then◌else◌}
use Rattle.sub_types.specs.declared.kind.Kind.{Kind}
use Rattle.sub_types.specs.declared.kind.Kind.TheVariants as kinds
use Rattle.sub_types.specs.declared.value.Value.{Value}
use Rattle.sub_types.specs.declared.value.Value.TheVariants as values
use Rattle.plan_denote.specs.Computed.{Computed, is_null}
use Rattle.plan_denote.specs.Logic.{is_truth, three_valued, ends_at, coalesce}
use Rattle.batch_nodes.specs.Narrowed.{folded, narrowed}
use Rattle.batch_nodes.specs.declared.early.Early.{Early}
use Rattle.batch_nodes.specs.declared.early.Early.TheVariants.{Truth, NotNull}

-- what the arguments from left to right come to
abbrev pub ends_early : Early → List Computed → Computed
ends_early (Truth end) args = ends_at end args
ends_early NotNull args = coalesce args

-- what an argument's value settles by itself
abbrev pub settles : Early → Value → Option Value
settles (Truth end) value = if is_truth end value then Some (values.Bool end) else None
settles NotNull value = if is_null value then None else Some value

-- what a value that settles nothing makes of the value of the arguments after it
abbrev pub merges : Early → Value → Value → Computed
merges (Truth end) value rest = Ok (three_valued end value rest)
merges NotNull value rest = Ok rest

-- what no arguments come to
abbrev pub nothing : Early → Value
nothing (Truth end) = values.Bool (not end)
nothing NotNull = values.Null

-- what the arguments up to here come to, with the next one
abbrev pub one_more : Early → Computed → Computed → Computed
one_more early so_far arg = narrowed (settles early) (merges early) so_far arg

-- what the arguments come to, from the first on
abbrev pub so_far : Early → List Computed → Computed
so_far early args = folded (one_more early) (Ok (nothing early)) args

-- what it gives can be of this kind
abbrev pub IsOfKind : Early → Kind → Type 0
IsOfKind (Truth end) kind = kind ≡ kinds.Bool
IsOfKind NotNull kind = Unit {0}

-- the value of one row, and how many values of the arguments after it are used then: none where one is wanted that isn't there
abbrev pub IsNext : Early → Value → List Value → ℕ → Option (Value × ℕ) → Type 0
IsNext early value others used (Some next) =
    ((settles early value ≡ Some next.0) × (next.1 ≡ used))
    ⊎ ((settles early value ≡ None) × (used < length others) × (merges early value (slice_index_or others used values.Null) ≡ Ok next.0) × (next.1 ≡ used + 1))
IsNext early value others used None = (settles early value ≡ None) × (length others ≤ used)
