-- What is planned to fail: of a folder in memory, and of its readers.
use Rattle.std.specs.Prelude.{◌≡◌, ℕ, ◌+◌, ◌-◌, ◌^◌, List, map, filter, Bool, ◌||◌, ◌==◌, Option, Result, Err, min}
use Rattle.std.specs.List.{list_any, find}
use Rattle.std.specs.Option.{option_map}
use Rattle.std.specs.Str.{bytes_eq}
use Rattle.world.specs.declared.error.FolderError.{FolderError}
use Rattle.world.specs.declared.error.FolderError.TheVariants.{NoMemory}
use Rattle.world.specs.Told.{Plan, ReadersPlan, Opened}

-- the name is among these
abbrev pub is_named : List ℕ → List (List ℕ) → Bool
is_named name names = list_any (λ planned. bytes_eq planned name) names

-- the number is among these
abbrev pub is_among : ℕ → List ℕ → Bool
is_among number numbers = list_any (λ planned. planned == number) numbers

-- the indices or places of the calls that are planned under a name
abbrev pub under : List ℕ → List (List ℕ × ℕ) → List ℕ
under name calls = map (λ call. call.1) (filter (λ call. bytes_eq call.0 name) calls)

-- what is planned for each reader of the name
abbrev pub for_reader : Plan → List ℕ → ReadersPlan
for_reader plan name = record {
  len = is_named name plan.lens;
  reads = under name plan.reads;
  places = under name plan.places;
  agains = under name plan.agains;
}

-- the read with this index, at this place, is to fail
abbrev pub fails_read : ReadersPlan → ℕ → ℕ → Bool
fails_read plan index place = is_among index plan.reads || is_among place plan.places

-- a reader with these planned failures, of which nothing was asked yet
pub record IsPlanned (plan : ReadersPlan) (reader : Opened) : Type 0 where
  pub plan_is : reader.plan ≡ plan
  pub no_reads : reader.read_calls ≡ 0
  pub no_agains : reader.again_calls ≡ 0

-- how many bytes the append with this index keeps of its piece, where it is to fail
abbrev pub failed_append : Plan → ℕ → Option ℕ
failed_append plan index = option_map (λ call. call.1) (find (λ call. call.0 == index) plan.appends)

-- one call more, where a count of calls stops at 2^32 - 1
abbrev pub next_call : ℕ → ℕ
next_call calls = min (calls + 1) (2 ^ 32 - 1)

-- how many appends were made, where one without memory is none
abbrev pub appends_after : {T : Type 0} → Result T FolderError → ℕ → ℕ
appends_after (Err NoMemory) calls = calls
appends_after _ calls = next_call calls
