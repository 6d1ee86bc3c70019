-- What the words of a command line mean.
use Rattle.std.specs.Prelude.{◌≡◌, ◌≤◌, ℕ, List, [], ◌∷◌, Bool, Option, Some, None, if◌then◌else◌, ◌&&◌, not, nat_le, length, codes, decimal}
use Rattle.std.specs.List.{list_all}
use Rattle.std.specs.Option.{option_map}
use Rattle.std.specs.Str.{bytes_eq}
use Rattle.std.specs.Str.Parse.{digits_value}
use Rattle.sub_types.specs.OptionSteps.{◌>>=◌}
use Rattle.table_open.specs.Words.{name_in, file_in}
use Rattle.run_words.specs.declared.words.Command.{Command}
use Rattle.run_words.specs.declared.words.Command.TheVariants as commands

-- the word is the decimal digits of the number, which is from 1 to `most`
abbrev pub IsNumber : List ℕ → ℕ → ℕ → Type 0
IsNumber word n most = (word ≡ decimal n) × (1 ≤ n) × (n ≤ most)

-- the number from 1 to `most` whose decimal digits are the word
unfoldable pub number_within : ℕ → List ℕ → Option ℕ
number_within most word =
    let n = digits_value 10 word in
    if bytes_eq (decimal n) word && nat_le 1 n && nat_le n most then Some n else None

-- the most bindings
abbrev pub MAX_BINDINGS : ℕ
MAX_BINDINGS = 1024

-- `run` of a plan file into an out file on so many workers, and the words that bind names to files
pub record Reading : Type 0 where
  pub plan : List ℕ
  pub out : List ℕ
  pub workers : ℕ
  pub bindings : List (List ℕ)

-- both files are named, and by two names
abbrev pub are_names : List ℕ → List ℕ → Bool
are_names plan out = not (bytes_eq plan []) && not (bytes_eq out []) && not (bytes_eq out plan)

-- the word binds a name to a file, which isn't the out file
abbrev pub is_binding : List ℕ → List ℕ → Bool
is_binding out word = not (bytes_eq (name_in word) []) && not (bytes_eq (file_in word) []) && not (bytes_eq (file_in word) out)

-- there are 1,024 bindings at most
abbrev pub are_bindings : List ℕ → List (List ℕ) → Bool
are_bindings out words = nat_le (length words) MAX_BINDINGS && list_all (is_binding out) words

-- `run PLAN OUT WORKERS NAME=FILE..`, with 1 to 64 workers
unfoldable pub reading_of : List (List ℕ) → Option Reading
reading_of (command ∷ plan ∷ out ∷ workers ∷ bindings) =
    if bytes_eq command (codes "run") && are_names plan out && are_bindings out bindings
    then option_map (λ n. record { plan = plan; out = out; workers = n; bindings = bindings }) (number_within 64 workers)
    else None
reading_of _ = None

-- the plan of `check PLAN`
unfoldable pub plan_to_check : List (List ℕ) → Option (List ℕ)
plan_to_check (command ∷ plan ∷ []) = if bytes_eq command (codes "check") && not (bytes_eq plan []) then Some plan else None
plan_to_check _ = None

-- the demo of so many orders, on so many workers
pub record DemoReading : Type 0 where
  pub number : ℕ
  pub workers : ℕ

-- the most orders of the demo
abbrev pub MAX_ORDERS : ℕ
MAX_ORDERS = 200000

-- `demo NUMBER WORKERS`, with 1 to 200,000 orders and 1 to 64 workers
unfoldable pub demo_of : List (List ℕ) → Option DemoReading
demo_of (command ∷ number ∷ workers ∷ []) =
    if bytes_eq command (codes "demo")
    then (do
      orders ← number_within MAX_ORDERS number
      seats ← number_within 64 workers
      Some (record { number = orders; workers = seats }))
    else None
demo_of _ = None

-- the command that the first word names; what names no command is answered by `run`, as faulty words
abbrev pub command_of : List (List ℕ) → Command
command_of (word ∷ words) =
    if bytes_eq word (codes "check") then commands.Check
    else if bytes_eq word (codes "demo") then commands.Demo
    else commands.Run
command_of [] = commands.Run
