-- The same rows, cut otherwise.
use Rattle.std.proofs.Common.{◌≡◌, ◌∙◌, sym, ap, refl, ℕ, List, length, map, nat_le, Bool, true, false, cond, Option, Some, None, Result, Ok, Err}
use Rattle.sub_types.specs.ResultSteps.{◌>>=◌}
use Rattle.sub_types.specs.Stream.{Stream}
use Rattle.sub_types.specs.declared.fault.Fault.{Fault}
use Rattle.sub_types.specs.declared.fault.FaultKind.TheVariants as kinds
use Rattle.world.specs.Files.{Files}
use Rattle.plan_typed.specs.declared.sub.Holed.{Holed}
use Rattle.plan_denote.specs.Rows.{Row}
use Rattle.plan_denote.specs.Denote.{Tables}
use Rattle.plan_denote.specs.Subqueries.{denote_plan}
use Rattle.plan_tables.specs.Tables.{Opened, tables_of}
use Rattle.run_words.specs.Words.{Reading}
use Rattle.run_words.specs.declared.status.Status.{Status}
use Rattle.run_words.specs.declared.status.Status.TheVariants as status
use Rattle.run_accepted.specs.Done.{MAX_ROWS, input_of, whole, done_of, done_with, done_over, done_in}
use Rattle.run_top.specs.Answer.{answer}
use Rattle.run_top.specs.SameRows.{RunsOver, SameRowsSameFile, file_in}

-- the file of a stream
abbrev file_from : Reading → Holed → List (ℕ × ℕ) → Stream Row → Result (List ℕ) Status
file_from reading plan inputs s = file_in (whole s >>= done_with reading plan inputs)

-- the file of rows, by whether they are few enough
abbrev file_if : Reading → Holed → List (ℕ × ℕ) → List Row → Bool → Result (List ℕ) Status
file_if reading plan inputs rows few = file_in (cond few (Ok (done_of reading plan inputs rows)) (Err (status.DataFault (record { relation = 0; kind = kinds.TooManyRows }))))

by_number : (r q : Reading) (plan : Holed) (rows : List Row) (n m : List (ℕ × ℕ)) (few : Bool) → file_if r plan n rows few ≡ file_if q plan m rows few
by_number r q plan rows n m true = refl
by_number r q plan rows n m false = refl

-- neither the words nor the numbers of batches show in the file
any_number : (r q : Reading) (plan : Holed) (rows : List Row) (end : Option Fault) (n m : List (ℕ × ℕ)) → file_from r plan n (record { rows = rows; end = end }) ≡ file_from q plan m (record { rows = rows; end = end })
unfolding done_with
any_number r q plan rows None n m = by_number r q plan rows n m (nat_le (length rows) MAX_ROWS)
any_number r q plan rows (Some fault) n m = refl

-- what is answered where the files of a plan's read relations are known
answered : (words : List (List ℕ)) (files : Files) (bytes : List ℕ) (plan : Holed) (opened : List Opened) (run : RunsOver words files bytes plan opened)
    → answer words files ≡ whole (denote_plan (tables_of opened) plan) >>= done_with run.reading plan (map input_of opened)
unfolding answer done_in done_over
answered words files bytes plan opened run =
    let words_are = run.words_are in
    let plan_is = run.plan_is in
    let accepted = run.accepted in
    let tables_are = run.tables_are in
    rw (words_are, plan_is, accepted, tables_are) refl

pub same_rows_same_file : SameRowsSameFile
same_rows_same_file bytes plan a_words b_words a_files b_files a b a_run b_run same =
    let tables : tables_of a ≡ tables_of b = λ i relation. same relation i in
    let s = denote_plan (tables_of b) plan in
    ap file_in (answered a_words a_files bytes plan a a_run)
    ∙ ap (λ (all : Tables). file_from a_run.reading plan (map input_of a) (denote_plan all plan)) tables
    ∙ any_number a_run.reading b_run.reading plan s.rows s.end (map input_of a) (map input_of b)
    ∙ sym (ap file_in (answered b_words b_files bytes plan b b_run))
