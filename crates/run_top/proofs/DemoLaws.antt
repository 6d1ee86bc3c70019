-- The demo is done: its plan is accepted, its files are opened, and its rows are those that it denotes over its tables.
use Rattle.std.proofs.Common.{◌≡◌, ◌∙◌, refl, sym, ap, subst, ℕ, ◌≤◌, List, true, None, Option, Some, IsOkAnd, IfOk, IfErr, Result, Ok, Err, nat_le, length, map, codes, decimal, ◌↔◌, arith}
use Rattle.std.proofs.lemmas.Bool.{le-leb}
use Rattle.std.specs.List.{flat_map}
use Rattle.std.specs.Option.{option_map}
use Rattle.sub_types.specs.Stream.{Stream}
use Rattle.sub_types.specs.declared.value.Value.{Value}
use Rattle.world.specs.Counts.{Rose}
use Rattle.plan_typed.specs.declared.sub.Holed.{Holed}
use Rattle.plan_parts.specs.Reader.{plan_of}
use Rattle.plan_spell.specs.Spelled.{spelled}
use Rattle.plan_spell.proofs.SpellLaws.{read_back}
use Rattle.plan_denote.specs.Denote.{Tables}
use Rattle.plan_denote.specs.Subqueries.{denote_plan}
use Rattle.plan_reads.specs.Reads.{reads_of}
use Rattle.plan_tables.specs.Tables.{Opened, open_reads, tables_of}
use Rattle.run_words.specs.Words.{Reading, DemoReading, reading_of}
use Rattle.run_words.specs.Lines.{line_of}
use Rattle.run_words.specs.declared.status.Report.{Report}
use Rattle.run_words.specs.declared.status.Status.{Status}
use Rattle.run_words.specs.declared.status.Status.TheVariants as status
use Rattle.run_words.proofs.NumberLaws.{number_is}
use Rattle.run_accepted.specs.Done.{MAX_ROWS, input_of, whole, rows_over, done_of, done_with, done_over, done_in}
use Rattle.run_accepted.specs.Fits.{IsReport, FitsRows}
use Rattle.run_accepted.specs.declared.rows.Ran.{Ran}
use Rattle.gen_data.specs.Rows.{MAX_NUMBER}
use Rattle.gen_data.specs.Plan.{demo_tree}
use Rattle.gen_data.specs.Checked.{demo_plan}
use Rattle.gen_data.specs.Files.{demo_files, demo_bindings}
use Rattle.gen_data.specs.Summary.{demo_tables, demo_rows, row_line, summary_of}
use Rattle.demo_laws.proofs.AcceptedLaws.{accepted}
use Rattle.demo_laws.proofs.ReadsLaws.{reads_are}
use Rattle.demo_laws.proofs.SpelledLaws.{plan_is_short}
use Rattle.demo_laws.proofs.FittingLaws.{plan_is_spellable}
use Rattle.demo_laws.proofs.FilesOpened.{Opens, opens, plan_there}
use Rattle.demo_laws.proofs.DemoLevels.{denotes_over}
use Rattle.demo_laws.proofs.DemoRowLaws.{demo_clean}
use Rattle.run_top.specs.Answer.{MAX_PLAN, tree_in, accepted_in, accepted_at, answer, IsRefusalOf}
use Rattle.run_top.specs.Demo.{demo_command, IsDemoRan, IsDemoAnswer, IsDemoNamed, demo_text_of}

-- the words of the demo's run are read
abbrev demo_run : ℕ → Reading
demo_run workers = record { plan = codes "plan"; out = codes "out"; workers = workers; bindings = demo_bindings }

run_read : (workers : ℕ) → 1 ≤ workers → workers ≤ 64 → reading_of (demo_command workers) ≡ Some (demo_run workers)
unfolding reading_of
run_read workers some few = ap (option_map demo_run) (number_is 64 workers (decimal workers) (omega arith) (refl, some, few))

-- the plan reads back as it was written
plan_read : tree_in (spelled demo_tree) ≡ Ok demo_tree
unfolding tree_in
plan_read =
    let short : nat_le (length (spelled demo_tree)) MAX_PLAN ≡ true = le-leb (length (spelled demo_tree)) MAX_PLAN plan_is_short in
    let read : plan_of (spelled demo_tree) ≡ Ok demo_tree = read_back demo_tree plan_is_spellable in
    rw (short, read) refl

plan_accepted : (number : ℕ) → accepted_at (demo_files number) (codes "plan") ≡ Ok demo_plan
unfolding accepted_in
plan_accepted number = rw (plan_there number, plan_read, accepted) refl

-- what is accepted is the demo's plan
pub is_demo_plan : (number : ℕ) (plan : Holed) → accepted_at (demo_files number) (codes "plan") ≡ Ok plan → plan ≡ demo_plan
is_demo_plan number plan is = let both = sym is ∙ plan_accepted number in cc

-- the tables of the opened files are the demo's, and so are the rows
denoted : (number : ℕ) (opened : List Opened) → ((relation : ℕ) → tables_of opened relation ≡ demo_tables number relation) → denote_plan (tables_of opened) demo_plan ≡ denote_plan (demo_tables number) demo_plan
denoted number opened same = ap (λ (tables : Tables). denote_plan tables demo_plan) (λ i relation. same relation i)

unended : (number : ℕ) → number ≤ MAX_NUMBER → (denote_plan (demo_tables number) demo_plan).end ≡ None
unended number few = ap (λ (s : Stream (List Value)). s.end) (denotes_over (demo_tables number)) ∙ (demo_clean number few).end

three_rows : (number : ℕ) → number ≤ MAX_NUMBER → length (demo_rows number) ≤ 3
unfolding demo_rows
three_rows number few = omega (arith, ap (λ (s : Stream (List Value)). length s.rows) (denotes_over (demo_tables number)), (demo_clean number few).rows.few)

rows_are : (number : ℕ) (opened : List Opened) → number ≤ MAX_NUMBER → ((relation : ℕ) → tables_of opened relation ≡ demo_tables number relation) → rows_over demo_plan opened ≡ Ok (demo_rows number)
unfolding rows_over demo_rows
rows_are number opened few same = ap whole (denoted number opened same) ∙ ap (λ end. whole (record { rows = (denote_plan (demo_tables number) demo_plan).rows; end = end })) (unended number few)

-- its read relations are opened
reads_opened : (number : ℕ) → number ≤ MAX_NUMBER → (h : Opens number) → open_reads (demo_files number) demo_bindings (reads_of demo_plan) ≡ Ok h.0
reads_opened number few h = ap (open_reads (demo_files number) demo_bindings) reads_are ∙ h.1

run_done : (number workers : ℕ) → number ≤ MAX_NUMBER → (h : Opens number) → done_in (demo_files number) (demo_run workers) demo_plan ≡ Ok (done_of (demo_run workers) demo_plan (map input_of h.0) (demo_rows number))
unfolding done_in done_over done_with rows_over
run_done number workers few h =
    let opened = reads_opened number few h in
    let rows = rows_are number h.0 few h.2 in
    let within : nat_le (length (demo_rows number)) MAX_ROWS ≡ true = le-leb (length (demo_rows number)) MAX_ROWS (omega (arith, three_rows number few)) in
    rw (opened, rows, within) refl

is_done : (number workers : ℕ) → number ≤ MAX_NUMBER → 1 ≤ workers → workers ≤ 64 → (h : Opens number) → answer (demo_command workers) (demo_files number) ≡ Ok (done_of (demo_run workers) demo_plan (map input_of h.0) (demo_rows number))
unfolding answer
is_done number workers few some few_workers h = rw (run_read workers some few_workers, plan_accepted number, run_done number workers few h) refl

opened_found : (number workers : ℕ) (found : Result Ran Status) → number ≤ MAX_NUMBER → (h : Opens number) → FitsRows (open_reads (demo_files number) demo_bindings (reads_of demo_plan)) demo_plan workers found → FitsRows (Ok h.0) demo_plan workers found
opened_found number workers found few h fits = subst (λ opened. FitsRows opened demo_plan workers found) (reads_opened number few h) fits

pub demo_ran : (number workers : ℕ) (ran : Ran) → number ≤ MAX_NUMBER → 1 ≤ workers → workers ≤ 64
    → FitsRows (open_reads (demo_files number) demo_bindings (reads_of demo_plan)) demo_plan workers (Ok ran) → IsDemoRan number workers ran
demo_ran number workers ran few some few_workers fits =
    let h = opens number few in
    let is = opened_found number workers (Ok ran) few h fits in
    let same : ran.rows.items ≡ demo_rows number = let both = sym is.rows ∙ rows_are number h.0 few h.2 in cc in
    record {
      rows = same;
      report = subst (λ found. IsOkAnd found (λ done. IsReport done (record { rows = length ran.rows.items; receipts = ran.receipts }))) (sym (is_done number workers few some few_workers h)) (record { rows = ap length same; receipts = is.receipts });
    }

-- a refusal of the plan, or of its files and rows, can only be a read fault or want of memory
pub plan_unrefused : (number : ℕ) (refusal : Status) → IsRefusalOf (accepted_at (demo_files number) (codes "plan")) refusal → (refusal ≡ status.ReadFault → ⊥) → refusal ≡ status.NoMemory
plan_unrefused number refusal is = by refusal (subst (λ found. IsRefusalOf found refusal) (plan_accepted number) is)
  where
    by : (refusal : Status) → IsRefusalOf (Ok demo_plan) refusal → (refusal ≡ status.ReadFault → ⊥) → refusal ≡ status.NoMemory
    by status.NoMemory is told = refl
    by status.ReadFault is told = absurd (told refl)
    by (status.Ok report) is told = absurd (cc)
    by status.Usage is told = absurd (cc)
    by (status.PlanUnreadable place) is told = absurd (cc)
    by (status.PlanRefused relation rule) is told = absurd (cc)
    by (status.FileRefused file rule) is told = absurd (cc)
    by (status.DataFault fault) is told = absurd (cc)
    by status.WriteFault is told = absurd (cc)

pub rows_unrefused : (number workers : ℕ) (refusal : Status) → number ≤ MAX_NUMBER
    → FitsRows (open_reads (demo_files number) demo_bindings (reads_of demo_plan)) demo_plan workers (Err refusal) → (refusal ≡ status.ReadFault → ⊥) → refusal ≡ status.NoMemory
rows_unrefused number workers refusal few fits =
    let h = opens number few in
    by h refusal (opened_found number workers (Err refusal) few h fits)
  where
    by : (h : Opens number) (refusal : Status) → FitsRows (Ok h.0) demo_plan workers (Err refusal) → (refusal ≡ status.ReadFault → ⊥) → refusal ≡ status.NoMemory
    by h status.NoMemory is told = refl
    by h status.ReadFault is told = absurd (told refl)
    by h (status.Ok report) is told = absurd (let both = sym is ∙ rows_are number h.0 few h.2 in cc)
    by h status.Usage is told = absurd (let both = sym is ∙ rows_are number h.0 few h.2 in cc)
    by h (status.PlanUnreadable place) is told = absurd (let both = sym is ∙ rows_are number h.0 few h.2 in cc)
    by h (status.PlanRefused relation rule) is told = absurd (let both = sym is ∙ rows_are number h.0 few h.2 in cc)
    by h (status.FileRefused file rule) is told = absurd (let both = sym is ∙ rows_are number h.0 few h.2 in cc)
    by h (status.DataFault fault) is told = absurd (let both = sym is ∙ rows_are number h.0 few h.2 in cc)
    by h status.WriteFault is told = absurd (let both = sym is ∙ rows_are number h.0 few h.2 in cc)

-- the answers of the demo, and when its words are faulty
pub demo_named : (reading : Option DemoReading) (answered : Status) → IsDemoAnswer reading answered → IsDemoNamed answered
demo_named None answered is = subst IsDemoNamed (sym is) tt
demo_named (Some reading) (status.Ok report) is = tt
demo_named (Some reading) status.Usage is = tt
demo_named (Some reading) status.NoMemory is = tt
demo_named (Some reading) (status.PlanUnreadable place) is = absurd (cc)
demo_named (Some reading) (status.PlanRefused relation rule) is = absurd (cc)
demo_named (Some reading) (status.FileRefused file rule) is = absurd (cc)
demo_named (Some reading) (status.DataFault fault) is = absurd (cc)
demo_named (Some reading) status.ReadFault is = absurd (cc)
demo_named (Some reading) status.WriteFault is = absurd (cc)

not_usage : (reading : DemoReading) (answered : Status) → IsDemoAnswer (Some reading) answered → answered ≡ status.Usage → ⊥
not_usage reading (status.Ok report) is usage = cc
not_usage reading status.Usage is usage = cc
not_usage reading status.NoMemory is usage = cc
not_usage reading (status.PlanUnreadable place) is usage = cc
not_usage reading (status.PlanRefused relation rule) is usage = cc
not_usage reading (status.FileRefused file rule) is usage = cc
not_usage reading (status.DataFault fault) is usage = cc
not_usage reading status.ReadFault is usage = cc
not_usage reading status.WriteFault is usage = cc

pub demo_usage : (reading : Option DemoReading) (answered : Status) → IsDemoAnswer reading answered → (answered ≡ status.Usage) ↔ (reading ≡ None)
demo_usage None answered is = (λ _. refl, λ _. is)
demo_usage (Some reading) answered is = (λ usage. absurd (not_usage reading answered is usage), λ none. absurd (cc))

-- a count that is always 0 never rises
pub no_rise : Rose 0 0 → ⊥
no_rise rose = omega (arith, rose)

-- what comes of the plan, and of its files and rows
pub plan_or_memory : {A : Type 0} (r : Result A Status) (number : ℕ) → IfErr r (IsRefusalOf (accepted_at (demo_files number) (codes "plan"))) → (r ≡ Err status.ReadFault → ⊥) → IfErr r (λ refusal. refusal ≡ status.NoMemory)
plan_or_memory (Ok x) number is told = tt
plan_or_memory (Err refusal) number is told = plan_unrefused number refusal is (λ same. told (ap Err same))

abbrev Comes : ℕ → ℕ → List (List ℕ) → Holed → Result Ran Status → Type 0
Comes number workers words plan r = FitsRows (open_reads (demo_files number) words (reads_of plan)) plan workers r

of_demo : (number workers : ℕ) (words : List (List ℕ)) (plan : Holed) (r : Result Ran Status) → words ≡ demo_bindings → plan ≡ demo_plan → Comes number workers words plan r → Comes number workers demo_bindings demo_plan r
of_demo number workers words plan r bound is comes = subst (λ one. Comes number workers demo_bindings one r) is (subst (λ bindings. Comes number workers bindings plan r) bound comes)

pub ran_or_refused : (number workers : ℕ) (words : List (List ℕ)) (plan : Holed) (r : Result Ran Status) → number ≤ MAX_NUMBER → 1 ≤ workers → workers ≤ 64 → words ≡ demo_bindings → plan ≡ demo_plan
    → FitsRows (open_reads (demo_files number) words (reads_of plan)) plan workers r → IfOk r (IsDemoRan number workers)
ran_or_refused number workers words plan (Ok ran) few some few_workers bound is comes = demo_ran number workers ran few some few_workers (of_demo number workers words plan (Ok ran) bound is comes)
ran_or_refused number workers words plan (Err refusal) few some few_workers bound is comes = tt

pub rows_or_memory : (number workers : ℕ) (words : List (List ℕ)) (plan : Holed) (r : Result Ran Status) → number ≤ MAX_NUMBER → words ≡ demo_bindings → plan ≡ demo_plan
    → FitsRows (open_reads (demo_files number) words (reads_of plan)) plan workers r → (r ≡ Err status.ReadFault → ⊥) → IfErr r (λ refusal. refusal ≡ status.NoMemory)
rows_or_memory number workers words plan (Ok ran) few bound is comes told = tt
rows_or_memory number workers words plan (Err refusal) few bound is comes told = rows_unrefused number workers refusal few (of_demo number workers words plan (Err refusal) bound is comes) (λ same. told (ap Err same))

-- what is said of the demo's answers
pub usage_text : (reading : Option DemoReading) → reading ≡ None → line_of status.Usage ≡ demo_text_of reading status.Usage
unfolding demo_text_of
usage_text reading none = sym (ap (λ one. demo_text_of one status.Usage) none)

pub memory_text : (reading : Option DemoReading) (refusal : Status) → refusal ≡ status.NoMemory → line_of refusal ≡ demo_text_of reading refusal
unfolding demo_text_of
memory_text reading refusal is = subst (λ one. line_of one ≡ demo_text_of reading one) (sym is) (by reading)
  where
    by : (reading : Option DemoReading) → line_of status.NoMemory ≡ demo_text_of reading status.NoMemory
    by None = refl
    by (Some one) = refl

pub summary_text : (reading : Option DemoReading) (one : DemoReading) (rows : List (List Value)) (report : Report) → reading ≡ Some one → rows ≡ demo_rows one.number → flat_map row_line rows ≡ demo_text_of reading (status.Ok report)
unfolding demo_text_of summary_of
summary_text reading one rows report is same = ap (λ xs. flat_map row_line xs) same ∙ sym (ap (λ found. demo_text_of found (status.Ok report)) is)
