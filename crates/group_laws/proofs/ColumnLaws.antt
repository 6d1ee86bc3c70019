-- Rows evaluated column by column, as row by row.
use Rattle.std.proofs.Common.{◌≡◌, ◌∙◌, ℕ, List, [], ◌∷◌, Bool, true, false, cond, Option, Some, None, Result, Ok, Err, map, refl, sym, ap}
use Rattle.std.proofs.lemmas.List.{append-nil}
use Rattle.sub_types.specs.declared.fault.FaultKind.{FaultKind}
use Rattle.sub_types.specs.declared.value.Value.{Value}
use Rattle.sub_types.specs.Stream.{Stream, rows_alone, ended, followed_by, glue, stream_of}
use Rattle.plan_denote.specs.Rows.{Row, Formula, ◌>>=◌, collect, condition_of, values_at, is_true, at_relation, each_row}
use Rattle.plan_denote.specs.Aggregate.{Measure, Entry, argument_of, member_at, entry_of}
use Rattle.group_laws.specs.Columns.{Column, at_row, column, before, first_stop, beside, columns, chosen, next_value, spread, members, members_of, entries_of, stream_at}

-- two expressions at a row, put together
abbrev both : {A B C : Type 0} → (A → B → C) → Result A FaultKind → Result B FaultKind → Result C FaultKind
both pair first second = first >>= (λ x. second >>= (λ y. Ok (pair x y)))

second_at_row : {R A B C : Type 0} (pair : A → B → C) (g : R → Result B FaultKind) (row : R) (rows : List R) (x : A) (first : Column A) (s : Result B FaultKind) (whole : Column C)
    → whole ≡ beside pair first (column g (before first rows)) → at_row (s >>= (λ y. Ok (pair x y))) whole ≡ beside pair (at_row (Ok x) first) (at_row s (column g (before first rows)))
second_at_row pair g row rows x first (Ok y) whole e = ap (at_row (Ok (pair x y))) e
second_at_row pair g row rows x first (Err kind) whole e = refl

first_at_row : {R A B C : Type 0} (pair : A → B → C) (g : R → Result B FaultKind) (row : R) (rows : List R) (r : Result A FaultKind) (first : Column A) (whole : Column C)
    → whole ≡ beside pair first (column g (before first rows)) → at_row (both pair r (g row)) whole ≡ beside pair (at_row r first) (column g (before (at_row r first) (row ∷ rows)))
first_at_row pair g row rows (Ok x) first whole e = second_at_row pair g row rows x first (g row) whole e
first_at_row pair g row rows (Err kind) first whole e = refl

pub column-both : {R A B C : Type 0} (pair : A → B → C) (f : R → Result A FaultKind) (g : R → Result B FaultKind) (rows : List R) → column (λ row. both pair (f row) (g row)) rows ≡ beside pair (column f rows) (column g (before (column f rows) rows))
column-both pair f g [] = refl
column-both pair f g (row ∷ rows) = first_at_row pair g row rows (f row) (column f rows) (column (λ r. both pair (f r) (g r)) rows) (column-both pair f g rows)

abbrev no_values : {R A : Type 0} → R → Result (List A) FaultKind
no_values row = Ok []

nothing_left : {R A : Type 0} (rows : List R) → column (no_values {R = R} {A = A}) rows ≡ record { values = map (λ row. []) rows; stop = None }
nothing_left [] = refl
nothing_left (row ∷ rows) = ap (at_row (Ok [])) (nothing_left rows)

pub columns_are : {R A : Type 0} (exprs : List (R → Result A FaultKind)) (rows : List R) → column (λ row. collect (map (λ expr. expr row) exprs)) rows ≡ columns exprs rows
columns_are [] rows = nothing_left rows
columns_are (f ∷ exprs) rows =
    column-both (λ x xs. x ∷ xs) f (λ row. collect (map (λ expr. expr row) exprs)) rows
    ∙ ap (beside (λ x xs. x ∷ xs) (column f rows)) (columns_are exprs (before (column f rows) rows))

-- what a measure takes
abbrev member_columns : Measure → List Row → Column Value → Column (Option Value)
member_columns measure rows tests = let taken = column (argument_of measure.arg) (chosen tests.values rows) in record { values = spread tests.values taken.values; stop = first_stop taken.stop tests.stop }

argument_at_row : (measure : Measure) (row : Row) (rows : List Row) (tests : Column Value) (arg : Result Value FaultKind) (whole : Column (Option Value)) → whole ≡ member_columns measure rows tests
    → at_row (arg >>= (λ value. Ok (Some value))) whole
    ≡ (let taken = at_row arg (column (argument_of measure.arg) (chosen tests.values rows)) in record { values = next_value taken.values (spread tests.values); stop = first_stop taken.stop tests.stop })
argument_at_row measure row rows tests (Ok value) whole e = ap (at_row (Ok (Some value))) e
argument_at_row measure row rows tests (Err kind) whole e = refl

-- one more row, for which the filter is true or not
abbrev tested : Measure → Row → List Row → Column Value → Bool → Column (Option Value)
tested measure row rows tests b = let taken = column (argument_of measure.arg) (cond b (row ∷ chosen tests.values rows) (chosen tests.values rows)) in
    record { values = cond b (next_value taken.values (spread tests.values)) (None ∷ spread tests.values taken.values); stop = first_stop taken.stop tests.stop }

tested_at_row : (measure : Measure) (row : Row) (rows : List Row) (tests : Column Value) (b : Bool) (whole : Column (Option Value)) → whole ≡ member_columns measure rows tests
    → at_row (cond b (argument_of measure.arg row >>= (λ value. Ok (Some value))) (Ok None)) whole ≡ tested measure row rows tests b
tested_at_row measure row rows tests true whole e = argument_at_row measure row rows tests (argument_of measure.arg row) whole e
tested_at_row measure row rows tests false whole e = ap (at_row (Ok None)) e

member_at_row : (measure : Measure) (row : Row) (rows : List Row) (test : Result Value FaultKind) (tests : Column Value) (whole : Column (Option Value)) → whole ≡ member_columns measure rows tests
    → at_row (test >>= (λ t. cond (is_true t) (argument_of measure.arg row >>= (λ value. Ok (Some value))) (Ok None))) whole ≡ member_columns measure (row ∷ rows) (at_row test tests)
member_at_row measure row rows (Ok test) tests whole e = tested_at_row measure row rows tests (is_true test) whole e
member_at_row measure row rows (Err kind) tests whole e = refl

pub members_are : (measure : Measure) (rows : List Row) → column (λ row. member_at row measure) rows ≡ members measure rows
members_are measure [] = refl
members_are measure (row ∷ rows) = member_at_row measure row rows (condition_of measure.filter row) (column (condition_of measure.filter) rows) (column (λ r. member_at r measure) rows) (members_are measure rows)

pub all_members_are : (measures : List Measure) (rows : List Row) → column (λ row. collect (map (member_at row) measures)) rows ≡ members_of measures rows
all_members_are [] rows = nothing_left rows
all_members_are (measure ∷ measures) rows =
    column-both (λ x xs. x ∷ xs) (λ row. member_at row measure) (λ row. collect (map (member_at row) measures)) rows
    ∙ ap (λ first. beside (λ x xs. x ∷ xs) first (column (λ row. collect (map (member_at row) measures)) (before first rows))) (members_are measure rows)
    ∙ ap (beside (λ x xs. x ∷ xs) (members measure rows)) (all_members_are measures (before (members measure rows) rows))

-- entries
abbrev entry_at : List Formula → List Measure → Row → Result Entry FaultKind
entry_at groups measures row = both (λ key taken. (key, taken)) (values_at groups row) (collect (map (member_at row) measures))

pub entries_are : (groups : List Formula) (measures : List Measure) (rows : List Row) → column (entry_at groups measures) rows ≡ entries_of groups measures rows
entries_are groups measures rows =
    column-both (λ key taken. (key, taken)) (values_at groups) (λ row. collect (map (member_at row) measures)) rows
    ∙ ap (λ keys. beside (λ key taken. (key, taken)) keys (column (λ row. collect (map (member_at row) measures)) (before keys rows))) (columns_are groups rows)
    ∙ ap (beside (λ key taken. (key, taken)) (columns groups rows)) (all_members_are measures (before (columns groups rows) rows))

-- as a stream
abbrev one_row : {A : Type 0} → A → Result (List A) FaultKind
one_row x = Ok (x ∷ [])

stream_at_row : {A : Type 0} (number : ℕ) (r : Result A FaultKind) (rest : Column A) (s : Stream A) → s ≡ stream_at number rest → followed_by (stream_of (at_relation number (r >>= one_row))) s ≡ stream_at number (at_row r rest)
stream_at_row number (Ok x) rest s e = ap (λ t. record { rows = x ∷ t.rows; end = t.end }) e
stream_at_row number (Err kind) rest s e = refl

glued : {R A : Type 0} (number : ℕ) (f : R → Result A FaultKind) (rows : List R) → glue (map (λ row. stream_of (at_relation number (f row >>= one_row))) rows) ≡ stream_at number (column f rows)
glued number f [] = refl
glued number f (row ∷ rows) = stream_at_row number (f row) (column f rows) (glue (map (λ r. stream_of (at_relation number (f r >>= one_row))) rows)) (glued number f rows)

no_more : {A : Type 0} (number : ℕ) (values : List A) (stop : Option FaultKind) → followed_by (stream_at number (record { values = values; stop = stop })) (ended None) ≡ stream_at number (record { values = values; stop = stop })
no_more number values None = ap rows_alone (append-nil values)
no_more number values (Some kind) = refl

pub column_rows : {R A : Type 0} (number : ℕ) (f : R → Result A FaultKind) (rows : List R) → each_row number (λ row. f row >>= one_row) (rows_alone rows) ≡ stream_at number (column f rows)
column_rows number f rows = ap (λ s. followed_by s (ended None)) (glued number f rows) ∙ no_more number (column f rows).values (column f rows).stop

-- row by row
abbrev entry : Row → List (Option Value) → Entry
entry key taken = (key, taken)

entry_steps : (key : Result Row FaultKind) (taken : Result (List (Option Value)) FaultKind) → both entry key taken >>= one_row ≡ key >>= (λ k. taken >>= (λ t. Ok (entry k t ∷ [])))
entry_steps (Ok key) (Ok taken) = refl
entry_steps (Ok key) (Err kind) = refl
entry_steps (Err kind) taken = refl

rows_alike : {R A : Type 0} (number : ℕ) (f g : R → Result (List A) FaultKind) → ((row : R) → f row ≡ g row) → (rows : List R) → map (λ row. stream_of (at_relation number (f row))) rows ≡ map (λ row. stream_of (at_relation number (g row))) rows
rows_alike number f g h [] = refl
rows_alike number f g h (row ∷ rows) = ap (λ given. stream_of (at_relation number given) ∷ map (λ r. stream_of (at_relation number (f r))) rows) (h row) ∙ ap (λ l. stream_of (at_relation number (g row)) ∷ l) (rows_alike number f g h rows)

pub entries_by_columns : (number : ℕ) (groups : List Formula) (measures : List Measure) (rows : List Row) → each_row number (entry_of groups measures) (rows_alone rows) ≡ stream_at number (entries_of groups measures rows)
entries_by_columns number groups measures rows =
    ap (λ all. followed_by (glue all) (ended None)) (rows_alike number (entry_of groups measures) (λ row. entry_at groups measures row >>= one_row) (λ row. sym (entry_steps (values_at groups row) (collect (map (member_at row) measures)))) rows)
    ∙ column_rows number (entry_at groups measures) rows
    ∙ ap (stream_at number) (entries_are groups measures rows)
