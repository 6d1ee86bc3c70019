-- The demo's plan reads back from its bytes: each of its messages has a form of its own, numbers in range and texts in UTF-8, from the
-- leaves.
use Rattle.std.proofs.Common.{◌≡◌, ◌<◌, ◌^◌, ℕ, zero, suc, pos, List, [], ◌∷◌, true, false, Some, None, inl, refl, sym, subst, arith}
use Rattle.std.proofs.lemmas.List.Elements.{All-nil, All-from_recursion}
use Rattle.std.specs.Char.{encode_utf8}
use Rattle.std.specs.Int.{w32}
use Rattle.std.specs.List.{All, AllByRecursion}
use Rattle.std.specs.Prelude.{FitsSigned, codes}
use Rattle.std.specs.Str.{is_utf8, chars}
use Rattle.plan_leaves.specs.declared.extensions.FunDecl.{FunDecl}
use Rattle.plan_leaves.specs.declared.reference.StructField.{StructField}
use Rattle.plan_leaves.specs.declared.types.RawType.{RawType, RawType-F, out-RawType}
use Rattle.plan_leaves.specs.declared.types.RawType.TheVariants as t
use Rattle.plan_raw.specs.declared.aggregate.AggregateFunction.{out-AggregateFunction}
use Rattle.plan_raw.specs.declared.aggregate.Grouping.{Grouping-F, out-Grouping}
use Rattle.plan_raw.specs.declared.aggregate.Measure.{Measure-F, out-Measure}
use Rattle.plan_raw.specs.declared.aggregate.SortField.{SortField-F, out-SortField}
use Rattle.plan_raw.specs.declared.argument.FunctionArgument.{FunctionArgument-F, out-FunctionArgument}
use Rattle.plan_raw.specs.declared.expr.RawExpr.{RawExpr-F, out-RawExpr}
use Rattle.plan_raw.specs.declared.plan.RootDecl.{RootDecl}
use Rattle.plan_raw.specs.declared.rel.RawRel.{RawRel-F, out-RawRel}
use Rattle.plan_raw.specs.declared.source.RawSource.{RawSource-F}
use Rattle.plan_raw.specs.declared.source.RawSource.TheVariants as source
use Rattle.plan_tree.specs.Fold.{Opened}
use Rattle.plan_scan.specs.declared.shape.Shape.{Shape}
use Rattle.plan_scan.specs.declared.shape.Shape.TheVariants as s
use Rattle.plan_spell.specs.Exprs as exprs
use Rattle.plan_spell.specs.Held.{Part, PackedUint32s, uint32, messages, message, unless_zero, unless_empty}
use Rattle.plan_spell.specs.Known.{IsKnown, IsKnownRel, IsRead, IsAggregate, IsSort, IsJoin, IsKnownExpr, IsSelection, IsScalarFunction, IsKnownType}
use Rattle.plan_spell.specs.Leaves as leaves
use Rattle.plan_spell.specs.Nodes.{Node}
use Rattle.plan_spell.specs.Parts.{parts_of}
use Rattle.plan_spell.specs.Rels as rels
use Rattle.plan_spell.specs.Spelled.{HasFitting, IsSpellableAt, IsSpellable}
use Rattle.gen_data.specs.Plan as raw
use Rattle.demo_laws.proofs.OpenedLaws.{out_whole, out_text, out_truth, segment, out_column, argument, both, out_argument, out_is_of_order, schema, named, out_source, out_table, out_join, grouping, by_region, out_grouping, function_of, function_level, out_function, measure_level, out_measure, out_regions, key, key_level, out_key, out_sorted}
use Rattle.demo_laws.proofs.SpelledLaws.{plan_is_short}

-- a message whose fields fit
abbrev Fitting : ℕ → Shape → List Part → Type 0
Fitting n shape parts = AllByRecursion (HasFitting (IsSpellableAt n) shape) parts

made : (n : ℕ) (shape : Shape) (node : Node shape) → IsKnown shape node → Fitting n shape (parts_of shape node) → IsSpellableAt (suc n) shape node
unfolding IsSpellableAt
made n shape node known all = (known, All-from_recursion (HasFitting (IsSpellableAt n) shape) (parts_of shape node) all)

-- the same of a message that is opened
opened : {Level : Type 0} (n : ℕ) (shape : Shape) (node : Node shape) (Known : Level → Type 0) (parts : Level → List Part) (out level : Level) → out ≡ level
    → (Known out → Fitting n shape (parts out) → IsSpellableAt (suc n) shape node) → Known level → Fitting n shape (parts level) → IsSpellableAt (suc n) shape node
opened n shape node Known parts out level e whole known all = whole (subst Known (sym e) known) (subst (λ one. Fitting n shape (parts one)) (sym e) all)

abbrev Any : {Level : Type 0} → Level → Type 0
Any level = Unit {0}

-- the messages of a field
none : (n : ℕ) (shape : Shape) → All (IsSpellableAt n shape) []
none n shape = All-nil (IsSpellableAt n shape)

only : (n : ℕ) (shape : Shape) (node : Node shape) → IsSpellableAt n shape node → All (IsSpellableAt n shape) (node ∷ [])
only n shape node fits = All-from_recursion (IsSpellableAt n shape) (node ∷ []) (fits, tt)

two : (n : ℕ) (shape : Shape) (first second : Node shape) → IsSpellableAt n shape first → IsSpellableAt n shape second → All (IsSpellableAt n shape) (first ∷ second ∷ [])
two n shape first second a b = All-from_recursion (IsSpellableAt n shape) (first ∷ second ∷ []) (a, (b, tt))

-- a number, a place and texts

small : (number : ℕ) → number < 2 ^ 32 → All (λ number. number < 2 ^ 32) (number ∷ [])
small number h = All-from_recursion (λ number. number < 2 ^ 32) (number ∷ []) (h, tt)

place_fits : (place : ℕ) → place < 2 ^ 31 → All (FitsSigned w32) (unless_zero (pos place))
place_fits zero h = All-nil (FitsSigned w32)
place_fits (suc place) h = All-from_recursion (FitsSigned w32) (pos (suc place) ∷ []) (record { sfits = omega arith }, tt)

abbrev AreTexts : List (List ℕ) → Type 0
AreTexts texts = All (λ text. is_utf8 text ≡ true) texts

line_names : AreTexts raw.line_names
unfolding is_utf8 chars encode_utf8
line_names = All-from_recursion (λ text. is_utf8 text ≡ true) raw.line_names (refl, (refl, tt))

order_names : AreTexts raw.order_names
unfolding is_utf8 chars encode_utf8
order_names = All-from_recursion (λ text. is_utf8 text ≡ true) raw.order_names (refl, (refl, tt))

result_names : AreTexts raw.result_names
unfolding is_utf8 chars encode_utf8
result_names = All-from_recursion (λ text. is_utf8 text ≡ true) raw.result_names (refl, (refl, (refl, tt)))

lines_name : AreTexts (codes "lines" ∷ [])
unfolding is_utf8 chars encode_utf8
lines_name = All-from_recursion (λ text. is_utf8 text ≡ true) (codes "lines" ∷ []) (refl, tt)

orders_name : AreTexts (codes "orders" ∷ [])
unfolding is_utf8 chars encode_utf8
orders_name = All-from_recursion (λ text. is_utf8 text ≡ true) (codes "orders" ∷ []) (refl, tt)

equal_name : AreTexts (codes "equal:any_any" ∷ [])
unfolding is_utf8 chars encode_utf8
equal_name = All-from_recursion (λ text. is_utf8 text ≡ true) (codes "equal:any_any" ∷ []) (refl, tt)

sum_name : AreTexts (codes "sum:i64" ∷ [])
unfolding is_utf8 chars encode_utf8
sum_name = All-from_recursion (λ text. is_utf8 text ≡ true) (codes "sum:i64" ∷ []) (refl, tt)

count_name : AreTexts (codes "count:any" ∷ [])
unfolding is_utf8 chars encode_utf8
count_name = All-from_recursion (λ text. is_utf8 text ≡ true) (codes "count:any" ∷ []) (refl, tt)

comparison : AreTexts (raw.uri_of (codes "functions_comparison.yaml") ∷ [])
unfolding is_utf8 chars encode_utf8
comparison = All-from_recursion (λ text. is_utf8 text ≡ true) (raw.uri_of (codes "functions_comparison.yaml") ∷ []) (refl, tt)

arithmetic : AreTexts (raw.uri_of (codes "functions_arithmetic.yaml") ∷ [])
unfolding is_utf8 chars encode_utf8
arithmetic = All-from_recursion (λ text. is_utf8 text ≡ true) (raw.uri_of (codes "functions_arithmetic.yaml") ∷ []) (refl, tt)

aggregate : AreTexts (raw.uri_of (codes "functions_aggregate_generic.yaml") ∷ [])
unfolding is_utf8 chars encode_utf8
aggregate = All-from_recursion (λ text. is_utf8 text ≡ true) (raw.uri_of (codes "functions_aggregate_generic.yaml") ∷ []) (refl, tt)

-- types
plain : (n nullability : ℕ) → suc nullability < 2 ^ 32 → IsSpellableAt (suc n) s.PlainType (suc nullability)
plain n nullability h = made n s.PlainType (suc nullability) tt (small (suc nullability) h, tt)

whole : (n nullability : ℕ) → suc nullability < 2 ^ 32 → IsSpellableAt (suc (suc n)) s.DataType (t.I64 (suc nullability))
whole n nullability h =
    let ty = t.I64 (suc nullability) in
    opened (suc n) s.DataType ty IsKnownType (leaves.type_parts ty) (out-RawType ty) (RawType-F.I64 (suc nullability)) (out_whole (suc nullability)) (made (suc n) s.DataType ty) tt
    (only (suc n) s.PlainType (suc nullability) (plain n nullability h), tt)

text : (n : ℕ) → IsSpellableAt (suc (suc n)) s.DataType raw.text_type
text n =
    opened (suc n) s.DataType raw.text_type IsKnownType (leaves.type_parts raw.text_type) (out-RawType raw.text_type) (RawType-F.String 1) (out_text 1) (made (suc n) s.DataType raw.text_type) tt
    (only (suc n) s.PlainType 1 (plain n 0 (omega arith)), tt)

truth : (n : ℕ) → IsSpellableAt (suc (suc n)) s.DataType (t.Bool 1)
truth n =
    opened (suc n) s.DataType (t.Bool 1) IsKnownType (leaves.type_parts (t.Bool 1)) (out-RawType (t.Bool 1)) (RawType-F.Bool 1) (out_truth 1) (made (suc n) s.DataType (t.Bool 1)) tt
    (only (suc n) s.PlainType 1 (plain n 0 (omega arith)), tt)

-- a column, and as an argument
segment_fits : (n place : ℕ) → place < 2 ^ 31 → IsSpellableAt (suc (suc n)) s.ReferenceSegment (segment place)
segment_fits n place h =
    let field : StructField = record { field = pos place; child = false } in
    made (suc n) s.ReferenceSegment (segment place) tt (only (suc n) s.StructField field (made n s.StructField field tt (place_fits place h, (none n s.Empty, tt))), tt)

field_reference : (n place : ℕ) → place < 2 ^ 31 → IsSpellableAt (suc (suc (suc n))) s.FieldReference (raw.column place)
field_reference n place h =
    opened (suc (suc n)) s.FieldReference (raw.column place) IsSelection exprs.reference_parts (out-RawExpr (raw.column place)) (RawExpr-F.Selection (Some (segment place)) true false) (out_column place) (made (suc (suc n)) s.FieldReference (raw.column place)) tt
    (only (suc (suc n)) s.ReferenceSegment (segment place) (segment_fits n place h), (tt, (only (suc (suc n)) s.Empty tt (made (suc n) s.Empty tt tt tt), tt)))

column : (n place : ℕ) → place < 2 ^ 31 → IsSpellableAt (suc (suc (suc (suc n)))) s.Expression (raw.column place)
column n place h =
    opened (suc (suc (suc n))) s.Expression (raw.column place) IsKnownExpr (exprs.expression_parts (raw.column place)) (out-RawExpr (raw.column place)) (RawExpr-F.Selection (Some (segment place)) true false) (out_column place)
    (made (suc (suc (suc n))) s.Expression (raw.column place)) tt (only (suc (suc (suc n))) s.FieldReference (raw.column place) (field_reference n place h), tt)

argument_fits : (n place : ℕ) → place < 2 ^ 31 → IsSpellableAt (suc (suc (suc (suc (suc n))))) s.FunctionArgument (argument place)
argument_fits n place h =
    opened (suc (suc (suc (suc n)))) s.FunctionArgument (argument place) Any exprs.argument_parts (out-FunctionArgument (argument place)) (FunctionArgument-F.Value (raw.column place)) (out_argument place)
    (made (suc (suc (suc (suc n)))) s.FunctionArgument (argument place)) tt (only (suc (suc (suc (suc n)))) s.Expression (raw.column place) (column n place h), tt)

-- the condition of the join
call : IsSpellableAt 90 s.ScalarFunction raw.is_of_order
call =
    opened 89 s.ScalarFunction raw.is_of_order IsScalarFunction exprs.scalar_function_parts (out-RawExpr raw.is_of_order) (RawExpr-F.ScalarFunction 1 (Some (t.Bool 1)) both []) out_is_of_order (made 89 s.ScalarFunction raw.is_of_order) tt (
      small 1 (omega arith),
      (
        only 89 s.DataType (t.Bool 1) (truth 87),
        (two 89 s.FunctionArgument (argument 0) (argument 2) (argument_fits 84 0 (omega arith)) (argument_fits 84 2 (omega arith)), (none 89 s.FunctionOption, tt)),
      ),
    )

condition : IsSpellableAt 91 s.Expression raw.is_of_order
condition =
    opened 90 s.Expression raw.is_of_order IsKnownExpr (exprs.expression_parts raw.is_of_order) (out-RawExpr raw.is_of_order) (RawExpr-F.ScalarFunction 1 (Some (t.Bool 1)) both []) out_is_of_order (made 90 s.Expression raw.is_of_order) tt
    (only 90 s.ScalarFunction raw.is_of_order call, tt)

-- tables
schema_fits : (names : List (List ℕ)) (types : List RawType) → AreTexts names → All (IsSpellableAt 87 s.DataType) types → IsSpellableAt 89 s.NamedStruct (schema names types)
schema_fits names types are fit =
    made 88 s.NamedStruct (schema names types) tt (are, (only 88 s.StructType (record { types = types }) (made 87 s.StructType (record { types = types }) tt (fit, tt)), tt))

table : (name : List ℕ) (names : List (List ℕ)) (types : List RawType) → AreTexts (name ∷ []) → AreTexts names → All (IsSpellableAt 87 s.DataType) types → IsSpellableAt 91 s.Rel (raw.table name names types)
table name names types is are fit =
    let rel = raw.table name names types in
    let level : Opened RawRel-F = RawRel-F.Read None (Some (schema names types)) None None (source.NamedTable (named name)) None in
    let parts : Opened RawSource-F → List Part =
    (λ one. message 1 s.RelCommon None ∷ message 2 s.NamedStruct (Some (schema names types)) ∷ message 3 s.Expression None ∷ message 4 s.MaskExpression None
    ∷ messages 5 s.VirtualTable (rels.virtual_tables one) ∷ messages 6 s.LocalFiles (rels.local_files one) ∷ messages 7 s.NamedTable (rels.named_tables one) ∷ message 11 s.Expression None ∷ []) in
    let all : Fitting 89 s.ReadRel (rels.read_parts level) =
    subst (λ one. Fitting 89 s.ReadRel (parts one)) (sym (out_source name)) (
      none 89 s.RelCommon,
      (
        only 89 s.NamedStruct (schema names types) (schema_fits names types are fit),
        (
          none 89 s.Expression,
          (
            none 89 s.MaskExpression,
            (none 89 s.VirtualTable, (none 89 s.LocalFiles, (only 89 s.NamedTable (named name) (made 88 s.NamedTable (named name) tt (is, tt)), (none 89 s.Expression, tt)))),
          ),
        ),
      ),
    ) in
    opened 90 s.Rel rel IsKnownRel (rels.rel_parts rel) (out-RawRel rel) level (out_table name names types) (made 90 s.Rel rel) tt
    (only 90 s.ReadRel rel (opened 89 s.ReadRel rel IsRead rels.read_parts (out-RawRel rel) level (out_table name names types) (made 89 s.ReadRel rel) tt all), tt)

lines : IsSpellableAt 91 s.Rel raw.lines
lines = table (codes "lines") raw.line_names (raw.whole_type ∷ raw.whole_type ∷ []) lines_name line_names (two 87 s.DataType raw.whole_type raw.whole_type (whole 85 0 (omega arith)) (whole 85 0 (omega arith)))

orders : IsSpellableAt 91 s.Rel raw.orders
orders = table (codes "orders") raw.order_names (raw.whole_type ∷ raw.text_type ∷ []) orders_name order_names (two 87 s.DataType raw.whole_type raw.text_type (whole 85 0 (omega arith)) (text 85))

-- the lines joined to their orders
join : IsSpellableAt 93 s.Rel raw.ordered_lines
join =
    let rel = raw.ordered_lines in
    let level : Opened RawRel-F = RawRel-F.Join None (Some raw.lines) (Some raw.orders) (Some raw.is_of_order) None 1 in
    opened 92 s.Rel rel IsKnownRel (rels.rel_parts rel) (out-RawRel rel) level out_join (made 92 s.Rel rel) tt (
      only 92 s.JoinRel rel (opened 91 s.JoinRel rel IsJoin rels.join_parts (out-RawRel rel) level out_join (made 91 s.JoinRel rel) tt
          (none 91 s.RelCommon, (only 91 s.Rel raw.lines lines, (only 91 s.Rel raw.orders orders, (only 91 s.Expression raw.is_of_order condition, (none 91 s.Expression, (small 1 (omega arith), tt))))))),
      tt,
    )

-- by region: the sum and the count of the quantities
group : IsSpellableAt 93 s.Grouping grouping
group =
    opened 92 s.Grouping grouping Any (λ (level : Opened Grouping-F). messages 1 s.Expression level.grouping_expressions ∷ record { number = 2; held = PackedUint32s level.expression_references } ∷ []) (out-Grouping grouping) by_region out_grouping
    (made 92 s.Grouping grouping) tt (only 92 s.Expression (raw.column 3) (column 88 3 (omega arith)), (All-nil (λ number. number < 2 ^ 32), tt))

function : (reference nullability : ℕ) → suc reference < 2 ^ 32 → suc nullability < 2 ^ 32 → IsSpellableAt 92 s.AggregateFunction (function_of (suc reference) (t.I64 (suc nullability)))
function reference nullability h g =
    let ty = t.I64 (suc nullability) in
    let one = function_of (suc reference) ty in
    opened 91 s.AggregateFunction one Any rels.aggregate_function_parts (out-AggregateFunction one) (function_level (suc reference) ty) (out_function (suc reference) ty) (made 91 s.AggregateFunction one) tt (
      small (suc reference) h,
      (
        none 91 s.SortField,
        (
          small 3 (omega arith),
          (
            only 91 s.DataType ty (whole 89 nullability g),
            (
              small 1 (omega arith),
              (only 91 s.FunctionArgument (argument 1) (argument_fits 86 1 (omega arith)), (none 91 s.FunctionOption, tt)),
            ),
          ),
        ),
      ),
    )

measure : (reference nullability : ℕ) → suc reference < 2 ^ 32 → suc nullability < 2 ^ 32 → IsSpellableAt 93 s.Measure (raw.measure_of (suc reference) (t.I64 (suc nullability)))
measure reference nullability h g =
    let ty = t.I64 (suc nullability) in
    let node = raw.measure_of (suc reference) ty in
    opened 92 s.Measure node Any (λ (level : Opened Measure-F). message 1 s.AggregateFunction level.measure ∷ message 2 s.Expression level.filter ∷ []) (out-Measure node) (measure_level (suc reference) ty) (out_measure (suc reference) ty) (made 92 s.Measure node) tt
    (only 92 s.AggregateFunction (function_of (suc reference) ty) (function reference nullability h g), (none 92 s.Expression, tt))

regions : IsSpellableAt 95 s.Rel raw.regions
regions =
    let rel = raw.regions in
    let level : Opened RawRel-F = RawRel-F.Aggregate None (Some raw.ordered_lines) (grouping ∷ []) (raw.measure_of 2 (t.I64 1) ∷ raw.measure_of 3 (t.I64 2) ∷ []) [] in
    opened 94 s.Rel rel IsKnownRel (rels.rel_parts rel) (out-RawRel rel) level out_regions (made 94 s.Rel rel) tt (
      only 94 s.AggregateRel rel (opened 93 s.AggregateRel rel IsAggregate rels.aggregate_parts (out-RawRel rel) level out_regions (made 93 s.AggregateRel rel) tt (
        none 93 s.RelCommon,
        (
          only 93 s.Rel raw.ordered_lines join,
          (
            only 93 s.Grouping grouping group,
            (two 93 s.Measure (raw.measure_of 2 (t.I64 1)) (raw.measure_of 3 (t.I64 2)) (measure 1 0 (omega arith) (omega arith)) (measure 2 1 (omega arith) (omega arith)), (none 93 s.Expression, tt)),
          ),
        ),
      )),
      tt,
    )

-- the regions from the least on
least_first : IsSpellableAt 95 s.SortField key
least_first =
    opened 94 s.SortField key Any (λ (level : Opened SortField-F). message 1 s.Expression level.expr ∷ uint32 2 level.direction ∷ []) (out-SortField key) key_level out_key (made 94 s.SortField key) tt
    (only 94 s.Expression (raw.column 0) (column 90 0 (omega arith)), (small 1 (omega arith), tt))

sorted : IsSpellableAt 97 s.Rel raw.ordered_regions
sorted =
    let rel = raw.ordered_regions in
    let level : Opened RawRel-F = RawRel-F.Sort None (Some raw.regions) (key ∷ []) in
    opened 96 s.Rel rel IsKnownRel (rels.rel_parts rel) (out-RawRel rel) level out_sorted (made 96 s.Rel rel) tt (
      only 96 s.SortRel rel (opened 95 s.SortRel rel IsSort rels.sort_parts (out-RawRel rel) level out_sorted (made 95 s.SortRel rel) tt
          (none 95 s.RelCommon, (only 95 s.Rel raw.regions regions, (only 95 s.SortField key least_first, tt)))),
      tt,
    )

-- the plan: the files of functions, the functions, and what has the plan's only root
uri : (anchor : ℕ) (file : List ℕ) → suc anchor < 2 ^ 32 → AreTexts (raw.uri_of file ∷ []) → IsSpellableAt 99 s.ExtensionUri (record { anchor = suc anchor; uri = raw.uri_of file })
uri anchor file h is = made 98 s.ExtensionUri (record { anchor = suc anchor; uri = raw.uri_of file }) tt (small (suc anchor) h, (is, tt))

declaration : (anchor : ℕ) (name : List ℕ) → suc anchor < 2 ^ 32 → AreTexts (unless_empty name) → IsSpellableAt 99 s.ExtensionDeclaration (record { uri = suc anchor; anchor = suc anchor; name = name })
declaration anchor name h is =
    let function : FunDecl = record { uri = suc anchor; anchor = suc anchor; name = name } in
    made 98 s.ExtensionDeclaration function tt (only 98 s.ExtensionFunction function (made 97 s.ExtensionFunction function tt (small (suc anchor) h, (small (suc anchor) h, (is, tt)))), tt)

abbrev root : RootDecl
root = record { is_root = true; input = Some raw.ordered_regions; names = raw.result_names }

root_fits : IsSpellableAt 99 s.PlanRel root
root_fits =
    made 98 s.PlanRel root (inl refl) (only 98 s.RelRoot root (made 97 s.RelRoot root refl (only 97 s.Rel raw.ordered_regions sorted, (result_names, tt))), tt)

uris : All (IsSpellableAt 99 s.ExtensionUri) raw.uris
uris =
    All-from_recursion (IsSpellableAt 99 s.ExtensionUri) raw.uris
    (uri 0 (codes "functions_comparison.yaml") (omega arith) comparison, (uri 1 (codes "functions_arithmetic.yaml") (omega arith) arithmetic, (uri 2 (codes "functions_aggregate_generic.yaml") (omega arith) aggregate, tt)))

functions : All (IsSpellableAt 99 s.ExtensionDeclaration) raw.functions
functions =
    All-from_recursion (IsSpellableAt 99 s.ExtensionDeclaration) raw.functions
    (declaration 0 (codes "equal:any_any") (omega arith) equal_name, (declaration 1 (codes "sum:i64") (omega arith) sum_name, (declaration 2 (codes "count:any") (omega arith) count_name, tt)))

plan_fits : IsSpellableAt 100 s.Plan raw.demo_tree
unfolding raw.demo_tree
plan_fits = made 99 s.Plan raw.demo_tree tt (uris, (functions, (only 99 s.PlanRel root root_fits, tt)))

pub plan_is_spellable : IsSpellable raw.demo_tree
plan_is_spellable = record { fits = plan_fits; short = omega (arith, plan_is_short) }
