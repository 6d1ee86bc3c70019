-- What a relation denotes, by what its inputs denote.
use Rattle.std.proofs.Common.{◌≡◌, ◌∙◌, ℕ, Option, List, map, length, ap, rules}
use Rattle.std.proofs.lemmas.Simd.{map-map}
use Rattle.sub_types.specs.declared.kind.Ty.{Ty}
use Rattle.plan_typed.specs.declared.expr.Expr.{Expr}
use Rattle.plan_typed.specs.declared.rel.JoinKind.{JoinKind}
use Rattle.plan_typed.specs.declared.rel.SetOp.{SetOp}
use Rattle.plan_typed.specs.declared.rel.SetMeasure.{SetMeasure}
use Rattle.plan_typed.specs.declared.rel.SortKey.{SortKey}
use Rattle.plan_typed.specs.declared.rel.TypedMeasure.{TypedMeasure}
use Rattle.plan_typed.specs.declared.rel.Source.{Source}
use Rattle.plan_typed.specs.declared.rel.Op.{the_lemmas}
use Rattle.plan_typed.specs.declared.rel.Op.TheVariants as ops
use Rattle.plan_typed.specs.declared.rel.Rel.{Rel, out-Rel}
use Rattle.plan_typed.specs.Types.{columns_of}
use Rattle.plan_denote.specs.Eval.{eval}
use Rattle.plan_denote.specs.Read.{read_rows}
use Rattle.plan_denote.specs.Filter.{filtered}
use Rattle.plan_denote.specs.Project.{projected, emitted}
use Rattle.plan_denote.specs.Fetch.{fetched}
use Rattle.plan_denote.specs.Sort.{sorted}
use Rattle.plan_denote.specs.Aggregate.{aggregated}
use Rattle.plan_denote.specs.GroupSets.{grouping_sets}
use Rattle.plan_denote.specs.Join.{joined, crossed}
use Rattle.plan_denote.specs.Sets.{set_rows}
use Rattle.plan_denote.specs.Denote.{Tables, Answer, answer_of, direct, denote, maybe_condition, source_rows, direction_of, measure_of, any_measure, join_of}

pub direct-Filter : (tables : Tables) (input : Rel) (test : Expr) (number : ℕ) → direct tables (ops.Filter input test) number ≡ filtered number (eval test) (denote tables input)
unfolding direct answer_of
direct-Filter tables input test number = search (rules, the_lemmas)

pub direct-Read : (tables : Tables) (source : Source) (names : List (List ℕ)) (types : List Ty) (filter : Option Expr) (mask : List ℕ) (number : ℕ)
    → direct tables (ops.Read source names types filter mask) number ≡ read_rows number types (maybe_condition filter) mask (source_rows tables number source)
unfolding direct answer_of
direct-Read tables source names types filter mask number = search (rules, the_lemmas)

pub direct-Project : (tables : Tables) (input : Rel) (exprs : List Expr) (number : ℕ) → direct tables (ops.Project input exprs) number ≡ projected number (map eval exprs) (denote tables input)
unfolding direct answer_of
direct-Project tables input exprs number = search (rules, the_lemmas)

pub direct-Fetch : (tables : Tables) (input : Rel) (offset : ℕ) (count : Option ℕ) (number : ℕ) → direct tables (ops.Fetch input offset count) number ≡ fetched offset count (denote tables input)
unfolding direct answer_of
direct-Fetch tables input offset count number = search (rules, the_lemmas)

pub direct-Sort : (tables : Tables) (input : Rel) (keys : List SortKey) (number : ℕ)
    → direct tables (ops.Sort input keys) number ≡ sorted number (map (λ key. eval key.expr) keys) (map direction_of keys) (denote tables input)
unfolding direct answer_of
direct-Sort tables input keys number = search (rules, the_lemmas)

pub direct-Aggregate : (tables : Tables) (input : Rel) (groups : List Expr) (measures : List TypedMeasure) (number : ℕ)
    → direct tables (ops.Aggregate input groups measures) number ≡ aggregated number (map eval groups) (map measure_of measures) (denote tables input)
unfolding direct answer_of
direct-Aggregate tables input groups measures number = search (rules, the_lemmas)

pub direct-GroupSets : (tables : Tables) (input : Rel) (groups : List Expr) (sets : List (List ℕ)) (measures : List SetMeasure) (number : ℕ)
    → direct tables (ops.GroupSets input groups sets measures) number ≡ grouping_sets number (map eval groups) sets (map any_measure measures) (denote tables input)
unfolding direct answer_of
direct-GroupSets tables input groups sets measures number = search (rules, the_lemmas)

pub direct-Cross : (tables : Tables) (left right : Rel) (number : ℕ)
    → direct tables (ops.Cross left right) number ≡ crossed number (answer_of tables left).width (answer_of tables right).width (denote tables left) (denote tables right)
unfolding direct answer_of
direct-Cross tables left right number = search (rules, the_lemmas)

pub direct-Join : (tables : Tables) (left right : Rel) (kind : JoinKind) (on : Expr) (post : Option Expr) (number : ℕ)
    → direct tables (ops.Join left right kind on post) number
    ≡ filtered number (maybe_condition post) (joined kind (join_of number (answer_of tables left).width (answer_of tables right).width on) (denote tables left) (denote tables right))
unfolding direct answer_of
direct-Join tables left right kind on post number = search (rules, the_lemmas)

direct_set : (tables : Tables) (inputs : List Rel) (op : SetOp) (number : ℕ)
    → direct tables (ops.Set inputs op) number ≡ set_rows op (map (λ (input : Answer). input.rows) (map (answer_of tables) inputs))
unfolding direct answer_of
direct_set tables inputs op number = search (rules, the_lemmas)

pub direct-Set : (tables : Tables) (inputs : List Rel) (op : SetOp) (number : ℕ) → direct tables (ops.Set inputs op) number ≡ set_rows op (map (denote tables) inputs)
direct-Set tables inputs op number = direct_set tables inputs op number ∙ ap (set_rows op) (map-map _ _ inputs)

answered : (tables : Tables) (rel : Rel) → answer_of tables rel ≡ record { width = length (out-Rel rel).columns; rows = emitted (out-Rel rel).emit (direct tables (out-Rel rel).op (out-Rel rel).number) }
unfolding direct answer_of
answered tables rel = search (rules, the_lemmas)

-- what a relation emits of what it does
pub denotes : (tables : Tables) (rel : Rel) → denote tables rel ≡ emitted (out-Rel rel).emit (direct tables (out-Rel rel).op (out-Rel rel).number)
denotes tables rel = ap (λ one. one.rows) (answered tables rel)

pub width_is : (tables : Tables) (rel : Rel) → (answer_of tables rel).width ≡ length (columns_of rel)
width_is tables rel = ap (λ one. one.width) (answered tables rel)
