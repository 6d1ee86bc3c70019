-- The read relations of each kind of relation, by those of its inputs.
use Rattle.std.proofs.Common.{◌≡◌, ◌∙◌, ap, refl, rules, ℕ, Option, List, [], ◌∷◌, ◌++◌, map}
use Rattle.std.specs.List.{flat_map}
use Rattle.sub_types.specs.declared.kind.Ty.{Ty}
use Rattle.plan_typed.specs.declared.expr.Expr.{Expr}
use Rattle.plan_typed.specs.declared.rel.JoinKind.{JoinKind}
use Rattle.plan_typed.specs.declared.rel.SetOp.{SetOp}
use Rattle.plan_typed.specs.declared.rel.SetMeasure.{SetMeasure}
use Rattle.plan_typed.specs.declared.rel.SortKey.{SortKey}
use Rattle.plan_typed.specs.declared.rel.TypedMeasure.{TypedMeasure}
use Rattle.plan_typed.specs.declared.rel.Source.{Source}
use Rattle.plan_typed.specs.declared.rel.Op.{the_lemmas}
use Rattle.plan_typed.specs.declared.rel.Op.TheVariants as ops
use Rattle.plan_typed.specs.declared.rel.Rel.{Rel, out-Rel}
use Rattle.cut_laws.specs.Found.{ReadRel, read_rels, read_rels_of_op}
use Rattle.read_sources.specs.Seen.{read_rel}

pub of_op : (rel : Rel) → read_rels rel ≡ read_rels_of_op (out-Rel rel).op (out-Rel rel).number
unfolding read_rels read_rels_of_op
of_op rel = search (rules, the_lemmas)

pub of_Read : (source : Source) (names : List (List ℕ)) (types : List Ty) (filter : Option Expr) (mask : List ℕ) (number : ℕ) → read_rels_of_op (ops.Read source names types filter mask) number ≡ read_rel number source types ∷ []
unfolding read_rels read_rels_of_op
of_Read source names types filter mask number = search (rules, the_lemmas)

pub of_Filter : (input : Rel) (condition : Expr) (number : ℕ) → read_rels_of_op (ops.Filter input condition) number ≡ read_rels input
unfolding read_rels read_rels_of_op
of_Filter input condition number = search (rules, the_lemmas)

pub of_Project : (input : Rel) (exprs : List Expr) (number : ℕ) → read_rels_of_op (ops.Project input exprs) number ≡ read_rels input
unfolding read_rels read_rels_of_op
of_Project input exprs number = search (rules, the_lemmas)

pub of_Fetch : (input : Rel) (offset : ℕ) (count : Option ℕ) (number : ℕ) → read_rels_of_op (ops.Fetch input offset count) number ≡ read_rels input
unfolding read_rels read_rels_of_op
of_Fetch input offset count number = search (rules, the_lemmas)

pub of_Sort : (input : Rel) (keys : List SortKey) (number : ℕ) → read_rels_of_op (ops.Sort input keys) number ≡ read_rels input
unfolding read_rels read_rels_of_op
of_Sort input keys number = search (rules, the_lemmas)

pub of_Aggregate : (input : Rel) (groups : List Expr) (measures : List TypedMeasure) (number : ℕ) → read_rels_of_op (ops.Aggregate input groups measures) number ≡ read_rels input
unfolding read_rels read_rels_of_op
of_Aggregate input groups measures number = search (rules, the_lemmas)

pub of_GroupSets : (input : Rel) (groups : List Expr) (sets : List (List ℕ)) (measures : List SetMeasure) (number : ℕ) → read_rels_of_op (ops.GroupSets input groups sets measures) number ≡ read_rels input
unfolding read_rels read_rels_of_op
of_GroupSets input groups sets measures number = search (rules, the_lemmas)

pub of_Join : (left right : Rel) (kind : JoinKind) (on : Expr) (post : Option Expr) (number : ℕ) → read_rels_of_op (ops.Join left right kind on post) number ≡ read_rels right ++ read_rels left
unfolding read_rels read_rels_of_op
of_Join left right kind on post number = search (rules, the_lemmas)

pub of_Cross : (left right : Rel) (number : ℕ) → read_rels_of_op (ops.Cross left right) number ≡ read_rels right ++ read_rels left
unfolding read_rels read_rels_of_op
of_Cross left right number = search (rules, the_lemmas)

flat : (inputs : List Rel) → flat_map (λ (input : List ReadRel). input) (map read_rels inputs) ≡ flat_map read_rels inputs
flat [] = refl
flat (input ∷ inputs) = ap (λ rest. read_rels input ++ rest) (flat inputs)

of_set : (inputs : List Rel) (op : SetOp) (number : ℕ) → read_rels_of_op (ops.Set inputs op) number ≡ flat_map (λ (input : List ReadRel). input) (map read_rels inputs)
unfolding read_rels read_rels_of_op
of_set inputs op number = search (rules, the_lemmas)

pub of_Set : (inputs : List Rel) (op : SetOp) (number : ℕ) → read_rels_of_op (ops.Set inputs op) number ≡ flat_map read_rels inputs
of_Set inputs op number = of_set inputs op number ∙ flat inputs
