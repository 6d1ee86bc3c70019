-- A relation with the values of subqueries put in has the read relations that it had.
use Rattle.std.proofs.Common.{◌≡◌, ◌∙◌, ℕ, suc, ◌+◌, List, [], ◌∷◌, ◌++◌, Option, map, length, refl, sym, ap}
use Rattle.std.specs.List.{AllByRecursion, flat_map}
use Rattle.plan_typed.specs.declared.expr.Expr.{Expr}
use Rattle.plan_typed.specs.declared.rel.Op.{Op, out-Op, roll-Op, out-roll-Op, roll-out-Op, map-Op, fold-Op, fold-roll-Op}
use Rattle.plan_typed.specs.declared.rel.Op.TheOpen.{Op-F}
use Rattle.plan_typed.specs.declared.rel.Rel.{Rel, Rel-F, out-Rel, roll-Rel, out-roll-Rel, roll-out-Rel, fold-roll-Rel}
use Rattle.plan_typed.specs.declared.rel.Source.{Source}
use Rattle.plan_typed.specs.declared.rel.Source.TheVariants as sources
use Rattle.plan_denote.specs.Holes.{Worth, Known, worth_at, size_of_all, rows_from, source_from, filled_op, filled_rel, filled}
use Rattle.denote_typed.proofs.FillOpLaws.{new_op}
use Rattle.denote_typed.proofs.Law.{Inputs}
use Rattle.plan_reads.specs.declared.reads.Origin.{Origin}
use Rattle.plan_reads.specs.declared.reads.Origin.TheVariants as origins
use Rattle.plan_reads.specs.Reads.{origin_of, reads_in}
use Rattle.plan_laws.proofs.Levels.{by_inputs, level_reads, reads_are}

-- as many rows of expressions
rows_many : (k : ℕ → Option Worth) (number : ℕ) (rows : List (List Expr)) → length (rows_from k number rows) ≡ length rows
rows_many k number [] = refl
rows_many k number (row ∷ rows) = ap suc (rows_many k (number + size_of_all k row) rows)

origin_same : (k : ℕ → Option Worth) (source : Source) → origin_of (source_from k source) ≡ origin_of source
origin_same k (sources.Named names) = refl
origin_same k (sources.Rows rows) = ap origins.Rows (rows_many k 0 rows)

module _ (known : Known) where
  abbrev fill_op : Op → (ℕ → Option Worth) → Op
  fill_op op = fold-Op ((ℕ → Option Worth) → Op) Rel filled_op (filled_rel known) op

  op_levels : (k : ℕ → Option Worth) (level : Op-F Op Rel) → filled_op (map-Op Op Rel ((ℕ → Option Worth) → Op) Rel fill_op (filled known) level) k ≡ roll-Op (new_op k known level)
  unfolding filled
  op_levels k (Op-F.Read source names types filter mask) = refl
  op_levels k (Op-F.Filter input condition) = refl
  op_levels k (Op-F.Project input exprs) = refl
  op_levels k (Op-F.Fetch input offset count) = refl
  op_levels k (Op-F.Sort input keys) = refl
  op_levels k (Op-F.Aggregate input groups measures) = refl
  op_levels k (Op-F.GroupSets input groups sets measures) = refl
  op_levels k (Op-F.Join left right kind on post) = refl
  op_levels k (Op-F.Cross left right) = refl
  op_levels k (Op-F.Set inputs op) = refl

  filled_op_is : (op : Op) (k : ℕ → Option Worth) → fill_op op k ≡ roll-Op (new_op k known (out-Op op))
  unfolding filled
  filled_op_is op k =
      ap (λ one. fill_op one k) (sym (roll-out-Op op)) ∙ ap (λ (one : (ℕ → Option Worth) → Op). one k) (fold-roll-Op ((ℕ → Option Worth) → Op) Rel filled_op (filled_rel known) (out-Op op)) ∙ op_levels k (out-Op op)

  -- a relation with the values put in, by one level
  abbrev new_rel : Rel-F Op Rel → Rel-F Op Rel
  new_rel rel = record { number = rel.number; op = roll-Op (new_op (worth_at known rel.number) known (out-Op rel.op)); emit = rel.emit; columns = rel.columns }

  filled_is : (rel : Rel) → filled known rel ≡ roll-Rel (new_rel (out-Rel rel))
  unfolding filled
  filled_is rel =
      let level = out-Rel rel in
      ap (filled known) (sym (roll-out-Rel rel)) ∙ fold-roll-Rel ((ℕ → Option Worth) → Op) Rel filled_op (filled_rel known) level
      ∙ ap (λ (op : Op). roll-Rel (record { number = level.number; op = op; emit = level.emit; columns = level.columns })) (filled_op_is level.op (worth_at known level.number))

  abbrev Same : Rel → Type 0
  Same rel = reads_in (filled known rel) ≡ reads_in rel

  inputs_same : (inputs : List Rel) → AllByRecursion Same inputs → flat_map reads_in (map (filled known) inputs) ≡ flat_map reads_in inputs
  inputs_same [] same = refl
  inputs_same (input ∷ inputs) same = λ i. same.0 i ++ inputs_same inputs same.1 i

  level_same : (k : ℕ → Option Worth) (level : Op-F Op Rel) (number : ℕ) → Inputs Same level → level_reads (new_op k known level) number ≡ level_reads level number
  level_same k (Op-F.Read source names types filter mask) number same = ap (λ (origin : Origin). record { relation = number; origin = origin; names = names; types = types } ∷ []) (origin_same k source)
  level_same k (Op-F.Filter input condition) number same = same
  level_same k (Op-F.Project input exprs) number same = same
  level_same k (Op-F.Fetch input offset count) number same = same
  level_same k (Op-F.Sort input keys) number same = same
  level_same k (Op-F.Aggregate input groups measures) number same = same
  level_same k (Op-F.GroupSets input groups sets measures) number same = same
  level_same k (Op-F.Join left right kind on post) number same = λ i. same.0 i ++ same.1 i
  level_same k (Op-F.Cross left right) number same = λ i. same.0 i ++ same.1 i
  level_same k (Op-F.Set inputs op) number same = inputs_same inputs same

  relation_same : (rel : Rel) → Inputs Same (out-Op (out-Rel rel).op) → Same rel
  relation_same rel same =
      let level = out-Rel rel in
      let k = worth_at known level.number in
      let new = new_op k known (out-Op level.op) in
      ap reads_in (filled_is rel)
      ∙ reads_are (roll-Rel (new_rel level))
      ∙ ap (λ (one : Rel-F Op Rel). level_reads (out-Op one.op) one.number) (out-roll-Rel (new_rel level))
      ∙ ap (λ (one : Op-F Op Rel). level_reads one level.number) (out-roll-Op new)
      ∙ level_same k (out-Op level.op) level.number same
      ∙ sym (reads_are rel)

  -- the read relations stay, their numbers, names and types too
  pub reads_filled : (rel : Rel) → reads_in (filled known rel) ≡ reads_in rel
  reads_filled = by_inputs Same relation_same
