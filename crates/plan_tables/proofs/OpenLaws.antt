-- Read relations and their tables, opened one after another.
use Rattle.std.proofs.Common.{◌≡◌, ◌∙◌, ℕ, suc, List, [], ◌∷◌, ◌++◌, map, Result, Ok, Err, refl, sym, ap, subst, append_assoc, arith}
use Rattle.std.specs.List.{Contains}
use Rattle.std.proofs.lemmas.List.{map-append}
use Rattle.sub_types.specs.ResultSteps.{◌>>=◌}
use Rattle.sub_types.specs.declared.kind.Ty.{Ty}
use Rattle.world.specs.Files.{Files}
use Rattle.plan_reads.specs.declared.reads.PlanRead.{PlanRead}
use Rattle.table_open.specs.declared.error.FileRule.{FileRule}
use Rattle.table_open.specs.declared.error.TableError.{TableError}
use Rattle.table_open.specs.declared.error.TableError.TheVariants as table_errors
use Rattle.table_open.specs.Files.{TableFile, table_files}
use Rattle.table_open.specs.Answers.{FitsTable, IsTableError}
use Rattle.table_open.proofs.StepLaws.{followed, followed_more, followed_stops, followed_all}
use Rattle.plan_tables.specs.Refused.{IsRefusal}
use Rattle.plan_tables.specs.Tables.{files_named}

-- the list that a step adds to
pub map_push : {A B : Type 0} (f : A → B) (xs new : List A) (x : A) → new ≡ xs ++ x ∷ [] → map f new ≡ map f xs ++ f x ∷ []
map_push f xs new x pushed = ap (map f) pushed ∙ map-append f xs (x ∷ [])

module _ {X A C : Type 0} (f : X → Result C (ℕ × FileRule)) (seen : A → C) where
  -- one step more is done
  pub step_more : (denoted : Result (List C) (ℕ × FileRule)) (so_far new : List A) (v : A) (left : List X) (x : X) (rest : List X)
      → left ≡ x ∷ rest → new ≡ so_far ++ v ∷ [] → f x ≡ Ok (seen v)
      → denoted ≡ followed f (map seen so_far) left → denoted ≡ followed f (map seen new) rest
  step_more denoted so_far new v left x rest next pushed found told =
      told ∙ ap (followed f (map seen so_far)) next ∙ followed_more f (map seen so_far) x rest (seen v) found
      ∙ ap (λ (l : List C). followed f l rest) (sym (map_push seen so_far new v pushed))

  -- a step is refused
  pub step_stops : {D : Type 0} (whole : D → List C) (denoted : Result (List C) (ℕ × FileRule)) (so_far : List A) (left : List X) (x : X) (rest : List X) (e : TableError)
      → left ≡ x ∷ rest → denoted ≡ followed f (map seen so_far) left → FitsTable seen (Err e) (f x) → FitsTable whole (Err e) denoted
  step_stops whole denoted so_far left x rest (table_errors.Refused file rule) next told refused =
      told ∙ ap (followed f (map seen so_far)) next ∙ followed_stops f (map seen so_far) x rest (file, rule) refused
  step_stops whole denoted so_far left x rest table_errors.ReadFault next told refused = tt
  step_stops whole denoted so_far left x rest table_errors.NoMemory next told refused = tt

  -- all steps are done
  pub steps_done : (denoted : Result (List C) (ℕ × FileRule)) (all : List A) (left : List X) → left ≡ [] → denoted ≡ followed f (map seen all) left → denoted ≡ Ok (map seen all)
  steps_done denoted all left none told = told ∙ ap (followed f (map seen all)) none ∙ followed_all f (map seen all)

-- a refusal before a step is one of both
pub refused_before : {A B C : Type 0} (seen : A → B) (other : A → C) (e : TableError) (denoted : Result B (ℕ × FileRule)) (next : B → Result C (ℕ × FileRule))
    → FitsTable seen (Err e) denoted → FitsTable other (Err e) (denoted >>= next)
refused_before seen other (table_errors.Refused file rule) denoted next h = ap (λ d. d >>= next) h
refused_before seen other table_errors.ReadFault denoted next h = tt
refused_before seen other table_errors.NoMemory denoted next h = tt

contains_at : {X : Type 0} (xs : List X) (x : X) (ys : List X) → Contains (xs ++ x ∷ ys) x
contains_at [] x ys = (0, omega arith, refl)
contains_at (first ∷ xs) x ys = let h = contains_at xs x ys in (suc h.0, omega (arith, h.1), h.2)

-- a refusal of one of the read relations
pub refused_one : (reads done : List PlanRead) (read : PlanRead) (rest : List PlanRead) (words : ℕ) (e : TableError) → reads ≡ done ++ read ∷ rest → IsTableError read.relation words e → IsRefusal reads words e
refused_one reads done read rest words (table_errors.Refused file rule) split h =
    record { read = read; among = subst (λ all. Contains all read) (sym split) (contains_at done read rest); by_rule = h }
refused_one reads done read rest words table_errors.ReadFault split h = tt
refused_one reads done read rest words table_errors.NoMemory split h = tt

-- one read relation more
pub split_more : {A : Type 0} (f : A → PlanRead) (reads left : List PlanRead) (so_far new : List A) (one : A) (read : PlanRead) (rest : List PlanRead)
    → left ≡ read ∷ rest → new ≡ so_far ++ one ∷ [] → f one ≡ read → reads ≡ map f so_far ++ left → reads ≡ map f new ++ rest
split_more f reads left so_far new one read rest next pushed same split =
    split ∙ ap (λ (l : List PlanRead). map f so_far ++ l) (next ∙ ap (λ (r : PlanRead). r ∷ rest) (sym same))
    ∙ sym (append_assoc (map f so_far) (f one ∷ []) rest) ∙ ap (λ (l : List PlanRead). l ++ rest) (sym (map_push f so_far new one pushed))

-- the files of a table, by the name and the columns as they were handed in
pub named_is : (files : Files) (words : List (List ℕ)) (read : PlanRead) (name text : List ℕ) (names : List (List ℕ)) (types : List Ty) (denoted : Result (List TableFile) (ℕ × FileRule))
    → text ≡ name → names ≡ read.names → types ≡ read.types → table_files files words text read.relation names types ≡ denoted → files_named files words read name ≡ denoted
named_is files words read name text names types denoted same_text same_names same_types told =
    ap (λ (n : List ℕ). table_files files words n read.relation read.names read.types) (sym same_text)
    ∙ ap (λ (l : List (List ℕ)). table_files files words text read.relation l read.types) (sym same_names)
    ∙ ap (λ (l : List Ty). table_files files words text read.relation names l) (sym same_types) ∙ told
