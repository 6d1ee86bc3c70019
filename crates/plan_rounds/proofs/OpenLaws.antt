-- The files of a plan's read relations are open for what each of its relations reads.
use Rattle.std.proofs.Common.{◌≡◌, ◌∙◌, ◌==◌, ℕ, List, [], ◌∷◌, Bool, true, false, Option, Some, IfSome, refl, sym, ap, subst, eqb-true}
use Rattle.std.specs.Prelude.{if◌then◌else◌}
use Rattle.std.specs.List.{All, AllByRecursion, AllZip}
use Rattle.std.proofs.lemmas.List.Elements.{All-from_recursion}
use Rattle.sub_types.specs.declared.kind.Ty.{Ty}
use Rattle.plan_typed.specs.declared.rel.Rel.{Rel}
use Rattle.denote_typed.proofs.RowsLaws.{weakened}
use Rattle.cut_laws.specs.Found.{ReadRel, read_rels, read_at}
use Rattle.plan_reads.specs.declared.reads.PlanRead.{PlanRead}
use Rattle.plan_laws.proofs.Levels.{AllReads}
use Rattle.agree_laws.specs.Agree.{IsOfTypes}
use Rattle.agree_laws.proofs.TypeLaws.{rels_from_reads}
use Rattle.open_blocks.specs.Files.{FilesSeen, AreOpenFor}
use Rattle.table_engine.specs.Inputs.{IsOpenFor}
use Rattle.plan_rounds.specs.Inputs.{IsOpenRead}

-- the files of a read relation are open for the types of its number
abbrev pub IsOpenAs : (ℕ → List Ty) → FilesSeen → Type 0
IsOpenAs types one = AreOpenFor (types one.relation) one

pub open_as : (types : ℕ → List Ty) (reads : List PlanRead) (files : List FilesSeen) → AllZip IsOpenRead reads files → AllByRecursion (IsOfTypes types) reads → AllByRecursion (IsOpenAs types) files
open_as types [] [] are own = tt
open_as types [] (one ∷ files) are own = absurd are
open_as types (read ∷ reads) [] are own = absurd are
open_as types (read ∷ reads) (one ∷ files) are own = (
  subst (λ (these : List Ty). AreOpenFor these one) (sym (ap types are.0.relation ∙ own.0)) are.0.open_for,
  open_as types reads files are.1 own.1,
)

module _ (types : ℕ → List Ty) where
  abbrev pub ReadsAs : ReadRel → Type 0
  ReadsAs read = types read.number ≡ read.types

  open_where : (read : ReadRel) (rest : Option ReadRel) (one : FilesSeen) (test : Bool) → (test ≡ true → read.number ≡ one.relation) → ReadsAs read → IsOpenAs types one → IfSome rest (λ (other : ReadRel). AreOpenFor other.types one)
      → IfSome (if test then Some read else rest) (λ (other : ReadRel). AreOpenFor other.types one)
  open_where read rest one true at own opened other = subst (λ (these : List Ty). AreOpenFor these one) (sym (ap types (at refl)) ∙ own) opened
  open_where read rest one false at own opened other = other

  open_in : (reads : List ReadRel) (one : FilesSeen) → AllByRecursion ReadsAs reads → IsOpenAs types one → IsOpenFor reads one
  open_in [] one all opened = tt
  open_in (read ∷ reads) one all opened =
      open_where read (read_at one.relation reads) one (read.number == one.relation) (λ is. eqb-true read.number one.relation is) all.0 opened (open_in reads one all.1 opened)

  -- so they are for what a relation reads
  pub all_open : (rel : Rel) (files : List FilesSeen) → AllReads (IsOfTypes types) rel → AllByRecursion (IsOpenAs types) files → All (IsOpenFor (read_rels rel)) files
  all_open rel files own opened =
      All-from_recursion (IsOpenFor (read_rels rel)) files
      (weakened (IsOpenAs types) (IsOpenFor (read_rels rel)) files opened
      (λ one opened_as. open_in (read_rels rel) one (rels_from_reads (IsOfTypes types) ReadsAs (λ number source names types_of is. is) rel own) opened_as))
