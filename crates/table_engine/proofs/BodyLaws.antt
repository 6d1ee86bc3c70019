-- What the read relations that feed pipelines read of their files.
use Rattle.std.proofs.Common.{◌≡◌, ◌∙◌, ◌≢◌, ◌≤◌, ◌+◌, ◌==◌, ℕ, zero, suc, List, [], ◌∷◌, ◌++◌, Bool, true, false, Option, Some, None, slice_index_or, true≢false, refl, sym, ap, subst, arith, append_assoc, append-nil}
use Rattle.std.specs.Prelude.{MatchOption}
use Rattle.std.proofs.lemmas.Bool.{eq-eqb, eqb-true}
use Rattle.std.proofs.lemmas.List.Concat.{flat_map-append}
use Rattle.world.specs.Reads.{Reads}
use Rattle.plan_typed.specs.declared.rel.Source.{Source}
use Rattle.plan_typed.specs.declared.rel.Source.TheVariants as sources
use Rattle.plan_pipes.specs.declared.pipe.Pipe.{Pipe}
use Rattle.well_typed.specs.WellTyped.{AllDiffer}
use Rattle.block_source.specs.Bodies.{AreReadOnce}
use Rattle.cut_flows.specs.Given.{fed_by, fed_in}
use Rattle.cut_laws.specs.Found.{ReadRel, read_at}
use Rattle.fed_laws.proofs.CountLaws.{count, counted-first, weight}
use Rattle.open_blocks.specs.Files.{FilesSeen}
use Rattle.pipe_flows.specs.Bodies.{HaveRead, HaveReadAt, HaveReadFrom, HaveReadInTurn}
use Rattle.table_engine.specs.Bodies.{AreBodiesRead, IsFirst, IsOfFiles, ReadsFiles}

abbrev Made : Type 0
Made = List (List (Option Reads))

module _ (reads : List ReadRel) (files : List FilesSeen) where
  -- some behind others
  then_read : (first more : List ℕ) (start mid now : Made) → HaveReadInTurn reads files first start mid → HaveReadInTurn reads files more mid now → HaveReadInTurn reads files (first ++ more) start now
  then_read [] more start mid now is rest = subst (λ (one : Made). HaveReadInTurn reads files more one now) is rest
  then_read (number ∷ first) more start mid now is rest = (is.0, is.1, then_read first more is.0 mid now is.2 rest)

  -- those that feed the pipelines before the ones that are left have read
  pub record HaveReadSo (pipes left : List Pipe) (start now : Made) : Type 0 where
    pub done : List Pipe
    pub split : pipes ≡ done ++ left
    pub read : HaveReadInTurn reads files (fed_in done) start now

  pub reads_begin : (pipes : List Pipe) (start : Made) → HaveReadSo pipes pipes start start
  reads_begin pipes start = record { done = []; split = refl; read = refl }

  pub reads_go_on : (pipes : List Pipe) (pipe : Pipe) (left rest : List Pipe) (start mid now : Made) → left ≡ pipe ∷ rest → HaveReadSo pipes left start mid → HaveReadInTurn reads files (fed_by pipe.feed) mid now → HaveReadSo pipes rest start now
  reads_go_on pipes pipe left rest start mid now is has own =
      record {
        done = has.done ++ pipe ∷ [];
        split = has.split ∙ ap (λ (all : List Pipe). has.done ++ all) is ∙ sym (append_assoc has.done (pipe ∷ []) rest);
        read = subst (λ (fed : List ℕ). HaveReadInTurn reads files fed start now)
            (sym (flat_map-append (λ (one : Pipe). fed_by one.feed) has.done (pipe ∷ []) ∙ ap (λ (more : List ℕ). fed_in has.done ++ more) (append-nil (fed_by pipe.feed))))
            (then_read (fed_in has.done) (fed_by pipe.feed) start mid now has.read own);
      }

  pub all_read : (pipes left : List Pipe) (start now : Made) → left ≡ [] → HaveReadSo pipes left start now → HaveReadInTurn reads files (fed_in pipes) start now
  all_read pipes left start now is has =
      subst (λ (all : List Pipe). HaveReadInTurn reads files (fed_in all) start now) (sym (has.split ∙ ap (λ (all : List Pipe). has.done ++ all) is ∙ append-nil has.done)) has.read

pick : {A : Type 0} (a b : ℕ) (test : Bool) → (a == b) ≡ test → (a ≡ b → A) → (a ≢ b → A) → A
pick a b true is same other = same (eqb-true a b is)
pick a b false is same other = other (λ e. true≢false (sym (eq-eqb a b e) ∙ is))

decide : {A : Type 0} (a b : ℕ) → (a ≡ b → A) → (a ≢ b → A) → A
decide a b same other = pick a b (a == b) refl same other

abbrev there : Made → ℕ → List (Option Reads)
there all at = slice_index_or all at []

-- the first files of the number have read their bodies
hit : (number : ℕ) (files : List FilesSeen) (at : ℕ) (one : FilesSeen) (start now : Made) → one.relation ≡ number → IsFirst files at one → HaveRead number files start now → AreReadOnce one.files (there start at) (there now at)
hit number [] at one start now own first read = absurd first
hit number (f ∷ files) at one [] now own first read = absurd read
hit number (f ∷ files) at one (s ∷ start) [] own first read = absurd read
hit number (f ∷ files) zero one (s ∷ start) (n ∷ now) own first read =
    subst (λ (x : FilesSeen). AreReadOnce x.files s n) first (read.0 (ap (λ (x : FilesSeen). x.relation) first ∙ own)).0
hit number (f ∷ files) (suc at) one (s ∷ start) (n ∷ now) own first read = hit number files at one start now own first.1 (read.1 (λ same. first.0 (same ∙ sym own))).1

-- and no others
stays : (number : ℕ) (files : List FilesSeen) (at : ℕ) (one : FilesSeen) (start now : Made) → one.relation ≢ number → IsFirst files at one → HaveRead number files start now → there now at ≡ there start at
stays number [] at one start now other first read = absurd first
stays number (f ∷ files) at one [] now other first read = absurd read
stays number (f ∷ files) at one (s ∷ start) [] other first read = absurd read
stays number (f ∷ files) zero one (s ∷ start) (n ∷ now) other first read = (read.1 (λ same. other (ap (λ (x : FilesSeen). x.relation) (sym first) ∙ same))).0
stays number (f ∷ files) (suc at) one (s ∷ start) (n ∷ now) other first read =
    decide f.relation number (λ same. ap (λ (all : Made). there all at) (read.0 same).1) (λ differs. stays number files at one start now other first.1 (read.1 differs).1)

module _ (reads : List ReadRel) (files : List FilesSeen) (at : ℕ) (one : FilesSeen) (first : IsFirst files at one) where
  stays_from : (source : Source) (number : ℕ) (start now : Made) → number ≢ one.relation → HaveReadFrom source files number start now → there now at ≡ there start at
  stays_from (sources.Named names) number start now other read = stays number files at one start now (λ same. other (sym same)) first read
  stays_from (sources.Rows rows) number start now other read = ap (λ (all : Made). there all at) read

  stays_at : (found : Option ReadRel) (number : ℕ) (start now : Made) → number ≢ one.relation → MatchOption found ⊥ (λ (read : ReadRel). HaveReadFrom read.source files number start now) → there now at ≡ there start at
  stays_at None number start now other read = absurd read
  stays_at (Some found) number start now other read = stays_from found.source number start now other read

  hit_from : (source : Source) (start now : Made) → IsOfFiles source → HaveReadFrom source files one.relation start now → AreReadOnce one.files (there start at) (there now at)
  hit_from (sources.Named names) start now of_files read = hit one.relation files at one start now refl first read
  hit_from (sources.Rows rows) start now of_files read = absurd of_files

  hit_at : (found : Option ReadRel) (start now : Made) → ReadsFiles found → MatchOption found ⊥ (λ (read : ReadRel). HaveReadFrom read.source files one.relation start now) → AreReadOnce one.files (there start at) (there now at)
  hit_at None start now of_files read = absurd of_files
  hit_at (Some found) start now of_files read = hit_from found.source start now of_files read

  counted_own : (number : ℕ) (more : List ℕ) → number ≡ one.relation → count one.relation (number ∷ more) ≡ 1 + count one.relation more
  counted_own number more same = counted-first number one.relation more ∙ ap (λ (test : Bool). weight test + count one.relation more) (eq-eqb number one.relation same)

  unread : (numbers : List ℕ) (start now : Made) → count one.relation numbers ≡ 0 → HaveReadInTurn reads files numbers start now → there now at ≡ there start at
  unread [] start now none read = ap (λ (all : Made). there all at) read
  unread (number ∷ more) start now none read =
      decide number one.relation (λ same. absurd (omega (arith, none, counted_own number more same)))
      (λ other. unread more read.0 now (omega (arith, none, counted-first number one.relation more)) read.2 ∙ stays_at (read_at number reads) number start read.0 other read.1)

  abbrev Once : Made → Made → Type 0
  Once start now = AreReadOnce one.files (there start at) (there now at)

  -- a number more in front weighs one or nothing
  counted_other : (number : ℕ) (more : List ℕ) → number ≢ one.relation → count one.relation (number ∷ more) ≡ count one.relation more
  counted_other number more other = counted_by (number == one.relation) refl where
    counted_by : (test : Bool) → (number == one.relation) ≡ test → count one.relation (number ∷ more) ≡ count one.relation more
    counted_by true is = absurd (other (eqb-true number one.relation is))
    counted_by false is = counted-first number one.relation more ∙ ap (λ (test : Bool). weight test + count one.relation more) is ∙ omega arith

  read_once : (numbers : List ℕ) (start now : Made) → 1 ≤ count one.relation numbers → count one.relation numbers ≤ 1 → ReadsFiles (read_at one.relation reads) → HaveReadInTurn reads files numbers start now → Once start now
  read_once [] start now some few of_files read = absurd (omega (arith, some))
  read_once (number ∷ more) start now some few of_files read =
      decide number one.relation
      (λ same.
      let own : HaveReadAt reads files one.relation start read.0 = subst (λ (n : ℕ). HaveReadAt reads files n start read.0) same read.1 in
      let rest : there now at ≡ there read.0 at = unread more read.0 now (omega (arith, few, counted_own number more same)) read.2 in
      subst (λ (made : List (Option Reads)). AreReadOnce one.files (there start at) made) (sym rest) (hit_at (read_at one.relation reads) start read.0 of_files own))
      (λ other.
      let rest : Once read.0 now = read_once more read.0 now (omega (arith, some, counted_other number more other)) (omega (arith, few, counted_other number more other)) of_files read.2 in
      subst (λ (made : List (Option Reads)). AreReadOnce one.files made (there now at)) (stays_at (read_at number reads) number start read.0 other read.1) rest)

pub bodies_read : (reads : List ReadRel) (files : List FilesSeen) (numbers : List ℕ) (start now : Made) → AllDiffer numbers → HaveReadInTurn reads files numbers start now → AreBodiesRead reads numbers files start now
bodies_read reads files numbers start now differ read = λ at one first some of_files. read_once reads files at one first numbers start now some (differ one.relation) of_files read
