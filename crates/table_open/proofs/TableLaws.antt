-- The files of a table, one after another.
use Rattle.std.proofs.Common.{◌≡◌, ◌≢◌, ◌∙◌, ℕ, zero, suc, ◌<◌, ◌==◌, false, List, [], ◌∷◌, ◌++◌, length, map, get_or, ◌+◌, Option, Some, Result, Ok, Err, sym, ap, append_assoc, arith}
use Rattle.std.proofs.lemmas.List.{map-append}
use Rattle.sub_types.specs.declared.kind.Ty.{Ty}
use Rattle.world.specs.Files.{Files}
use Rattle.table_open.specs.declared.error.FileRule.{FileRule}
use Rattle.table_open.specs.declared.error.TableError.{TableError}
use Rattle.table_open.specs.declared.error.TableError.TheVariants as table_errors
use Rattle.table_open.specs.declared.file.OpenFile.{OpenFile}
use Rattle.sub_types.specs.ResultSteps.{collect}
use Rattle.table_open.specs.Words.{bound_file, bindings_of}
use Rattle.table_open.specs.Files.{TableFile, open_one, bound_files, table_files}
use Rattle.table_open.specs.Answers.{FitsTable}
use Rattle.table_open.specs.Ready.{file_seen}
use Rattle.table_open.proofs.WordLaws.{bindings_from, bindings_more}
use Rattle.table_open.proofs.StepLaws.{followed, followed_more}

pub not_empty : (n : ℕ) → false ≡ (n == 0) → 0 < n
not_empty zero h = absurd (cc)
not_empty (suc n) h = omega arith

-- the list that a step adds to
map_push : {A B : Type 0} (f : A → B) (xs : List A) (x : A) → map f (xs ++ x ∷ []) ≡ map f xs ++ f x ∷ []
map_push f xs x = map-append f xs (x ∷ [])

-- the numbers so far, with one more
pub numbers_more : {A : Type 0} (f : A → ℕ) (opened new : List A) (one : A) (all : List ℕ) (name : List ℕ) (words : List (List ℕ)) (i : ℕ) (word file : List ℕ)
    → i < length words → word ≡ get_or words i word → bound_file name word ≡ Some file → new ≡ opened ++ one ∷ [] → f one ≡ i + 1
    → all ≡ map f opened ++ map (λ b. b.0) (bindings_from name i words) → all ≡ map f new ++ map (λ b. b.0) (bindings_from name (i + 1) words)
numbers_more {A} f opened new one all name words i word file below is found pushed same numbers =
    let left : List ℕ = map (λ (b : ℕ × List ℕ). b.0) (bindings_from name (i + 1) words) in
    let here = bindings_more name words i word file below is found in
    let step : map f opened ++ ((i + 1) ∷ left) ≡ (map f opened ++ f one ∷ []) ++ left =
    ap (λ (n : ℕ). map f opened ++ (n ∷ left)) (sym same) ∙ sym (append_assoc (map f opened) (f one ∷ []) left) in
    numbers
    ∙ ap (λ (bindings : List (ℕ × List ℕ)). map f opened ++ map (λ (b : ℕ × List ℕ). b.0) bindings) here
    ∙ step
    ∙ ap (λ (l : List ℕ). l ++ left) (sym (map_push f opened one) ∙ ap (map f) (sym pushed))

some_number : {A B : Type 0} (f : A → ℕ) (g : B → ℕ) (all : List B) (xs : List A) (y : B) (ys : List B) → map g all ≡ map f xs ++ map g (y ∷ ys) → all ≢ []
some_number f g all [] y ys h none = let e : [] ≡ g y ∷ map g ys = sym (ap (map g) none) ∙ h in absurd (cc)
some_number f g all (x ∷ xs) y ys h none = let e : [] ≡ f x ∷ (map f xs ++ map g (y ∷ ys)) = sym (ap (map g) none) ∙ h in absurd (cc)

-- a name that a word binds has a binding
pub some_binding : {A : Type 0} (f : A → ℕ) (opened : List A) (name : List ℕ) (words : List (List ℕ)) (i : ℕ) (word file : List ℕ) → i < length words → word ≡ get_or words i word → bound_file name word ≡ Some file
    → map (λ b. b.0) (bindings_of name words) ≡ map f opened ++ map (λ b. b.0) (bindings_from name i words) → bindings_of name words ≢ []
some_binding f opened name words i word file below is found numbers =
    some_number f (λ (b : ℕ × List ℕ). b.0) (bindings_of name words) opened (i + 1, file) (bindings_from name (i + 1) words)
    (numbers ∙ ap (λ (bindings : List (ℕ × List ℕ)). map f opened ++ map (λ (b : ℕ × List ℕ). b.0) bindings) (bindings_more name words i word file below is found))

module _ (files : Files) (relation : ℕ) (names : List (List ℕ)) (types : List Ty) where
  -- one file more is open
  pub opened_more : {R : Type 0} (bytes : R → Option (List ℕ)) (opened new : List (OpenFile R)) (one : OpenFile R) (denoted : Result (List TableFile) (ℕ × FileRule))
      (name : List ℕ) (words : List (List ℕ)) (i : ℕ) (word file : List ℕ) → i < length words → word ≡ get_or words i word → bound_file name word ≡ Some file → new ≡ opened ++ one ∷ []
      → open_one files relation names types (i + 1, file) ≡ Ok (file_seen bytes one)
      → denoted ≡ followed (open_one files relation names types) (map (file_seen bytes) opened) (bindings_from name i words)
      → denoted ≡ followed (open_one files relation names types) (map (file_seen bytes) new) (bindings_from name (i + 1) words)
  opened_more bytes opened new one denoted name words i word file below is found pushed h told =
      let f = open_one files relation names types in
      let left = bindings_from name (i + 1) words in
      told
      ∙ ap (followed f (map (file_seen bytes) opened)) (bindings_more name words i word file below is found)
      ∙ followed_more f (map (file_seen bytes) opened) (i + 1, file) left (file_seen bytes one) h
      ∙ ap (λ (l : List TableFile). followed f l left) (sym (map_push (file_seen bytes) opened one) ∙ ap (map (file_seen bytes)) (sym pushed))

  bound_is : (bindings : List (ℕ × List ℕ)) (e : ℕ × FileRule) → collect (map (open_one files relation names types) bindings) ≡ Err e → bound_files files relation names types bindings ≡ Err e
  bound_is [] e h = absurd (cc)
  bound_is (binding ∷ bindings) e h = h

  some_bound : (bindings : List (ℕ × List ℕ)) (first : TableFile) (rest : List TableFile) → collect (map (open_one files relation names types) bindings) ≡ Ok (first ∷ rest)
      → bound_files files relation names types bindings ≡ Ok (first ∷ rest)
  some_bound [] first rest h = absurd (cc)
  some_bound (binding ∷ bindings) first rest h = h

  -- all are open
  pub table_opened : {R : Type 0} (bytes : R → Option (List ℕ)) (words : List (List ℕ)) (name : List ℕ) (opened : List (OpenFile R)) → 0 < length opened
      → collect (map (open_one files relation names types) (bindings_of name words)) ≡ Ok (map (file_seen bytes) opened)
      → table_files files words name relation names types ≡ Ok (map (file_seen bytes) opened)
  unfolding table_files
  table_opened bytes words name [] some h = absurd (omega arith)
  table_opened bytes words name (one ∷ opened) some h = some_bound (bindings_of name words) (file_seen bytes one) (map (file_seen bytes) opened) h

  -- one isn't
  pub table_refused : {A B : Type 0} (seen : A → List TableFile) (other : B → List TableFile) (words : List (List ℕ)) (name : List ℕ) (e : TableError)
      → FitsTable seen (Err e) (collect (map (open_one files relation names types) (bindings_of name words))) → FitsTable other (Err e) (table_files files words name relation names types)
  unfolding table_files
  table_refused seen other words name (table_errors.Refused file rule) h = bound_is (bindings_of name words) (file, rule) h
  table_refused seen other words name table_errors.ReadFault h = tt
  table_refused seen other words name table_errors.NoMemory h = tt
