-- Declared functions by their anchors, and what is seen of them in memory.
use Rattle.std.specs.Prelude.{◌≡◌, ℕ, List, Bool, Option, Some, None, Result, Ok, Err, ◌==◌}
use Rattle.std.specs.BTreeMap.{BTreeMap, get}
use Rattle.std.specs.List.{find, before_first, after_last}
use Rattle.std.specs.Option.{option_map, option_flatten}
use Rattle.std.specs.Ordering.{nat_cmp}
use Rattle.std.specs.Borrow.{Bor}
use Rattle.plan_leaves.specs.declared.extensions.FunDecl.{FunDecl}
use Rattle.plan_leaves.specs.declared.extensions.UriDecl.{UriDecl}
use Rattle.func_table.specs.declared.row.Class.{Class}
use Rattle.func_table.specs.declared.row.Class.TheVariants as classes
use Rattle.func_table.specs.Find.{is_known}
use Rattle.plan_verdict.specs.Calls.{Declared, Named, is_slash, is_colon, function_at}
use Rattle.plan_rules.specs.declared.declared.Named.{Named as MadeNamed}
use Rattle.plan_rules.specs.declared.declared.Found.{Found}

-- what a result gives, as it is seen
abbrev pub result_seen : {A B E : Type 0} → (A → B) → Result A E → Result B E
result_seen see (Ok value) = Ok (see value)
result_seen see (Err error) = Err error

-- a function as a call names it
abbrev pub named_seen : MadeNamed → Named
named_seen named = record { file = named.file.now; name = named.name.now; declared = named.declared.now }

-- a declared function, and of which classes the table has functions of its file and name
pub record Entry : Type 0 where
  pub named : Named
  pub is_scalar : Bool
  pub is_aggregate : Bool

abbrev pub found_seen : Found → Entry
found_seen found = record { named = named_seen found.named; is_scalar = found.is_scalar; is_aggregate = found.is_aggregate }

-- the table has functions of this class
abbrev pub is_of : Class → Entry → Bool
is_of classes.Scalar entry = entry.is_scalar
is_of classes.Aggregate entry = entry.is_aggregate

-- the entry of a function as a call names it
abbrev pub entry_as : Named → Entry
entry_as named = record {
  named = named;
  is_scalar = is_known named.file named.name classes.Scalar;
  is_aggregate = is_known named.file named.name classes.Aggregate;
}

-- the entry of a function of a file
abbrev pub entry_of : List ℕ → List ℕ → Entry
entry_of file declared = entry_as (record { file = file; name = before_first is_colon declared; declared = declared })

-- the names of files, by the anchors of their URIs
abbrev pub IsFiles : List UriDecl → BTreeMap ℕ (Bor (List ℕ)) → Type 0
IsFiles uris files =
    (anchor : ℕ) → option_map (λ file. file.now) (get nat_cmp files anchor) ≡ option_map (λ uri. after_last is_slash uri.uri) (find (λ uri. uri.anchor == anchor) uris)

-- the entry of a declaration, if its file is among these
abbrev pub entry_from : BTreeMap ℕ (Bor (List ℕ)) → FunDecl → Option Entry
entry_from files function = option_map (λ file. entry_of file.now function.name) (get nat_cmp files function.uri)

-- the entries of declarations, by their anchors
abbrev pub IsFound : BTreeMap ℕ (Bor (List ℕ)) → List FunDecl → BTreeMap ℕ (Option Found) → Type 0
IsFound files functions found =
    (anchor : ℕ) → option_map (option_map found_seen) (get nat_cmp found anchor) ≡ option_map (entry_from files) (find (λ function. function.anchor == anchor) functions)

-- the entry of a declaration, if one of these is its file's
abbrev pub entry_in : List UriDecl → FunDecl → Option Entry
entry_in uris function = option_map (λ uri. entry_of (after_last is_slash uri.uri) function.name) (find (λ uri. uri.anchor == function.uri) uris)

-- the entry of the declaration with this anchor, if one of the files is its
abbrev pub entry_at : Declared → ℕ → Option Entry
entry_at declared anchor = option_flatten (option_map (entry_in declared.uris) (function_at declared anchor))

-- the entries of the declarations of a plan, by their anchors
abbrev pub IsIndex : List UriDecl → List FunDecl → BTreeMap ℕ (Option Found) → Type 0
IsIndex uris functions found =
    (anchor : ℕ) → option_map (option_map found_seen) (get nat_cmp found anchor) ≡ option_map (entry_in uris) (find (λ function. function.anchor == anchor) functions)
