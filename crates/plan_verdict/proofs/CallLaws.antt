-- The parts of a call: its row, its mode and its result.
use Rattle.std.proofs.Common.{◌≡◌, inl, inr, ℕ, ℤ, pos, negsuc, List, [], ◌∷◌, Bool, true, false, cond, Option, Some, None, Result, Ok, Err, IsTrue, map, refl, sym, ap, subst, arith}
use Rattle.std.specs.Prelude.{◌&&◌, nat_le, codes}
use Rattle.std.specs.List.{Contains, find}
use Rattle.std.specs.Option.{ok_or, option_map}
use Rattle.std.specs.Str.{bytes_eq}
use Rattle.std.proofs.lemmas.Bool.{and_parts}
use Rattle.std.proofs.lemmas.Bool.Decides.{nat_tests}
use Rattle.std.proofs.lemmas.List.Elements.{Contains-append_right}
use Rattle.std.proofs.lemmas.Slice.Eq.{bytes_eq-Decides}
use Rattle.sub_types.specs.Kind.{IsKind}
use Rattle.sub_types.specs.OptionSteps as steps
use Rattle.sub_types.specs.declared.kind.Kind.{Kind}
use Rattle.sub_types.specs.declared.kind.Kind.TheVariants as kinds
use Rattle.sub_types.specs.declared.kind.Ty.{Ty}
use Rattle.plan_leaves.specs.declared.options.FunctionOption.{FunctionOption}
use Rattle.plan_leaves.specs.declared.types.RawType.{RawType}
use Rattle.plan_leaves.specs.declared.types.RawType.TheVariants as types
use Rattle.plan_typed.specs.declared.expr.Overflow.{Overflow}
use Rattle.plan_typed.specs.declared.expr.Overflow.TheVariants as modes
use Rattle.func_table.proofs.KindLaws.{equal_kinds}
use Rattle.func_table.specs.declared.row.Class.{Class}
use Rattle.func_table.specs.Entry.{Entry, Signature, fits, is_named, is_class, takes_kinds, all_agree}
use Rattle.func_table.specs.Find.{row_for}
use Rattle.func_table.specs.Kinds.{is_equal}
use Rattle.func_table.specs.Options.{honoured}
use Rattle.func_table.specs.Table.{table}
use Rattle.well_typed.specs.ExprTyped.{Takes, IsCall, HasMode, IsResult}
use Rattle.well_typed.specs.Results.{result_of, is_of_scale, scale_for, is_result}
use Rattle.well_typed.specs.WellTyped.{MayBe}
use Rattle.plan_verdict.specs.declared.call.Call.{Call}
use Rattle.plan_verdict.specs.declared.rule.Rule.{Rule}
use Rattle.plan_verdict.specs.declared.rule.Rule.TheVariants as rules
use Rattle.plan_verdict.specs.Calls.{Named, row_in, is_key_of, is_preferred, preferred, has_option, mode_of, mode_from, mode_with, mode_in, result_in, call_in}
use Rattle.plan_verdict.specs.Types.{decimal_of, type_of, type_in, type_as}
use Rattle.plan_verdict.proofs.Sound.{Given, given_then, given_ok_or, given_if}

-- a decimal that is written is a valid one
decimal_where : (precision scale : ℕ) (test : Bool) → nat_le 1 precision && nat_le precision 38 && nat_le scale precision ≡ test → MayBe IsKind (cond test (Some (kinds.Decimal precision scale)) None)
decimal_where precision scale true e = record { one_digit = grind (arith, nat_tests, e); within = grind (arith, nat_tests, e); scaled = grind (arith, nat_tests, e) }
decimal_where precision scale false e = tt

pub decimal_valid : (precision scale : ℤ) → MayBe IsKind (decimal_of precision scale)
decimal_valid (pos precision) (pos scale) = decimal_where precision scale (nat_le 1 precision && nat_le precision 38 && nat_le scale precision) refl
decimal_valid (pos precision) (negsuc scale) = tt
decimal_valid (negsuc precision) (pos scale) = tt
decimal_valid (negsuc precision) (negsuc scale) = tt

decimal_type_valid : (o : Option Kind) (nullability : ℕ) (rule : Rule) → MayBe IsKind o → Given (λ (ty : Ty). IsKind ty.kind) (ok_or (steps.◌>>=◌ o (λ kind. Some (type_as kind nullability))) rule)
decimal_type_valid (Some kind) nullability rule ok = ok
decimal_type_valid None nullability rule ok = tt

-- a written type is of a valid kind
pub type_valid : (raw : RawType) (rule : Rule) → Given (λ (ty : Ty). IsKind ty.kind) (ok_or (type_of raw) rule)
type_valid (types.Decimal scale precision nullability) rule = decimal_type_valid (decimal_of precision scale) nullability rule (decimal_valid precision scale)
type_valid raw rule = tt

-- what is found is there, and passes the test
found_later : {Y : Type 0} (test : Y → Bool) (y : Y) (ys : List Y) (o : Option Y) → MayBe (λ z. Contains ys z × (test z ≡ true)) o → MayBe (λ z. Contains (y ∷ ys) z × (test z ≡ true)) o
found_later test y ys (Some z) p = (Contains-append_right (y ∷ []) ys z p.0, p.1)
found_later test y ys None p = tt

head_or_rest : {Y : Type 0} (test : Y → Bool) (y : Y) (ys : List Y) (b : Bool) → test y ≡ b → MayBe (λ z. Contains ys z × (test z ≡ true)) (find test ys) → MayBe (λ z. Contains (y ∷ ys) z × (test z ≡ true)) (cond b (Some y) (find test ys))
head_or_rest test y ys true e later = ((0, omega arith, refl), e)
head_or_rest test y ys false e later = found_later test y ys (find test ys) later

pub found_there : {Y : Type 0} (test : Y → Bool) (ys : List Y) → MayBe (λ z. Contains ys z × (test z ≡ true)) (find test ys)
found_there test [] = tt
found_there test (y ∷ ys) = head_or_rest test y ys (test y) refl (found_there test ys)

-- the row of a call is of an entry that takes it
abbrev RowOf : Class → List Kind → Signature → Type 0
RowOf class given row = (entry : Entry) × Takes class given entry × (entry.row ≡ row)

entry_row : (named : Named) (class : Class) (given : List Kind) (o : Option Entry) → MayBe (λ entry. Contains table entry × (fits named.file named.name given class entry ≡ true)) o → MayBe (RowOf class given) (option_map (λ entry. entry.row) o)
entry_row named class given (Some entry) p =
    let outer = and_parts (is_named named.file named.name class entry && takes_kinds entry.arguments given) (all_agree entry.alike given) p.1 in
    let inner = and_parts (is_named named.file named.name class entry) (takes_kinds entry.arguments given) outer.0 in
    let names = and_parts (bytes_eq entry.file named.file && bytes_eq entry.row.name named.name) (is_class entry.class class) inner.0 in
    (entry, record { listed = p.0; of_class = names.1; kinds = inner.1; alike = outer.1 }, refl)
entry_row named class given None p = tt

row_found : (named : Named) (class : Class) (given : List Kind) → Given (RowOf class given) (row_in named class given)
row_found named class given =
    given_then (RowOf class given) (RowOf class given) (ok_or (row_for named.file named.name given class) rules.BadArguments) _
    (given_ok_or (RowOf class given) (row_for named.file named.name given class) rules.BadArguments (entry_row named class given (find (fits named.file named.name given class) table) (found_there (fits named.file named.name given class) table)))
    (λ row p. given_if (RowOf class given) (is_key_of named given row) row rules.BadArguments (λ _. p))

-- the kind of a call is the row's result, where the row alone gives this
abbrev ResultIs : Option Kind → ℕ → Kind → Type 0
ResultIs o scale kind = elim o [ Some result ↦ kind ≡ result | None ↦ IsKind kind × IsTrue (is_of_scale scale kind) ]

abbrev tests_result : Option Kind → ℕ → Kind → Bool
tests_result o scale kind = elim o [ Some result ↦ is_equal result kind | None ↦ is_of_scale scale kind ]

result_alone : (o : Option Kind) (scale : ℕ) (rule : Rule) → Given (ResultIs o scale) (ok_or o rule)
result_alone (Some kind) scale rule = refl
result_alone None scale rule = tt

result_test : (o : Option Kind) (scale : ℕ) (kind : Kind) → IsKind kind → tests_result o scale kind ≡ true → ResultIs o scale kind
result_test (Some result) scale kind valid test = sym (equal_kinds result kind test)
result_test None scale kind valid test = (valid, test)

result_found : (row : Signature) (given : List Kind) (output : Option RawType) → Given (IsResult row given) (result_in row given output)
result_found row given None = result_alone (result_of row.result given) (scale_for row.func given) rules.MissingField
result_found row given (Some raw) =
    given_then (λ (ty : Ty). IsKind ty.kind) (IsResult row given) (type_in raw) _ (type_valid raw rules.UnsupportedType)
    (λ ty valid. given_if (IsResult row given) (is_result row given ty.kind) ty.kind rules.BadArguments (λ test. result_test (result_of row.result given) (scale_for row.func given) ty.kind valid test))

-- the mode is one that the row honours
abbrev or_false : Option Bool → Bool
or_false o = elim o [ Some b ↦ b | None ↦ false ]

is_honoured_by : (o : Option Bool) → or_false o ≡ true → o ≡ Some true
is_honoured_by (Some b) test = ap Some test
is_honoured_by None test = cc

abbrev Honours : Signature → List ℕ → Option (List ℕ) → Type 0
Honours row name value = MayBe (λ one. honoured row name one ≡ Some true) value

preferred_at : (row : Signature) (name : List ℕ) (o : Option (List ℕ)) → MayBe (λ value. is_preferred row name value ≡ true) o → Given (Honours row name) (elim o [ Some value ↦ Ok (Some value) | None ↦ Err rules.UnsupportedOption ])
preferred_at row name (Some value) p = is_honoured_by (honoured row name value) p
preferred_at row name None p = tt

passed_of : (row : Signature) (name : List ℕ) (preferences : List (List ℕ)) (o : Option (List ℕ)) → MayBe (λ value. Contains preferences value × (is_preferred row name value ≡ true)) o → MayBe (λ value. is_preferred row name value ≡ true) o
passed_of row name preferences (Some value) q = q.1
passed_of row name preferences None q = tt

abbrev where_any : List (List ℕ) → Result (Option (List ℕ)) Rule → Result (Option (List ℕ)) Rule
where_any preferences value = elim preferences [ [] ↦ Ok None | _ ∷ _ ↦ value ]

where_any_found : (row : Signature) (name : List ℕ) (preferences : List (List ℕ)) (value : Result (Option (List ℕ)) Rule) → Given (Honours row name) value → Given (Honours row name) (where_any preferences value)
where_any_found row name [] value h = tt
where_any_found row name (_ ∷ _) value h = h

preferred_found : (row : Signature) (option : FunctionOption) → Given (Honours row option.name) (preferred row option)
preferred_found row option =
    where_any_found row option.name option.preference _ (preferred_at row option.name (find (is_preferred row option.name) option.preference)
    (passed_of row option.name option.preference (find (is_preferred row option.name) option.preference) (found_there (is_preferred row option.name) option.preference)))

value_found : (row : Signature) (option : FunctionOption) (test : Bool) → Given (Honours row option.name) (cond test (preferred row option) (Err rules.UnsupportedOption))
value_found row option true = preferred_found row option
value_found row option false = tt

-- the mode that an honoured value names
mode_named : (row : Signature) (value : List ℕ) (saturate silent : Bool) → bytes_eq value (codes "SATURATE") ≡ saturate → bytes_eq value (codes "SILENT") ≡ silent → honoured row (codes "overflow") value ≡ Some true
    → HasMode row (cond saturate modes.Saturate (cond silent modes.Silent modes.Error))
mode_named row value true silent e f h = inr (subst (λ v. honoured row (codes "overflow") v ≡ Some true) ((bytes_eq-Decides value (codes "SATURATE")).0 e) h)
mode_named row value false true e f h = inr (subst (λ v. honoured row (codes "overflow") v ≡ Some true) ((bytes_eq-Decides value (codes "SILENT")).0 f) h)
mode_named row value false false e f h = inl refl

mode_of_value : (row : Signature) (value : Option (List ℕ)) → Honours row (codes "overflow") value → HasMode row (mode_of value)
mode_of_value row None h = inl refl
mode_of_value row (Some value) h = mode_named row value (bytes_eq value (codes "SATURATE")) (bytes_eq value (codes "SILENT")) refl refl h

mode_later : (row : Signature) (mode : Overflow) (name : List ℕ) (value : Option (List ℕ)) (test : Bool) → bytes_eq name (codes "overflow") ≡ test → HasMode row mode → Honours row name value → HasMode row (cond test (mode_of value) mode)
mode_later row mode name value true e had h = mode_of_value row value (subst (λ n. Honours row n value) ((bytes_eq-Decides name (codes "overflow")).0 e) h)
mode_later row mode name value false e had h = had

mode_with_found : (row : Signature) (mode : Overflow) (option : FunctionOption) → HasMode row mode → Given (HasMode row) (mode_with mode row option)
mode_with_found row mode option had =
    given_then (Honours row option.name) (HasMode row) (cond (has_option row option.name) (preferred row option) (Err rules.UnsupportedOption)) _ (value_found row option (has_option row option.name))
    (λ value h. mode_later row mode option.name value (bytes_eq option.name (codes "overflow")) refl had h)

mode_found : (row : Signature) (mode : Overflow) (options : List FunctionOption) → HasMode row mode → Given (HasMode row) (mode_from mode row options)
mode_found row mode [] had = had
mode_found row mode (option ∷ options) had =
    given_then (HasMode row) (HasMode row) (mode_with mode row option) _ (mode_with_found row mode option had) (λ after has. mode_found row after options has)

-- a call is of an entry of the table, with a mode that it honours
abbrev pub IsCalled : Class → List Ty → Call → Type 0
IsCalled class given call = (entry : Entry) × IsCall class call.func given call.ty entry × HasMode entry.row call.mode

pub call_found : (named : Named) (class : Class) (given : List Ty) (output : Option RawType) (options : List FunctionOption) → Given (IsCalled class given) (call_in named class given output options)
call_found named class given output options =
    let kinds = map (λ (ty : Ty). ty.kind) given in
    given_then (RowOf class kinds) (IsCalled class given) (row_in named class kinds) _ (row_found named class kinds) (λ row is.
    given_then (HasMode row) (IsCalled class given) (mode_in row options) _ (mode_found row modes.Error options (inl refl)) (λ mode has.
    given_then (IsResult row kinds) (IsCalled class given) (result_in row kinds output) _ (result_found row kinds output) (λ kind result. (
      is.0,
      record { function = ap (λ r. r.func) is.2; takes = is.1; result = subst (λ r. IsResult r kinds kind) (sym is.2) result; nullable = λ yes. yes },
      subst (λ r. HasMode r mode) (sym is.2) has,
    ))))
