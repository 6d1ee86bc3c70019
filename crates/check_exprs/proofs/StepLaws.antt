-- What checks of several steps give, by what each step gives.
use Rattle.std.proofs.Common.{◌≡◌, ◌∙◌, ap, sym, refl, ℕ, Bool, true, false, Option, Some, None, List, [], ◌∷◌, ◌++◌, ◌||◌, ◌&&◌, not, map, zip, is_some, subst, Result, Ok, Err}
use Rattle.std.specs.Option.{option_map}
use Rattle.std.specs.Prelude.{if◌then◌else◌}
use Rattle.sub_types.specs.declared.kind.Kind.TheVariants as kinds
use Rattle.sub_types.specs.declared.kind.Ty.{Ty}
use Rattle.sub_types.specs.declared.value.Value.{Value}
use Rattle.plan_typed.specs.declared.expr.Expr.{Expr}
use Rattle.plan_typed.specs.declared.expr.Expr.TheVariants as exprs
use Rattle.plan_typed.specs.declared.rel.Rel.{Rel}
use Rattle.plan_typed.specs.declared.sub.Sub.{Sub}
use Rattle.plan_typed.specs.declared.sub.SubKind.TheVariants as sub_kinds
use Rattle.plan_typed.specs.Types.{ty_of, columns_of}
use Rattle.plan_verdict.specs.declared.progress.Progress.{Progress}
use Rattle.check_exprs.specs.Arms.{if_of, switch_arms, switch_of, values_of}
use Rattle.check_exprs.specs.Column.{in_column}
use Rattle.plan_verdict.specs.declared.rule.Rule.{Rule}
use Rattle.plan_verdict.specs.declared.rule.Rule.TheVariants as rules
use Rattle.plan_verdict.specs.declared.rule.CheckError.{CheckError}
use Rattle.plan_verdict.specs.declared.rule.CheckError.TheVariants as errors
use Rattle.plan_verdict.specs.Checking.{Checking, ◌>>◌, Refusal, Comes, accept, done, go_on, in_order, must, part}
use Rattle.plan_verdict.specs.Exprs.{condition, required, otherwise, first_kind, are_alike, type_among, if_then, switch, in_predicate, is_single_of, first_column, kind_of, type_with}
use Rattle.plan_verdict.specs.Literals.{values_of_kind}
use Rattle.func_table.specs.Kinds.{is_equal}
use Rattle.plan_verdict.specs.Lists.{is_empty}
use Rattle.plan_verdict.specs.Meaning.{Scope, Expression, Arm}
use Rattle.plan_verdict.specs.Relation.{input}
use Rattle.plan_verdict.specs.Rels.{maybe_condition}

-- what a check that was held gives where it gives something
pub came : {A : Type 0} (result : Result (A × Progress) CheckError) (found : A × Progress) (checked : Result (A × Progress) Refusal) → result ≡ Ok found → Comes result checked → checked ≡ Ok found
came {A} result found checked is comes = subst (λ (r : Result (A × Progress) CheckError). Comes r checked) is comes

-- three checks and what follows, in one go or with what they give put together first
pub chained : {A B C T D : Type 0} (first : Result (A × Progress) Refusal) (second : A → Checking B) (third : A → B → Checking C) (made : A → B → C → T) (next : T → Checking D)
    → go_on first (λ a p. go_on (second a p) (λ b q. go_on (third a b q) (λ c. next (made a b c)))) ≡ go_on (go_on first (λ a p. go_on (second a p) (λ b q. go_on (third a b q) (λ c. accept (made a b c))))) next
chained {A} {B} {C} {T} {D} (Err refusal) second third made next = refl
chained {A} {B} {C} {T} {D} (Ok (a, p)) second third made next = at (second a p)
  where
    last : (b : B) → (r : Result (C × Progress) Refusal) → go_on r (λ c. next (made a b c)) ≡ go_on (go_on r (λ c. accept (made a b c))) next
    last b (Ok (c, q)) = refl
    last b (Err refusal) = refl

    at : (r : Result (B × Progress) Refusal) → go_on r (λ b q. go_on (third a b q) (λ c. next (made a b c))) ≡ go_on (go_on r (λ b q. go_on (third a b q) (λ c. accept (made a b c)))) next
    at (Err refusal) = refl
    at (Ok (b, q)) = last b (third a b q)

-- what is made of parts that are there
pub parts_made : {A B C D : Type 0} (f : A → B) (g : C → D) (part_of : Option A) (xs : List C) → (is_some part_of && not (is_empty xs)) ≡ true → (is_some (option_map f part_of) && not (is_empty (map g xs))) ≡ true
parts_made f g None xs whole = whole
parts_made f g (Some x) [] whole = whole
parts_made f g (Some x) (y ∷ ys) whole = refl

pub some_made : {A B : Type 0} (f : A → B) (xs : List A) → not (is_empty xs) ≡ true → not (is_empty (map f xs)) ≡ true
some_made f [] some = some
some_made f (x ∷ xs) some = refl

-- a value where the test holds
pub must_part : {A : Type 0} (relation : ℕ) (test : Bool) (rule : Rule) (value : A) (progress : Progress) → go_on (must relation test rule progress) (λ _. accept value) ≡ part relation (if test then Ok value else Err rule) progress
must_part relation true rule value progress = refl
must_part relation false rule value progress = refl

must_done : {A B : Type 0} (relation : ℕ) (test : Bool) (rule : Rule) (sub : Sub) (value : A) (f : A → B) (progress : Progress)
    → go_on (go_on (must relation test rule progress) (λ _. done sub >> accept value)) (λ v. accept (f v)) ≡ go_on (must relation test rule progress) (λ _. done sub >> accept (f value))
must_done relation true rule sub value f progress = refl
must_done relation false rule sub value f progress = refl

-- the only column is of the kind
pub in_column_of : (relation node : ℕ) (expr : Expr) (rel : Rel) (column : Ty) (before after : Progress) → columns_of rel ≡ column ∷ [] → is_equal column.kind (kind_of expr) ≡ true
    → done (record { rel = rel; kind = sub_kinds.In; hole = record { relation = relation; node = node } }) before ≡ Ok (tt, after)
    → in_column relation node expr rel before ≡ Ok (exprs.OneOf expr [] (type_with kinds.Bool ((ty_of expr).nullable || column.nullable)), after)
in_column_of relation node expr rel column before after one kind is =
    let single : is_single_of (kind_of expr) (columns_of rel) ≡ true = ap (is_single_of (kind_of expr)) one ∙ kind in
    let first : first_column (columns_of rel) ≡ column = ap first_column one in
    rw (single, first) (ap (λ (found : Result (Unit {0} × Progress) Refusal). go_on found (λ _. accept (exprs.OneOf expr [] (type_with kinds.Bool ((ty_of expr).nullable || column.nullable))))) is)

module _ (scope : Scope) (p0 p1 p2 p3 : Progress) where
  pub if_then_finished : (ifs : List (Scope → Checking (Expr × Expr))) (other_arm : Option Expression) (arms : List (Expr × Expr)) (other : Expr) (result : Result (Expr × Progress) CheckError)
      → not (is_empty ifs) ≡ true → in_order (map (λ clause. clause scope) ifs) p0 ≡ Ok (arms, p1) → otherwise scope (first_kind (values_of arms)) other_arm p1 ≡ Ok (other, p2)
      → Comes result (part scope.relation (if_of arms other) p2) → Comes result (if_then scope ifs other_arm p0)
  if_then_finished ifs other_arm arms other result some first second finished =
      rw (some, first, second) (subst (Comes result) (sym (must_part scope.relation (are_alike (values_of arms ++ other ∷ [])) rules.TypeMismatch (exprs.If arms other (type_among (values_of arms ++ other ∷ []))) p2)) finished)

  pub switch_finished : (ifs : List Arm) (other_arm match : Option Expression) (subject other : Expr) (literals : List Value) (values : List Expr) (result : Result (Expr × Progress) CheckError)
      → (is_some match && not (is_empty ifs)) ≡ true → required scope match p0 ≡ Ok (subject, p1) → switch_arms scope (kind_of subject) ifs other_arm p1 ≡ Ok ((literals, values, other), p2)
      → Comes result (part scope.relation (switch_of subject literals values other) p2) → Comes result (switch scope ifs other_arm match p0)
  switch_finished ifs other_arm match subject other literals values result some first second finished =
      let rest : List Value × List Expr × Expr → Checking Expr = λ parts.
      must scope.relation (are_alike (parts.1 ++ parts.2 ∷ [])) rules.TypeMismatch >> accept (exprs.Switch subject (zip parts.0 parts.1) parts.2 (type_among (parts.1 ++ parts.2 ∷ []))) in
      rw (some, first)
      (subst (Comes result) (sym (chained (part scope.relation (values_of_kind (kind_of subject) (map (λ arm. arm.literal) ifs)) p1) (λ literals. in_order (map (λ arm. required scope arm.value) ifs))
      (λ literals values. otherwise scope (first_kind values) other_arm) (λ literals values other. (literals, values, other)) rest))
      (subst (λ (found : Result ((List Value × List Expr × Expr) × Progress) Refusal). Comes result (go_on found rest)) (sym second)
      (subst (Comes result) (sym (must_part scope.relation (are_alike (values ++ other ∷ [])) rules.TypeMismatch (exprs.Switch subject (zip literals values) other (type_among (values ++ other ∷ []))) p2)) finished)))

  pub in_finished : (node : ℕ) (needle : Expression) (haystack : Option (ℕ → Checking Rel)) (expr : Expr) (rel : Rel) (result : Result (Expr × Progress) CheckError)
      → needle.check scope p0 ≡ Ok (expr, p1) → input scope.relation haystack p1 ≡ Ok (rel, p2) → Comes result (in_column scope.relation node expr rel p2) → Comes result (in_predicate scope node (needle ∷ []) haystack p0)
  in_finished node needle haystack expr rel result first second finished =
      rw (first, second) (subst (Comes result) (sym (must_done scope.relation (is_single_of (kind_of expr) (columns_of rel)) rules.TypeMismatch (record { rel = rel; kind = sub_kinds.In; hole = record { relation = scope.relation; node = node } }) (columns_of rel)
      (λ columns. exprs.OneOf expr [] (type_with kinds.Bool ((ty_of expr).nullable || (first_column columns).nullable))) p2)) finished)

  -- a condition that is there
  module _ (written : Option Expression) (value : Expression) where
    pub maybe_refused : (error : CheckError) → written ≡ Some value → Comes {A = Expr} (Err error) (condition scope written p0) → Comes {A = Option Expr} (Err error) (maybe_condition scope written p0)
    maybe_refused (errors.Refused relation rule) is refused = rw (is, subst (λ (w : Option Expression). condition scope w p0 ≡ Err (record { relation = relation; rule = rule })) is refused) refl
    maybe_refused errors.NoMemory is refused = tt

    pub maybe_accepted : (expr : Expr) → written ≡ Some value → condition scope written p0 ≡ Ok (expr, p1) → maybe_condition scope written p0 ≡ Ok (Some expr, p1)
    maybe_accepted expr is accepted = rw (is, subst (λ (w : Option Expression). condition scope w p0 ≡ Ok (expr, p1)) is accepted) refl
