-- What values have in common with one more.
use Rattle.std.proofs.Common.{◌≡◌, ◌∙◌, sym, ap, Bool, ◌&&◌, ◌||◌, List, [], ◌∷◌, ◌++◌, map}
use Rattle.std.specs.List.{list_all, list_any}
use Rattle.std.proofs.Math.Bool.{and-true, or-false}
use Rattle.std.proofs.lemmas.List.Folds.{list_all-append, list_any-append, list_all-map}
use Rattle.plan_rules.proofs.ListLaws.{list_any-map}
use Rattle.sub_types.specs.declared.kind.Kind.{Kind}
use Rattle.plan_typed.specs.declared.expr.Expr.{Expr}
use Rattle.plan_typed.specs.Types.{ty_of}
use Rattle.func_table.specs.Kinds.{is_equal}
use Rattle.plan_verdict.specs.Exprs.{are_alike, kind_of, some_nullable}

all-and : (p : Expr → Bool) (rest : List Expr) (other : Expr) → list_all p (rest ++ other ∷ []) ≡ (list_all p rest && p other)
all-and p rest other = list_all-append p rest (other ∷ []) ∙ ap (λ b. list_all p rest && b) (and-true (p other))

pub alike_first : (values : List Expr) (first : Expr) (rest : List Expr) (other : Expr) → values ≡ first ∷ rest → are_alike (values ++ other ∷ []) ≡ (list_all (λ (value : Expr). is_equal (kind_of value) (kind_of first)) rest && is_equal (kind_of other) (kind_of first))
alike_first values first rest other is =
    ap (λ all. are_alike (all ++ other ∷ [])) is ∙ all-and (λ value. is_equal (kind_of value) (kind_of first)) rest other

pub arms_alike_first : (arms : List (Expr × Expr)) (first : Expr × Expr) (rest : List (Expr × Expr)) (other : Expr) → arms ≡ first ∷ rest
    → are_alike (map (λ (arm : Expr × Expr). arm.1) arms ++ other ∷ []) ≡ (list_all (λ (arm : Expr × Expr). is_equal (kind_of arm.1) (kind_of first.1)) rest && is_equal (kind_of other) (kind_of first.1))
arms_alike_first arms first rest other is =
    let test = λ (value : Expr). is_equal (kind_of value) (kind_of first.1) in
    ap (λ (all : List (Expr × Expr)). are_alike (map (λ (arm : Expr × Expr). arm.1) all ++ other ∷ [])) is
    ∙ all-and test (map (λ (arm : Expr × Expr). arm.1) rest) other
    ∙ ap (λ b. b && test other) (list_all-map test (λ (arm : Expr × Expr). arm.1) rest)

-- the same by what is found of the rest and of the other
pub arms_alike_by : (arms : List (Expr × Expr)) (first : Expr × Expr) (rest : List (Expr × Expr)) (other : Expr) (kind : Kind) (all last : Bool) → arms ≡ first ∷ rest → kind ≡ kind_of first.1
    → all ≡ list_all (λ (arm : Expr × Expr). is_equal (kind_of arm.1) kind) rest → last ≡ is_equal (kind_of other) kind → (all && last) ≡ are_alike (map (λ (arm : Expr × Expr). arm.1) arms ++ other ∷ [])
arms_alike_by arms first rest other kind all last is its_kind of_all of_last =
    ap (λ b. b && last) of_all
    ∙ ap (λ b. list_all (λ (arm : Expr × Expr). is_equal (kind_of arm.1) kind) rest && b) of_last
    ∙ ap (λ k. list_all (λ (arm : Expr × Expr). is_equal (kind_of arm.1) k) rest && is_equal (kind_of other) k) its_kind
    ∙ sym (arms_alike_first arms first rest other is)

pub nullable_more : (values : List Expr) (other : Expr) → some_nullable (values ++ other ∷ []) ≡ (some_nullable values || (ty_of other).nullable)
nullable_more values other =
    list_any-append (λ (value : Expr). (ty_of value).nullable) values (other ∷ []) ∙ ap (λ b. some_nullable values || b) (or-false (ty_of other).nullable)

pub arms_nullable_more : (arms : List (Expr × Expr)) (other : Expr) → some_nullable (map (λ (arm : Expr × Expr). arm.1) arms ++ other ∷ []) ≡ (list_any (λ (arm : Expr × Expr). (ty_of arm.1).nullable) arms || (ty_of other).nullable)
arms_nullable_more arms other =
    nullable_more (map (λ (arm : Expr × Expr). arm.1) arms) other
    ∙ ap (λ b. b || (ty_of other).nullable) (list_any-map (λ (value : Expr). (ty_of value).nullable) (λ (arm : Expr × Expr). arm.1) arms)
