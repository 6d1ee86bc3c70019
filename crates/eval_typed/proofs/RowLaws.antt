-- Rows of one, two or three values that fit types whose kinds pass tests.
use Rattle.std.proofs.Common.{◌≡◌, Bool, true, List, [], ◌∷◌}
use Rattle.std.proofs.lemmas.Bool.{and_parts}
use Rattle.sub_types.specs.Value.{FitsTy, Fits}
use Rattle.sub_types.specs.declared.kind.Kind.{Kind}
use Rattle.sub_types.specs.declared.kind.Ty.{Ty}
use Rattle.sub_types.specs.declared.value.Value.{Value}
use Rattle.eval_typed.proofs.KindLaws.{plain}
use Rattle.eval_typed.proofs.TableLaws.{pass_each, kinds_in}

-- a value that fits a type whose kind passes the test
pub record Passes (test : Kind → Bool) (ty : Ty) (value : Value) : Type 0 where
  pub kind : test (plain ty.kind) ≡ true
  pub fits : FitsTy ty value

-- what holds of no more values, and of one more
pub no_row : (P : List Ty → List Value → Type 0) → P [] [] → (types : List Ty) (row : List Value) → pass_each [] (kinds_in types) ≡ true → Fits types row → P types row
no_row P k [] [] pass fits = k
no_row P k [] (a ∷ row) pass fits = absurd fits
no_row P k (t ∷ types) row pass fits = absurd (cc)

pub one_more : (P : List Ty → List Value → Type 0) (test : Kind → Bool) (given : List (Kind → Bool))
    → ((t : Ty) (a : Value) → Passes test t a → (types : List Ty) (row : List Value) → pass_each given (kinds_in types) ≡ true → Fits types row → P (t ∷ types) (a ∷ row))
    → (types : List Ty) (row : List Value) → pass_each (test ∷ given) (kinds_in types) ≡ true → Fits types row → P types row
one_more P test given k [] row pass fits = absurd (cc)
one_more P test given k (t ∷ types) [] pass fits = absurd fits
one_more P test given k (t ∷ types) (a ∷ row) pass fits =
    let parts = and_parts (test (plain t.kind)) (pass_each given (kinds_in types)) pass in
    k t a (record { kind = parts.0; fits = fits.0 }) types row parts.1 fits.1

pub one_by : (P : List Ty → List Value → Type 0) (test : Kind → Bool) → ((t : Ty) (a : Value) → Passes test t a → P (t ∷ []) (a ∷ []))
    → (types : List Ty) (row : List Value) → pass_each (test ∷ []) (kinds_in types) ≡ true → Fits types row → P types row
one_by P test k = one_more P test [] (λ t a first. no_row (λ types row. P (t ∷ types) (a ∷ row)) (k t a first))

pub two_by : (P : List Ty → List Value → Type 0) (test other : Kind → Bool) → ((t u : Ty) (a b : Value) → Passes test t a → Passes other u b → P (t ∷ u ∷ []) (a ∷ b ∷ []))
    → (types : List Ty) (row : List Value) → pass_each (test ∷ other ∷ []) (kinds_in types) ≡ true → Fits types row → P types row
two_by P test other k = one_more P test (other ∷ []) (λ t a first. one_by (λ types row. P (t ∷ types) (a ∷ row)) other (λ u b second. k t u a b first second))

pub three_by : (P : List Ty → List Value → Type 0) (test other last : Kind → Bool)
    → ((t u v : Ty) (a b c : Value) → Passes test t a → Passes other u b → Passes last v c → P (t ∷ u ∷ v ∷ []) (a ∷ b ∷ c ∷ []))
    → (types : List Ty) (row : List Value) → pass_each (test ∷ other ∷ last ∷ []) (kinds_in types) ≡ true → Fits types row → P types row
three_by P test other last k =
    one_more P test (other ∷ last ∷ []) (λ t a first. two_by (λ types row. P (t ∷ types) (a ∷ row)) other last (λ u v b c second third. k t u v a b c first second third))
