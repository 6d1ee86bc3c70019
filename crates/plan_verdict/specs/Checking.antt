-- Checking a plan: what is found so far, and the first refusal.
use Rattle.std.specs.Prelude.{◌≡◌, ℕ, ◌+◌, List, [], ◌∷◌, ◌++◌, Bool, Option, Some, None, Result, Ok, Err, if◌then◌else◌}
use Rattle.plan_typed.specs.declared.sub.Sub.{Sub}
use Rattle.plan_verdict.specs.declared.progress.Progress.{Progress}
use Rattle.plan_verdict.specs.declared.rule.Rule.{Rule}
use Rattle.plan_verdict.specs.declared.rule.Rule.TheVariants as rules
use Rattle.plan_verdict.specs.declared.rule.CheckError.{CheckError}
use Rattle.plan_verdict.specs.declared.rule.CheckError.TheVariants as errors

-- the relation with this number breaks the rule
pub record Refusal : Type 0 where
  pub relation : ℕ
  pub rule : Rule

-- a check: it gives a value and goes on, or is refused
abbrev pub Checking : Type 0 → Type 0
Checking A = Progress → Result (A × Progress) Refusal

abbrev pub go_on : {A B : Type 0} → Result (A × Progress) Refusal → (A → Checking B) → Result (B × Progress) Refusal
go_on (Ok (value, progress)) next = next value progress
go_on (Err refusal) next = Err refusal

-- the one and then the other, unless the first is refused
infixl 10 ◌>>=◌
abbrev pub ◌>>=◌ : {A B : Type 0} → Checking A → (A → Checking B) → Checking B
(first >>= next) progress = go_on (first progress) next

infixl 10 ◌>>◌
abbrev pub ◌>>◌ : {A B : Type 0} → Checking A → Checking B → Checking B
(first >> next) progress = go_on (first progress) (λ _. next)

-- nothing more is checked
abbrev pub accept : {A : Type 0} → A → Checking A
accept value progress = Ok (value, progress)

-- the relation breaks the rule
abbrev pub refuse : {A : Type 0} → ℕ → Rule → Checking A
refuse relation rule progress = Err (record { relation = relation; rule = rule })

-- a part that holds no relation and no expression: what it is, or the rule that it breaks
abbrev pub part : {A : Type 0} → ℕ → Result A Rule → Checking A
part relation (Ok value) = accept value
part relation (Err rule) = refuse relation rule

-- the test must hold
abbrev pub must : ℕ → Bool → Rule → Checking (Unit {0})
must relation test rule = if test then accept tt else refuse relation rule

-- the field must be there
abbrev pub present : {A : Type 0} → ℕ → Option A → Checking A
present relation (Some value) = accept value
present relation None = refuse relation rules.MissingField

-- the number of the next relation
abbrev pub next_relation : Checking ℕ
next_relation progress = Ok (progress.relations, record progress { relations = progress.relations + 1 })

-- the number of the next expression
abbrev pub next_node : Checking ℕ
next_node progress = Ok (progress.nodes, record progress { nodes = progress.nodes + 1 })

-- the numbers that the next relation and the next expression get
abbrev pub relations_so_far : Checking ℕ
relations_so_far progress = Ok (progress.relations, progress)

abbrev pub nodes_so_far : Checking ℕ
nodes_so_far progress = Ok (progress.nodes, progress)

-- the next expression has this number
abbrev pub nodes_from : ℕ → Checking (Unit {0})
nodes_from node progress = Ok (tt, record progress { nodes = node })

-- a subquery is done
abbrev pub done : Sub → Checking (Unit {0})
done sub progress = Ok (tt, record progress { subs = progress.subs ++ sub ∷ [] })

-- each in order
abbrev pub in_order : {A : Type 0} → List (Checking A) → Checking (List A)
in_order [] = accept []
in_order (first ∷ rest) = do
  value ← first
  values ← in_order rest
  accept (value ∷ values)

-- what a call answers of a part that holds no relation and no expression
abbrev pub Agrees : {A : Type 0} → Result A CheckError → ℕ → Result A Rule → Type 0
Agrees (Ok value) relation found = found ≡ Ok value
Agrees (Err (errors.Refused refused rule)) relation found = (refused ≡ relation) × (found ≡ Err rule)
Agrees (Err errors.NoMemory) relation found = Unit {0}

-- what a call answers, with how far it comes, is what the check gives, unless no memory was found
abbrev pub Comes : {A : Type 0} → Result (A × Progress) CheckError → Result (A × Progress) Refusal → Type 0
Comes (Ok found) checked = checked ≡ Ok found
Comes (Err (errors.Refused relation rule)) checked = checked ≡ Err (record { relation = relation; rule = rule })
Comes (Err errors.NoMemory) checked = Unit {0}

-- no value beside how far it comes
abbrev pub with_unit : {E : Type 0} → Result Progress E → Result (Unit {0} × Progress) E
with_unit (Ok progress) = Ok (tt, progress)
with_unit (Err error) = Err error
