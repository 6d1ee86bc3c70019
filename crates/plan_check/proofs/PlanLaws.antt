-- A plan whose first checks hold is checked by its last one.
use Rattle.std.proofs.Common.{◌≡◌, ℕ, List, [], ◌∷◌, length, get_or, true, Some, Ok, refl, sym, ap, arith}
use Rattle.std.specs.Prelude.{nat_le}
use Rattle.plan_raw.specs.declared.plan.RootDecl.{RootDecl}
use Rattle.plan_raw.specs.declared.rel.RawRel.{RawRel}
use Rattle.plan_typed.specs.declared.rel.Rel.{Rel}
use Rattle.plan_tree.specs.Numbering.{relation_count}
use Rattle.plan_verdict.specs.declared.progress.Progress.{Progress}
use Rattle.plan_verdict.specs.Exprs.{Terms}
use Rattle.plan_verdict.specs.Relation.{numbered}
use Rattle.plan_verdict.specs.Verdict.{MAX_RELATIONS, checked_rel, plan_in}
use Rattle.plan_check.specs.Names.{named}

-- a list of one
pub single : {A : Type 0} (xs : List A) (x : A) → x ≡ get_or xs 0 x → length xs ≡ 1 → xs ≡ x ∷ []
single [] x is one = absurd (omega (arith, one))
single (y ∷ []) x is one = ap (λ z. z ∷ []) (sym is)
single (y ∷ z ∷ rest) x is one = absurd (omega (arith, one))

pub planned : (terms : Terms) (roots : List RootDecl) (root : RootDecl) (input : RawRel) (rel : Rel) (before after : Progress)
    → roots ≡ root ∷ [] → root.is_root ≡ true → root.input ≡ Some input → nat_le (relation_count input) MAX_RELATIONS ≡ true → numbered (checked_rel terms input) before ≡ Ok (rel, after)
    → plan_in terms roots before ≡ named root.names rel after
planned terms roots root input rel before after one is_root is few found = rw (one, is_root, is, few, found) refl
