-- Calls that end early are narrowings.
use Rattle.std.proofs.Common.{inl, inr, ◌+◌, ◌<◌, ◌≤◌, ◌++◌, length, get_or, ◌≡◌, ◌∙◌, ℕ, List, [], ◌∷◌, Bool, true, false, is_some, Option, Some, None, Ok, refl, sym, ap, subst, not, ◌||◌, ◌&&◌, if◌then◌else◌}
use Rattle.std.specs.List.{All}
use Rattle.std.proofs.lemmas.List.Elements.{All-get_or}
use Rattle.sub_types.specs.Value.{InKind}
use Rattle.sub_types.specs.declared.kind.Kind.{Kind}
use Rattle.sub_types.specs.declared.kind.Kind.TheVariants as kinds
use Rattle.sub_types.specs.declared.value.Value.{Value}
use Rattle.sub_types.specs.declared.value.Value.TheVariants as values
use Rattle.plan_denote.specs.Computed.{Computed}
use Rattle.plan_denote.specs.Logic.{is_truth, three_valued}
use Rattle.kernels.specs.Until.{until}
use Rattle.kernels.specs.declared.selection.Stop.{Stop}
use Rattle.kernels.proofs.UntilLaws.{until-same}
use Rattle.batch_nodes.specs.declared.early.Early.{Early}
use Rattle.batch_nodes.specs.declared.early.Early.TheVariants.{Truth, NotNull}
use Rattle.batch_nodes.specs.Early.{ends_early, settles, merges, IsOfKind, IsNext}
use Rattle.batch_nodes.specs.Narrowed.{narrowed, open_rows, joined}
use Rattle.batch_nodes.proofs.NarrowLaws.{until-narrowed}
use Rattle.batch_nodes.proofs.JoinLaws.{IsJoinSoFar, IsJoinSoFar-settled, IsJoinSoFar-open}
use Rattle.batch_nodes.proofs.NodeLaws.{ends_at-narrowed, coalesce-narrowed}

pub ends_early-narrowed : (early : Early) (arg : Computed) (args : List Computed) → ends_early early (arg ∷ args) ≡ narrowed (settles early) (merges early) arg (ends_early early args)
ends_early-narrowed (Truth end) arg args = ends_at-narrowed end arg args
ends_early-narrowed NotNull arg args = coalesce-narrowed arg args

-- the first argument on all rows, and the others on those that it leaves open
pub until-ends_early : (early : Early) (arg : ℕ → Computed) (args : ℕ → List Computed) (rows : List ℕ)
    → until (λ i. ends_early early (arg i ∷ args i)) rows
    ≡ (let first = until arg rows in let others = until (λ i. ends_early early (args i)) (open_rows (settles early) rows first.values) in
    joined (settles early) (merges early) rows first.values first.stop others.values others.stop)
until-ends_early early arg args rows =
    until-same (λ i. ends_early early (arg i ∷ args i)) (λ i. narrowed (settles early) (merges early) (arg i) (ends_early early (args i))) (λ i. ends_early-narrowed early (arg i) (args i)) rows
    ∙ until-narrowed (settles early) (merges early) arg (λ i. ends_early early (args i)) rows

-- a value that settles the call is what the call gives
pub settles_itself : (early : Early) (value : Value) → is_some (settles early value) ≡ true → settles early value ≡ Some value
settles_itself (Truth true) (values.Bool true) is = refl
settles_itself (Truth true) (values.Bool false) is = absurd (cc)
settles_itself (Truth false) (values.Bool true) is = absurd (cc)
settles_itself (Truth false) (values.Bool false) is = refl
settles_itself (Truth end) values.Null is = absurd (cc)
settles_itself (Truth end) (values.Int number) is = absurd (cc)
settles_itself (Truth end) (values.Dec number) is = absurd (cc)
settles_itself (Truth end) (values.Bytes bytes) is = absurd (cc)
settles_itself NotNull (values.Bool test) is = refl
settles_itself NotNull values.Null is = absurd (cc)
settles_itself NotNull (values.Int number) is = refl
settles_itself NotNull (values.Dec number) is = refl
settles_itself NotNull (values.Bytes bytes) is = refl

pub settles_nothing : {Y : Type 0} (s : Option Y) → is_some s ≡ false → s ≡ None
settles_nothing (Some y) is = absurd (cc)
settles_nothing None is = refl

table_in_kind : (end is_end is_other : Bool) → InKind kinds.Bool (if is_end then values.Bool end else if is_other then values.Bool (not end) else values.Null)
table_in_kind end true is_other = tt
table_in_kind end false true = tt
table_in_kind end false false = tt

-- what two values give is of the kind
pub merged_in_kind : (early : Early) (kind : Kind) (x z y : Value) → IsOfKind early kind → InKind kind z → merges early x z ≡ Ok y → InKind kind y
merged_in_kind (Truth end) kind x z y of fits is =
    let e : three_valued end x z ≡ y = cc in
    subst (λ kind. InKind kind y) (sym of) (subst (InKind kinds.Bool) e (table_in_kind end (is_truth end x || is_truth end z) (is_truth (not end) x && is_truth (not end) z)))
merged_in_kind NotNull kind x z y of fits is = let e : z ≡ y = cc in subst (InKind kind) e fits

-- ---- one row of the loop that puts both together

module _ (early : Early) (others : List Value) (used : ℕ) where
  pub next-settled : (value : Value) → is_some (settles early value) ≡ true → IsNext early value others used (Some (value, used))
  next-settled value is = inl (settles_itself early value is, refl)

  pub next-stopped : (value : Value) → is_some (settles early value) ≡ false → length others ≤ used → IsNext early value others used None
  next-stopped value is end = (settles_nothing (settles early value) is, end)

  pub next-merged : (value other found : Value) → is_some (settles early value) ≡ false → used < length others → other ≡ get_or others used values.Null → merges early value other ≡ Ok found
      → IsNext early value others used (Some (found, used + 1))
  next-merged value other found is there at gives =
      inr (settles_nothing (settles early value) is, there, ap (λ one. merges early value one) (sym at) ∙ gives, refl)

  pub next-in_kind : (kind : Kind) (value : Value) (next : Value × ℕ) → IsNext early value others used (Some next) → IsOfKind early kind → InKind kind value → All (InKind kind) others → InKind kind next.0
  next-in_kind kind value next is of fits all = elim is [
    | inl one ↦ by (settles early value) refl one.0
    | inr one ↦ merged_in_kind early kind value (get_or others used values.Null) next.0 of (All-get_or (InKind kind) others used values.Null one.1 all) one.2
  ]
    where
      by : (s : Option Value) → settles early value ≡ s → s ≡ Some next.0 → InKind kind next.0
      by s same is = let e : settles early value ≡ Some value = settles_itself early value (ap (λ one. is_some one) (same ∙ is)) in let both : value ≡ next.0 = cc in subst (InKind kind) both fits

  pub IsJoinSoFar-next : (rows : List ℕ) (first : List Value) (stop other_stop : Stop) (i : ℕ) (value : Value) (next : Value × ℕ) (built : List Value)
      → IsJoinSoFar (settles early) (merges early) rows first stop others other_stop i used built → i < length rows → i < length first → value ≡ get_or first i values.Null → IsNext early value others used (Some next)
      → IsJoinSoFar (settles early) (merges early) rows first stop others other_stop (i + 1) next.1 (built ++ next.0 ∷ [])
  IsJoinSoFar-next rows first stop other_stop i value next built so_far row_there there at is = elim is [
    | inl one ↦ subst (λ k. IsJoinSoFar (settles early) (merges early) rows first stop others other_stop (i + 1) k (built ++ next.0 ∷ [])) (sym one.1)
        (IsJoinSoFar-settled (settles early) (merges early) rows first stop others other_stop i used values.Null value next.0 built so_far row_there there at one.0)
    | inr one ↦ subst (λ k. IsJoinSoFar (settles early) (merges early) rows first stop others other_stop (i + 1) k (built ++ next.0 ∷ [])) (sym one.3)
        (IsJoinSoFar-open (settles early) (merges early) rows first stop others other_stop i used values.Null value values.Null (get_or others used values.Null) next.0 built so_far row_there there at one.0 one.1 refl one.2)
  ]
