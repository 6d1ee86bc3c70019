-- What is known of streams one behind the other, by what is known of each.
use Rattle.std.proofs.Common.{◌≡◌, ◌∙◌, ℕ, ◌==◌, List, [], ◌∷◌, false, length, get_or, ap₂, sym, subst}
use Rattle.std.specs.List.{remove}
use Rattle.std.proofs.lemmas.Bool.{eq-eqb}
use Rattle.sub_types.specs.Stream.{Stream, rows_alone, followed_by, glue}
use Rattle.sub_types.proofs.StreamLaws.{followed_by_assoc}
use Rattle.plan_denote.specs.Rows.{Row}
use Rattle.pipe_ends.specs.Merged.{AreOf, IsSoFar}
use Rattle.pipe_ends.proofs.EndLaws.{same_alone}

-- the first of a list that has one
pub head_rest : {P : Type 0} (all : List P) (n : ℕ) (first : P) (rest : List P) → n ≡ length all → (n == 0) ≡ false → first ≡ get_or all 0 first → rest ≡ remove all 0 → all ≡ first ∷ rest
head_rest {P} [] n first rest long some here left = let none = eq-eqb n 0 long in absurd (cc)
head_rest {P} (one ∷ all) n first rest long some here left = ap₂ (λ (x : P) (xs : List P). x ∷ xs) (sym here) (sym left)

module _ {P : Type 0} (of : Stream Row → P → Type 0) where
  -- of no streams
  pub none_known : (known : P) (all : List P) → all ≡ [] → of (rows_alone []) known → (streams : List (Stream Row)) → AreOf of streams all → of (glue streams) known
  none_known known all none is streams are = by streams (subst (AreOf of streams) none are)
    where
      by : (some : List (Stream Row)) → AreOf of some [] → of (glue some) known
      by [] each = is
      by (s ∷ some) each = absurd each

  -- of the first and of those behind it
  pub all_known : (known first : P) (all rest : List P) → all ≡ first ∷ rest → ((rows : Stream Row) (streams : List (Stream Row)) → of rows first → AreOf of streams rest → of (followed_by rows (glue streams)) known)
      → (streams : List (Stream Row)) → AreOf of streams all → of (glue streams) known
  all_known known first all rest parts k streams are = by streams (subst (AreOf of streams) parts are)
    where
      by : (some : List (Stream Row)) → AreOf of some (first ∷ rest) → of (glue some) known
      by [] each = absurd each
      by (s ∷ some) each = k s some each.0 each.1

  module _ (whole : Stream Row) where
    -- at first
    pub so_far_first : (known : P) (all left : List P) (rows : Stream Row) (streams : List (Stream Row)) → left ≡ all → of rows known → AreOf of streams all → followed_by rows (glue streams) ≡ whole → IsSoFar of whole known left
    so_far_first known all left rows streams same is later whole_is = record { rows = rows; is = is; streams = streams; later = subst (AreOf of streams) (sym same) later; whole_is = whole_is }

    -- one more
    pub so_far_more : (known new later : P) (all rest : List P) → all ≡ later ∷ rest → ((rows more : Stream Row) → of rows known → of more later → of (followed_by rows more) new) → IsSoFar of whole known all → IsSoFar of whole new rest
    so_far_more known new later all rest parts merge so = by so.streams (subst (AreOf of so.streams) parts so.later) so.whole_is
      where
        by : (some : List (Stream Row)) → AreOf of some (later ∷ rest) → followed_by so.rows (glue some) ≡ whole → IsSoFar of whole new rest
        by [] each same = absurd each
        by (s ∷ some) each same = record {
          rows = followed_by so.rows s;
          is = merge so.rows s so.is each.0;
          streams = some;
          later = each.1;
          whole_is = followed_by_assoc so.rows s (glue some) ∙ same;
        }

    -- at last
    pub so_far_all : (known : P) (left : List P) → left ≡ [] → IsSoFar of whole known left → of whole known
    so_far_all known left none so = by so.streams (subst (AreOf of so.streams) none so.later) so.whole_is
      where
        by : (some : List (Stream Row)) → AreOf of some [] → followed_by so.rows (glue some) ≡ whole → of whole known
        by [] each same = subst (λ (s : Stream Row). of s known) (sym (same_alone so.rows) ∙ same) so.is
        by (s ∷ some) each same = absurd each
