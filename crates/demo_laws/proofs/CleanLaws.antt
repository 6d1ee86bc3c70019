-- Streams that no fault ends: what relations give of them, row by row.
use Rattle.std.proofs.Common.{◌≡◌, ℕ, ◌+◌, ◌*◌, ◌≤◌, List, [], ◌∷◌, Option, None, Result, Ok, map, length, refl, sym, subst, length-append, arith}
use Rattle.std.proofs.lemmas.Nat.{mul-le}
use Rattle.std.specs.List.{AllByRecursion}
use Rattle.sub_types.specs.declared.fault.Fault.{Fault}
use Rattle.sub_types.specs.declared.fault.FaultKind.{FaultKind}
use Rattle.sub_types.specs.Stream.{Stream, rows_alone, ended, followed_by, glue, each_stream, stream_of}
use Rattle.plan_denote.specs.Rows.{at_relation, each_row, unless_fault, from_all}
use Rattle.denote_typed.proofs.RowsLaws.{appended}

-- items of which each is such a one, and which are at most so many
pub record Are {A : Type 0} (P : A → Type 0) (most : ℕ) (items : List A) : Type 0 where
  pub each : AllByRecursion P items
  pub few : length items ≤ most

-- such rows, and no fault
pub record IsClean {A : Type 0} (P : A → Type 0) (most : ℕ) (s : Stream A) : Type 0 where
  pub end : s.end ≡ None
  pub rows : Are P most s.rows

-- such rows, in place of a fault
pub record Gives {A E : Type 0} (P : A → Type 0) (most : ℕ) (given : Result (List A) E) : Type 0 where
  pub rows : List A
  pub is : given ≡ Ok rows
  pub are : Are P most rows

-- one stream behind another
pub behind : {A : Type 0} (P : A → Type 0) (one other : ℕ) (s rest : Stream A) → IsClean P one s → IsClean P other rest → IsClean P (one + other) (followed_by s rest)
behind P one other s rest clean more =
    subst (λ (end : Option Fault). IsClean P (one + other) (followed_by (record { rows = s.rows; end = end }) rest)) (sym clean.end) (record {
      end = more.end;
      rows = record {
        each = appended P s.rows rest.rows clean.rows.each more.rows.each;
        few = omega (arith, length-append s.rows rest.rows, clean.rows.few, more.rows.few);
      };
    })

-- no rows at all
pub none_at_all : {A : Type 0} (P : A → Type 0) → IsClean P 0 (rows_alone [])
none_at_all P = record { end = refl; rows = record { each = tt; few = omega arith } }

-- a larger bound
pub at_most : {A : Type 0} (P : A → Type 0) (one other : ℕ) (s : Stream A) → one ≤ other → IsClean P one s → IsClean P other s
at_most P one other s most clean = record { end = clean.end; rows = record { each = clean.rows.each; few = omega (arith, most, clean.rows.few) } }

-- a stream for each row, one after the other
module _ {A B : Type 0} (P : A → Type 0) (Q : B → Type 0) (most : ℕ) (f : A → Stream B) (k : (x : A) → P x → IsClean Q most (f x)) where
  glued : (rows : List A) → AllByRecursion P rows → IsClean Q (length rows * most) (glue (map f rows))
  glued [] all = at_most Q 0 (length {A = A} [] * most) (rows_alone []) (omega arith) (none_at_all Q)
  glued (row ∷ rows) all =
      at_most Q (most + length rows * most) (length (row ∷ rows) * most) (glue (map f (row ∷ rows))) (omega arith)
      (behind Q most (length rows * most) (f row) (glue (map f rows)) (k row all.0) (glued rows all.1))

  pub each_stream_clean : (many : ℕ) (s : Stream A) → IsClean P many s → IsClean Q (many * most) (each_stream f s)
  each_stream_clean many s clean =
      at_most Q (length s.rows * most + 0) (many * most) (each_stream f s) (omega (arith, mul-le (length s.rows) most many most clean.rows.few (omega arith)))
      (behind Q (length s.rows * most) 0 (glue (map f s.rows)) (ended s.end) (glued s.rows clean.rows.each) (record { end = clean.end; rows = record { each = tt; few = omega arith } }))

given_clean : {A : Type 0} (P : A → Type 0) (most number : ℕ) (given : Result (List A) FaultKind) → Gives P most given → IsClean P most (stream_of (at_relation number given))
given_clean {A = A} P most number given gives =
    subst (λ (one : Result (List A) FaultKind). IsClean P most (stream_of (at_relation number one))) (sym gives.is) (record { end = refl; rows = gives.are })

-- what a relation gives row by row
pub each_row_clean : {A B : Type 0} (P : A → Type 0) (Q : B → Type 0) (many most number : ℕ) (given : A → Result (List B) FaultKind) (s : Stream A)
    → ((x : A) → P x → Gives Q most (given x)) → IsClean P many s → IsClean Q (many * most) (each_row number given s)
each_row_clean P Q many most number given s k clean =
    each_stream_clean P Q most (λ row. stream_of (at_relation number (given row))) (λ x holds. given_clean Q most number (given x) (k x holds)) many s clean

-- one row for each
pub one_row : {A E : Type 0} (P : A → Type 0) (given : Result (List A) E) (row : A) → given ≡ Ok (row ∷ []) → P row → Gives P 1 given
one_row P given row is holds = record { rows = row ∷ []; is = is; are = record { each = (holds, tt); few = omega arith } }

-- what all rows give together
pub from_all_clean : {A B : Type 0} (P : A → Type 0) (Q : B → Type 0) (many most : ℕ) (given : List A → Stream B) (s : Stream A)
    → ((rows : List A) → Are P many rows → IsClean Q most (given rows)) → IsClean P many s → IsClean Q most (from_all given s)
from_all_clean P Q many most given s k clean =
    subst (λ (end : Option Fault). IsClean Q most (unless_fault end (given s.rows))) (sym clean.end) (k s.rows clean.rows)
