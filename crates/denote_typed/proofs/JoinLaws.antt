-- Joins.
use Rattle.std.proofs.Common.{◌≡◌, ℕ, List, [], ◌∷◌, ◌++◌, true, not, ◌&&◌, Ok, length, is_none, sym, subst}
use Rattle.std.specs.List.{AllByRecursion, list_any}
use Rattle.sub_types.specs.declared.kind.Ty.{Ty}
use Rattle.sub_types.specs.Stream.{Stream, rows_alone, ended, followed_by, each_stream}
use Rattle.sub_types.specs.Value.{Fits}
use Rattle.plan_typed.specs.declared.rel.JoinKind.{JoinKind}
use Rattle.plan_typed.specs.declared.rel.JoinKind.TheVariants as joins
use Rattle.well_typed.specs.Columns.{join_columns, nullable}
use Rattle.plan_denote.specs.Rows.{Row, ◌>>=◌, is_empty, only_if}
use Rattle.plan_denote.specs.Join.{Join, partners, nulls, pairs, or_row, if_some, if_none, joined_row, is_hit, unmatched, last_rows, joined, crossed}
use Rattle.denote_typed.proofs.FitLaws.{beside, as_nullable, nulls_fit}
use Rattle.denote_typed.proofs.RowsLaws.{Rows, mapped, filtered_all, only_if_all, any_result, stepped, either_all, followed_all, each_stream_all, each_row_all, from_all_rows}

partners_all : (P : Row → Type 0) (join : Join) (rights : List Row) (left : Row) → AllByRecursion P rights → Rows P (partners join rights left)
unfolding partners
partners_all P join rights left all =
    each_row_all P P join.number (λ right. join.matches left right >>= (λ hit. Ok (only_if hit right))) (rows_alone rights) all (λ right holds.
    stepped (λ _. Unit {0}) (AllByRecursion P) (join.matches left right) (λ hit. Ok (only_if hit right)) (any_result (join.matches left right)) (λ hit _. only_if_all P hit right holds))

or_row_all : (P : Row → Type 0) (other : Row) (s : Stream Row) → P other → Rows P s → Rows P (or_row other s)
or_row_all P other s holds all = either_all P (is_empty s.rows && is_none s.end) (rows_alone (other ∷ [])) s (λ _. (holds, tt)) (λ _. all)

if_some_all : (P : Row → Type 0) (left : Row) (found : Stream Row) → P left → Rows P (if_some left found)
if_some_all P left found holds = either_all P (is_empty found.rows) (ended found.end) (rows_alone (left ∷ [])) (λ _. tt) (λ _. (holds, tt))

if_none_all : (P : Row → Type 0) (left : Row) (found : Stream Row) → P left → Rows P (if_none left found)
if_none_all P left found holds = either_all P (is_empty found.rows) (or_row left (ended found.end)) (rows_alone []) (λ _. or_row_all P left (ended found.end) holds tt) (λ _. tt)

module _ (left right : List Ty) where
  pairs_fit : (types others : List Ty) (row : Row) (found : Stream Row) → ((other : Row) → Fits right other → Fits others other) → Fits types row → Rows (Fits right) found → Rows (Fits (types ++ others)) (pairs row found)
  pairs_fit types others row found k fits all = mapped (Fits right) (Fits (types ++ others)) (λ other. row ++ other) found.rows all (λ other fit. beside types others row other fits (k other fit))

  -- a left row with its partners, by the kind of the join
  row_fits : (kind : JoinKind) (row : Row) (found : Stream Row) → Fits left row → Rows (Fits right) found → Rows (Fits (join_columns kind left right)) (joined_row kind (length right) row found)
  row_fits joins.Inner row found fits all = pairs_fit left right row found (λ other fit. fit) fits all
  row_fits joins.Right row found fits all = pairs_fit (nullable left) right row found (λ other fit. fit) (as_nullable left row fits) all
  row_fits joins.Left row found fits all =
      or_row_all (Fits (left ++ nullable right)) (row ++ nulls (length right)) (pairs row found) (beside left (nullable right) row (nulls (length right)) fits (nulls_fit right))
      (pairs_fit left (nullable right) row found (as_nullable right) fits all)
  row_fits joins.Outer row found fits all =
      or_row_all (Fits (nullable left ++ nullable right)) (row ++ nulls (length right)) (pairs row found)
      (beside (nullable left) (nullable right) row (nulls (length right)) (as_nullable left row fits) (nulls_fit right))
      (pairs_fit (nullable left) (nullable right) row found (as_nullable right) (as_nullable left row fits) all)
  row_fits joins.LeftSemi row found fits all = if_some_all (Fits left) row found fits
  row_fits joins.LeftAnti row found fits all = if_none_all (Fits left) row found fits

  -- the right rows that come last
  last_fit : (kind : JoinKind) (rows : List Row) → AllByRecursion (Fits right) rows → AllByRecursion (Fits (join_columns kind left right)) (last_rows kind (length left) rows)
  last_fit joins.Right rows all =
      mapped (Fits right) (Fits (nullable left ++ right)) (λ row. nulls (length left) ++ row) rows all (λ row fits. beside (nullable left) right (nulls (length left)) row (nulls_fit left) fits)
  last_fit joins.Outer rows all =
      mapped (Fits right) (Fits (nullable left ++ nullable right)) (λ row. nulls (length left) ++ row) rows all
      (λ row fits. beside (nullable left) (nullable right) (nulls (length left)) row (nulls_fit left) (as_nullable right row fits))
  last_fit joins.Inner rows all = tt
  last_fit joins.Left rows all = tt
  last_fit joins.LeftSemi rows all = tt
  last_fit joins.LeftAnti rows all = tt

  module _ (kind : JoinKind) (join : Join) (lefts rights : Stream Row) (first : Rows (Fits left) lefts) (second : Rows (Fits right) rights) where
    abbrev Given : Row → Type 0
    Given = Fits (join_columns kind left right)

    of_lefts : Rows Given (each_stream (λ row. joined_row kind (length right) row (partners join rights.rows row)) lefts)
    of_lefts =
        each_stream_all (Fits left) Given (λ row. joined_row kind (length right) row (partners join rights.rows row)) lefts first
        (λ row fits. row_fits kind row (partners join rights.rows row) fits (partners_all (Fits right) join rights.rows row second))

    of_rights : AllByRecursion Given (last_rows kind (length left) (unmatched join lefts.rows rights.rows))
    of_rights = last_fit kind (unmatched join lefts.rows rights.rows) (filtered_all (Fits right) (λ row. not (list_any (λ other. is_hit (join.matches other row)) lefts.rows)) rights.rows second)

  -- the rows of a join
  pub joined_fits : (kind : JoinKind) (join : Join) (lefts rights : Stream Row) → join.left_width ≡ length left → join.right_width ≡ length right → Rows (Fits left) lefts → Rows (Fits right) rights
      → Rows (Fits (join_columns kind left right)) (joined kind join lefts rights)
  unfolding joined
  joined_fits kind join lefts rights width other first second =
      let Given = Fits (join_columns kind left right) in
      from_all_rows Given
      (λ rows. followed_by (each_stream (λ row. joined_row kind join.right_width row (partners join rows row)) lefts) (rows_alone (last_rows kind join.left_width (unmatched join lefts.rows rows)))) rights
      (followed_all Given (each_stream (λ row. joined_row kind join.right_width row (partners join rights.rows row)) lefts) (rows_alone (last_rows kind join.left_width (unmatched join lefts.rows rights.rows)))
      (subst (λ (many : ℕ). Rows Given (each_stream (λ row. joined_row kind many row (partners join rights.rows row)) lefts)) (sym other) (of_lefts kind join lefts rights first second))
      (subst (λ (many : ℕ). AllByRecursion Given (last_rows kind many (unmatched join lefts.rows rights.rows))) (sym width) (of_rights kind join lefts rights first second)))

  pub crossed_fits : (number width other : ℕ) (lefts rights : Stream Row) → width ≡ length left → other ≡ length right → Rows (Fits left) lefts → Rows (Fits right) rights
      → Rows (Fits (left ++ right)) (crossed number width other lefts rights)
  unfolding crossed
  crossed_fits number width other lefts rights is is_other first second =
      joined_fits joins.Inner (record { number = number; left_width = width; right_width = other; matches = λ _ _. Ok true }) lefts rights is is_other first second
