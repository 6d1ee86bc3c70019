-- States of pieces, merged in order.
use Rattle.std.proofs.Common.{◌≡◌, ◌∙◌, List, [], ◌∷◌, ◌++◌, Option, Some, None, Ok, map, refl, sym, ap}
use Rattle.std.specs.List.{fold}
use Rattle.sub_types.specs.declared.fault.Fault.{Fault}
use Rattle.sub_types.specs.Stream.{Stream, rows_alone, followed_by, glue}
use Rattle.sub_types.proofs.StreamLaws.{followed_by_assoc}
use Rattle.plan_denote.specs.Computed.{Row}
use Rattle.plan_denote.specs.Rows.{from_all}
use Rattle.group_laws.specs.States.{state_at, state_of, states_merged, merged_in_order, rows_of_state}

module _ {A S : Type 0} (summarize : List A → S) (merge : S → S → S) (merges : (rows later : List A) → summarize (rows ++ later) ≡ merge (summarize rows) (summarize later)) where
  parts : (rows more : List A) (end next : Option Fault) → state_of summarize (followed_by (record { rows = rows; end = end }) (record { rows = more; end = next })) ≡ states_merged merge (state_at summarize rows end) (state_at summarize more next)
  parts rows more (Some fault) next = refl
  parts rows more None (Some fault) = refl
  parts rows more None None = ap Ok (merges rows more)

  -- of a stream and the rest
  pub state_of-followed_by : (s rest : Stream A) → state_of summarize (followed_by s rest) ≡ states_merged merge (state_of summarize s) (state_of summarize rest)
  state_of-followed_by s rest = parts s.rows rest.rows s.end rest.end

  rest_none : (rows : List A) (end : Option Fault) → followed_by (record { rows = rows; end = end }) (rows_alone []) ≡ record { rows = rows; end = end }
  rest_none rows (Some fault) = refl
  rest_none rows None = ap rows_alone (nothing_behind rows)
    where
      nothing_behind : {A : Type 0} (xs : List A) → xs ++ [] ≡ xs
      nothing_behind [] = refl
      nothing_behind (x ∷ xs) = ap (λ l. x ∷ l) (nothing_behind xs)

  in_order_from : (s : Stream A) (pieces : List (Stream A)) → fold (states_merged merge) (state_of summarize s) (map (state_of summarize) pieces) ≡ state_of summarize (followed_by s (glue pieces))
  in_order_from s [] = ap (state_of summarize) (sym (rest_none s.rows s.end))
  in_order_from s (piece ∷ pieces) =
      ap (λ known. fold (states_merged merge) known (map (state_of summarize) pieces)) (sym (state_of-followed_by s piece))
      ∙ in_order_from (followed_by s piece) pieces
      ∙ ap (state_of summarize) (followed_by_assoc s piece (glue pieces))

  -- of pieces, wherever they are cut
  pub state_of-glue : (pieces : List (Stream A)) → merged_in_order merge (summarize []) (map (state_of summarize) pieces) ≡ state_of summarize (glue pieces)
  state_of-glue pieces = in_order_from (rows_alone []) pieces ∙ ap (state_of summarize) (ahead (glue pieces))
    where
      ahead : {A : Type 0} (s : Stream A) → followed_by (rows_alone []) s ≡ s
      ahead s = refl

-- what all rows give, by their state
all_parts : {A S : Type 0} (summarize : List A → S) (given : S → Stream Row) (rows : List A) (end : Option Fault) → from_all (λ all. given (summarize all)) (record { rows = rows; end = end }) ≡ rows_of_state given (state_at summarize rows end)
all_parts summarize given rows None = refl
all_parts summarize given rows (Some fault) = refl

pub rows_by_state : {A S : Type 0} (summarize : List A → S) (given : S → Stream Row) (s : Stream A) → from_all (λ all. given (summarize all)) s ≡ rows_of_state given (state_of summarize s)
rows_by_state summarize given s = all_parts summarize given s.rows s.end
