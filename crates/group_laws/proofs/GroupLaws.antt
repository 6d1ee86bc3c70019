-- Groups by their keys, of some rows and of the rows behind them.
use Rattle.std.proofs.Common.{◌≡◌, ◌∙◌, ℕ, List, [], ◌∷◌, ◌++◌, Bool, true, false, not, ◌||◌, cond, None, map, refl, sym, ap}
use Rattle.std.specs.Prelude.{slice_index_or}
use Rattle.std.specs.List.{filter, filter_map, list_any}
use Rattle.std.proofs.lemmas.List.{append-nil, map-append}
use Rattle.std.proofs.lemmas.List.Elements.{filter-append, filter_map-append}
use Rattle.std.proofs.lemmas.List.Folds.{list_any-append}
use Rattle.sub_types.specs.declared.value.Value.{Value}
use Rattle.plan_denote.specs.Computed.{Row}
use Rattle.plan_denote.specs.Distinct.{is_same_row, distinct}
use Rattle.plan_denote.specs.Aggregate.{Entry, keys_in, members_in}
use Rattle.group_laws.specs.Merged.{merged_by, known_at, keys_merged}
use Rattle.group_laws.proofs.SameLaws.{same_rows}
use Rattle.group_laws.proofs.DistinctLaws.{filter_alike, sames_respect, any-distinct, distinct_merged}

abbrev keys_of : List Entry → List Row
keys_of entries = map (λ entry. entry.0) entries

-- what the rows of a key give, of rows behind others
pub members-append : (entries later : List Entry) (key : Row) (place : ℕ) → members_in (entries ++ later) key place ≡ members_in entries key place ++ members_in later key place
members-append entries later key place =
    ap (filter_map (λ entry. slice_index_or entry.1 place None)) (filter-append (λ entry. is_same_row key entry.0) entries later)
    ∙ filter_map-append (λ entry. slice_index_or entry.1 place None) (filter (λ entry. is_same_row key entry.0) entries) (filter (λ entry. is_same_row key entry.0) later)

-- keys that are the same have the same rows
pub members_alike : (entries : List Entry) (key other : Row) (place : ℕ) → is_same_row key other ≡ true → members_in entries key place ≡ members_in entries other place
members_alike entries key other place e =
    ap (filter_map (λ entry. slice_index_or entry.1 place None)) (filter_alike (λ entry. is_same_row key entry.0) (λ entry. is_same_row other entry.0) (λ entry. same_rows.congr key other entry.0 e) entries)

none_head : (a b : Bool) → a || b ≡ false → (a ≡ false) × (b ≡ false)
none_head true b e = absurd (cc)
none_head false b e = (refl, e)

none_kept : (entries : List Entry) (key : Row) → list_any (is_same_row key) (keys_of entries) ≡ false → filter (λ entry. is_same_row key entry.0) entries ≡ []
none_kept [] key e = refl
none_kept (entry ∷ entries) key e =
    let both = none_head (is_same_row key entry.0) (list_any (is_same_row key) (keys_of entries)) e in
    ap (λ b. cond b (entry ∷ filter (λ entry. is_same_row key entry.0) entries) (filter (λ entry. is_same_row key entry.0) entries)) both.0 ∙ none_kept entries key both.1

-- a key that no row has
pub no_members : (entries : List Entry) (key : Row) (place : ℕ) → list_any (is_same_row key) (keys_of entries) ≡ false → members_in entries key place ≡ []
no_members entries key place e = ap (filter_map (λ entry. slice_index_or entry.1 place None)) (none_kept entries key e)

-- the group of a key, where there is one
head_found : {K : Type 0} (key k : Row) (kept : Row → List K) (any b : Bool) → ((k : Row) → is_same_row key k ≡ true → kept k ≡ kept key) → is_same_row key k ≡ b → cond b (kept k) (cond any (kept key) []) ≡ cond (b || any) (kept key) []
head_found key k kept any true alike e = alike k e
head_found key k kept any false alike e = refl

pub known_found : {G K : Type 0} (key_of : G → Row) (known_of : G → List K) (group_of : Row → G) (kept : Row → List K) → ((k : Row) → key_of (group_of k) ≡ k) → ((k : Row) → known_of (group_of k) ≡ kept k)
    → (key : Row) → ((k : Row) → is_same_row key k ≡ true → kept k ≡ kept key) → (keys : List Row) → known_at key_of known_of (map group_of keys) key ≡ cond (list_any (is_same_row key) keys) (kept key) []
known_found key_of known_of group_of kept is_key is_known key alike [] = refl
known_found key_of known_of group_of kept is_key is_known key alike (k ∷ keys) =
    ap (λ x. cond (is_same_row key x) (known_of (group_of k)) (known_at key_of known_of (map group_of keys) key)) (is_key k)
    ∙ ap (λ l. cond (is_same_row key k) l (known_at key_of known_of (map group_of keys) key)) (is_known k)
    ∙ ap (λ l. cond (is_same_row key k) (kept k) l) (known_found key_of known_of group_of kept is_key is_known key alike keys)
    ∙ head_found key k kept (list_any (is_same_row key) keys) (is_same_row key k) alike refl

-- equal at each of the keys
any_more : (a b : Bool) → b ≡ true → a || b ≡ true
any_more true b e = refl
any_more false b e = e

pub map_within : {B : Type 0} (f g : Row → B) (keys : List Row) → ((k : Row) → list_any (is_same_row k) keys ≡ true → f k ≡ g k) → map f keys ≡ map g keys
map_within f g [] h = refl
map_within f g (k ∷ keys) h =
    ap (λ x. x ∷ map f keys) (h k (ap (λ b. b || list_any (is_same_row k) keys) (same_rows.itself k)))
    ∙ ap (λ l. g k ∷ l) (map_within f g keys (λ x e. h x (any_more (is_same_row x k) (list_any (is_same_row x) keys) e)))

-- what is kept of each measure's members
abbrev pub kept_of : {M K : Type 0} → (M → List Value → K) → List (ℕ × M) → List Entry → Row → List K
kept_of keep measures entries key = map (λ one. keep one.1 (members_in entries key one.0)) measures

kept_alike : {M K : Type 0} (keep : M → List Value → K) (measures : List (ℕ × M)) (entries : List Entry) (key other : Row) → is_same_row key other ≡ true → kept_of keep measures entries other ≡ kept_of keep measures entries key
kept_alike keep [] entries key other e = refl
kept_alike keep (one ∷ measures) entries key other e =
    ap (λ l. keep one.1 l ∷ kept_of keep measures entries other) (sym (members_alike entries key other one.0 e))
    ∙ ap (λ l. keep one.1 (members_in entries key one.0) ∷ l) (kept_alike keep measures entries key other e)

module _ {M K : Type 0} (keep : M → List Value → K) (merge : K → K → K) (keeps : (m : M) (members later : List Value) → keep m (members ++ later) ≡ merge (keep m members) (keep m later)) where
  both_kept : (measures : List (ℕ × M)) (entries later : List Entry) (key : Row) → merged_by merge (kept_of keep measures entries key) (kept_of keep measures later key) ≡ kept_of keep measures (entries ++ later) key
  both_kept [] entries later key = refl
  both_kept (one ∷ measures) entries later key =
      ap (λ x. x ∷ merged_by merge (kept_of keep measures entries key) (kept_of keep measures later key)) (sym (keeps one.1 (members_in entries key one.0) (members_in later key one.0)) ∙ sym (ap (keep one.1) (members-append entries later key one.0)))
      ∙ ap (λ l. keep one.1 (members_in (entries ++ later) key one.0) ∷ l) (both_kept measures entries later key)

  first_kept : (measures : List (ℕ × M)) (entries later : List Entry) (key : Row) → list_any (is_same_row key) (keys_of later) ≡ false → kept_of keep measures entries key ≡ kept_of keep measures (entries ++ later) key
  first_kept [] entries later key e = refl
  first_kept (one ∷ measures) entries later key e =
      ap (λ l. keep one.1 l ∷ kept_of keep measures entries key) (sym (append-nil (members_in entries key one.0)) ∙ sym (ap (λ l. members_in entries key one.0 ++ l) (no_members later key one.0 e)) ∙ sym (members-append entries later key one.0))
      ∙ ap (λ l. keep one.1 (members_in (entries ++ later) key one.0) ∷ l) (first_kept measures entries later key e)

  later_kept : (measures : List (ℕ × M)) (entries later : List Entry) (key : Row) → list_any (is_same_row key) (keys_of entries) ≡ false → kept_of keep measures later key ≡ kept_of keep measures (entries ++ later) key
  later_kept [] entries later key e = refl
  later_kept (one ∷ measures) entries later key e =
      ap (λ l. keep one.1 l ∷ kept_of keep measures later key) (sym (ap (λ l. l ++ members_in later key one.0) (no_members entries key one.0 e)) ∙ sym (members-append entries later key one.0))
      ∙ ap (λ l. keep one.1 (members_in (entries ++ later) key one.0) ∷ l) (later_kept measures entries later key e)

  nothing_after : (known : List K) → merged_by merge known [] ≡ known
  nothing_after [] = refl
  nothing_after (x ∷ known) = refl

  -- a key that one of both has
  kept_of_both : (measures : List (ℕ × M)) (entries later : List Entry) (key : Row) (b c : Bool) → list_any (is_same_row key) (keys_of entries) ≡ b → list_any (is_same_row key) (keys_of later) ≡ c → b || c ≡ true
      → merged_by merge (cond b (kept_of keep measures entries key) []) (cond c (kept_of keep measures later key) []) ≡ kept_of keep measures (entries ++ later) key
  kept_of_both measures entries later key true true h g e = both_kept measures entries later key
  kept_of_both measures entries later key true false h g e = nothing_after (kept_of keep measures entries key) ∙ first_kept measures entries later key g
  kept_of_both measures entries later key false true h g e = later_kept measures entries later key h
  kept_of_both measures entries later key false false h g e = absurd (cc)

-- the keys of both
one_alone : (alone : Row) (b : Bool) → is_same_row alone alone ≡ b → b ≡ true → alone ∷ cond (not b) (alone ∷ []) [] ≡ alone ∷ []
one_alone alone true e t = refl
one_alone alone false e t = absurd (cc)

pub keys_of_both : {A : Type 0} (groups : List A) (alone : Row) (entries later : List Entry) → keys_merged (keys_in groups alone entries) (keys_in groups alone later) ≡ keys_in groups alone (entries ++ later)
keys_of_both [] alone entries later = one_alone alone (is_same_row alone alone) refl (same_rows.itself alone)
keys_of_both (group ∷ groups) alone entries later = distinct_merged same_rows (keys_of entries) (keys_of later) ∙ sym (ap (distinct is_same_row) (map-append (λ entry. entry.0) entries later))

map_key : {G : Type 0} (key_of : G → Row) (group_of : Row → G) → ((key : Row) → key_of (group_of key) ≡ key) → (keys : List Row) → map key_of (map group_of keys) ≡ keys
map_key key_of group_of h [] = refl
map_key key_of group_of h (key ∷ keys) = ap (λ k. k ∷ map key_of (map group_of keys)) (h key) ∙ ap (λ l. key ∷ l) (map_key key_of group_of h keys)

-- the groups of these keys, with what is kept of each measure's members
abbrev pub groups_at : {M K G : Type 0} → (M → List Value → K) → (Row → List K → G) → List (ℕ × M) → List Entry → List Row → List G
groups_at keep make measures entries keys = map (λ key. make key (kept_of keep measures entries key)) keys

-- the group of a key in two lists of groups
abbrev pub in_both : {K G : Type 0} → (K → K → K) → (Row → List K → G) → (G → Row) → (G → List K) → List G → List G → Row → G
in_both merge make key_of known_of groups later key = make key (merged_by merge (known_at key_of known_of groups key) (known_at key_of known_of later key))

module _ {M K G : Type 0} (keep : M → List Value → K) (merge : K → K → K) (keeps : (m : M) (members later : List Value) → keep m (members ++ later) ≡ merge (keep m members) (keep m later))
    (make : Row → List K → G) (key_of : G → Row) (known_of : G → List K) (is_key : (key : Row) (known : List K) → key_of (make key known) ≡ key) (is_known : (key : Row) (known : List K) → known_of (make key known) ≡ known) where
  found : (measures : List (ℕ × M)) (entries : List Entry) (keys : List Row) (key : Row) → known_at key_of known_of (groups_at keep make measures entries keys) key ≡ cond (list_any (is_same_row key) keys) (kept_of keep measures entries key) []
  found measures entries keys key = known_found key_of known_of (λ k. make k (kept_of keep measures entries k)) (kept_of keep measures entries) (λ k. is_key k (kept_of keep measures entries k)) (λ k. is_known k (kept_of keep measures entries k)) key (λ k e. kept_alike keep measures entries key k e) keys

  found_both : (measures : List (ℕ × M)) (entries later : List Entry) (keys others : List Row) (key : Row) (b c : Bool) → list_any (is_same_row key) keys ≡ b → list_any (is_same_row key) others ≡ c
      → in_both merge make key_of known_of (groups_at keep make measures entries keys) (groups_at keep make measures later others) key ≡ make key (merged_by merge (cond b (kept_of keep measures entries key) []) (cond c (kept_of keep measures later key) []))
  found_both measures entries later keys others key b c h g =
      ap (λ l. make key (merged_by merge l (known_at key_of known_of (groups_at keep make measures later others) key))) (found measures entries keys key ∙ ap (λ t. cond t (kept_of keep measures entries key) []) h)
      ∙ ap (λ l. make key (merged_by merge (cond b (kept_of keep measures entries key) []) l)) (found measures later others key ∙ ap (λ t. cond t (kept_of keep measures later key) []) g)

  -- without grouping expressions
  lone_group : (measures : List (ℕ × M)) (alone : Row) (entries later : List Entry)
      → in_both merge make key_of known_of (groups_at keep make measures entries (alone ∷ [])) (groups_at keep make measures later (alone ∷ [])) alone ≡ make alone (kept_of keep measures (entries ++ later) alone)
  lone_group measures alone entries later =
      let there = ap (λ b. b || false) (same_rows.itself alone) in
      found_both measures entries later (alone ∷ []) (alone ∷ []) alone true true there there
      ∙ ap (make alone) (both_kept keep merge keeps measures entries later alone)

  any_key : (entries : List Entry) (key : Row) → list_any (is_same_row key) (distinct is_same_row (keys_of entries)) ≡ list_any (is_same_row key) (keys_of entries)
  any_key entries key = any-distinct is_same_row (is_same_row key) (sames_respect same_rows key) (keys_of entries)

  -- of a key of one of both
  keyed_group : (measures : List (ℕ × M)) (entries later : List Entry) (key : Row) → list_any (is_same_row key) (distinct is_same_row (keys_of (entries ++ later))) ≡ true
      → in_both merge make key_of known_of (groups_at keep make measures entries (distinct is_same_row (keys_of entries))) (groups_at keep make measures later (distinct is_same_row (keys_of later))) key ≡ make key (kept_of keep measures (entries ++ later) key)
  keyed_group measures entries later key e =
      let b = list_any (is_same_row key) (keys_of entries) in
      let c = list_any (is_same_row key) (keys_of later) in
      let either : list_any (is_same_row key) (keys_of entries) || list_any (is_same_row key) (keys_of later) ≡ true
      = sym (list_any-append (is_same_row key) (keys_of entries) (keys_of later)) ∙ sym (ap (list_any (is_same_row key)) (map-append (λ entry. entry.0) entries later)) ∙ sym (any_key (entries ++ later) key) ∙ e in
      found_both measures entries later (distinct is_same_row (keys_of entries)) (distinct is_same_row (keys_of later)) key b c (any_key entries key) (any_key later key)
      ∙ ap (make key) (kept_of_both keep merge keeps measures entries later key b c refl refl either)

  -- the groups of both
  pub groups_of_both : {A : Type 0} (measures : List (ℕ × M)) (groups : List A) (alone : Row) (entries later : List Entry)
      → map (in_both merge make key_of known_of (groups_at keep make measures entries (keys_in groups alone entries)) (groups_at keep make measures later (keys_in groups alone later)))
      (keys_merged (map key_of (groups_at keep make measures entries (keys_in groups alone entries))) (map key_of (groups_at keep make measures later (keys_in groups alone later))))
      ≡ groups_at keep make measures (entries ++ later) (keys_in groups alone (entries ++ later))
  groups_of_both measures groups alone entries later =
      let f = in_both merge make key_of known_of (groups_at keep make measures entries (keys_in groups alone entries)) (groups_at keep make measures later (keys_in groups alone later)) in
      ap (λ l. map (in_both merge make key_of known_of (groups_at keep make measures entries (keys_in groups alone entries)) (groups_at keep make measures later (keys_in groups alone later))) (keys_merged l (map key_of (groups_at keep make measures later (keys_in groups alone later)))))
      (map_key key_of (λ key. make key (kept_of keep measures entries key)) (λ key. is_key key (kept_of keep measures entries key)) (keys_in groups alone entries))
      ∙ ap (λ l. map (in_both merge make key_of known_of (groups_at keep make measures entries (keys_in groups alone entries)) (groups_at keep make measures later (keys_in groups alone later))) (keys_merged (keys_in groups alone entries) l))
      (map_key key_of (λ key. make key (kept_of keep measures later key)) (λ key. is_key key (kept_of keep measures later key)) (keys_in groups alone later))
      ∙ ap (map (in_both merge make key_of known_of (groups_at keep make measures entries (keys_in groups alone entries)) (groups_at keep make measures later (keys_in groups alone later)))) (keys_of_both groups alone entries later)
      ∙ each_group measures groups alone entries later
    where
      each_group : {A : Type 0} (measures : List (ℕ × M)) (groups : List A) (alone : Row) (entries later : List Entry)
          → map (in_both merge make key_of known_of (groups_at keep make measures entries (keys_in groups alone entries)) (groups_at keep make measures later (keys_in groups alone later))) (keys_in groups alone (entries ++ later))
          ≡ groups_at keep make measures (entries ++ later) (keys_in groups alone (entries ++ later))
      each_group measures [] alone entries later = ap (λ g. g ∷ []) (lone_group measures alone entries later)
      each_group measures (group ∷ groups) alone entries later = map_within _ _ (distinct is_same_row (keys_of (entries ++ later))) (λ key e. keyed_group measures entries later key e)
