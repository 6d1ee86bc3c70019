-- What is known of the groups of rows, and rows more.
use Rattle.std.proofs.Common.{◌≡◌, ◌∙◌, ℕ, suc, ◌+◌, ◌<◌, ◌≤◌, List, [], ◌∷◌, ◌++◌, Bool, true, false, ◌||◌, Option, Some, None, cond, map, length, get_or, refl, sym, ap, subst, drop, drop-cons, arith, append_assoc}
use Rattle.std.specs.List.{All, list_any, slice_get}
use Rattle.std.proofs.lemmas.List.{map-append, length-append, length-map}
use Rattle.std.proofs.lemmas.List.Elements.{All-cons, All-nil, All-head, All-rest}
use Rattle.std.proofs.lemmas.List.Folds.{list_any-append}
use Rattle.std.proofs.lemmas.Option.{slice_get_within}
use Rattle.plan_denote.specs.Computed.{Row}
use Rattle.plan_denote.specs.Distinct.{is_same_row}
use Rattle.plan_denote.specs.Aggregate.{Entry}
use Rattle.group_laws.specs.Columns.{zipped}
use Rattle.group_laws.proofs.SameLaws.{same_rows}
use Rattle.group_keys.specs.Keys.{with_item}
use Rattle.group_tallies.specs.declared.tallies.Keeping.{Keeping}
use Rattle.group_tallies.specs.declared.tallies.Keeping.TheVariants as keepings
use Rattle.group_tallies.specs.declared.tallies.Tallies.{Tallies}
use Rattle.group_tallies.specs.Kept.{none, kept, keeping_in}
use Rattle.plan_denote.specs.Tally.{tally_of}
use Rattle.std.proofs.lemmas.List.Sums.{sum_by-cons}
use Rattle.group_numbers.specs.Keys.{IsOnce, AreAt, with_keys}
use Rattle.group_columns.specs.declared.taken.Taken.{Taken}
use Rattle.group_columns.specs.Columns.{padded, with_members, with_tallies, kept_at, keys_of, members_at, Covers, count_in}
use Rattle.group_columns.proofs.ColumnLaws.{rows_more, groups_more}
use Rattle.group_states.specs.States.{Kept, kept_in, with_rows, with_groups, columns_kept, AreTaken, kept_before, keys_before}

-- each measure's tallies
pub columns_more : (groups rows place : ℕ) (numbers : List ℕ) (keepings : List Keeping) (entries later : List Entry) (keys grown : List Row) (taken : List Taken)
    → ((keeping : Keeping) (place : ℕ) → with_members keeping (padded groups (map (kept_at keeping entries place) keys)) numbers (members_at place later) ≡ map (kept_at keeping (entries ++ later) place) grown)
    → length taken ≡ length keepings → AreTaken rows place taken later
    → zipped (with_rows groups numbers rows) (columns_kept place keepings entries keys) taken ≡ columns_kept place keepings (entries ++ later) grown
columns_more groups rows place numbers [] entries later keys grown taken law long are = refl
columns_more groups rows place numbers (keeping ∷ keepings) entries later keys grown [] law long are = absurd (omega (arith, long))
columns_more groups rows place numbers (keeping ∷ keepings) entries later keys grown (one ∷ taken) law long are =
    let rest = zipped (with_rows groups numbers rows) (columns_kept (suc place) keepings entries keys) taken in
    ap (λ m. record { keeping = keeping; tallies = with_members keeping (padded groups (map (kept_at keeping entries place) keys)) numbers m } ∷ rest) are.0
    ∙ ap (λ l. record { keeping = keeping; tallies = l } ∷ rest) (law keeping place)
    ∙ ap (λ l. record { keeping = keeping; tallies = map (kept_at keeping (entries ++ later) place) grown } ∷ l) (columns_more groups rows (suc place) numbers keepings entries later keys grown taken law (omega (arith, long)) are.1)

pub columns_merged : (groups place : ℕ) (numbers : List ℕ) (keepings : List Keeping) (entries more : List Entry) (keys others grown : List Row)
    → ((keeping : Keeping) (place : ℕ) → with_tallies (padded groups (map (kept_at keeping entries place) keys)) numbers (map (kept_at keeping more place) others) ≡ map (kept_at keeping (entries ++ more) place) grown)
    → zipped (with_groups groups numbers) (columns_kept place keepings entries keys) (columns_kept place keepings more others) ≡ columns_kept place keepings (entries ++ more) grown
columns_merged groups place numbers [] entries more keys others grown law = refl
columns_merged groups place numbers (keeping ∷ keepings) entries more keys others grown law =
    ap (λ l. record { keeping = keeping; tallies = l } ∷ zipped (with_groups groups numbers) (columns_kept (suc place) keepings entries keys) (columns_kept (suc place) keepings more others)) (law keeping place)
    ∙ ap (λ l. record { keeping = keeping; tallies = map (kept_at keeping (entries ++ more) place) grown } ∷ l) (columns_merged groups (suc place) numbers keepings entries more keys others grown law)

pub as_many : (place : ℕ) (keepings : List Keeping) (entries : List Entry) (keys : List Row) → length (columns_kept place keepings entries keys) ≡ length keepings
as_many place [] entries keys = refl
as_many place (keeping ∷ keepings) entries keys = ap suc (as_many (suc place) keepings entries keys)

-- keys that aren't there
none_head : (a b : Bool) → a || b ≡ false → (a ≡ false) × (b ≡ false)
none_head true b e = absurd (cc)
none_head false b e = (refl, e)

any_alike : (k x : Row) (others : List Row) → is_same_row k x ≡ true → list_any (is_same_row k) others ≡ list_any (is_same_row x) others
any_alike k x [] e = refl
any_alike k x (y ∷ others) e = ap (λ b. b || list_any (is_same_row k) others) (same_rows.congr k x y e) ∙ ap (λ b. is_same_row x y || b) (any_alike k x others e)

not_alike : (keys : List Row) (x k : Row) (t : Bool) → is_same_row k x ≡ t → list_any (is_same_row x) keys ≡ true → list_any (is_same_row k) keys ≡ false → t ≡ false
not_alike keys x k false s e h = refl
not_alike keys x k true s e h = sym e ∙ sym (any_alike k x keys s) ∙ h

none_of_item : (keys : List Row) (x k : Row) (b : Bool) → list_any (is_same_row x) keys ≡ b → list_any (is_same_row k) (cond b keys (keys ++ x ∷ [])) ≡ false → (list_any (is_same_row k) keys ≡ false) × (is_same_row k x ≡ false)
none_of_item keys x k true e h = (h, not_alike keys x k (is_same_row k x) refl e h)
none_of_item keys x k false e h =
    let both = none_head (list_any (is_same_row k) keys) (list_any (is_same_row k) (x ∷ [])) (sym (list_any-append (is_same_row k) keys (x ∷ [])) ∙ h) in
    (both.0, (none_head (is_same_row k x) false both.1).0)

none_of_keys : (keys more : List Row) (k : Row) → list_any (is_same_row k) (with_keys keys more) ≡ false → (list_any (is_same_row k) keys ≡ false) × (list_any (is_same_row k) more ≡ false)
none_of_keys keys [] k e = (e, refl)
none_of_keys keys (x ∷ more) k e =
    let rest = none_of_keys (with_item is_same_row keys x) more k e in
    let both = none_of_item keys x k (list_any (is_same_row x) keys) refl rest.0 in
    (both.0, ap (λ b. b || list_any (is_same_row k) more) both.1 ∙ rest.1)

pub covers_more : (keys more : List Row) (entries later : List Entry) → Covers keys entries → Covers more later → Covers (with_keys keys more) (entries ++ later)
covers_more keys more entries later covers covered k e =
    let both = none_of_keys keys more k e in
    ap (list_any (is_same_row k)) (map-append (λ entry. entry.0) entries later)
    ∙ list_any-append (is_same_row k) (keys_of entries) (keys_of later)
    ∙ ap (λ b. b || list_any (is_same_row k) (keys_of later)) (covers k both.0)
    ∙ covered k both.1

-- numbers are there
abbrev option_or : Option Row → List (Option Row) → Option Row
option_or other [] = other
option_or other (x ∷ xs) = x

pub are_there : (keys : List Row) (numbers : List ℕ) (rows : List Row) → AreAt keys numbers rows → All (λ number. number < length keys) numbers
are_there keys [] rows e = All-nil (λ number. number < length keys)
are_there keys (n ∷ numbers) [] e = absurd (cc)
are_there keys (n ∷ numbers) (row ∷ rows) e =
    All-cons (λ number. number < length keys) n numbers (slice_get_within keys n row (ap (option_or None) e)) (are_there keys numbers rows (ap (drop 1) e))

-- of each
pub each_of : {A : Type 0} (P Q : A → Type 0) → ((x : A) → P x → Q x) → (xs : List A) → All P xs → All Q xs
each_of P Q h [] ps = All-nil Q
each_of P Q h (x ∷ xs) ps = All-cons Q x xs (h x (All-head P x xs ps)) (each_of P Q h xs (All-rest P x xs (x ∷ xs) refl ps))

-- keys more are no fewer
longer_by : (keys : List Row) (key : Row) (b : Bool) → length keys ≤ length (cond b keys (keys ++ key ∷ []))
longer_by keys key true = omega arith
longer_by keys key false = omega (arith, length-append keys (key ∷ []))

pub longer : (keys more : List Row) → length keys ≤ length (with_keys keys more)
longer keys [] = omega arith
longer keys (key ∷ more) =
    let step = longer_by keys key (list_any (is_same_row key) keys) in
    let rest = longer (with_item is_same_row keys key) more in
    omega (arith, step, rest)

-- one column more
pub one_more : {A B C D : Type 0} (view : D → C) (pair : A → B → C) (whole : List C) (more : List D) (grown : List D) (made : D) (one : A) (rest : List A) (place : ℕ) (b : B) (others : List B)
    → place < length others → b ≡ get_or others place b → view made ≡ pair one b → grown ≡ more ++ made ∷ []
    → whole ≡ map view more ++ zipped pair (one ∷ rest) (drop place others) → whole ≡ map view grown ++ zipped pair rest (drop (place + 1) others)
one_more view pair whole more grown made one rest place b others h is v g e =
    let next : suc place ≡ place + 1 = omega arith in
    e
    ∙ ap (λ l. map view more ++ zipped pair (one ∷ rest) l) (drop-cons others place b h)
    ∙ ap (λ x. map view more ++ pair one x ∷ zipped pair rest (drop (suc place) others)) (sym is)
    ∙ ap (λ x. map view more ++ x ∷ zipped pair rest (drop (suc place) others)) (sym v)
    ∙ ap (λ n. map view more ++ view made ∷ zipped pair rest (drop n others)) next
    ∙ sym (append_assoc (map view more) (view made ∷ []) (zipped pair rest (drop (place + 1) others)))
    ∙ ap (λ l. l ++ zipped pair rest (drop (place + 1) others)) (sym (map-append view more (made ∷ [])) ∙ sym (ap (map view) g))

-- what columns keep, one column after the other
abbrev kind_or : Keeping → List Keeping → Keeping
kind_or other [] = other
kind_or other (x ∷ xs) = x

next_kinds : (kinds later : List Keeping) (one : Keeping) (place : ℕ) (d : Keeping) → place < length later → one ∷ kinds ≡ drop place later → one ∷ kinds ≡ get_or later place d ∷ drop (suc place) later
next_kinds kinds later one place d h e = e ∙ drop-cons later place d h

pub same_kind : (kinds later : List Keeping) (one : Keeping) (place : ℕ) (d : Keeping) → place < length later → one ∷ kinds ≡ drop place later → one ≡ get_or later place d
same_kind kinds later one place d h e = ap (kind_or d) (next_kinds kinds later one place d h e)

pub same_kinds : (kinds later : List Keeping) (one : Keeping) (place : ℕ) (d : Keeping) → place < length later → one ∷ kinds ≡ drop place later → kinds ≡ drop (place + 1) later
same_kinds kinds later one place d h e =
    let next : suc place ≡ place + 1 = omega arith in
    ap (drop 1) (next_kinds kinds later one place d h e) ∙ ap (λ n. drop n later) next

-- all columns
pub rows_known : (keepings : List Keeping) (entries later : List Entry) (keys grown : List Row) (numbers : List ℕ) (taken : List Taken) (rows : ℕ) (old : List Kept)
    → grown ≡ with_keys keys (keys_of later) → Covers keys entries → IsOnce grown → AreAt grown numbers (keys_of later) → old ≡ columns_kept 0 keepings entries keys → length taken ≡ length old → AreTaken rows 0 taken later
    → zipped (with_rows (length grown) numbers rows) old taken ≡ columns_kept 0 keepings (entries ++ later) grown
rows_known keepings entries later keys grown numbers taken rows old e covers once at is long are =
    let law : (keeping : Keeping) (place : ℕ) → with_members keeping (padded (length grown) (map (kept_at keeping entries place) keys)) numbers (members_at place later) ≡ map (kept_at keeping (entries ++ later) place) grown
    = λ keeping place. subst (λ k. with_members keeping (padded (length k) (map (kept_at keeping entries place) keys)) numbers (members_at place later) ≡ map (kept_at keeping (entries ++ later) place) k) (sym e)
    (rows_more keeping entries later place keys numbers covers (subst IsOnce e once) (subst (λ k. AreAt k numbers (keys_of later)) e at)) in
    ap (λ l. zipped (with_rows (length grown) numbers rows) l taken) is
    ∙ columns_more (length grown) rows 0 numbers keepings entries later keys grown taken law (long ∙ ap length is ∙ as_many 0 keepings entries keys) are

pub groups_known : (keepings : List Keeping) (entries more : List Entry) (keys others grown : List Row) (numbers : List ℕ) (old later : List Kept)
    → grown ≡ with_keys keys others → Covers keys entries → Covers others more → IsOnce grown → IsOnce others → AreAt grown numbers others → old ≡ columns_kept 0 keepings entries keys → later ≡ columns_kept 0 keepings more others
    → zipped (with_groups (length grown) numbers) old later ≡ columns_kept 0 keepings (entries ++ more) grown
groups_known keepings entries more keys others grown numbers old later e covers covered once others_once at is was =
    let law : (keeping : Keeping) (place : ℕ) → with_tallies (padded (length grown) (map (kept_at keeping entries place) keys)) numbers (map (kept_at keeping more place) others) ≡ map (kept_at keeping (entries ++ more) place) grown
    = λ keeping place. subst (λ k. with_tallies (padded (length k) (map (kept_at keeping entries place) keys)) numbers (map (kept_at keeping more place) others) ≡ map (kept_at keeping (entries ++ more) place) k) (sym e)
    (groups_more keeping entries more place keys others numbers covers covered (subst IsOnce e once) others_once (subst (λ k. AreAt k numbers others) e at)) in
    ap (λ l. zipped (with_groups (length grown) numbers) l later) is
    ∙ ap (zipped (with_groups (length grown) numbers) (columns_kept 0 keepings entries keys)) was
    ∙ columns_merged (length grown) 0 numbers keepings entries more keys others grown law

pub as_many_numbers : (keys : List Row) (numbers : List ℕ) (rows : List Row) → AreAt keys numbers rows → length numbers ≡ length rows
as_many_numbers keys numbers rows e = sym (length-map numbers (slice_get keys)) ∙ ap length e ∙ length-map rows (λ row. Some row)

-- what columns keep
abbrev pub kinds : List Kept → List Keeping
kinds kepts = map (λ (kept : Kept). kept.keeping) kepts

pub kinds_in : (columns : List Tallies) → map keeping_in columns ≡ kinds (map kept_in columns)
kinds_in [] = refl
kinds_in (one ∷ columns) = ap (λ l. keeping_in one ∷ l) (kinds_in columns)

pub kinds_with_rows : (groups rows : ℕ) (numbers : List ℕ) (kepts : List Kept) (taken : List Taken) → length taken ≡ length kepts → kinds (zipped (with_rows groups numbers rows) kepts taken) ≡ kinds kepts
kinds_with_rows groups rows numbers [] taken long = refl
kinds_with_rows groups rows numbers (one ∷ kepts) [] long = absurd (omega (arith, long))
kinds_with_rows groups rows numbers (one ∷ kepts) (t ∷ taken) long = ap (λ l. one.keeping ∷ l) (kinds_with_rows groups rows numbers kepts taken (omega (arith, long)))

pub kinds_with_groups : (groups : ℕ) (numbers : List ℕ) (kepts later : List Kept) → length later ≡ length kepts → kinds (zipped (with_groups groups numbers) kepts later) ≡ kinds kepts
kinds_with_groups groups numbers [] later long = refl
kinds_with_groups groups numbers (one ∷ kepts) [] long = absurd (omega (arith, long))
kinds_with_groups groups numbers (one ∷ kepts) (t ∷ later) long = ap (λ l. one.keeping ∷ l) (kinds_with_groups groups numbers kepts later (omega (arith, long)))

pub kinds_before : (is_grouped : Bool) (keepings : List Keeping) → kinds (map (kept_before is_grouped) keepings) ≡ keepings
kinds_before is_grouped [] = refl
kinds_before is_grouped (keeping ∷ keepings) = ap (λ l. keeping ∷ l) (kinds_before is_grouped keepings)

-- of no rows
nothing_kept : (keeping : Keeping) → none ≡ kept keeping (tally_of [])
nothing_kept keepings.Count = refl
nothing_kept keepings.Total = refl
nothing_kept keepings.Least = refl
nothing_kept keepings.Greatest = refl

kept_first : (is_grouped : Bool) (place : ℕ) (keeping : Keeping) → kept_before is_grouped keeping ≡ record { keeping = keeping; tallies = map (kept_at keeping [] place) (keys_before is_grouped) }
kept_first true place keeping = refl
kept_first false place keeping = ap (λ t. record { keeping = keeping; tallies = t ∷ [] }) (nothing_kept keeping)

pub columns_first : (is_grouped : Bool) (place : ℕ) (keepings : List Keeping) → map (kept_before is_grouped) keepings ≡ columns_kept place keepings [] (keys_before is_grouped)
columns_first is_grouped place [] = refl
columns_first is_grouped place (keeping ∷ keepings) =
    ap (λ k. k ∷ map (kept_before is_grouped) keepings) (kept_first is_grouped place keeping)
    ∙ ap (λ l. record { keeping = keeping; tallies = map (kept_at keeping [] place) (keys_before is_grouped) } ∷ l) (columns_first is_grouped (suc place) keepings)

abbrev kept_or : Kept → List Kept → Kept
kept_or other [] = other
kept_or other (x ∷ xs) = x

pub each_kept : (P : Kept → Type 0) (is_grouped : Bool) → ((keeping : Keeping) → P (kept_before is_grouped keeping)) → (columns : List Tallies) (keepings : List Keeping) → map kept_in columns ≡ map (kept_before is_grouped) keepings → All (λ tallies. P (kept_in tallies)) columns
each_kept P is_grouped h [] keepings e = All-nil (λ tallies. P (kept_in tallies))
each_kept P is_grouped h (one ∷ columns) [] e = absurd (cc)
each_kept P is_grouped h (one ∷ columns) (keeping ∷ keepings) e =
    All-cons (λ tallies. P (kept_in tallies)) one columns (subst P (sym (ap (kept_or (kept_in one)) e)) (h keeping)) (each_kept P is_grouped h columns keepings (ap (drop 1) e))

pub sized_first : (is_grouped : Bool) (keeping : Keeping) → length (kept_before is_grouped keeping).tallies ≡ length (keys_before is_grouped)
sized_first true keeping = refl
sized_first false keeping = refl

pub counted_first : (is_grouped : Bool) (keeping : Keeping) → count_in (kept_before is_grouped keeping).tallies ≤ 0
counted_first true keeping = let e : count_in [] ≡ 0 = refl in omega (arith, e)
counted_first false keeping = let e : count_in (none ∷ []) ≡ 0 + 0 = sum_by-cons (λ t. t.count) none [] in omega (arith, e)
