-- What is known of a set, with rows more.
use Rattle.std.proofs.Common.{◌≡◌, ◌∙◌, ℕ, zero, suc, ◌+◌, ◌<◌, ◌≤◌, List, [], ◌∷◌, ◌++◌, ◌||◌, Bool, true, false, not, cond, map, length, take, get_or, refl, sym, ap, ap₂, subst, arith, Vec, Global}
use Rattle.std.specs.List.{All, list_any}
use Rattle.std.proofs.lemmas.List.{map-append, length-map, get_or-map, take_all}
use Rattle.std.proofs.lemmas.List.Folds.{list_any_more, list_any_at}
use Rattle.plan_typed.specs.declared.rel.SetMeasure.{SetMeasure}
use Rattle.plan_denote.specs.Computed.{Row}
use Rattle.plan_denote.specs.Distinct.{is_same_row, distinct}
use Rattle.plan_denote.specs.Aggregate.{Entry}
use Rattle.plan_denote.specs.GroupSets.{entry_in}
use Rattle.group_laws.proofs.SameLaws.{same_rows}
use Rattle.group_keys.specs.Keys.{with_item}
use Rattle.group_tallies.specs.declared.tallies.Keeping.{Keeping}
use Rattle.group_tallies.specs.declared.tallies.Tallies.{Tallies}
use Rattle.group_tallies.specs.Kept.{keeping_in, tallies_in}
use Rattle.group_numbers.specs.Keys.{IsKept, with_keys}
use Rattle.group_numbers.proofs.DistinctLaws.{with_keys-distinct, distinct_keys}
use Rattle.group_columns.specs.Columns.{keys_of, count_in, Covers}
use Rattle.group_states.specs.States.{IsSound, Knows, kept_in, columns_kept}
use Rattle.group_states.specs.declared.groups.Groups.{Groups}
use Rattle.group_firsts.specs.declared.firsts.Firsts.{Firsts}
use Rattle.group_firsts.specs.Firsts.{AreFirsts, AreWithin, key_in}
use Rattle.group_firsts.proofs.PairLaws.{as_many}
use Rattle.group_states.proofs.StateLaws.{are_there}
use Rattle.set_inputs.specs.declared.inputs.SetInputs.{SetInputs}
use Rattle.set_inputs.specs.Inputs.{columns_over, AreInputs}
use Rattle.set_inputs.proofs.KeyLaws.{set_pairs}
use Rattle.set_states.specs.declared.set.SetGroups.{SetGroups}
use Rattle.set_states.specs.States.{keeping, AreKept, AreNone, IsKnown, ArePairs}

pub as_kept : {A B : Type 0} (f : A → Keeping) (g : B → Keeping) (xs : List A) (ys : List B) → map f xs ≡ map g ys → length xs ≡ length ys
as_kept f g xs ys e = sym (length-map xs f) ∙ ap length e ∙ length-map ys g

keys_appended : (set : List ℕ) (entries later : List Entry) → keys_of (map (entry_in set) (entries ++ later)) ≡ keys_of (map (entry_in set) entries) ++ keys_of (map (entry_in set) later)
keys_appended set entries later =
    ap keys_of (map-append (entry_in set) entries later) ∙ map-append (λ (entry : Entry). entry.0) (map (entry_in set) entries) (map (entry_in set) later)

pub keys_more : (set : List ℕ) (entries later : List Entry) (old new more : List Row) → old ≡ distinct is_same_row (keys_of (map (entry_in set) entries)) → keys_of (map (entry_in set) later) ≡ more → new ≡ with_keys old more
    → new ≡ distinct is_same_row (keys_of (map (entry_in set) (entries ++ later)))
keys_more set entries later old new more is same grown =
    grown ∙ ap (λ l. with_keys l more) is ∙ ap (with_keys (distinct is_same_row (keys_of (map (entry_in set) entries)))) (sym same)
    ∙ with_keys-distinct (keys_of (map (entry_in set) entries)) (keys_of (map (entry_in set) later))
    ∙ ap (distinct is_same_row) (sym (keys_appended set entries later))

pub keys_both : (set : List ℕ) (entries more : List Entry) (old later new : List Row) → old ≡ distinct is_same_row (keys_of (map (entry_in set) entries)) → later ≡ distinct is_same_row (keys_of (map (entry_in set) more)) → new ≡ with_keys old later
    → new ≡ distinct is_same_row (keys_of (map (entry_in set) (entries ++ more)))
keys_both set entries more old later new is was grown =
    grown ∙ ap₂ with_keys is was ∙ distinct_keys (keys_of (map (entry_in set) entries)) (keys_of (map (entry_in set) more)) ∙ ap (distinct is_same_row) (sym (keys_appended set entries more))

-- ---- keys that are there already

or_true : (a b : Bool) → b ≡ true → a || b ≡ true
or_true true b e = refl
or_true false b e = e

any_head : (rows more : List Row) (key x : Row) (b : Bool) → is_same_row key x ≡ b → b || list_any (is_same_row key) rows ≡ true → (list_any (is_same_row key) rows ≡ true → list_any (is_same_row key) (rows ++ more) ≡ true)
    → is_same_row key x || list_any (is_same_row key) (rows ++ more) ≡ true
any_head rows more key x true f h rest = ap (λ t. t || list_any (is_same_row key) (rows ++ more)) f
any_head rows more key x false f h rest = or_true (is_same_row key x) (list_any (is_same_row key) (rows ++ more)) (rest h)

any_end : (rows more : List Row) (key : Row) → list_any (is_same_row key) rows ≡ true → list_any (is_same_row key) (rows ++ more) ≡ true
any_end [] more key e = absurd (cc)
any_end (x ∷ rows) more key e = any_head rows more key x (is_same_row key x) refl e (any_end rows more key)

any_last : (rows : List Row) (key : Row) → list_any (is_same_row key) (rows ++ key ∷ []) ≡ true
any_last [] key = ap (λ b. b || false) (same_rows.itself key)
any_last (x ∷ rows) key = or_true (is_same_row key x) (list_any (is_same_row key) (rows ++ key ∷ [])) (any_last rows key)

any_by : (rows : List Row) (key other : Row) (b : Bool) → list_any (is_same_row key) rows ≡ true → list_any (is_same_row key) (cond b rows (rows ++ other ∷ [])) ≡ true
any_by rows key other true e = e
any_by rows key other false e = any_end rows (other ∷ []) key e

any_still : (rows more : List Row) (key : Row) → list_any (is_same_row key) rows ≡ true → list_any (is_same_row key) (with_keys rows more) ≡ true
any_still rows [] key e = e
any_still rows (other ∷ more) key e = any_still (with_item is_same_row rows other) more key (any_by rows key other (list_any (is_same_row other) rows) e)

any_item : (rows : List Row) (key : Row) (b : Bool) → list_any (is_same_row key) rows ≡ b → list_any (is_same_row key) (cond b rows (rows ++ key ∷ [])) ≡ true
any_item rows key true e = e
any_item rows key false e = any_last rows key

-- the keys are all there
abbrev AreThere : List Row → List Row → Type 0
AreThere rows [] = Unit {0}
AreThere rows (key ∷ keys) = (list_any (is_same_row key) rows ≡ true) × AreThere rows keys

all_there : (rows more : List Row) → AreThere (with_keys rows more) more
all_there rows [] = tt
all_there rows (key ∷ more) =
    (any_still (with_item is_same_row rows key) more key (any_item rows key (list_any (is_same_row key) rows) refl), all_there (with_item is_same_row rows key) more)

nothing_new : (rows more : List Row) → AreThere rows more → with_keys rows more ≡ rows
nothing_new rows [] h = refl
nothing_new rows (key ∷ more) h = ap (λ b. with_keys (cond b rows (rows ++ key ∷ [])) more) h.0 ∙ nothing_new rows more h.1

pub again : (rows grown last more : List Row) → grown ≡ with_keys rows more → last ≡ with_keys grown more → last ≡ grown
again rows grown last more g e = e ∙ ap (λ l. with_keys l more) g ∙ nothing_new (with_keys rows more) more (all_there rows more) ∙ sym g

-- ---- measures over all values alone

none_distinct : (measures : List SetMeasure) (i : ℕ) (measure : SetMeasure) → list_any (λ (one : SetMeasure). one.distinct) measures ≡ false → i < length measures → measure ≡ get_or measures i measure → measure.distinct ≡ true → ⊥
none_distinct [] i measure e h is d = absurd (omega (arith, h))
none_distinct (one ∷ measures) zero measure e h is d = none_head one.distinct (list_any (λ (one : SetMeasure). one.distinct) measures) e (ap (λ (m : SetMeasure). m.distinct) (sym is) ∙ d)
  where
    none_head : (a b : Bool) → a || b ≡ false → a ≡ true → ⊥
    none_head true b f g = absurd (cc)
    none_head false b f g = absurd (cc)
none_distinct (one ∷ measures) (suc i) measure e h is d = none_distinct measures i measure (none_rest one.distinct (list_any (λ (one : SetMeasure). one.distinct) measures) e) (omega (arith, h)) is d
  where
    none_rest : (a b : Bool) → a || b ≡ false → b ≡ false
    none_rest true b f = absurd (cc)
    none_rest false b f = f

-- no measure so far is over distinct values, or one is
abbrev is_once : SetMeasure → Bool
is_once one = one.distinct

pub plain_more : (measures : List SetMeasure) (i : ℕ) (one : SetMeasure) → i < length measures → one ≡ get_or measures i one → list_any (λ (one : SetMeasure). one.distinct) (take i measures) ≡ false → one.distinct ≡ false → list_any (λ (one : SetMeasure). one.distinct) (take (i + 1) measures) ≡ false
plain_more measures i one lt is none plain = list_any_more is_once measures i one lt ∙ ap₂ (λ a b. a || b) none (ap is_once (sym is) ∙ plain)

pub not_plain : (measures : List SetMeasure) (i : ℕ) (one : SetMeasure) → i < length measures → one ≡ get_or measures i one → one.distinct ≡ true → false ≡ not (list_any (λ (one : SetMeasure). one.distinct) measures)
not_plain measures i one lt is e = ap not (sym (list_any_at is_once measures i one lt (ap is_once (sym is) ∙ e)))

pub all_plain : (measures : List SetMeasure) (i : ℕ) → length measures ≤ i → list_any (λ (one : SetMeasure). one.distinct) (take i measures) ≡ false → true ≡ not (list_any (λ (one : SetMeasure). one.distinct) measures)
all_plain measures i all none = ap not (sym (ap (list_any is_once) (sym (take_all i measures all)) ∙ none))

pub nothing_kept : (measures : List SetMeasure) (keys others : List Row) (entries later : List Entry) (firsts : List Firsts) → list_any (λ (one : SetMeasure). one.distinct) measures ≡ false → AreKept measures keys entries firsts → AreKept measures others later firsts
nothing_kept measures keys others entries later firsts none kept = record { many = kept.many; each = λ i h measure is d. absurd (none_distinct measures i measure none h is d) }

-- ---- a set with more

pub set_grown : (measures : List SetMeasure) (set : List ℕ) (entries later : List Entry) (new : SetGroups) (kinds : List Keeping) → IsSound new.groups → map keeping_in new.groups.columns.items ≡ kinds → kinds ≡ map keeping measures
    → new.groups.keys.rows ≡ distinct is_same_row (keys_of (map (entry_in set) (entries ++ later))) → Knows (map keeping measures) (map (entry_in set) entries ++ map (entry_in set) later) new.groups
    → AreKept measures new.groups.keys.rows (map (entry_in set) entries ++ map (entry_in set) later) new.firsts.items → IsKnown measures set (entries ++ later) new
set_grown measures set entries later new kinds sound kept was keys knows firsts =
    let all : map (entry_in set) entries ++ map (entry_in set) later ≡ map (entry_in set) (entries ++ later) = sym (map-append (entry_in set) entries later) in
    record {
      sound = sound;
      kept = kept ∙ was;
      keys = keys;
      knows = subst (λ l. Knows (map keeping measures) l new.groups) all knows;
      firsts = subst (λ l. AreKept measures new.groups.keys.rows l new.firsts.items) all firsts;
    }

-- the groups with their keys in another form
pub sound_again : (old new : Groups) → new.columns ≡ old.columns → new.rows ≡ old.rows → IsKept new.keys → new.keys.rows ≡ old.keys.rows → IsSound old → IsSound new
sound_again old new columns rows kept keys sound = record {
  kept = kept;
  sized = subst (λ l. All (λ tallies. length (tallies_in tallies) ≡ length l) new.columns.items) (sym keys) (subst (λ (l : Vec Tallies Global). All (λ tallies. length (tallies_in tallies) ≡ length old.keys.rows) l.items) (sym columns) sound.sized);
  counted = subst (λ n. All (λ tallies. count_in (tallies_in tallies) ≤ n) new.columns.items) (sym rows) (subst (λ (l : Vec Tallies Global). All (λ tallies. count_in (tallies_in tallies) ≤ old.rows) l.items) (sym columns) sound.counted);
}

pub knows_again : (kinds : List Keeping) (entries : List Entry) (old new : Groups) → new.columns ≡ old.columns → new.rows ≡ old.rows → new.keys.rows ≡ old.keys.rows → Knows kinds entries old → Knows kinds entries new
knows_again kinds entries old new columns rows keys knows = record {
  rows = rows ∙ knows.rows;
  covers = subst (λ l. Covers l entries) (sym keys) knows.covers;
  columns = ap (λ (l : Vec Tallies Global). map kept_in l.items) columns ∙ knows.columns ∙ ap (columns_kept 0 kinds entries) (sym keys);
}

pub pairs_in_set : (width : ℕ) (measures : List SetMeasure) (later : List Entry) (inputs : SetInputs) → AreInputs width measures later inputs → (set : List ℕ) → ArePairs measures (suc inputs.nulls) (columns_over inputs.nulls width set) inputs.batch (map (entry_in set) later)
pairs_in_set width measures later inputs are set i h measure is e = set_pairs width measures later inputs are set i measure h is e

-- how many rows a set has
pub set_rows : (measures : List SetMeasure) (set : List ℕ) (entries : List Entry) (one : SetGroups) → IsKnown measures set entries one → one.groups.rows ≡ length entries
set_rows measures set entries one known = known.knows.rows ∙ length-map entries (entry_in set)

pub set_at : (sets : List (Vec ℕ Global)) (i : ℕ) (set : Vec ℕ Global) → i < length sets → set ≡ get_or sets i set → get_or (map (λ (one : Vec ℕ Global). one.items) sets) i [] ≡ set.items
set_at sets i set lt is = get_or-map (λ (one : Vec ℕ Global). one.items) sets i set [] lt ∙ ap (λ (one : Vec ℕ Global). one.items) (sym is)

pub none_kept : (measures : List SetMeasure) (keys : List Row) (many : ℕ) (firsts : List Firsts) → many ≡ length measures → AreNone many firsts → AreKept measures keys [] firsts
none_kept measures keys many firsts e none = record { many = none.many ∙ e; each = λ i h measure is d one at. none.each i (omega (arith, h, e)) one at keys i }

-- values of so many groups
pub within_as : (groups : ℕ) (keys : List Row) (entries : List Entry) (place : ℕ) (firsts : Firsts) → groups ≡ length keys → AreFirsts keys entries place firsts → AreWithin groups firsts
within_as groups keys entries place firsts many are = record {
  kept = are.kept;
  sized = as_many keys firsts.groups.items (map key_in firsts.pairs.rows) are.owned ∙ length-map firsts.pairs.rows key_in;
  within = subst (λ n. All (λ group. group < n) firsts.groups.items) (sym many) (are_there keys firsts.groups.items (map key_in firsts.pairs.rows) are.owned);
}

pub plain_none : (any plain : Bool) → plain ≡ not any → plain ≡ true → any ≡ false
plain_none true plain e h = absurd (let n = sym h ∙ e in cc)
plain_none false plain e h = refl
