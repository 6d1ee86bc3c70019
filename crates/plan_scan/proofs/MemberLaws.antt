-- The winner of a oneof, found while its records are read.
use Rattle.std.proofs.Common.{◌≡◌, ◌∙◌, sym, ap, refl, subst, ℕ, List, [], ◌∷◌, Bool, true, false, cond, Option, Some, None, map, filter, ◌||◌, ◌&&◌, ◌==◌, ◌⊎◌, inl, inr, not, is_some}
use Rattle.std.specs.List.{last_or, list_any, cons_option}
use Rattle.std.specs.Option.{option_map}
use Rattle.std.proofs.lemmas.Bool.{and_from, and_parts, or_cases, eq-eqb, eqb-true}
use Rattle.pb_wire.specs.Records.{Content, Varint, Eight, Bytes, Four}
use Rattle.pb_wire.specs.Payloads.{Field, Member, behind_last, is_other, block_in, blocks, joined, merged_message, chosen_member}
use Rattle.plan_scan.specs.declared.shape.Shape.{Shape}
use Rattle.plan_scan.specs.declared.shape.Use.TheVariants.{Message}
use Rattle.plan_scan.specs.declared.oneof.OneOf.{OneOf}
use Rattle.plan_scan.specs.Table.{use_of, HoldsMessage}
use Rattle.plan_scan.specs.Member.{is_last, is_member, owner, has_number, has_wire_type, is_block}

-- the number of the last member of those that are left, or else the one so far
abbrev pub last_from : Option ℕ → (Field → Bool) → List Field → Option ℕ
last_from before is_member fields = last_or before (map (λ field. field.number) (filter is_member fields))

pub last_member : (is_member : Field → Bool) (before : Option ℕ) (field : Field) (fields : List Field) → is_member field ≡ true → last_from before is_member (field ∷ fields) ≡ last_from (Some field.number) is_member fields
last_member is_member before field fields e = ap (λ b. last_or before (map (λ f. f.number) (cond b (field ∷ filter is_member fields) (filter is_member fields)))) e

number_of_last : (before : Option Field) (fields : List Field) → option_map (λ field. field.number) (last_or before fields) ≡ last_or (option_map (λ field. field.number) before) (map (λ field. field.number) fields)
number_of_last before [] = refl
number_of_last before (field ∷ fields) = number_of_last (Some field) fields

-- what stands behind the last of those that are left that passes, or else what stands behind the last so far
abbrev pub since_or : (Field → Bool) → List Field → List Field → List Field
since_or test since fields = cond (list_any test fields) (behind_last test fields) since

pub since_start : (test : Field → Bool) (fields : List Field) → since_or test fields fields ≡ behind_last test fields
since_start test [] = refl
since_start test (field ∷ fields) = elim (list_any test (field ∷ fields)) as (λ b. cond b (cond b (behind_last test fields) (field ∷ fields)) (field ∷ fields) ≡ cond b (behind_last test fields) (field ∷ fields)) [
  | true ↦ refl
  | false ↦ refl
]

-- after a record that passes, what stands behind it counts
pub since_passed : (test : Field → Bool) (since : List Field) (field : Field) (fields : List Field) → test field ≡ true → since_or test since (field ∷ fields) ≡ since_or test fields fields
since_passed test since field fields e =
    ap (λ b. cond (b || list_any test fields) (cond (b || list_any test fields) (behind_last test fields) (field ∷ fields)) since) e ∙ sym (since_start test fields)

pub since_skipped : (test : Field → Bool) (since : List Field) (field : Field) (fields : List Field) → test field ≡ false → since_or test since (field ∷ fields) ≡ since_or test since fields
since_skipped test since field fields e =
    ap (λ b. cond (b || list_any test fields) (cond (b || list_any test fields) (behind_last test fields) (field ∷ fields)) since) e ∙ chosen (list_any test fields)
  where
    chosen : (b : Bool) → cond b (cond b (behind_last test fields) (field ∷ fields)) since ≡ cond b (behind_last test fields) since
    chosen true = refl
    chosen false = refl

-- the records from which the member of this number is read, where it is the last: those since the last record of any other
-- member that is left, or else, by whether it was the last so far, those since another member or those behind all members
abbrev pub records_from : (Field → Bool) → Option ℕ → List Field → List Field → List Field → ℕ → List Field
records_from is_member last since behind fields number = since_or (is_other is_member number) (cond (is_last last number) since behind) fields

abbrev pub won_from : (Field → Bool) → Option ℕ → List Field → List Field → List Field → ℕ → Member
won_from is_member last since behind fields number = record { number = number; records = records_from is_member last since behind fields number }

-- the winner, by the number of the last member so far, the records since any other one, those behind it, and those that are left
abbrev pub winner_from : (Field → Bool) → Option ℕ → List Field → List Field → List Field → Option Member
winner_from is_member last since behind fields = option_map (won_from is_member last since behind fields) (last_from last is_member fields)

-- winners with the same number, whose records are the same for each number
same_winner : (last last' : Option ℕ) (won won' : ℕ → Member) → last ≡ last' → ((number : ℕ) → won number ≡ won' number) → option_map won last ≡ option_map won' last'
same_winner last last' won won' e same = ap (option_map won) e ∙ each last'
  where
    each : (o : Option ℕ) → option_map won o ≡ option_map won' o
    each None = refl
    each (Some number) = ap Some (same number)

pub winner_start : (is_member : Field → Bool) (fields : List Field) → winner_from is_member None fields fields fields ≡ chosen_member is_member fields
winner_start is_member fields = ap (option_map (won_from is_member None fields fields fields)) (sym (number_of_last None (filter is_member fields))) ∙ each (last_or None (filter is_member fields))
  where
    each : (o : Option Field) → option_map (won_from is_member None fields fields fields) (option_map (λ field. field.number) o) ≡ option_map (λ last. record { number = last.number; records = behind_last (is_other is_member last.number) fields }) o
    each None = refl
    each (Some last) = ap (λ records. Some (record { number = last.number; records = records })) (since_start (is_other is_member last.number) fields)

-- after a record of a member, where the records are the same for its own number
after_member : (is_member : Field → Bool) (last : Option ℕ) (since behind kept : List Field) (field : Field) (fields : List Field) → is_member field ≡ true → cond (is_last last field.number) since behind ≡ kept → winner_from is_member last since behind (field ∷ fields) ≡ winner_from is_member (Some field.number) kept fields fields
after_member is_member last since behind kept field fields e keeps =
    same_winner _ _ (won_from is_member last since behind (field ∷ fields)) (won_from is_member (Some field.number) kept fields fields) (last_member is_member last field fields e)
    (λ number. ap (λ records. record { number = number; records = records }) (same number))
  where
    same : (number : ℕ) → records_from is_member last since behind (field ∷ fields) number ≡ records_from is_member (Some field.number) kept fields fields number
    same number =
        (elim (field.number == number) as (λ b. (field.number == number) ≡ b → records_from is_member last since behind (field ∷ fields) number ≡ since_or (is_other is_member number) (cond b kept fields) fields) [
          | true ↦ λ is.
              let here : field.number ≡ number = eqb-true field.number number is in
              since_skipped (is_other is_member number) (cond (is_last last number) since behind) field fields (ap (λ b. is_member field && not b) is ∙ ap (λ b. b && false) e)
              ∙ ap (λ s. since_or (is_other is_member number) s fields) (ap (λ n. cond (is_last last n) since behind) (sym here) ∙ keeps)
          | false ↦ λ other. since_passed (is_other is_member number) (cond (is_last last number) since behind) field fields (and_from (is_member field) (not (field.number == number)) e (ap not other))
        ]) refl

-- a record of the last member so far
pub winner_again : (is_member : Field → Bool) (last : Option ℕ) (since behind : List Field) (field : Field) (fields : List Field) → is_member field ≡ true → is_last last field.number ≡ true → winner_from is_member last since behind (field ∷ fields) ≡ winner_from is_member (Some field.number) since fields fields
winner_again is_member last since behind field fields e is = after_member is_member last since behind since field fields e (ap (λ b. cond b since behind) is)

-- a record of another member than the last so far
pub winner_changed : (is_member : Field → Bool) (last : Option ℕ) (since behind : List Field) (field : Field) (fields : List Field) → is_member field ≡ true → is_last last field.number ≡ false → winner_from is_member last since behind (field ∷ fields) ≡ winner_from is_member (Some field.number) behind fields fields
winner_changed is_member last since behind field fields e other = after_member is_member last since behind behind field fields e (ap (λ b. cond b since behind) other)

-- a record of no member
pub winner_skipped : (is_member : Field → Bool) (last : Option ℕ) (since behind : List Field) (field : Field) (fields : List Field) → is_member field ≡ false → winner_from is_member last since behind (field ∷ fields) ≡ winner_from is_member last since behind fields
winner_skipped is_member last since behind field fields e =
    same_winner _ _ (won_from is_member last since behind (field ∷ fields)) (won_from is_member last since behind fields)
    (ap (λ b. last_or last (map (λ (f : Field). f.number) (cond b (field ∷ filter is_member fields) (filter is_member fields)))) e)
    (λ number. ap (λ records. member_from number records) (since_skipped (is_other is_member number) (cond (is_last last number) since behind) field fields (ap (λ b. b && not (field.number == number)) e)))
  where
    member_from : ℕ → List Field → Member
    member_from number records = record { number = number; records = records }

-- nothing is left
pub winner_end : (is_member : Field → Bool) (number : ℕ) (since behind : List Field) → winner_from is_member (Some number) since behind [] ≡ Some (record { number = number; records = since })
winner_end is_member number since behind = ap (λ b. Some (record { number = number; records = cond b since behind })) (eq-eqb number number refl)

-- the records of the winner are those since the last of any other member
pub winner_records : (is_member : Field → Bool) (fields : List Field) (won : Member) → chosen_member is_member fields ≡ Some won → won.records ≡ behind_last (is_other is_member won.number) fields
winner_records is_member fields won chosen =
    (elim (last_or None (filter is_member fields)) as (λ last. option_map won_by last ≡ Some won → won.records ≡ behind_last (is_other is_member won.number) fields) [
      | None ↦ λ h. cc
      | Some last ↦ λ h.
          let same : won_by last ≡ won = cc in
          let P : Member → Type 0 = λ m. m.records ≡ behind_last (is_other is_member m.number) fields in
          subst P same refl
    ]) chosen
  where
    won_by : Field → Member
    won_by last = record { number = last.number; records = behind_last (is_other is_member last.number) fields }

-- a record of the member of this number
abbrev pub is_winner : (Field → Bool) → ℕ → Field → Bool
is_winner is_member number field = is_member field && (field.number == number)

-- the last of the members is among the records, unless it came before them
last_among : (is_member : Field → Bool) (before : Option Field) (fields : List Field) (last : Field) → last_or before (filter is_member fields) ≡ Some last → (list_any (is_winner is_member last.number) fields ≡ true) ⊎ (before ≡ Some last)
last_among is_member before [] last e = inr e
last_among is_member before (field ∷ fields) last e =
    (elim (is_member field) as (λ b. is_member field ≡ b → last_or before (cond b (field ∷ filter is_member fields) (filter is_member fields)) ≡ Some last → (list_any (is_winner is_member last.number) (field ∷ fields) ≡ true) ⊎ (before ≡ Some last)) [
      | true ↦ λ member h. (elim (last_among is_member (Some field) fields last h) [
        | inl later ↦ inl (or_right (is_winner is_member last.number field) later)
        | inr here ↦
            let same : field ≡ last = cc in
            let number : field.number ≡ last.number = ap (λ f. f.number) same in
            inl (or_left (list_any (is_winner is_member last.number) fields) (and_from (is_member field) (field.number == last.number) member (eq-eqb field.number last.number number)))
      ])
      | false ↦ λ other h. (elim (last_among is_member before fields last h) [
        | inl later ↦ inl (or_right (is_winner is_member last.number field) later)
        | inr earlier ↦ inr earlier
      ])
    ]) refl e
  where
    or_right : (a : Bool) {b : Bool} → b ≡ true → (a || b) ≡ true
    or_right true e = refl
    or_right false e = e

    or_left : {a : Bool} (b : Bool) → a ≡ true → (a || b) ≡ true
    or_left b e = ap (λ a. a || b) e

-- where there is no member, there is no other one
no_other : (is_member : Field → Bool) (number : ℕ) (fields : List Field) → filter is_member fields ≡ [] → list_any (is_other is_member number) fields ≡ false
no_other is_member number [] e = refl
no_other is_member number (field ∷ fields) e =
    (elim (is_member field) as (λ b. is_member field ≡ b → cond b (field ∷ filter is_member fields) (filter is_member fields) ≡ [] → list_any (is_other is_member number) (field ∷ fields) ≡ false) [
      | true ↦ λ member h. cc
      | false ↦ λ other h. ap (λ b. (b && not (field.number == number)) || list_any (is_other is_member number) fields) other ∙ no_other is_member number fields h
    ]) refl e

-- the last member, where members stand before it, is the last of the rest
last_of_rest : (is_member : Field → Bool) (field : Field) (fields : List Field) (last : Field) → is_member field ≡ true → list_any (is_other is_member last.number) (field ∷ fields) ≡ true → last_or (Some field) (filter is_member fields) ≡ Some last → last_or None (filter is_member fields) ≡ Some last
last_of_rest is_member field fields last member any e =
    (elim (filter is_member fields) as (λ members. filter is_member fields ≡ members → last_or (Some field) members ≡ Some last → last_or None members ≡ Some last) [
      | [] ↦ λ none h.
          let same : field ≡ last = cc in
          let number : (field.number == last.number) ≡ true = eq-eqb field.number last.number (ap (λ f. f.number) same) in
          let here : is_other is_member last.number field ≡ false = ap (λ b. is_member field && not b) number ∙ ap (λ b. b && false) member in
          let all : list_any (is_other is_member last.number) (field ∷ fields) ≡ false = ap (λ b. b || list_any (is_other is_member last.number) fields) here ∙ no_other is_member last.number fields none in
          cc
      | next ∷ members ↦ λ some h. h
    ]) refl e

-- the winner is among the records from which it is read
pub winner_behind : (is_member : Field → Bool) (fields : List Field) (last : Field) → last_or None (filter is_member fields) ≡ Some last → list_any (is_winner is_member last.number) (behind_last (is_other is_member last.number) fields) ≡ true
winner_behind is_member [] last e = cc
winner_behind is_member (field ∷ fields) last e =
    (elim (list_any (is_other is_member last.number) (field ∷ fields)) as (λ b. list_any (is_other is_member last.number) (field ∷ fields) ≡ b → list_any (is_winner is_member last.number) (cond b (behind_last (is_other is_member last.number) fields) (field ∷ fields)) ≡ true) [
      | true ↦ λ any. winner_behind is_member fields last (rest any)
      | false ↦ λ none. elim (last_among is_member None (field ∷ fields) last e) [ inl h ↦ h | inr h ↦ cc ]
    ]) refl
  where
    rest : list_any (is_other is_member last.number) (field ∷ fields) ≡ true → last_or None (filter is_member fields) ≡ Some last
    rest any = (elim (is_member field) as (λ b. is_member field ≡ b → last_or None (cond b (field ∷ filter is_member fields) (filter is_member fields)) ≡ Some last → last_or None (filter is_member fields) ≡ Some last) [
      | true ↦ λ member h. last_of_rest is_member field fields last member any h
      | false ↦ λ other h. h
    ]) refl e

content_there : (number here : ℕ) (content : Content) (rest : List Field) → (here == number) ≡ true → is_block content ≡ true → is_some (joined (cons_option (block_in number (record { number = here; content = content })) (blocks number rest))) ≡ true
content_there number here (Varint value) rest same block = cc
content_there number here (Eight value) rest same block = cc
content_there number here (Four value) rest same block = cc
content_there number here (Bytes bytes) rest same block = ap (λ b. is_some (joined (cons_option (cond b (Some bytes) None) (blocks number rest)))) same

more_there : (block : Option (List ℕ)) (rest : List (List ℕ)) → is_some (joined rest) ≡ true → is_some (joined (cons_option block rest)) ≡ true
more_there None rest e = e
more_there (Some bytes) rest e = refl

-- a member that is a message is there among those records
message_there : (oneof : OneOf) (number : ℕ) (inner : Shape) → HoldsMessage (owner oneof) number inner → (fields : List Field) → list_any (is_winner (is_member oneof) number) fields ≡ true → is_some (merged_message number fields) ≡ true
message_there oneof number inner holds [] any = cc
message_there oneof number inner holds (field ∷ fields) any = elim (or_cases (is_winner (is_member oneof) number field) (list_any (is_winner (is_member oneof) number) fields) any) [
  | inl here ↦
      let both = and_parts (is_member oneof field) (field.number == number) here in
      let wire = (and_parts (has_number oneof field.number) (has_wire_type (use_of (owner oneof) field.number) field.content) both.0).1 in
      let use_is : use_of (owner oneof) field.number ≡ Message inner = ap (use_of (owner oneof)) (eqb-true field.number number both.1) ∙ holds in
      content_there number field.number field.content fields both.1 (ap (λ h. has_wire_type h field.content) (sym use_is) ∙ wire)
  | inr later ↦ more_there (block_in number field) (blocks number fields) (message_there oneof number inner holds fields later)
]

pub winner_there : (oneof : OneOf) (inner : Shape) (fields : List Field) (won : Member) → chosen_member (is_member oneof) fields ≡ Some won → HoldsMessage (owner oneof) won.number inner → is_some (merged_message won.number won.records) ≡ true
winner_there oneof inner fields won chosen holds =
    (elim (last_or None (filter (is_member oneof) fields)) as (λ last. last_or None (filter (is_member oneof) fields) ≡ last → option_map (won_by oneof fields) last ≡ Some won → is_some (merged_message won.number won.records) ≡ true) [
      | None ↦ λ none h. cc
      | Some last ↦ λ some h.
          let same : won_by oneof fields last ≡ won = cc in
          let P : Member → Type 0 = λ m. HoldsMessage (owner oneof) m.number inner → is_some (merged_message m.number m.records) ≡ true in
          subst P same (λ here. message_there oneof last.number inner here (behind_last (is_other (is_member oneof) last.number) fields) (winner_behind (is_member oneof) fields last some)) holds
    ]) refl chosen
  where
    won_by : OneOf → List Field → Field → Member
    won_by oneof fields last = record { number = last.number; records = behind_last (is_other (is_member oneof) last.number) fields }

-- there was no last member
pub none_before : (last : Option ℕ) (is_none : Bool) → is_some last ≡ not is_none → is_none ≡ true → last ≡ None
none_before None is_none same none = refl
none_before (Some number) is_none same none = absurd (cc)
