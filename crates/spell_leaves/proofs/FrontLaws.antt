-- Messages that are written from the last record to the first.
use Rattle.std.proofs.Common.{◌≡◌, ◌∙◌, sym, ap, refl, subst, ℕ, zero, suc, ◌-◌, ◌^◌, ◌<◌, ◌≤◌, ℤ, pos, negsuc, List, [], ◌∷◌, ◌++◌, map, Result, IfOk, OnOk, Bool, true, false, if◌then◌else◌, drop, get_or, length, arith, drop-cons, append_assoc, append-nil}
use Rattle.std.specs.List.{flat_map}
use Rattle.std.proofs.lemmas.Grind.{flat_map-append}
use Rattle.std.proofs.lemmas.List.{length-map}
use Rattle.std.proofs.lemmas.Result.{IfOk-weaker, on_ok_weaker}
use Rattle.pb_wire.specs.Records.{Varint, Bytes}
use Rattle.pb_wire.specs.Payloads.{Field}
use Rattle.pb_write.specs.Write.{varint_bytes, record_bytes, message_bytes, packed_bytes}
use Rattle.plan_scan.specs.declared.shape.Shape.{Shape}
use Rattle.plan_scan.specs.declared.shape.Shape.TheVariants as s
use Rattle.plan_spell.specs.Nodes.{Node}
use Rattle.plan_spell.specs.Held.{Part, Writer, contents, part_fields, fields_by, presence, whole_varint, unless_none, unless_zero, unless_empty, packed}
use Rattle.plan_spell.specs.Parts.{parts_of}
use Rattle.plan_spell.specs.Spelled.{spelled_at}
use Rattle.spell_leaves.specs.declared.part.HeldRef.{HeldRef}
use Rattle.spell_leaves.specs.declared.part.HeldRef.TheVariants as h
use Rattle.spell_leaves.specs.declared.part.MessagesRef.{MessagesRef}
use Rattle.spell_leaves.specs.declared.part.PartRef.{PartRef}
use Rattle.spell_leaves.specs.Seen.{Group, messages_seen, held_seen, part_seen, parts_seen, varint_records, block_records}

-- an item in front of those behind it
behind : {A : Type 0} (xs : List A) (left : ℕ) (x d : A) → 0 < left → left ≤ length xs → x ≡ get_or xs (left - 1) d → drop (left - 1) xs ≡ x ∷ drop left xs
behind xs left x d some within is =
    let one : suc (left - 1) ≡ left = omega (arith, some) in
    drop-cons xs (left - 1) d (omega (arith, some, within)) ∙ (λ i. sym is i ∷ drop (one i) xs)

drop_whole : {A : Type 0} (xs : List A) → drop (length xs) xs ≡ []
drop_whole [] = refl
drop_whole (x ∷ xs) = drop_whole xs

-- what items give, from the last to the first
pub items_front : {A : Type 0} (f : A → List ℕ) (xs : List A) (left : ℕ) (x d : A) (out rest new : List ℕ) → 0 < left → left ≤ length xs → x ≡ get_or xs (left - 1) d → rest ≡ flat_map f (drop left xs) ++ out → new ≡ f x ++ rest → new ≡ flat_map f (drop (left - 1) xs) ++ out
items_front f xs left x d out rest new some within is done put =
    put ∙ ap (λ r. f x ++ r) done ∙ sym (append_assoc (f x) (flat_map f (drop left xs)) out) ∙ ap (λ ys. flat_map f ys ++ out) (sym (behind xs left x d some within is))

flat_mapped : {A B : Type 0} (f : B → List ℕ) (g : A → B) (xs : List A) → flat_map f (map g xs) ≡ flat_map (λ x. f (g x)) xs
flat_mapped f g [] = refl
flat_mapped f g (x ∷ xs) = ap (λ rest. f (g x) ++ rest) (flat_mapped f g xs)

pub varint_part : (number : ℕ) (values : List ℕ) → message_bytes (map (λ content. record { number = number; content = content }) (map Varint values)) ≡ varint_records number values
unfolding message_bytes varint_records
varint_part number [] = refl
varint_part number (value ∷ values) = ap (λ rest. record_bytes (record { number = number; content = Varint value }) ++ rest) (varint_part number values)

pub block_part : (number : ℕ) (blocks : List (List ℕ)) → message_bytes (map (λ content. record { number = number; content = content }) (map Bytes blocks)) ≡ block_records number blocks
unfolding message_bytes block_records
block_part number [] = refl
block_part number (block ∷ blocks) = ap (λ rest. record_bytes (record { number = number; content = Bytes block }) ++ rest) (block_part number blocks)

-- the records of a field
pub varints_put : (write : Writer) (part : Part) (values out new : List ℕ) → contents write part.held ≡ map Varint values → new ≡ varint_records part.number values ++ out → new ≡ message_bytes (part_fields write part) ++ out
varints_put write part values out new are put = put ∙ ap (λ b. b ++ out) (sym (varint_part part.number values) ∙ ap (λ c. message_bytes (map (λ content. record { number = part.number; content = content }) c)) (sym are))

pub blocks_put : (write : Writer) (part : Part) (blocks : List (List ℕ)) (out new : List ℕ) → contents write part.held ≡ map Bytes blocks → new ≡ block_records part.number blocks ++ out → new ≡ message_bytes (part_fields write part) ++ out
blocks_put write part blocks out new are put = put ∙ ap (λ b. b ++ out) (sym (block_part part.number blocks) ∙ ap (λ c. message_bytes (map (λ content. record { number = part.number; content = content }) c)) (sym are))

-- an empty message at any level
empty_spelled : (levels : ℕ) → spelled_at levels s.Empty tt ≡ []
unfolding spelled_at message_bytes
empty_spelled zero = refl
empty_spelled (suc levels) = refl

pub presence_put : (levels number : ℕ) (is_there : Bool) (out new : List ℕ) → new ≡ block_records number (if is_there then [] ∷ [] else []) ++ out → new ≡ message_bytes (part_fields (spelled_at levels) (presence number is_there)) ++ out
presence_put levels number true out new put = put ∙ ap (λ b. b ++ out) (sym (block_part number ([] ∷ [])) ∙ ap (λ b. message_bytes (record { number = number; content = Bytes b } ∷ [])) (sym (empty_spelled levels)))
presence_put levels number false out new put = put ∙ ap (λ b. b ++ out) (sym (block_part number []))

-- one record
pub one_varint : (number value : ℕ) (out new : List ℕ) → new ≡ record_bytes (record { number = number; content = Varint value }) ++ out → new ≡ varint_records number (value ∷ []) ++ out
unfolding varint_records
one_varint number value out new put = put ∙ ap (λ b. b ++ out) (sym (append-nil (record_bytes (record { number = number; content = Varint value }))))

pub one_block : (number : ℕ) (block out new : List ℕ) → new ≡ record_bytes (record { number = number; content = Bytes block }) ++ out → new ≡ block_records number (block ∷ []) ++ out
unfolding block_records
one_block number block out new put = put ∙ ap (λ b. b ++ out) (sym (append-nil (record_bytes (record { number = number; content = Bytes block }))))

-- nothing is written of a number that is 0
pub some_number : (value : ℕ) → 1 ≤ value → unless_none value ≡ value ∷ []
some_number zero some = absurd (omega (arith, some))
some_number (suc value) some = refl

pub none_put : (number value : ℕ) (out : List ℕ) → value ≡ 0 → out ≡ varint_records number (unless_none value) ++ out
unfolding varint_records
none_put number value out none = ap (λ v. varint_records number (unless_none v) ++ out) (sym none)

pub zero_put : (number : ℕ) (value : ℤ) (out : List ℕ) → value ≡ pos 0 → out ≡ varint_records number (map whole_varint (unless_zero value)) ++ out
unfolding varint_records
zero_put number value out none = ap (λ v. varint_records number (map whole_varint (unless_zero v)) ++ out) (sym none)

pub other_number : (value : ℤ) → (value ≡ pos 0 → ⊥) → unless_zero value ≡ value ∷ []
other_number (pos zero) other = absurd (other refl)
other_number (pos (suc value)) other = refl
other_number (negsuc value) other = refl

pub no_varint : (number : ℕ) (out : List ℕ) → out ≡ varint_records number [] ++ out
unfolding varint_records
no_varint number out = refl

pub no_block : (number : ℕ) (out : List ℕ) → out ≡ block_records number [] ++ out
unfolding block_records
no_block number out = refl

pub some_block : (block : List ℕ) → (block ≡ [] → ⊥) → unless_empty block ≡ block ∷ []
some_block [] some = absurd (some refl)
some_block (byte ∷ block) some = refl

pub some_packed : (numbers : List ℕ) → (numbers ≡ [] → ⊥) → packed numbers ≡ packed_bytes numbers ∷ []
some_packed [] some = absurd (some refl)
some_packed (number ∷ numbers) some = refl

pub none_packed : (numbers : List ℤ) → numbers ≡ [] → packed (map whole_varint numbers) ≡ []
none_packed numbers none = ap (λ ns. packed (map whole_varint ns)) none

pub some_int32s : (numbers : List ℤ) → (numbers ≡ [] → ⊥) → packed (map whole_varint numbers) ≡ packed_bytes (map whole_varint numbers) ∷ []
some_int32s [] some = absurd (some refl)
some_int32s (number ∷ numbers) some = refl

pub int32s_none : (number : ℕ) (numbers : List ℤ) (out : List ℕ) → numbers ≡ [] → out ≡ block_records number (packed (map whole_varint numbers)) ++ out
int32s_none number numbers out none = no_block number out ∙ ap (λ bs. block_records number bs ++ out) (sym (none_packed numbers none))

pub int32s_put : (number : ℕ) (numbers : List ℤ) (out new : List ℕ) → (numbers ≡ [] → ⊥) → new ≡ record_bytes (record { number = number; content = Bytes (packed_bytes (map whole_varint numbers)) }) ++ out → new ≡ block_records number (packed (map whole_varint numbers)) ++ out
int32s_put number numbers out new some put = one_block number (packed_bytes (map whole_varint numbers)) out new put ∙ ap (λ bs. block_records number bs ++ out) (sym (some_int32s numbers some))

-- a block in front of those behind it
pub block_front : (number : ℕ) (blocks : List (List ℕ)) (left : ℕ) (block d out rest new : List ℕ) → 0 < left → left ≤ length blocks → block ≡ get_or blocks (left - 1) d → rest ≡ block_records number (drop left blocks) ++ out
    → new ≡ record_bytes (record { number = number; content = Bytes block }) ++ rest → new ≡ block_records number (drop (left - 1) blocks) ++ out
unfolding block_records
block_front number blocks left block d out rest new some within is done put = items_front (λ block. record_bytes (record { number = number; content = Bytes block })) blocks left block d out rest new some within is done put

-- a message in front of those behind it
pub message_front : {A : Type 0} (number : ℕ) (spell : A → List ℕ) (nodes : List A) (left before : ℕ) (out old rest new : List ℕ) → 0 < left → left ≤ length nodes → old ≡ block_records number (drop left (map spell nodes)) ++ out → before ≡ length old
    → rest ≡ get_or (map spell nodes) (left - 1) [] ++ old → ((bytes rest_ : List ℕ) → rest ≡ bytes ++ rest_ → length rest_ ≡ before → new ≡ record_bytes (record { number = number; content = Bytes bytes }) ++ rest_) → new ≡ block_records number (drop (left - 1) (map spell nodes)) ++ out
message_front number spell nodes left before out old rest new some within done size put closed =
    block_front number (map spell nodes) left (get_or (map spell nodes) (left - 1) []) [] out old new some (omega (arith, within, length-map nodes spell)) refl done (closed (get_or (map spell nodes) (left - 1) []) old put (sym size))

-- numbers of a packed block
pub uint32_front : (numbers : List ℕ) (left number : ℕ) (out rest new : List ℕ) → 0 < left → left ≤ length numbers → number ≡ get_or numbers (left - 1) 0 → rest ≡ packed_bytes (drop left numbers) ++ out → new ≡ varint_bytes number ++ rest → new ≡ packed_bytes (drop (left - 1) numbers) ++ out
unfolding packed_bytes
uint32_front numbers left number out rest new some within is done put = items_front varint_bytes numbers left number 0 out rest new some within is done put

pub int32_front : (numbers : List ℤ) (left : ℕ) (number d : ℤ) (out rest new : List ℕ) → 0 < left → left ≤ length numbers → number ≡ get_or numbers (left - 1) d → rest ≡ packed_bytes (map whole_varint (drop left numbers)) ++ out → new ≡ varint_bytes (whole_varint number) ++ rest
    → new ≡ packed_bytes (map whole_varint (drop (left - 1) numbers)) ++ out
unfolding packed_bytes
int32_front numbers left number d out rest new some within is done put =
    items_front (λ n. varint_bytes (whole_varint n)) numbers left number d out rest new some within is (done ∙ ap (λ b. b ++ out) (flat_mapped varint_bytes whole_varint (drop left numbers))) put
    ∙ ap (λ b. b ++ out) (sym (flat_mapped varint_bytes whole_varint (drop (left - 1) numbers)))

-- fields, from the last to the first
message_append : (xs ys : List Field) → message_bytes (xs ++ ys) ≡ message_bytes xs ++ message_bytes ys
unfolding message_bytes
message_append xs ys = flat_map-append record_bytes xs ys

pub part_front : {P : Type 0} (seen : P → Part) (write : Writer) (parts : List P) (left : ℕ) (part d : P) (out rest new : List ℕ) → 0 < left → left ≤ length parts → part ≡ get_or parts (left - 1) d → rest ≡ message_bytes (fields_by write (map seen (drop left parts))) ++ out
    → new ≡ message_bytes (part_fields write (seen part)) ++ rest → new ≡ message_bytes (fields_by write (map seen (drop (left - 1) parts))) ++ out
part_front seen write parts left part d out rest new some within is done put =
    let later = fields_by write (map seen (drop left parts)) in
    put ∙ ap (λ r. message_bytes (part_fields write (seen part)) ++ r) done
    ∙ sym (append_assoc (message_bytes (part_fields write (seen part))) (message_bytes later) out)
    ∙ ap (λ b. b ++ out) (sym (message_append (part_fields write (seen part)) later) ∙ ap (λ ps. message_bytes (fields_by write (map seen ps))) (sym (behind parts left part d some within is)))

-- before the first
pub numbers_begun : (numbers : List ℕ) (out : List ℕ) → out ≡ packed_bytes (drop (length numbers) numbers) ++ out
unfolding packed_bytes
numbers_begun numbers out = ap (λ ns. packed_bytes ns ++ out) (sym (drop_whole numbers))

pub int32s_begun : (numbers : List ℤ) (out : List ℕ) → out ≡ packed_bytes (map whole_varint (drop (length numbers) numbers)) ++ out
unfolding packed_bytes
int32s_begun numbers out = ap (λ ns. packed_bytes (map whole_varint ns) ++ out) (sym (drop_whole numbers))

pub blocks_begun : (number : ℕ) (blocks : List (List ℕ)) (left : ℕ) (out : List ℕ) → left ≡ length blocks → out ≡ block_records number (drop left blocks) ++ out
unfolding block_records
blocks_begun number blocks left out is = ap (λ bs. block_records number bs ++ out) (sym (ap (λ n. drop n blocks) is ∙ drop_whole blocks))

pub messages_begun : {A : Type 0} (number : ℕ) (spell : A → List ℕ) (nodes : List A) (left : ℕ) (out : List ℕ) → left ≡ length nodes → out ≡ block_records number (drop left (map spell nodes)) ++ out
messages_begun number spell nodes left out is = blocks_begun number (map spell nodes) left out (is ∙ sym (length-map nodes spell))

pub parts_begun : {P : Type 0} (seen : P → Part) (write : Writer) (parts : List P) (out : List ℕ) → out ≡ message_bytes (fields_by write (map seen (drop (length parts) parts))) ++ out
unfolding message_bytes
parts_begun seen write parts out = ap (λ ps. message_bytes (fields_by write (map seen ps)) ++ out) (sym (drop_whole parts))

-- what two functions give of one item
at_both : {A P : Type 0} (f : A → P) (h : A → List ℕ) (k : P → List ℕ) → ((x : A) → h x ≡ k (f x)) → (xs : List A) (at : ℕ) (d : P) → at < length xs → get_or (map h xs) at [] ≡ k (get_or (map f xs) at d)
at_both f h k same [] at d here = absurd (omega (arith, here))
at_both f h k same (x ∷ xs) zero d here = same x
at_both f h k same (x ∷ xs) (suc at) d here = at_both f h k same xs at d (omega (arith, here))

level_spelled : (levels : ℕ) (shape : Shape) (node : Node shape) → spelled_at (suc levels) shape node ≡ message_bytes (fields_by (spelled_at levels) (parts_of shape node))
unfolding spelled_at
level_spelled levels shape node = refl

-- a message where a level is left
pub message_put : (levels : ℕ) (group : Group) (at : ℕ) (parts : List Part) (out new : List ℕ) → at < length group.nodes → 1 ≤ levels → parts ≡ get_or (map (parts_of group.shape) group.nodes) at []
    → new ≡ message_bytes (fields_by (spelled_at (levels - 1)) parts) ++ out → new ≡ get_or (map (spelled_at levels group.shape) group.nodes) at [] ++ out
message_put zero group at parts out new here some are put = absurd (omega (arith, some))
message_put (suc levels) group at parts out new here some are put =
    let one : suc levels - 1 ≡ levels = omega arith in
    put ∙ (λ i. message_bytes (fields_by (spelled_at (one i)) (are i)) ++ out)
    ∙ ap (λ b. b ++ out) (sym (at_both (parts_of group.shape) (spelled_at (suc levels) group.shape) (λ ps. message_bytes (fields_by (spelled_at levels) ps)) (level_spelled levels group.shape) group.nodes at [] here))

-- nothing is written where none is left
none_spelled : (shape : Shape) (nodes : List (Node shape)) (at : ℕ) → get_or (map (spelled_at 0 shape) nodes) at [] ≡ []
unfolding spelled_at
none_spelled shape [] at = refl
none_spelled shape (node ∷ nodes) zero = refl
none_spelled shape (node ∷ nodes) (suc at) = none_spelled shape nodes at

pub no_level : (levels : ℕ) (group : Group) (at : ℕ) (out : List ℕ) → levels ≡ 0 → out ≡ get_or (map (spelled_at levels group.shape) group.nodes) at [] ++ out
no_level levels group at out none = ap (λ b. b ++ out) (sym (none_spelled group.shape group.nodes at) ∙ ap (λ n. get_or (map (spelled_at n group.shape) group.nodes) at []) (sym none))

-- the fields of an item, and of the only one
pub item_parts : {A : Type 0} (f : A → List Part) (xs : List A) (at : ℕ) (x : A) (parts : List Part) → at < length xs → x ≡ get_or xs at x → parts ≡ f x → parts ≡ get_or (map f xs) at []
item_parts f [] at x parts here is are = absurd (omega (arith, here))
item_parts f (y ∷ xs) zero x parts here is are = are ∙ ap f is
item_parts f (y ∷ xs) (suc at) x parts here is are = item_parts f xs at x parts (omega (arith, here)) is are

pub only_parts : (at : ℕ) (parts only : List Part) → at < 1 → parts ≡ only → parts ≡ get_or (only ∷ []) at []
only_parts zero parts only here are = are
only_parts (suc at) parts only here are = absurd (omega (arith, here))

-- the records of a field, by its variant
pub varints_arm : {T E : Type 0} (levels number : ℕ) (held variant : HeldRef) (values out new : List ℕ) (result : Result T E) → held ≡ variant → held_seen number variant ≡ record { number = number; held = (held_seen number variant).held }
    → contents (spelled_at levels) (held_seen number variant).held ≡ map Varint values → OnOk result (new ≡ varint_records number values ++ out) → OnOk result (new ≡ message_bytes (part_fields (spelled_at levels) (held_seen number held)) ++ out)
varints_arm levels number held variant values out new result is own are wrote =
    on_ok_weaker result (λ put. varints_put (spelled_at levels) (record { number = number; held = (held_seen number variant).held }) values out new are put
    ∙ ap (λ part. message_bytes (part_fields (spelled_at levels) part) ++ out) (sym own ∙ ap (held_seen number) (sym is))) wrote

pub blocks_arm : {T E : Type 0} (levels number : ℕ) (held variant : HeldRef) (blocks : List (List ℕ)) (out new : List ℕ) (result : Result T E) → held ≡ variant → held_seen number variant ≡ record { number = number; held = (held_seen number variant).held }
    → contents (spelled_at levels) (held_seen number variant).held ≡ map Bytes blocks → OnOk result (new ≡ block_records number blocks ++ out) → OnOk result (new ≡ message_bytes (part_fields (spelled_at levels) (held_seen number held)) ++ out)
blocks_arm levels number held variant blocks out new result is own are wrote =
    on_ok_weaker result (λ put. blocks_put (spelled_at levels) (record { number = number; held = (held_seen number variant).held }) blocks out new are put
    ∙ ap (λ part. message_bytes (part_fields (spelled_at levels) part) ++ out) (sym own ∙ ap (held_seen number) (sym is))) wrote

pub presence_arm : {T E : Type 0} (levels number : ℕ) (held : HeldRef) (is_there : Bool) (out new : List ℕ) (result : Result T E) → held ≡ h.Presence is_there → OnOk result (new ≡ block_records number (if is_there then [] ∷ [] else []) ++ out)
    → OnOk result (new ≡ message_bytes (part_fields (spelled_at levels) (held_seen number held)) ++ out)
presence_arm levels number held is_there out new result is wrote =
    on_ok_weaker result (λ put. presence_put levels number is_there out new put ∙ ap (λ part. message_bytes (part_fields (spelled_at levels) part) ++ out) (ap (held_seen number) (sym is))) wrote

-- the fields of a message, by the variant that it stands in
pub items_arm : {M V E : Type 0} (group_of : M → Group) (seen : V → List Part) (result : Result V E) (messages variant : M) (at : ℕ) (shape : Shape) (nodes : List (Node shape)) (node : Node shape) → messages ≡ variant → group_of variant ≡ record { shape = shape; nodes = nodes }
    → at < length (group_of messages).nodes → node ≡ get_or nodes at node → IfOk result (λ parts. seen parts ≡ parts_of shape node) → IfOk result (λ parts. seen parts ≡ get_or (map (parts_of (group_of messages).shape) (group_of messages).nodes) at [])
items_arm group_of seen result messages variant at shape nodes node is own within found ensured =
    let group : group_of messages ≡ record { shape = shape; nodes = nodes } = ap group_of is ∙ own in
    let here : at < length nodes = subst (λ (g : Group). at < length g.nodes) group within in
    IfOk-weaker result (λ parts. seen parts ≡ parts_of shape node) (λ parts. seen parts ≡ get_or (map (parts_of (group_of messages).shape) (group_of messages).nodes) at []) (λ parts are. item_parts (parts_of shape) nodes at node (seen parts) here found are ∙ ap (λ (g : Group). get_or (map (parts_of g.shape) g.nodes) at []) (sym group)) ensured

pub single_arm : {M V E : Type 0} (group_of : M → Group) (seen : V → List Part) (result : Result V E) (messages variant : M) (at : ℕ) (shape : Shape) (node : Node shape) → messages ≡ variant → group_of variant ≡ record { shape = shape; nodes = node ∷ [] }
    → at < length (group_of messages).nodes → IfOk result (λ parts. seen parts ≡ parts_of shape node) → IfOk result (λ parts. seen parts ≡ get_or (map (parts_of (group_of messages).shape) (group_of messages).nodes) at [])
single_arm group_of seen result messages variant at shape node is own within ensured =
    let group : group_of messages ≡ record { shape = shape; nodes = node ∷ [] } = ap group_of is ∙ own in
    let here : at < length (node ∷ []) = subst (λ (g : Group). at < length g.nodes) group within in
    IfOk-weaker result (λ parts. seen parts ≡ parts_of shape node) (λ parts. seen parts ≡ get_or (map (parts_of (group_of messages).shape) (group_of messages).nodes) at []) (λ parts are. only_parts at (seen parts) (parts_of shape node) (omega (arith, here)) are ∙ ap (λ (g : Group). get_or (map (parts_of g.shape) g.nodes) at []) (sym group)) ensured
