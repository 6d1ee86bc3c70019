-- The arguments of a call that ends early, from left to right.
use Rattle.std.proofs.Common.{◌≡◌, ◌∙◌, List, [], ◌∷◌, ◌++◌, Bool, true, false, Option, Some, None, Result, Ok, Err, refl, sym, ap, not, ◌||◌, ◌&&◌, if◌then◌else◌}
use Rattle.std.proofs.Math.Bool.{beq}
use Rattle.sub_types.specs.declared.fault.FaultKind.{FaultKind}
use Rattle.sub_types.specs.declared.value.Value.{Value}
use Rattle.sub_types.specs.declared.value.Value.TheVariants as values
use Rattle.plan_denote.specs.Computed.{Computed, is_null}
use Rattle.plan_denote.specs.Logic.{is_truth, three_valued}
use Rattle.batch_nodes.specs.declared.early.Early.{Early}
use Rattle.batch_nodes.specs.declared.early.Early.TheVariants.{Truth, NotNull}
use Rattle.batch_nodes.specs.Narrowed.{opened, narrowed, folded}
use Rattle.batch_nodes.specs.Early.{ends_early, settles, merges, nothing, one_more, so_far}
use Rattle.batch_nodes.proofs.EarlyLaws.{ends_early-narrowed}

pub folded-append : {S X : Type 0} (f : S → X → S) (s : S) (xs : List X) (x : X) → folded f s (xs ++ x ∷ []) ≡ f (folded f s xs) x
folded-append f s [] x = refl
folded-append f s (y ∷ xs) x = folded-append f (f s y) xs x

-- ---- the three-valued table

abbrev table : Bool → Bool → Bool → Value
table end is_end is_other = if is_end then values.Bool end else if is_other then values.Bool (not end) else values.Null

table-end : (end a b : Bool) → is_truth end (table end a b) ≡ a
table-end true true b = refl
table-end false true b = refl
table-end true false true = refl
table-end false false true = refl
table-end true false false = refl
table-end false false false = refl

table-other : (end a b : Bool) → is_truth (not end) (table end a b) ≡ (not a && b)
table-other true true b = refl
table-other false true b = refl
table-other true false true = refl
table-other false false true = refl
table-other true false false = refl
table-other false false false = refl

table-assoc : (end c qa qb qc : Bool) → table end c ((qa && qb) && qc) ≡ table end c (qa && (not c && (qb && qc)))
table-assoc end true qa qb qc = refl
table-assoc end false true qb qc = refl
table-assoc end false false qb qc = refl

-- ---- one operand and then two, where the first two settle nothing

abbrev Tested : Bool → Value → Bool → Bool → Type 0
Tested end a p q = (is_truth end a ≡ p) × (is_truth (not end) a ≡ q)

three : (end : Bool) (a b : Value) → three_valued end a b ≡ table end (is_truth end a || is_truth end b) (is_truth (not end) a && is_truth (not end) b)
three end a b = refl

three-assoc : (end : Bool) (a b c : Value) → is_truth end a ≡ false → is_truth end b ≡ false → three_valued end (three_valued end a b) c ≡ three_valued end a (three_valued end b c)
three-assoc end a b c not_a not_b =
    by (is_truth end a) (is_truth (not end) a) (is_truth end b) (is_truth (not end) b) (is_truth end c) (is_truth (not end) c) not_a not_b
  where
    by : (pa qa pb qb pc qc : Bool) → pa ≡ false → pb ≡ false
        → table end (is_truth end (table end (pa || pb) (qa && qb)) || pc) (is_truth (not end) (table end (pa || pb) (qa && qb)) && qc)
        ≡ table end (pa || is_truth end (table end (pb || pc) (qb && qc))) (qa && is_truth (not end) (table end (pb || pc) (qb && qc)))
    by true qa pb qb pc qc no_a no_b = absurd (cc)
    by false qa true qb pc qc no_a no_b = absurd (cc)
    by false qa false qb pc qc no_a no_b =
        ap (λ p. table end (p || pc) (is_truth (not end) (table end false (qa && qb)) && qc)) (table-end end false (qa && qb))
        ∙ ap (λ q. table end pc (q && qc)) (table-other end false (qa && qb))
        ∙ table-assoc end pc qa qb qc
        ∙ ap (λ q. table end pc (qa && q)) (sym (table-other end pc (qb && qc)))
        ∙ ap (λ p. table end p (qa && is_truth (not end) (table end pc (qb && qc)))) (sym (table-end end pc (qb && qc)))

-- what settles the second settles the call
three-ends : (end : Bool) (a b : Value) → is_truth end b ≡ true → three_valued end a b ≡ values.Bool end
three-ends end a b is = by (is_truth end a) (is_truth end b) (is_truth (not end) a && is_truth (not end) b) is
  where
    by : (pa pb q : Bool) → pb ≡ true → table end (pa || pb) q ≡ values.Bool end
    by true pb q is = refl
    by false true q is = refl
    by false false q is = absurd (cc)

ends_itself : (end : Bool) → is_truth end (values.Bool end) ≡ true
ends_itself true = refl
ends_itself false = refl

no_end : (end : Bool) → is_truth end (values.Bool (not end)) ≡ false
no_end true = refl
no_end false = refl

is_other : (end : Bool) → is_truth (not end) (values.Bool (not end)) ≡ true
is_other true = refl
is_other false = refl

three-no_end : (end : Bool) (a b : Value) → is_truth end a ≡ false → is_truth end (three_valued end a b) ≡ is_truth end b
three-no_end end a b not_a = table-end end (is_truth end a || is_truth end b) (is_truth (not end) a && is_truth (not end) b) ∙ ap (λ p. p || is_truth end b) not_a

abbrev ends : Bool → Bool → Option Value
ends end is_end = if is_end then Some (values.Bool end) else None

-- ---- narrowing is associative

abbrev Then : Early → Computed → Computed → Computed
Then early = one_more early

truth-open : (end : Bool) (x v : Value) (c : Computed) → is_truth end x ≡ false → is_truth end v ≡ false
    → opened (merges (Truth end)) (three_valued end x v) None c ≡ opened (merges (Truth end)) x None (opened (merges (Truth end)) v None c)
truth-open end x v (Ok z) no_x no_v = ap Ok (three-assoc end x v z no_x no_v)
truth-open end x v (Err kind) no_x no_v = refl

truth-second : (end : Bool) (x v : Value) (c : Computed) (pv : Bool) → is_truth end x ≡ false → is_truth end v ≡ pv
    → opened (merges (Truth end)) (three_valued end x v) (ends end pv) c ≡ opened (merges (Truth end)) x None (opened (merges (Truth end)) v (ends end pv) c)
truth-second end x v c true no_x is = ap Ok (sym (three-ends end x (values.Bool end) (ends_itself end)))
truth-second end x v c false no_x is = truth-open end x v c no_x is

truth-first : (end : Bool) (x : Value) (b c : Computed) (px : Bool) → is_truth end x ≡ px
    → Then (Truth end) (opened (merges (Truth end)) x (ends end px) b) c ≡ opened (merges (Truth end)) x (ends end px) (Then (Truth end) b c)
truth-first end x b c true is = ap (λ p. opened (merges (Truth end)) (values.Bool end) (ends end p) c) (ends_itself end)
truth-first end x (Err kind) c false is = refl
truth-first end x (Ok v) c false is =
    ap (λ p. opened (merges (Truth end)) (three_valued end x v) (ends end p) c) (three-no_end end x v is)
    ∙ truth-second end x v c (is_truth end v) is refl

null-open : (x : Value) (c : Computed) → opened (merges NotNull) x None c ≡ c
null-open x (Ok z) = refl
null-open x (Err kind) = refl

null-first : (x : Value) (b c : Computed) (null : Bool) → is_null x ≡ null
    → Then NotNull (opened (merges NotNull) x (if null then None else Some x) b) c ≡ opened (merges NotNull) x (if null then None else Some x) (Then NotNull b c)
null-first x b c true is = ap (λ one. Then NotNull one c) (null-open x b) ∙ sym (null-open x (Then NotNull b c))
null-first x b c false is = ap (λ null. opened (merges NotNull) x (if null then None else Some x) c) is

pub one_more-assoc : (early : Early) (a b c : Computed) → one_more early (one_more early a b) c ≡ one_more early a (one_more early b c)
one_more-assoc (Truth end) (Ok x) b c = truth-first end x b c (is_truth end x) refl
one_more-assoc NotNull (Ok x) b c = null-first x b c (is_null x) refl
one_more-assoc (Truth end) (Err kind) b c = refl
one_more-assoc NotNull (Err kind) b c = refl

-- ---- no arguments after these, and none before

-- what is as the table or the first value gives it
abbrev IsNormal : Early → Computed → Type 0
IsNormal early a = one_more early a (Ok (nothing early)) ≡ a

table-none : (end a b : Bool) → three_valued end (table end a b) (values.Bool (not end)) ≡ table end a b
table-none true true b = refl
table-none false true b = refl
table-none true false true = refl
table-none false false true = refl
table-none true false false = refl
table-none false false false = refl

three-none : (end : Bool) (a b : Value) → three_valued end (three_valued end a b) (values.Bool (not end)) ≡ three_valued end a b
three-none end a b = table-none end (is_truth end a || is_truth end b) (is_truth (not end) a && is_truth (not end) b)

table-kept : (end a b p : Bool) → is_truth end (table end a b) ≡ p → opened (merges (Truth end)) (table end a b) (ends end p) (Ok (values.Bool (not end))) ≡ Ok (table end a b)
table-kept end a b false is = ap Ok (table-none end a b)
table-kept end true b true is = refl
table-kept end false b true is = let wrong : false ≡ true = sym (table-end end false b) ∙ is in absurd (cc)

three-normal : (end : Bool) (a b : Value) → IsNormal (Truth end) (Ok (three_valued end a b))
three-normal end a b = table-kept end (is_truth end a || is_truth end b) (is_truth (not end) a && is_truth (not end) b) (is_truth end (three_valued end a b)) refl

end-normal : (end : Bool) → IsNormal (Truth end) (Ok (values.Bool end))
end-normal end = table-kept end true false (is_truth end (values.Bool end)) refl

other-normal : (end : Bool) → IsNormal (Truth end) (Ok (values.Bool (not end)))
other-normal end = table-kept end false true (is_truth end (values.Bool (not end))) refl

null-normal : (x : Value) (null : Bool) → is_null x ≡ null → opened (merges NotNull) x (if null then None else Some x) (Ok values.Null) ≡ Ok x
null-normal x false is = refl
null-normal values.Null true is = refl
null-normal (values.Bool test) true is = absurd (cc)
null-normal (values.Int n) true is = absurd (cc)
null-normal (values.Dec n) true is = absurd (cc)
null-normal (values.Bytes bytes) true is = absurd (cc)

truth-normal : (end : Bool) (x : Value) (b : Computed) (p : Bool) → is_truth end x ≡ p → IsNormal (Truth end) (opened (merges (Truth end)) x (ends end p) b)
truth-normal end x b true is = end-normal end
truth-normal end x (Ok v) false is = three-normal end x v
truth-normal end x (Err kind) false is = refl

narrowed-normal : (early : Early) (a b : Computed) → IsNormal early (one_more early a b)
narrowed-normal (Truth end) (Ok x) b = truth-normal end x b (is_truth end x) refl
narrowed-normal (Truth end) (Err kind) b = refl
narrowed-normal NotNull a b = any-null (one_more NotNull a b)
  where
    any-null : (a : Computed) → IsNormal NotNull a
    any-null (Ok x) = null-normal x (is_null x) refl
    any-null (Err kind) = refl

nothing-normal : (early : Early) → IsNormal early (Ok (nothing early))
nothing-normal (Truth end) = other-normal end
nothing-normal NotNull = refl

ends_nothing : (early : Early) → ends_early early [] ≡ Ok (nothing early)
ends_nothing (Truth end) = refl
ends_nothing NotNull = refl

folded-narrowed : (early : Early) (a : Computed) (args : List Computed) → IsNormal early a → folded (one_more early) a args ≡ one_more early a (ends_early early args)
folded-narrowed early a [] normal = sym (ap (one_more early a) (ends_nothing early) ∙ normal)
folded-narrowed early a (arg ∷ args) normal =
    folded-narrowed early (one_more early a arg) args (narrowed-normal early a arg)
    ∙ one_more-assoc early a arg (ends_early early args)
    ∙ ap (one_more early a) (sym (ends_early-narrowed early arg args))

-- nothing in front changes nothing
table-front : (end a b : Bool) → three_valued end (values.Bool (not end)) (table end a b) ≡ table end a b
table-front true true b = refl
table-front false true b = refl
table-front true false true = refl
table-front false false true = refl
table-front true false false = refl
table-front false false false = refl

front-open : (end : Bool) (c : Computed) (p : Bool) → is_truth end (values.Bool (not end)) ≡ p → ((v : Value) → c ≡ Ok v → three_valued end (values.Bool (not end)) v ≡ v)
    → opened (merges (Truth end)) (values.Bool (not end)) (ends end p) c ≡ c
front-open end c true is same = let wrong : true ≡ false = sym is ∙ no_end end in absurd (cc)
front-open end (Ok v) false is same = ap Ok (same v refl)
front-open end (Err kind) false is same = refl

front-truth : (end : Bool) (x : Value) (b : Computed) (p : Bool) → is_truth end x ≡ p → one_more (Truth end) (Ok (values.Bool (not end))) (opened (merges (Truth end)) x (ends end p) b) ≡ opened (merges (Truth end)) x (ends end p) b
front-truth end x b true is = front-open end (Ok (values.Bool end)) (is_truth end (values.Bool (not end))) refl (λ v same. let e : values.Bool end ≡ v = cc in ap (three_valued end (values.Bool (not end))) (sym e) ∙ table-front end true false ∙ e)
front-truth end x (Err kind) false is = ap (λ p. opened (merges (Truth end)) (values.Bool (not end)) (ends end p) (Err kind)) (no_end end)
front-truth end x (Ok z) false is =
    front-open end (Ok (three_valued end x z)) (is_truth end (values.Bool (not end))) refl (λ v same.
    let e : three_valued end x z ≡ v = cc in
    ap (three_valued end (values.Bool (not end))) (sym e) ∙ table-front end (is_truth end x || is_truth end z) (is_truth (not end) x && is_truth (not end) z) ∙ e)

front : (early : Early) (args : List Computed) → one_more early (Ok (nothing early)) (ends_early early args) ≡ ends_early early args
front (Truth end) [] = other-normal end
front (Truth end) (Err kind ∷ args) = ap (λ p. opened (merges (Truth end)) (values.Bool (not end)) (ends end p) (Err kind)) (no_end end)
front (Truth end) (Ok x ∷ args) =
    ap (one_more (Truth end) (Ok (values.Bool (not end)))) (ends_early-narrowed (Truth end) (Ok x) args)
    ∙ front-truth end x (ends_early (Truth end) args) (is_truth end x) refl
    ∙ sym (ends_early-narrowed (Truth end) (Ok x) args)
front NotNull args = null-open values.Null (ends_early NotNull args)

-- from left to right they come to the same
pub so_far-ends : (early : Early) (args : List Computed) → so_far early args ≡ ends_early early args
so_far-ends early args = folded-narrowed early (Ok (nothing early)) args (nothing-normal early) ∙ front early args

pub so_far-more : (early : Early) (args : List Computed) (arg : Computed) → so_far early (args ++ arg ∷ []) ≡ one_more early (so_far early args) arg
so_far-more early args arg = folded-append (one_more early) (Ok (nothing early)) args arg
