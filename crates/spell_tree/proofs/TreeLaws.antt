-- Messages that relations and expressions stand in, written from the last record to the first.
use Rattle.std.proofs.Common.{◌≡◌, ◌∙◌, sym, ap, refl, subst, ℕ, ◌-◌, ◌^◌, ◌<◌, ◌≤◌, List, [], ◌∷◌, ◌++◌, map, Result, IfOk, OnOk, drop, get_or, length, append-nil}
use Rattle.std.proofs.lemmas.Result.{IfOk-weaker, on_ok_weaker}
use Rattle.pb_write.specs.Write.{message_bytes}
use Rattle.plan_raw.specs.declared.expr.RawExpr.{RawExpr}
use Rattle.plan_raw.specs.declared.plan.PlanTree.{PlanTree}
use Rattle.plan_raw.specs.declared.rel.RawRel.{RawRel}
use Rattle.plan_scan.specs.declared.shape.Shape.TheVariants as s
use Rattle.plan_spell.specs.Held.{Part, Writer, fields_by, part_fields}
use Rattle.plan_spell.specs.Parts.{parts_of}
use Rattle.plan_spell.specs.Spelled.{spelled, spelled_at}
use Rattle.spell_leaves.specs.Seen.{Group, block_records}
use Rattle.spell_leaves.proofs.FrontLaws as front
use Rattle.spell_tree.specs.declared.part.ExprRole.{ExprRole}
use Rattle.spell_tree.specs.declared.part.ExprRole.TheVariants as e
use Rattle.spell_tree.specs.declared.part.RelRole.{RelRole}
use Rattle.spell_tree.specs.declared.part.RelRole.TheVariants as r
use Rattle.spell_tree.specs.declared.part.TreePart.{TreePart}
use Rattle.spell_tree.specs.declared.part.TreePart.TheVariants as p
use Rattle.spell_tree.specs.declared.part.TreesRef.{TreesRef}
use Rattle.spell_tree.specs.Seen.{exprs_seen, expr_parts_as, rels_seen, rel_parts_as, tree_part_seen, tree_parts_seen, trees_seen}

-- the laws of `spell_leaves`, for the searches of this crate
pub tree_put : (levels : ℕ) (group : Group) (at : ℕ) (parts : List Part) (out new : List ℕ) → at < length group.nodes → 1 ≤ levels → parts ≡ get_or (map (parts_of group.shape) group.nodes) at []
    → new ≡ message_bytes (fields_by (spelled_at (levels - 1)) parts) ++ out → new ≡ get_or (map (spelled_at levels group.shape) group.nodes) at [] ++ out
tree_put levels group at parts out new here some are put = front.message_put levels group at parts out new here some are put

pub no_level : (levels : ℕ) (group : Group) (at : ℕ) (out : List ℕ) → levels ≡ 0 → out ≡ get_or (map (spelled_at levels group.shape) group.nodes) at [] ++ out
no_level levels group at out none = front.no_level levels group at out none

pub parts_begun : (write : Writer) (parts : List TreePart) (out : List ℕ) → out ≡ message_bytes (fields_by write (tree_parts_seen (drop (length parts) parts))) ++ out
parts_begun write parts out = front.parts_begun tree_part_seen write parts out

pub trees_begun : {A : Type 0} (number : ℕ) (spell : A → List ℕ) (nodes : List A) (left : ℕ) (out : List ℕ) → left ≡ length nodes → out ≡ block_records number (drop left (map spell nodes)) ++ out
trees_begun number spell nodes left out is = front.messages_begun number spell nodes left out is

-- how many relations and expressions there are, whatever they are written as
pub rels_length : (role : RelRole) (rels : List RawRel) → length rels ≡ length (rels_seen role rels).nodes
rels_length r.Rel rels = refl
rels_length r.Read rels = refl
rels_length r.Filter rels = refl
rels_length r.Fetch rels = refl
rels_length r.Aggregate rels = refl
rels_length r.Sort rels = refl
rels_length r.Join rels = refl
rels_length r.Project rels = refl
rels_length r.Set rels = refl
rels_length r.Cross rels = refl

pub exprs_length : (role : ExprRole) (exprs : List RawExpr) → length exprs ≡ length (exprs_seen role exprs).nodes
exprs_length e.Expression exprs = refl
exprs_length e.ScalarFunction exprs = refl
exprs_length e.FieldReference exprs = refl
exprs_length e.IfThen exprs = refl
exprs_length e.Switch exprs = refl
exprs_length e.SingularOrList exprs = refl
exprs_length e.Cast exprs = refl
exprs_length e.Subquery exprs = refl
exprs_length e.Scalar exprs = refl
exprs_length e.InPredicate exprs = refl
exprs_length e.SetPredicate exprs = refl

-- the fields of one of them
rel_fields : (role : RelRole) (rels : List RawRel) (at : ℕ) (rel : RawRel) (parts : List Part) → at < length (rels_seen role rels).nodes → rel ≡ get_or rels at rel → parts ≡ rel_parts_as role rel → parts ≡ get_or (map (parts_of (rels_seen role rels).shape) (rels_seen role rels).nodes) at []
rel_fields r.Rel rels at rel parts here is are = front.item_parts (parts_of s.Rel) rels at rel parts here is are
rel_fields r.Read rels at rel parts here is are = front.item_parts (parts_of s.ReadRel) rels at rel parts here is are
rel_fields r.Filter rels at rel parts here is are = front.item_parts (parts_of s.FilterRel) rels at rel parts here is are
rel_fields r.Fetch rels at rel parts here is are = front.item_parts (parts_of s.FetchRel) rels at rel parts here is are
rel_fields r.Aggregate rels at rel parts here is are = front.item_parts (parts_of s.AggregateRel) rels at rel parts here is are
rel_fields r.Sort rels at rel parts here is are = front.item_parts (parts_of s.SortRel) rels at rel parts here is are
rel_fields r.Join rels at rel parts here is are = front.item_parts (parts_of s.JoinRel) rels at rel parts here is are
rel_fields r.Project rels at rel parts here is are = front.item_parts (parts_of s.ProjectRel) rels at rel parts here is are
rel_fields r.Set rels at rel parts here is are = front.item_parts (parts_of s.SetRel) rels at rel parts here is are
rel_fields r.Cross rels at rel parts here is are = front.item_parts (parts_of s.CrossRel) rels at rel parts here is are

expr_fields : (role : ExprRole) (exprs : List RawExpr) (at : ℕ) (expr : RawExpr) (parts : List Part) → at < length (exprs_seen role exprs).nodes → expr ≡ get_or exprs at expr → parts ≡ expr_parts_as role expr → parts ≡ get_or (map (parts_of (exprs_seen role exprs).shape) (exprs_seen role exprs).nodes) at []
expr_fields e.Expression exprs at expr parts here is are = front.item_parts (parts_of s.Expression) exprs at expr parts here is are
expr_fields e.ScalarFunction exprs at expr parts here is are = front.item_parts (parts_of s.ScalarFunction) exprs at expr parts here is are
expr_fields e.FieldReference exprs at expr parts here is are = front.item_parts (parts_of s.FieldReference) exprs at expr parts here is are
expr_fields e.IfThen exprs at expr parts here is are = front.item_parts (parts_of s.IfThen) exprs at expr parts here is are
expr_fields e.Switch exprs at expr parts here is are = front.item_parts (parts_of s.SwitchExpression) exprs at expr parts here is are
expr_fields e.SingularOrList exprs at expr parts here is are = front.item_parts (parts_of s.SingularOrList) exprs at expr parts here is are
expr_fields e.Cast exprs at expr parts here is are = front.item_parts (parts_of s.Cast) exprs at expr parts here is are
expr_fields e.Subquery exprs at expr parts here is are = front.item_parts (parts_of s.Subquery) exprs at expr parts here is are
expr_fields e.Scalar exprs at expr parts here is are = front.item_parts (parts_of s.ScalarSubquery) exprs at expr parts here is are
expr_fields e.InPredicate exprs at expr parts here is are = front.item_parts (parts_of s.InPredicate) exprs at expr parts here is are
expr_fields e.SetPredicate exprs at expr parts here is are = front.item_parts (parts_of s.SetPredicate) exprs at expr parts here is are

pub rels_arm : {V E : Type 0} (seen : V → List Part) (result : Result V E) (trees : TreesRef) (role : RelRole) (rels : List RawRel) (at : ℕ) (rel : RawRel) → trees_seen trees ≡ rels_seen role rels → at < length (trees_seen trees).nodes → rel ≡ get_or rels at rel
    → IfOk result (λ parts. seen parts ≡ rel_parts_as role rel) → IfOk result (λ parts. seen parts ≡ get_or (map (parts_of (trees_seen trees).shape) (trees_seen trees).nodes) at [])
rels_arm seen result trees role rels at rel group within found ensured =
    let here : at < length (rels_seen role rels).nodes = subst (λ (g : Group). at < length g.nodes) group within in
    IfOk-weaker result (λ parts. seen parts ≡ rel_parts_as role rel) (λ parts. seen parts ≡ get_or (map (parts_of (trees_seen trees).shape) (trees_seen trees).nodes) at [])
    (λ parts are. rel_fields role rels at rel (seen parts) here found are ∙ ap (λ (g : Group). get_or (map (parts_of g.shape) g.nodes) at []) (sym group)) ensured

pub exprs_arm : {V E : Type 0} (seen : V → List Part) (result : Result V E) (trees : TreesRef) (role : ExprRole) (exprs : List RawExpr) (at : ℕ) (expr : RawExpr) → trees_seen trees ≡ exprs_seen role exprs → at < length (trees_seen trees).nodes → expr ≡ get_or exprs at expr
    → IfOk result (λ parts. seen parts ≡ expr_parts_as role expr) → IfOk result (λ parts. seen parts ≡ get_or (map (parts_of (trees_seen trees).shape) (trees_seen trees).nodes) at [])
exprs_arm seen result trees role exprs at expr group within found ensured =
    let here : at < length (exprs_seen role exprs).nodes = subst (λ (g : Group). at < length g.nodes) group within in
    IfOk-weaker result (λ parts. seen parts ≡ expr_parts_as role expr) (λ parts. seen parts ≡ get_or (map (parts_of (trees_seen trees).shape) (trees_seen trees).nodes) at [])
    (λ parts are. expr_fields role exprs at expr (seen parts) here found are ∙ ap (λ (g : Group). get_or (map (parts_of g.shape) g.nodes) at []) (sym group)) ensured

-- the records of a field that holds messages
pub trees_arm : {T E : Type 0} (levels number : ℕ) (part : TreePart) (trees : TreesRef) (out new : List ℕ) (result : Result T E) → part ≡ p.Trees number trees → OnOk result (new ≡ block_records number (map (spelled_at levels (trees_seen trees).shape) (trees_seen trees).nodes) ++ out)
    → OnOk result (new ≡ message_bytes (part_fields (spelled_at levels) (tree_part_seen part)) ++ out)
trees_arm levels number part trees out new result is wrote =
    on_ok_weaker result (λ put. front.blocks_put (spelled_at levels) (tree_part_seen (p.Trees number trees)) (map (spelled_at levels (trees_seen trees).shape) (trees_seen trees).nodes) out new refl put
    ∙ ap (λ part. message_bytes (part_fields (spelled_at levels) (tree_part_seen part)) ++ out) (sym is)) wrote

-- the bytes of a plan
pub plan_put : (tree : PlanTree) (out new bytes : List ℕ) → out ≡ [] → new ≡ get_or (map (spelled_at 100 s.Plan) (tree ∷ [])) 0 [] ++ out → bytes ≡ new → bytes ≡ spelled tree
unfolding spelled
plan_put tree out new bytes none put are = are ∙ put ∙ ap (λ b. spelled_at 100 s.Plan tree ++ b) none ∙ append-nil (spelled_at 100 s.Plan tree)

pub plan_short : (tree : PlanTree) (out new : List ℕ) (len : ℕ) → out ≡ [] → new ≡ get_or (map (spelled_at 100 s.Plan) (tree ∷ [])) 0 [] ++ out → len ≡ length new → len < 2 ^ 64 → length (spelled tree) < 2 ^ 64
plan_short tree out new len none put is short =
    let long : len ≡ length (spelled tree) = is ∙ ap length (plan_put tree out new new none put refl) in
    subst (λ n. n < 2 ^ 64) long short
