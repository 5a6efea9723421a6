-- A row whose parent has a smaller id leaves a store descending, and where a store descends no row is above itself.
use Rattle.std.proofs.Common.{◌≡◌, ◌↔◌, refl, sym, ap, subst, ◌∙◌, ℕ, zero, suc, ◌<◌, Bool, true, false, cond, ◌&&◌, arith}
use Rattle.std.proofs.lemmas.Bool.{true≢false, ltb-true}
use Rattle.std.specs.Prelude.{Option, Some, Result, Ok, Err, OnOk, OnErr}
use Rattle.std.specs.Cmp.{IsTotalOrder, Equal-is}
use Rattle.std.specs.FinMap as map
use Rattle.dv_value.specs.declared.id.Id.{Id}
use Rattle.dv_schema.specs.declared.definition.Definition.{Definition}
use Rattle.dv_store.specs.declared.keys.GrantKey.{GrantKey}
use Rattle.dv_store.specs.declared.keys.RowKey.{RowKey}
use Rattle.dv_store.specs.declared.row.Row.{Row}
use Rattle.dv_store.specs.contracts.keys.RowKeyOrd.TheImpl.Laws.{total-law}
use Rattle.dv_store.specs.Exact.{exact_row}
use Rattle.dv_store.specs.Keys.{row_cmp, is_row}
use Rattle.dv_store.specs.Shapes.{place_of}
use Rattle.dv_store.specs.World.{World, empty, row_put, names}
use Rattle.dv_work.specs.History.{History}
use Rattle.dv_cascade.specs.Chains.{Chain}
use Rattle.dv_cascade.specs.Circles.{IsUnderParent, HasNoCircle, HasOneParent}
use Rattle.dv_shares.specs.Grants.{Regrants}
use Rattle.dv_shares.specs.Inheriting.{Reparents}
use Rattle.cascade_cases.specs.Scenes.{is_below, Descends, IsScene}

row_total : IsTotalOrder row_cmp
row_total = total-law

row_is : (a b : RowKey) → is_row a b ≡ true → a ≡ b
row_is a b e = exact_row a b ((Equal-is (row_cmp a b)).0 e)

and-both : (a b : Bool) → (a && b) ≡ true → (a ≡ true) × (b ≡ true)
and-both true b e = (refl, e)
and-both false b e = absurd (true≢false (sym e))

-- a parent that is named is below where any is
named_below : (id : Id) (parent : Option RowKey) (named : RowKey) → parent ≡ Some named → is_below id parent ≡ true → named.id.0 < id.0
unfolding is_below
named_below id parent named is below = ltb-true named.id.0 id.0 (sym (ap (is_below id) is) ∙ below)

-- what is under a parent in another store is so in this one, where the row is the same
under_in : (v w : World) (d : Definition) (child parent : RowKey) → map.get v.rows child ≡ map.get w.rows child → IsUnderParent v d child parent → IsUnderParent w d child parent
under_in v w d child parent same under = record {
  number = under.number;
  relationship = under.relationship;
  there = under.there;
  parental = under.parental;
  refers = record {
    child_table = under.refers.child_table;
    parent_table = under.refers.parent_table;
    named = ap (λ row. names row (place_of under.relationship.column) parent.id) (sym same) ∙ under.refers.named;
  };
}

-- a store still descends with a row whose parent is below it
pub descends_put : (w : World) (d : Definition) (key : RowKey) (row : Row) (found : Option RowKey) → Descends w d → ((parent : RowKey) → (found ≡ Some parent) ↔ IsUnderParent (row_put w key row) d key parent) → is_below key.id found ≡ true → Descends (row_put w key row) d
unfolding row_put
descends_put w d key row found descends is_parent below child parent under = of (is_row child key) refl
  where
    of : (b : Bool) → is_row child key ≡ b → parent.id.0 < child.id.0
    of true same =
        let is = row_is child key same in
        subst (λ (k : RowKey). parent.id.0 < k.id.0) (sym is) (named_below key.id found parent ((is_parent parent).1 (subst (λ (k : RowKey). IsUnderParent (row_put w key row) d k parent) is under)) below)
    of false apart = descends child parent (under_in (row_put w key row) w d child parent (map.get-insert row_total w.rows key row child ∙ ap (λ b. cond b (Some row) (map.get w.rows child)) apart) under)

module _ (w : World) (d : Definition) (descends : Descends w d) where
  -- each row above has a smaller id
  above_below : (links : ℕ) (first last : RowKey) → Chain (IsUnderParent w d) (suc links) first last → last.id.0 < first.id.0
  unfolding Chain
  above_below zero first last chain = subst (λ (k : RowKey). last.id.0 < k.id.0) chain.1.0 (descends chain.0 last chain.1.1)
  above_below (suc links) first last chain = less last.id.0 chain.0.id.0 first.id.0 (descends chain.0 last chain.1.1) (above_below links first chain.0 chain.1.0)
    where
      less : (a b c : ℕ) → a < b → b < c → a < c
      less a b c l m = omega (arith, l, m)

  pub no_circle : HasNoCircle w d
  no_circle key links chain = never key.id.0 (above_below links key key chain)
    where
      never : (a : ℕ) → a < a → ⊥
      never a l = omega (arith, l)

same_shape : (w : World) (key : RowKey) (row : Row) → (row_put w key row).shape ≡ w.shape
unfolding row_put
same_shape w key row = refl

-- what is known of a store once a row was put
pub scene_put : (d : Definition) (w new : World) (key : RowKey) (row : Row) (before after : Bool) (found : Option RowKey) → IsScene d w before → new ≡ row_put w key row → (HasOneParent d → (parent : RowKey) → (found ≡ Some parent) ↔ IsUnderParent new d key parent)
    → after ≡ (before && is_below key.id found) → IsScene d new after
scene_put d w new key row before after found scene put under is = record {
  shape = ap (λ (v : World). v.shape) put ∙ same_shape w key row ∙ scene.shape;
  one_parent = scene.one_parent;
  known = λ e. let both = and-both before (is_below key.id found) (sym is ∙ e) in
      subst (λ (v : World). Descends v d) (sym put) (descends_put w d key row found (scene.known both.0) (λ parent. subst (λ (v : World). (found ≡ Some parent) ↔ IsUnderParent v d key parent) put (under scene.one_parent parent)) both.1);
}

-- grants change nothing of it
pub scene_granted : (d : Definition) (w new : World) (descends : Bool) → new ≡ record w { grants = new.grants } → IsScene d w descends → IsScene d new descends
scene_granted d w new descends is scene = record {
  shape = ap (λ (v : World). v.shape) is ∙ scene.shape;
  one_parent = scene.one_parent;
  known = λ e child parent under. scene.known e child parent (under_in new w d child parent (ap (λ (v : World). map.get v.rows child) is) under);
}

pub scene_shared : {T E : Type 0} (d : Definition) (result : Result T E) (rule : GrantKey → Option (ℕ × ℕ) → Option (ℕ × ℕ)) (old new : History World) (descends : Bool) → OnOk result (Regrants rule old.present new.present) → OnErr result (new ≡ old) → IsScene d old.present descends → IsScene d new.present descends
scene_shared d (Ok _) rule old new descends made kept scene = scene_granted d old.present new.present descends made.rest scene
scene_shared d (Err _) rule old new descends made kept scene = subst (λ (h : History World). IsScene d h.present descends) (sym kept) scene

pub scene_reparented : {T E : Type 0} (d : Definition) (result : Result T E) (moved : RowKey) (old new : History World) (descends : Bool) → OnOk result (Reparents d moved old.present new.present) → OnErr result (new ≡ old) → IsScene d old.present descends → IsScene d new.present descends
scene_reparented d (Ok _) moved old new descends made kept scene = scene_granted d old.present new.present descends made.rest scene
scene_reparented d (Err _) moved old new descends made kept scene = subst (λ (h : History World). IsScene d h.present descends) (sym kept) scene

-- an empty store descends
pub scene_begun : (d : Definition) (w : World) → HasOneParent d → w ≡ empty d → IsScene d w true
scene_begun d w one is = subst (λ (v : World). IsScene d v true) (sym is) (record {
  shape = refl;
  one_parent = one;
  known = λ e child parent under. absurd (true≢false (sym (ap (λ row. names row (place_of under.relationship.column) parent.id) (sym (map.get-empty row_cmp child)) ∙ under.refers.named)));
})
