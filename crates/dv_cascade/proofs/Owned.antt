-- What a new parent is handed on to has owners.
use Rattle.std.proofs.Common.{◌≡◌, refl, sym, ap, subst, ◌∙◌, ℕ, zero, suc, true, false}
use Rattle.std.proofs.lemmas.Bool.{true≢false}
use Rattle.std.proofs.lemmas.Option.{slice_get-map}
use Rattle.std.specs.Prelude.{◌||◌, Option, None, Some, slice_get, option_map}
use Rattle.std.specs.Option.{option_map_or}
use Rattle.dv_schema.specs.declared.definition.Definition.{Definition}
use Rattle.dv_schema.specs.declared.relationship.Cascade.{Cascade}
use Rattle.dv_schema.specs.declared.relationship.Relationship.{Relationship}
use Rattle.dv_schema.specs.declared.table.Table.{Table}
use Rattle.dv_schema.specs.Definitions.{tables_of}
use Rattle.dv_schema.specs.Sound.{has_owners, hands_on, is_parental, IsSound}
use Rattle.dv_store.specs.declared.keys.RowKey.{RowKey}
use Rattle.dv_store.specs.Shapes.{is_marked, is_owned, shape_of}
use Rattle.dv_store.specs.World.{World}
use Rattle.dv_cascade.specs.declared.cascading.Cascading.TheVariants.{Reparent}
use Rattle.dv_cascade.specs.Links.{reaches_any, Leads}
use Rattle.dv_cascade.specs.Chains.{Chain, IsReached}
use Rattle.dv_cascade.proofs.Among.{or-right}
use Rattle.dv_cascade.proofs.Leading.{at_number, leads_any}

hands_on-reaches_any : (cascade : Cascade) → reaches_any cascade ≡ true → hands_on cascade ≡ true
hands_on-reaches_any Cascade.Cascade h = refl
hands_on-reaches_any Cascade.Active h = refl
hands_on-reaches_any Cascade.UserOwned h = refl
hands_on-reaches_any Cascade.NoCascade h = absurd (true≢false (sym h))
hands_on-reaches_any Cascade.RemoveLink h = refl
hands_on-reaches_any Cascade.Restrict h = refl

is_parental-reparent : (r : Relationship) → hands_on r.reparent ≡ true → is_parental r ≡ true
is_parental-reparent r h = or-right (hands_on r.assign) (hands_on r.share || (hands_on r.unshare || hands_on r.reparent))
    (or-right (hands_on r.share) (hands_on r.unshare || hands_on r.reparent) (or-right (hands_on r.unshare) (hands_on r.reparent) h))

-- a store's tables with owners are those of its definition
is_owned-has_owners : (d : Definition) (table : ℕ) → is_owned (shape_of d) table ≡ has_owners d table
unfolding shape_of
is_owned-has_owners d table = ap is_marked (slice_get-map (λ t. t.user_owned) (tables_of d) table) ∙ of (slice_get (tables_of d) table)
  where
    of : (t : Option Table) → is_marked (option_map (λ t. t.user_owned) t) ≡ option_map_or (λ t. t.user_owned) t false
    of None = refl
    of (Some t) = refl

module _ (w : World) (d : Definition) (sound : IsSound d) (shape : w.shape ≡ shape_of d) where
  -- a link by which a new parent is handed on leads to a row that has an owner
  child_owned : (parent child : RowKey) → Leads w d Reparent parent child → is_owned w.shape child.table ≡ true
  child_owned parent child link =
      let r = link.relationship in
      let at = at_number w d Reparent parent link.number r link.there in
      let handed = hands_on-reaches_any r.reparent (leads_any w r.reparent parent child link.by.allowed) in
      let owned = (sound.relationships link.number r at.1).owned (is_parental-reparent r handed) in
      ap (λ s. is_owned s child.table) shape ∙ is_owned-has_owners d child.table ∙ ap (has_owners d) link.by.refers.child_table ∙ owned.1

  pub reached_owned : (moved key : RowKey) → is_owned w.shape moved.table ≡ true → IsReached w d Reparent moved key → is_owned w.shape key.table ≡ true
  unfolding Chain
  reached_owned moved key owned r = of r.reached.links r.reached.chain
    where
      of : (links : ℕ) → Chain (Leads w d Reparent) links moved key → is_owned w.shape key.table ≡ true
      of zero chain = subst (λ k. is_owned w.shape k.table ≡ true) (sym chain) owned
      of (suc links) chain = child_owned chain.0 key chain.1.1
