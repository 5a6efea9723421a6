-- Rows that a moved row takes with it: each is under another of them, and none of them is above the moved one.
use Rattle.std.proofs.Common.{◌≡◌, refl, sym, ap, subst, ◌∙◌, ℕ, zero, suc, ◌⊎◌, inl, inr, Bool, true, false, List, [], ◌∷◌, is_some}
use Rattle.std.proofs.lemmas.Bool.{true≢false}
use Rattle.std.specs.Prelude.{◌&&◌, ◌||◌, cond, Option, None, Some, IsTrue, nat_lt, slice_get}
use Rattle.std.specs.List.{list_all}
use Rattle.std.specs.FinMap as fin
use Rattle.dv_value.specs.declared.id.Id.{Id}
use Rattle.dv_schema.specs.declared.definition.Definition.{Definition}
use Rattle.dv_schema.specs.declared.relationship.Cascade as kind
use Rattle.dv_schema.specs.declared.relationship.Cascade.TheVariants.{NoCascade, Cascade, Active, UserOwned, RemoveLink, Restrict}
use Rattle.dv_schema.specs.declared.relationship.Relationship.{Relationship}
use Rattle.dv_schema.specs.Definitions.{relationships_of}
use Rattle.dv_store.specs.declared.keys.RowKey.{RowKey}
use Rattle.dv_store.specs.declared.row.Row.{Row}
use Rattle.dv_store.specs.Keys.{is_row}
use Rattle.dv_store.specs.Shapes.{is_owned, place_of}
use Rattle.dv_store.specs.World.{World, is_there, names}
use Rattle.dv_cascade.specs.declared.cascading.Cascading.TheVariants.{Reparent}
use Rattle.dv_cascade.specs.Chains.{is_among, Chain, IsReached}
use Rattle.dv_cascade.specs.Circles.{HasNoCircle, IsUnderParent}
use Rattle.dv_schema.specs.Sound.{hands_on}
use Rattle.dv_cascade.specs.Links.{allows, relationship_at, Leads}
use Rattle.dv_shares.specs.Grants.{can_have_grants}
use Rattle.dv_shares.proofs.Clearing.{row_is}
use Rattle.dv_shares.proofs.Climbing.{and-parts}

-- a chain with a link before it
pub joined : (Link : RowKey → RowKey → Type 0) (first next last : RowKey) (links : ℕ) → Link first next → Chain Link links next last → Chain Link (suc links) first last
unfolding Chain
joined Link first next last zero link chain = (first, (refl, subst (λ k. Link first k) (sym chain) link))
joined Link first next last (suc links) link chain = (chain.0, (joined Link first next chain.0 links link chain.1.0, chain.1.1))

-- what reaches a row is handed on
handed_on : (w : World) (cascade : kind.Cascade) (parent child : RowKey) → allows w cascade parent child ≡ true → hands_on cascade ≡ true
unfolding allows
handed_on w NoCascade parent child e = absurd (true≢false (sym e))
handed_on w Cascade parent child e = refl
handed_on w Active parent child e = refl
handed_on w UserOwned parent child e = refl
handed_on w RemoveLink parent child e = refl
handed_on w Restrict parent child e = refl

or_last : (a b c d : Bool) → d ≡ true → (a || (b || (c || d))) ≡ true
or_last true b c d e = refl
or_last false true c d e = refl
or_last false false true d e = refl
or_last false false false d e = e

at_number : (d : Definition) (number : ℕ) (r : Relationship) → relationship_at d number ≡ Some r → slice_get (relationships_of d) number ≡ Some r
at_number d number r is = of (nat_lt number 65536) is
  where
    of : (b : Bool) → cond b (slice_get (relationships_of d) number) None ≡ Some r → slice_get (relationships_of d) number ≡ Some r
    of true e = e
    of false e = absurd (true≢false (sym (ap is_some e)))

there_named : (row : Option Row) (place : ℕ) (id : Id) → names row place id ≡ true → is_some row ≡ true
there_named None place id e = absurd (true≢false (sym e))
there_named (Some row) place id e = refl

-- what is so of all rows of a list is so of each
all_at : (test : RowKey → Bool) (rows : List RowKey) (row : RowKey) → list_all test rows ≡ true → IsTrue (is_among rows row) → test row ≡ true
all_at test [] row all h = absurd (true≢false (sym h))
all_at test (other ∷ rows) row all h = of (is_row row other) refl h (λ later. all_at test rows row (and-parts (test other) (list_all test rows) all).1 later)
  where
    of : (b : Bool) → is_row row other ≡ b → IsTrue (b || is_among rows row) → (IsTrue (is_among rows row) → test row ≡ true) → test row ≡ true
    of true e h later = ap test (row_is row other e) ∙ (and-parts (test other) (list_all test rows) all).0
    of false e h later = later h

module _ (w : World) (d : Definition) where
  -- a link leads to a row that is under its parent
  pub leads_under : (parent child : RowKey) → Leads w d Reparent parent child → IsUnderParent w d child parent
  leads_under parent child leads = record {
    number = leads.number;
    relationship = leads.relationship;
    there = at_number d leads.number leads.relationship leads.there;
    parental = or_last (hands_on leads.relationship.assign) (hands_on leads.relationship.share) (hands_on leads.relationship.unshare) (hands_on leads.relationship.reparent) (handed_on w leads.relationship.reparent parent child leads.by.allowed);
    refers = leads.by.refers;
  }

  -- so a chain of links down is one of parents up
  upwards : (first last : RowKey) (links : ℕ) → Chain (Leads w d Reparent) links first last → Chain (IsUnderParent w d) links last first
  unfolding Chain
  upwards first last zero chain = sym chain
  upwards first last (suc links) chain = joined (IsUnderParent w d) last chain.0 first links (leads_under chain.0 last chain.1.1) (upwards first chain.0 links chain.1.0)

  module _ (moved : RowKey) where
    -- the parent of the moved row isn't one of those that go with it
    pub not_under : HasNoCircle w d → (parent : RowKey) → IsUnderParent w d moved parent → IsReached w d Reparent moved parent → ⊥
    not_under no_circle parent under reached = no_circle moved reached.reached.links (joined (IsUnderParent w d) moved parent moved reached.reached.links under (upwards moved parent reached.reached.links reached.reached.chain))

    -- a row that is reached is the moved one, or a link leads to it from one that is reached
    pub record IsLed (row : RowKey) : Type 0 where
      pub parent : RowKey
      pub reached : IsReached w d Reparent moved parent
      pub leads : Leads w d Reparent parent row

    pub how_reached : (row : RowKey) → IsReached w d Reparent moved row → (row ≡ moved) ⊎ IsLed row
    unfolding Chain
    how_reached row reached = of reached.reached.links reached.reached.chain
      where
        of : (links : ℕ) → Chain (Leads w d Reparent) links moved row → (row ≡ moved) ⊎ IsLed row
        of zero chain = inl chain
        of (suc links) chain = inr (record { parent = chain.0; reached = record { there = reached.there; reached = record { links = links; chain = chain.1.0 } }; leads = chain.1.1 })

    reached_there : (row : RowKey) → IsReached w d Reparent moved row → is_there w.rows row ≡ true
    reached_there row reached = of (how_reached row reached)
      where
        of : (row ≡ moved) ⊎ IsLed row → is_there w.rows row ≡ true
        of (inl is) = ap (is_there w.rows) is ∙ reached.there
        of (inr led) = there_named (fin.get w.rows row) (place_of led.leads.relationship.column) led.parent.id led.leads.by.refers.named

    -- rows that are reached can have grants, where users and teams own them
    pub reached_can : (set : List RowKey) → list_all (λ row. is_owned w.shape row.table) set ≡ true → (row : RowKey) → IsTrue (is_among set row) → IsReached w d Reparent moved row → can_have_grants w row ≡ true
    reached_can set owned row among reached = ap (λ b. b && is_owned w.shape row.table) (reached_there row reached) ∙ all_at (λ row. is_owned w.shape row.table) set row owned among
