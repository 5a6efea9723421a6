-- Links that change: where each link is an old one, or puts a row under a parent that isn't below it, no circle comes.
use Rattle.std.proofs.Common.{◌≡◌, sym, subst, ℕ, zero, suc, ◌⊎◌, inl, inr}
use Rattle.dv_schema.specs.declared.definition.Definition.{Definition}
use Rattle.dv_store.specs.declared.keys.RowKey.{RowKey}
use Rattle.dv_store.specs.World.{World}
use Rattle.dv_cascade.specs.Chains.{Chain, Reaches}
use Rattle.dv_cascade.specs.Circles.{AddsLinksOf, HasNoCircle, IsNotUnder, IsUnderParent}
use Rattle.dv_cascade.proofs.Closures.{reaches_on, reaches_itself}

-- two chains, one after the other
pub reaches_then : (Link : RowKey → RowKey → Type 0) (first next last : RowKey) → Reaches Link first next → Reaches Link next last → Reaches Link first last
unfolding Chain
reaches_then Link first next last r s = of s.links last s.chain
  where
    of : (links : ℕ) (end : RowKey) → Chain Link links next end → Reaches Link first end
    of zero end chain = subst (λ k. Reaches Link first k) (sym chain) r
    of (suc links) end chain = reaches_on Link first chain.0 end (of links chain.0 chain.1.0) chain.1.1

-- a chain in which a row is put under new parents: old links lead up to the row, and on from the last new parent
record Turns (Old : RowKey → RowKey → Type 0) (row first last : RowKey) : Type 0 where
  before : Reaches Old first row
  parent : RowKey
  apart : Reaches Old parent row → ⊥
  after : Reaches Old parent last

module _ (Old New : RowKey → RowKey → Type 0) (row : RowKey) (adds : (child parent : RowKey) → New child parent → Old child parent ⊎ ((child ≡ row) × (Reaches Old parent row → ⊥))) where
  -- each chain is of old links, or turns at the row
  turns : (links : ℕ) (first last : RowKey) → Chain New links first last → Chain Old links first last ⊎ Turns Old row first last
  unfolding Chain
  turns zero first last chain = inl chain
  turns (suc links) first last chain = of (adds chain.0 last chain.1.1) (turns links first chain.0 chain.1.0)
    where
      of : Old chain.0 last ⊎ ((chain.0 ≡ row) × (Reaches Old last row → ⊥)) → Chain Old links first chain.0 ⊎ Turns Old row first chain.0 → Chain Old (suc links) first last ⊎ Turns Old row first last
      of (inl link) (inl old) = inl (chain.0, (old, link))
      of (inl link) (inr t) = inr (record { before = t.before; parent = t.parent; apart = t.apart; after = reaches_on Old t.parent chain.0 last t.after link })
      of (inr new) (inl old) = inr (record { before = subst (λ k. Reaches Old first k) new.0 (record { links = links; chain = old }); parent = last; apart = new.1; after = reaches_itself Old last })
      of (inr new) (inr t) = inr (record { before = t.before; parent = last; apart = new.1; after = reaches_itself Old last })

  -- no row comes to be above itself
  pub no_new_circle : ((key : RowKey) (links : ℕ) → Chain Old (suc links) key key → ⊥) → (key : RowKey) (links : ℕ) → Chain New (suc links) key key → ⊥
  no_new_circle circle key links chain = of (turns (suc links) key key chain)
    where
      of : Chain Old (suc links) key key ⊎ Turns Old row key key → ⊥
      of (inl old) = circle key links old
      of (inr t) = t.apart (reaches_then Old t.parent key row t.after t.before)

pub new_parents : (old new : World) (d : Definition) (row : RowKey) → HasNoCircle old d → AddsLinksOf old new d row (IsNotUnder old d row) → HasNoCircle new d
new_parents old new d row circle adds = no_new_circle (IsUnderParent old d) (IsUnderParent new d) row adds.links circle
