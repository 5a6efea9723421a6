-- The rows that are reached are the least closed set that has the target.
use Rattle.std.proofs.Common.{◌≡◌, sym, subst, ℕ, zero, suc}
use Rattle.std.specs.Prelude.{Bool, true, IsSome}
use Rattle.std.specs.FinMap as map
use Rattle.dv_schema.specs.declared.definition.Definition.{Definition}
use Rattle.dv_store.specs.declared.keys.RowKey.{RowKey}
use Rattle.dv_store.specs.World.{World}
use Rattle.dv_cascade.specs.declared.cascading.Cascading.{Cascading}
use Rattle.dv_cascade.specs.Links.{Leads}
use Rattle.dv_cascade.specs.Chains.{Chain, IsClosed, IsReached}
use Rattle.dv_cascade.proofs.Closures.{reaches_on, reaches_itself}

pub has-target : (w : World) (d : Definition) (c : Cascading) (target : RowKey) → IsSome (map.get w.rows target) → IsReached w d c target target
has-target w d c target there = record { there = there; reached = reaches_itself (Leads w d c) target }

pub is-closed : (w : World) (d : Definition) (c : Cascading) (target : RowKey) → IsClosed (Leads w d c) (IsReached w d c target)
is-closed w d c target parent child h link = record { there = h.there; reached = reaches_on (Leads w d c) target parent child h.reached link }

stays : (Link : RowKey → RowKey → Type 0) (set : RowKey → Bool) → IsClosed Link (λ key. set key ≡ true) → (first last : RowKey) (links : ℕ) → Chain Link links first last → set first ≡ true → set last ≡ true
unfolding Chain
stays Link set closed first last zero chain h = subst (λ k. set k ≡ true) (sym chain) h
stays Link set closed first last (suc links) chain h = closed chain.0 last (stays Link set closed first chain.0 links chain.1.0 h) chain.1.1

pub is-least : (w : World) (d : Definition) (c : Cascading) (target : RowKey) (set : RowKey → Bool) → IsClosed (Leads w d c) (λ key. set key ≡ true) → set target ≡ true → (key : RowKey) → IsReached w d c target key → set key ≡ true
is-least w d c target set closed h key r = stays (Leads w d c) set closed target key r.reached.links r.reached.chain h
