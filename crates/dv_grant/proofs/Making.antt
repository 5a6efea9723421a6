-- The worlds that the messages make, and why one isn't made.
use Rattle.std.proofs.Common.{◌≡◌, refl, sym, subst, inl, inr, ℕ, List}
use Rattle.std.proofs.lemmas.Bool.{true≢false}
use Rattle.std.specs.Prelude.{None, Ok, Err}
use Rattle.dv_refusal.specs.declared.refusal.Refusal.{Refusal}
use Rattle.dv_request.specs.declared.reply.Reply.TheVariants.{Done}
use Rattle.dv_message.specs.declared.stop.Stop.{Stop}
use Rattle.dv_message.specs.declared.stop.Stop.TheVariants.{Refused}
use Rattle.dv_message.specs.Checked.{AllPass, Walked}
use Rattle.dv_store.specs.declared.keys.RowKey.{RowKey}
use Rattle.dv_store.specs.World.{World}
use Rattle.dv_store.specs.declared.fault.StoreFault.{StoreFault}
use Rattle.dv_cascade.specs.declared.cascading.Cascading.TheVariants as reached
use Rattle.dv_shares.specs.Grants.{granted, revoked, modified}
use Rattle.dv_shares.specs.Outcome.{LimitSays, MayRefuse, StaysWithin}
use Rattle.dv_message.specs.Versions.{stop_of}
use Rattle.dv_grant.specs.Closures.{key_of, IsClosure}
use Rattle.dv_grant.specs.Granting.{Granting, mask_of, IsGranted, IsModified, IsStopped, GrantSays, grant_checks, Runs}
use Rattle.dv_grant.specs.Revoking.{Revoking, IsRevoked}

pub revoked_as : (r : Revoking) {rows slice : List RowKey} {key : RowKey} → IsClosure r.target reached.Unshare rows → slice ≡ rows → key ≡ key_of r.target
    → IsRevoked r (revoked slice key r.principal r.target.world)
revoked_as r {rows} {slice} {key} closure s k = (rows, closure, rw (s, k) refl)

pub granted_as : (g : Granting) {rows slice : List RowKey} {key : RowKey} {mask : ℕ} → IsClosure g.target reached.Share rows → slice ≡ rows → key ≡ key_of g.target
    → mask ≡ mask_of g.rights → IsGranted g (granted slice key g.principal mask g.target.world)
granted_as g {rows} {slice} {key} {mask} closure s k m = (rows, closure, rw (s, k, m) refl)

pub modified_as : (g : Granting) {unshared shared before after : List RowKey} {key : RowKey} {mask : ℕ} → IsClosure g.target reached.Unshare unshared → IsClosure g.target reached.Share shared
    → before ≡ unshared → after ≡ shared → key ≡ key_of g.target → mask ≡ mask_of g.rights → IsModified g (modified before after key g.principal mask g.target.world)
modified_as g {unshared} {shared} {before} {after} {key} {mask} first second b a k m = (unshared, shared, first, second, rw (b, a, k, m) refl)

-- a world that was made stays within the limit
pub stays : (Makes : World → Type 0) (old : World) {new w : World} → new ≡ w → Makes w → StaysWithin old new → LimitSays Makes old None
stays Makes old {new} {w} is made within = (new, subst Makes (sym is) made, within)

-- what stops a world from being made is the limit of grants, or that memory ran out
pub stopped : (Makes : World → Type 0) (old : World) {new : World} {fault : StoreFault} → Makes new → MayRefuse new fault → IsStopped Makes old (stop_of fault)
unfolding stop_of
stopped Makes old {new} {fault} made (inl none) = subst (λ f. IsStopped Makes old (stop_of f)) (sym none) tt
stopped Makes old {new} {fault} made (inr limit) = subst (λ f. IsStopped Makes old (stop_of f)) (sym limit.0) (new, made, limit.1, refl)

-- what comes of a message: it is done, a check refuses it, or the limit does
pub is_done : (g : Granting) (Makes : World → Type 0) {new : World} → AllPass (GrantSays g) grant_checks → LimitSays Makes g.target.world None → Makes new → Runs Makes g new (Ok Done)
is_done g Makes {new} all within made = ((all, within, (made, refl)), λ e. absurd (true≢false (sym e)))

pub is_refused : (g : Granting) (Makes : World → Type 0) {stop : Stop} {refusal : Refusal} → stop ≡ Refused refusal → Walked {T = Unit {0}} (GrantSays g) grant_checks (Err stop)
    → Runs Makes g g.target.world (Err refusal)
is_refused g Makes {stop} {refusal} e walked = (inl (subst (λ s. Walked {T = Unit {0}} (GrantSays g) grant_checks (Err s)) e walked), λ err. refl)

pub is_limited : (g : Granting) (Makes : World → Type 0) {stop : Stop} {refusal : Refusal} → stop ≡ Refused refusal → AllPass (GrantSays g) grant_checks → IsStopped Makes g.target.world stop
    → Runs Makes g g.target.world (Err refusal)
is_limited g Makes {stop} {refusal} e all limit = (inr (all, subst (IsStopped Makes g.target.world) e limit), λ err. refl)
