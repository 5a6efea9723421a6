-- How rights on a row are revoked: what is checked, in which order, and what becomes of the grants.
use Rattle.std.specs.Prelude.{◌≡◌, not, List, [], ◌∷◌, Option, None, Result, IsErr}
use Rattle.dv_value.specs.declared.id.Id.{Id}
use Rattle.dv_refusal.specs.declared.refusal.Refusal.{Refusal}
use Rattle.dv_refusal.specs.declared.refusal.Refusal.TheVariants as answer
use Rattle.dv_schema.specs.declared.opening.Action.TheVariants as action
use Rattle.dv_units.specs.Chart.{Chart}
use Rattle.dv_store.specs.declared.keys.RowKey.{RowKey}
use Rattle.dv_store.specs.World.{World}
use Rattle.dv_cascade.specs.declared.cascading.Cascading.TheVariants.{Unshare}
use Rattle.dv_shares.specs.Grants.{revoked}
use Rattle.dv_request.specs.declared.reply.Reply.{Reply}
use Rattle.dv_request.specs.declared.reply.Reply.TheVariants.{Done}
use Rattle.dv_message.specs.declared.rows.Target.{Target}
use Rattle.dv_message.specs.Checked.{Judged, refused_if}
use Rattle.dv_message.specs.Rights.{RightSays, is_principal}
use Rattle.dv_message.specs.Rows.{row_fault, share_fault}
use Rattle.dv_message.specs.Scenes.{Targeted, targeted_in}
use Rattle.dv_grant.specs.declared.revoking.RevokeCheck.{RevokeCheck}
use Rattle.dv_grant.specs.declared.revoking.RevokeCheck.TheVariants as check
use Rattle.dv_grant.specs.Closures.{key_of, IsClosure}

-- a revocation: the row, and the user or team whose rights are revoked
pub record Revoking : Type 0 where
  pub target : Targeted
  pub principal : Id

-- a revocation in a world
abbrev pub revoking_in : World → Target → Id → Revoking
revoking_in w t principal = record { target = targeted_in w t; principal = principal }

-- an id that is that of no user and of no team
abbrev pub principal_fault : Chart → Id → Option Refusal
principal_fault chart principal = refused_if (not (is_principal chart principal)) answer.BadPrincipal

-- what each check says: rows of the table have owners; the principal is a user or a team; the row is there; the caller
-- may share it
unfoldable pub RevokeSays : Revoking → RevokeCheck → Option Refusal → Type 0
RevokeSays r check.Table refusal = refusal ≡ share_fault r.target.table
RevokeSays r check.Principal refusal = refusal ≡ principal_fault r.target.setting.directory.chart r.principal
RevokeSays r check.Row refusal = refusal ≡ row_fault r.target
RevokeSays r check.Share refusal = RightSays r.target action.Share refusal

-- the checks, in their order
abbrev pub revoke_checks : List RevokeCheck
revoke_checks = check.Table ∷ check.Principal ∷ check.Row ∷ check.Share ∷ []

-- the rights are gone: all those on the row, and the inherited ones on the rows that the end of its share reaches
abbrev pub IsRevoked : Revoking → World → Type 0
IsRevoked r new = (rows : List RowKey) × IsClosure r.target Unshare rows × (new ≡ revoked rows (key_of r.target) r.principal r.target.world)

-- what comes of a revocation, which has no limit to pass; a refused one leaves the world
abbrev pub RunsRevoke : Revoking → World → Result Reply Refusal → Type 0
RunsRevoke r new outcome = Judged (RevokeSays r) revoke_checks (λ said. said ≡ None) (λ reply. IsRevoked r new × (reply ≡ Done)) outcome × (IsErr outcome → new ≡ r.target.world)
