-- How a user's rights on a row are told: what is checked, in which order, and which rights there are.
use Rattle.std.specs.Prelude.{◌≡◌, ℕ, Bool, not, true, List, [], ◌∷◌, Option, Some, None, Result}
use Rattle.std.specs.Option.{option_map_or, unwrap_or}
use Rattle.dv_value.specs.declared.id.Id.{Id}
use Rattle.dv_refusal.specs.declared.refusal.Refusal.{Refusal}
use Rattle.dv_refusal.specs.declared.refusal.Refusal.TheVariants as answer
use Rattle.dv_schema.specs.declared.opening.Action.TheVariants as action
use Rattle.dv_units.specs.Chart.{Chart, is_user}
use Rattle.dv_store.specs.declared.row.Row.{Row}
use Rattle.dv_store.specs.Cursors.{told_of}
use Rattle.dv_store.specs.World.{World}
use Rattle.dv_access.specs.Permitted.{AreRights}
use Rattle.dv_request.specs.declared.reply.Reply.{Reply}
use Rattle.dv_request.specs.declared.reply.Reply.TheVariants.{Rights}
use Rattle.dv_message.specs.declared.rows.Target.{Target}
use Rattle.dv_message.specs.Checked.{Judged, refused_if}
use Rattle.dv_message.specs.Rights.{RightSays}
use Rattle.dv_message.specs.Rows.{row_in, row_fault}
use Rattle.dv_message.specs.Scenes.{Targeted, targeted_in}
use Rattle.dv_grant.specs.declared.accessing.AccessCheck.{AccessCheck}
use Rattle.dv_grant.specs.declared.accessing.AccessCheck.TheVariants as check

-- a question for rights: the row, and the user that is asked for, if one is given
pub record Accessing : Type 0 where
  pub target : Targeted
  pub user : Option Id

-- such a question in a world
abbrev pub accessing_in : World → Target → Option Id → Accessing
accessing_in w t user = record { target = targeted_in w t; user = user }

-- the user whose rights are told: the one that is given, or else the caller
abbrev pub asked_user : Accessing → Id
asked_user a = unwrap_or a.user a.target.setting.user

-- whether an id that may be missing is that of a user, where it is given
abbrev pub is_user_if_given : Chart → Option Id → Bool
is_user_if_given chart user = option_map_or (λ id. is_user chart id) user true

-- who is given but is no user
abbrev pub user_fault : Chart → Option Id → Option Refusal
user_fault chart user = refused_if (not (is_user_if_given chart user)) answer.BadPrincipal

-- the rights that the user has on the row, each counted once
abbrev pub AreRightsThere : Accessing → ℕ → Type 0
AreRightsThere a rights = AreRights a.target.setting.directory (told_of a.target.world) (asked_user a) a.target.number a.target.id rights

-- the same of a row that may not be there, on which there are none
abbrev pub AreRightsOn : Accessing → Option Row → ℕ → Type 0
AreRightsOn a None rights = rights ≡ 0
AreRightsOn a (Some row) rights = AreRightsThere a rights

-- what each check says: the user that is asked for is one; the row is there; the caller may read it
unfoldable pub AccessSays : Accessing → AccessCheck → Option Refusal → Type 0
AccessSays a check.User refusal = refusal ≡ user_fault a.target.setting.directory.chart a.user
AccessSays a check.Row refusal = refusal ≡ row_fault a.target
AccessSays a check.Read refusal = RightSays a.target action.Read refusal

-- the checks, in their order
abbrev pub access_checks : List AccessCheck
access_checks = check.User ∷ check.Row ∷ check.Read ∷ []

-- the rights are told, as a sum
abbrev pub TellsRights : Accessing → Reply → Type 0
TellsRights a reply = (rights : ℕ) × AreRightsOn a (row_in a.target) rights × (reply ≡ Rights rights)

-- what comes of such a question, which has no limit to pass
abbrev pub RunsAccess : Accessing → Result Reply Refusal → Type 0
RunsAccess a outcome = Judged (AccessSays a) access_checks (λ said. said ≡ None) (TellsRights a) outcome
