-- How a row gets another owner: what is checked, in which order, and which rows get it.
use Rattle.std.specs.Prelude.{◌≡◌, not, List, [], ◌∷◌, Option, Result, IsErr, map}
use Rattle.dv_value.specs.declared.id.Id.{Id}
use Rattle.dv_value.specs.declared.value.Value.TheVariants as value
use Rattle.dv_refusal.specs.declared.refusal.Refusal.{Refusal}
use Rattle.dv_refusal.specs.declared.refusal.Refusal.TheVariants as answer
use Rattle.dv_schema.specs.declared.opening.Action.TheVariants as action
use Rattle.dv_store.specs.declared.keys.RowKey.{RowKey}
use Rattle.dv_store.specs.Cursors.{owner_place}
use Rattle.dv_store.specs.World.{World}
use Rattle.dv_cascade.specs.declared.cascading.Cascading.TheVariants as cascading
use Rattle.dv_request.specs.declared.reply.Reply.{Reply}
use Rattle.dv_request.specs.declared.reply.Reply.TheVariants.{Done}
use Rattle.dv_message.specs.declared.rows.Target.{Target}
use Rattle.dv_message.specs.Checked.{Judged, refused_if}
use Rattle.dv_message.specs.Rights.{is_owner, RightSays}
use Rattle.dv_message.specs.Rows.{row_fault, share_fault}
use Rattle.dv_message.specs.Scenes.{Setting, Targeted, targeted_in}
use Rattle.dv_write.specs.declared.change.Change.{Change}
use Rattle.dv_write.specs.declared.change.Edit.TheVariants.{Set}
use Rattle.dv_write.specs.declared.change.Placed.{Placed}
use Rattle.dv_write.specs.declared.assigning.AssignCheck.{AssignCheck}
use Rattle.dv_write.specs.declared.assigning.AssignCheck.TheVariants as check
use Rattle.dv_write.specs.Closures.{work_fault, IsClosure, Next, ReachedSays, Then}
use Rattle.dv_write.specs.Effects.{applied, first_limit, touched}

-- what an assignment is about: the row that it names, and the new owner
pub record Assigning : Type 0 where
  pub target : Targeted
  pub owner : Id

-- an assignment in a world
abbrev pub assigning_in : World → Target → Id → Assigning
assigning_in w target owner = record { target = targeted_in w target; owner = owner }

-- what each check says: rows of the table have owners; the owner is a user or an owner team; the row is there; the user may
-- assign it
unfoldable pub AssignSays : Assigning → AssignCheck → Option Refusal → Type 0
AssignSays a check.Owned refusal = refusal ≡ share_fault a.target.table
AssignSays a check.Owner refusal = refusal ≡ refused_if (not (is_owner a.target.setting.directory.chart a.owner)) answer.BadPrincipal
AssignSays a check.Row refusal = refusal ≡ row_fault a.target
AssignSays a check.Right refusal = RightSays a.target action.Assign refusal

-- the checks, in their order
abbrev pub assign_checks : List AssignCheck
assign_checks = check.Owned ∷ check.Owner ∷ check.Row ∷ check.Right ∷ []

-- what an assignment puts into each of its rows: the owner, the user and the moment
abbrev pub assigned : Id → Setting → List Placed
assigned owner s = record { place = owner_place; value = value.Ref owner } ∷ touched s

-- what an assignment does to a row
abbrev pub assignment_of : Id → Setting → RowKey → Change
assignment_of owner s key = record { key = key; edit = Set (assigned owner s) }

-- the changes of an assignment of these rows
abbrev pub assign_changes : Assigning → List RowKey → List Change
assign_changes a set = map (assignment_of a.owner a.target.setting) set

-- the rows get the owner
abbrev pub Assigns : Assigning → List RowKey → World → Reply → Type 0
Assigns a set new reply = (new ≡ applied (assign_changes a set) a.target.world) × (reply ≡ Done)

-- what comes of an assignment of the rows that it reaches: they may not be too many, and the user has to have the right to
-- assign each of them
abbrev pub RunsReached : Assigning → World → Result Reply Refusal → Type 0
RunsReached a new outcome = (set : List RowKey) × IsClosure a.target cascading.Assign set
    × Next (work_fault set)
    (Judged (ReachedSays a.target action.Assign) set (λ said. said ≡ first_limit (assign_changes a set) a.target.world) (Assigns a set new)) outcome

-- what comes of an assignment; a refused one leaves the world
abbrev pub RunsAssign : Assigning → World → Result Reply Refusal → Type 0
RunsAssign a new outcome = Then (AssignSays a) assign_checks (RunsReached a new) outcome × (IsErr outcome → new ≡ a.target.world)
