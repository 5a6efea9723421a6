-- How rights on a row are granted, and how granted rights are modified: what is checked, in which order, and what becomes
-- of the grants.
use Rattle.std.specs.Prelude.{◌≡◌, ◌==◌, ◌&&◌, ⊤, ℕ, ℤ, pos, negsuc, Bool, true, false, not, List, [], ◌∷◌, Option, Some, None, Result, IsErr, map, chars, codes, nat_lt, nat_le, if◌then◌else◌}
use Rattle.std.specs.Int.RustNames.{bit_and}
use Rattle.dv_value.specs.declared.id.Id.{Id}
use Rattle.dv_refusal.specs.declared.refusal.Refusal.{Refusal}
use Rattle.dv_refusal.specs.declared.refusal.Refusal.TheVariants as answer
use Rattle.dv_schema.specs.declared.opening.Action.{Action}
use Rattle.dv_schema.specs.declared.opening.Action.TheVariants as action
use Rattle.dv_store.specs.declared.keys.RowKey.{RowKey}
use Rattle.dv_store.specs.World.{World}
use Rattle.dv_access.specs.Rights.{has_right}
use Rattle.dv_cascade.specs.declared.cascading.Cascading.TheVariants as reached
use Rattle.dv_shares.specs.Grants.{granted, modified}
use Rattle.dv_shares.specs.Outcome.{LimitSays}
use Rattle.dv_request.specs.declared.reply.Reply.{Reply}
use Rattle.dv_request.specs.declared.reply.Reply.TheVariants.{Done}
use Rattle.dv_message.specs.declared.rows.Target.{Target}
use Rattle.dv_message.specs.declared.stop.Stop.{Stop}
use Rattle.dv_message.specs.declared.stop.Stop.TheVariants.{Refused, OutOfMemory}
use Rattle.dv_message.specs.Checked.{Judged, refused_if}
use Rattle.dv_message.specs.Rights.{RightSays}
use Rattle.dv_message.specs.Rows.{row_fault, share_fault}
use Rattle.dv_message.specs.Scenes.{Targeted, targeted_in}
use Rattle.dv_grant.specs.declared.giving.GrantCheck.{GrantCheck}
use Rattle.dv_grant.specs.declared.giving.GrantCheck.TheVariants as check
use Rattle.dv_grant.specs.Closures.{key_of, IsClosure}
use Rattle.dv_grant.specs.Revoking.{principal_fault}

-- a grant or a modification: the row, the user or team that gets rights on it, and the number of these rights
pub record Granting : Type 0 where
  pub target : Targeted
  pub principal : Id
  pub rights : ℤ

-- a grant or a modification in a world
abbrev pub granting_in : World → Target → Id → ℤ → Granting
granting_in w t principal rights = record { target = targeted_in w t; principal = principal; rights = rights }

-- the actions to which rights can be given, by the value of the right, and all these rights together: each right that an
-- action on a row needs but that to create one
abbrev pub shareable : List Action
shareable = action.Read ∷ action.Write ∷ action.Append ∷ action.AppendTo ∷ action.Delete ∷ action.Share ∷ action.Assign ∷ []

abbrev pub all_rights : ℕ
all_rights = 851991

-- the rights that a number means; one below zero, or above all rights together, means none
abbrev pub mask_of : ℤ → ℕ
mask_of (pos number) = if nat_le number all_rights then number else 0
mask_of (negsuc number) = 0

-- whether rights are some of those that can be given
abbrev pub can_be_given : ℕ → Bool
can_be_given mask = nat_lt 0 mask && (bit_and mask all_rights == mask)

-- a number that means no rights, or one that can't be given
abbrev pub rights_fault : ℤ → Option Refusal
rights_fault rights = refused_if (not (can_be_given (mask_of rights))) (answer.OutOfRange (chars (codes "rights")))

-- what is said of a right that is given; one that isn't given passes
abbrev pub OfGiven : Bool → (Option Refusal → Type 0) → Option Refusal → Type 0
OfGiven true Says refusal = Says refusal
OfGiven false Says refusal = refusal ≡ None

-- what each check says: rows of the table have owners; the principal is a user or a team; the rights can be given; the
-- row is there; the caller may share it; the caller has a right that it gives
unfoldable pub GrantSays : Granting → GrantCheck → Option Refusal → Type 0
GrantSays g check.Table refusal = refusal ≡ share_fault g.target.table
GrantSays g check.Principal refusal = refusal ≡ principal_fault g.target.setting.directory.chart g.principal
GrantSays g check.Rights refusal = refusal ≡ rights_fault g.rights
GrantSays g check.Row refusal = refusal ≡ row_fault g.target
GrantSays g check.Share refusal = RightSays g.target action.Share refusal
GrantSays g (check.Given given) refusal = OfGiven (has_right (mask_of g.rights) given) (RightSays g.target given) refusal

-- the checks, in their order; the rights that are given come last, by their values
abbrev pub grant_checks : List GrantCheck
grant_checks = check.Table ∷ check.Principal ∷ check.Rights ∷ check.Row ∷ check.Share ∷ map check.Given shareable

-- the rights are granted: direct ones on the row, and inherited ones on the other rows that its share reaches
abbrev pub IsGranted : Granting → World → Type 0
IsGranted g new = (rows : List RowKey) × IsClosure g.target reached.Share rows
    × (new ≡ granted rows (key_of g.target) g.principal (mask_of g.rights) g.target.world)

-- The rights are modified: those that there were are revoked, on the rows that the end of the row's share reaches, and the
-- new ones granted. Both closures are those of the world before.
abbrev pub IsModified : Granting → World → Type 0
IsModified g new = (unshared : List RowKey) × (shared : List RowKey) × IsClosure g.target reached.Unshare unshared × IsClosure g.target reached.Share shared
    × (new ≡ modified unshared shared (key_of g.target) g.principal (mask_of g.rights) g.target.world)

-- why no world is made: the limit that it would pass, or that memory ran out
abbrev pub IsStopped : (World → Type 0) → World → Stop → Type 0
IsStopped Makes old (Refused refusal) = LimitSays Makes old (Some refusal)
IsStopped Makes old OutOfMemory = ⊤

-- what comes of a message that makes a world; a refused one leaves the world
abbrev pub Runs : (World → Type 0) → Granting → World → Result Reply Refusal → Type 0
Runs Makes g new outcome = Judged (GrantSays g) grant_checks (LimitSays Makes g.target.world) (λ reply. Makes new × (reply ≡ Done)) outcome × (IsErr outcome → new ≡ g.target.world)

-- what comes of a grant, and of a modification
abbrev pub RunsGrant : Granting → World → Result Reply Refusal → Type 0
RunsGrant g new outcome = Runs (IsGranted g) g new outcome

abbrev pub RunsModify : Granting → World → Result Reply Refusal → Type 0
RunsModify g new outcome = Runs (IsModified g) g new outcome
