-- How the shares of a row are told: what is checked, in which order, and which shares there are.
use Rattle.std.specs.Prelude.{◌≡◌, ℕ, List, [], ◌∷◌, Option, None, Result, find, ◌==◌}
use Rattle.std.specs.Option.{option_map}
use Rattle.std.specs.Ordering.{nat_cmp}
use Rattle.std.specs.List.Sorted.{IsStrictlySortedBy}
use Rattle.std.specs.FinMap as map
use Rattle.dv_value.specs.declared.id.Id.{Id}
use Rattle.dv_refusal.specs.declared.refusal.Refusal.{Refusal}
use Rattle.dv_schema.specs.declared.opening.Action.TheVariants as action
use Rattle.dv_store.specs.Keys.{grant_key}
use Rattle.dv_request.specs.declared.reply.Reply.{Reply}
use Rattle.dv_request.specs.declared.reply.Reply.TheVariants.{Shares}
use Rattle.dv_request.specs.declared.reply.Share.{Share}
use Rattle.dv_message.specs.Checked.{Judged}
use Rattle.dv_message.specs.Rights.{RightSays}
use Rattle.dv_message.specs.Rows.{row_fault, share_fault}
use Rattle.dv_message.specs.Scenes.{Targeted}
use Rattle.dv_grant.specs.declared.listing.SharesCheck.{SharesCheck}
use Rattle.dv_grant.specs.declared.listing.SharesCheck.TheVariants as check

-- the direct and the inherited rights of a share
abbrev pub told_rights : Share → ℕ × ℕ
told_rights share = (share.direct, share.inherited)

-- the rights that a list of shares tells of a user or team
abbrev pub rights_in : List Share → Id → Option (ℕ × ℕ)
rights_in shares principal = option_map told_rights (find (λ share. share.principal.0 == principal.0) shares)

-- the shares of a row: by ascending ids, each user and team that has a grant on it, with the rights of the grant
pub record AreShares (t : Targeted) (shares : List Share) : Type 0 where
  pub ascending : IsStrictlySortedBy (λ a b. nat_cmp a.principal.0 b.principal.0) shares
  pub each : (principal : Id) → rights_in shares principal ≡ map.get t.world.grants (grant_key t.number t.id principal)

-- what each check says: rows of the table have owners; the row is there; the caller may read it
unfoldable pub SharesSays : Targeted → SharesCheck → Option Refusal → Type 0
SharesSays t check.Table refusal = refusal ≡ share_fault t.table
SharesSays t check.Row refusal = refusal ≡ row_fault t
SharesSays t check.Read refusal = RightSays t action.Read refusal

-- the checks, in their order
abbrev pub shares_checks : List SharesCheck
shares_checks = check.Table ∷ check.Row ∷ check.Read ∷ []

-- the shares are told
abbrev pub TellsShares : Targeted → Reply → Type 0
TellsShares t reply = (shares : List Share) × AreShares t shares × (reply ≡ Shares shares)

-- what comes of the question for the shares of a row, which has no limit to pass
abbrev pub RunsShares : Targeted → Result Reply Refusal → Type 0
RunsShares t outcome = Judged (SharesSays t) shares_checks (λ said. said ≡ None) (TellsShares t) outcome
