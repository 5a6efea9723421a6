-- The rows that an assignment or a deletion of a row reaches, how many there may be, and the right to do it to each of them.
use Rattle.std.specs.Prelude.{◌≡◌, ◌⊎◌, ◌+◌, ℕ, Bool, true, false, List, length, nat_lt, Option, None, Some, Result, Ok, Err}
use Rattle.dv_refusal.specs.declared.refusal.Refusal.{Refusal}
use Rattle.dv_refusal.specs.declared.refusal.Refusal.TheVariants as answer
use Rattle.dv_request.specs.declared.reply.Reply.{Reply}
use Rattle.dv_schema.specs.declared.opening.Action.{Action}
use Rattle.dv_store.specs.declared.keys.RowKey.{RowKey}
use Rattle.dv_store.specs.Keys.{row_cmp, row_key, is_row}
use Rattle.dv_cascade.specs.declared.cascading.Cascading.{Cascading}
use Rattle.dv_cascade.specs.Chains.{AreExactly, IsReached}
use Rattle.dv_message.specs.Checked.{AllPass, FirstSays, refused_if}
use Rattle.dv_message.specs.Rights.{RightSays}
use Rattle.dv_message.specs.Rows.{of_key}
use Rattle.dv_message.specs.Scenes.{Targeted}

-- the place of the row that a message names
abbrev pub key_of : Targeted → RowKey
key_of t = row_key t.number t.id

-- the rows that what is done to the row of a message reaches, that row among them, by table and id
abbrev pub IsClosure : Targeted → Cascading → List RowKey → Type 0
IsClosure t cascading set = AreExactly row_cmp (IsReached t.world t.setting.definition cascading (key_of t)) set

-- the most rows beside the message's own that an assignment or a deletion visits; each visit is a unit of work
abbrev pub most_visits : ℕ
most_visits = 20000

-- a closure with more rows than these and the message's own is too much work
abbrev pub work_fault : List RowKey → Option Refusal
work_fault set = refused_if (nat_lt (most_visits + 1) (length set)) answer.WorkLimit

-- what the right to do an action to a row that is reached says; that to the message's own row was asked before
unfoldable pub ReachedSays : Targeted → Action → RowKey → Option Refusal → Type 0
ReachedSays t action key refusal = by (is_row key (key_of t))
  where
    by : Bool → Type 0
    by true = refusal ≡ None
    by false = RightSays (of_key t key) action refusal

module _ {Check : Type 0} where
  -- where a check of a list fails its refusal comes; where all pass, what comes is told by what follows them
  abbrev pub Then : (Check → Option Refusal → Type 0) → List Check → (Result Reply Refusal → Type 0) → Result Reply Refusal → Type 0
  Then Says checks Rest (Ok reply) = AllPass Says checks × Rest (Ok reply)
  Then Says checks Rest (Err refusal) = FirstSays Says checks refusal ⊎ (AllPass Says checks × Rest (Err refusal))

-- where a refusal is computed it comes, and else what follows tells what comes
abbrev pub Next : Option Refusal → (Result Reply Refusal → Type 0) → Result Reply Refusal → Type 0
Next (Some refusal) Rest outcome = outcome ≡ Err refusal
Next None Rest outcome = Rest outcome
