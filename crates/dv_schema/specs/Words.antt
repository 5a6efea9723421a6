-- Each kind of thing that a definition names has one word. What a word means is the thing of this word, if there is one.
use Rattle.std.specs.Prelude.{ℕ, List, [], ◌∷◌, Option, codes, find, bytes_eq}
use Rattle.dv_schema.specs.declared.column_type.ColumnType.{ColumnType}
use Rattle.dv_schema.specs.declared.column_type.ColumnType.TheVariants as type
use Rattle.dv_schema.specs.declared.opening.Action.{Action}
use Rattle.dv_schema.specs.declared.opening.Action.TheVariants as action
use Rattle.dv_schema.specs.declared.registration.Message.{Message}
use Rattle.dv_schema.specs.declared.registration.Message.TheVariants as message
use Rattle.dv_schema.specs.declared.relationship.Cascade.{Cascade}
use Rattle.dv_schema.specs.declared.relationship.Cascade.TheVariants as cascade
use Rattle.dv_schema.specs.declared.table.RollupKind.{RollupKind}
use Rattle.dv_schema.specs.declared.table.RollupKind.TheVariants as rollup

-- ---- the messages that steps are registered for

-- the word for a message
unfoldable pub message_word : Message → List ℕ
message_word message.Create = codes "create"
message_word message.Update = codes "update"
message_word message.Delete = codes "delete"
message_word message.Assign = codes "assign"
message_word message.Grant = codes "grant"
message_word message.Modify = codes "modify"
message_word message.Revoke = codes "revoke"

-- the messages
abbrev pub messages : List Message
messages = message.Create ∷ message.Update ∷ message.Delete ∷ message.Assign ∷ message.Grant ∷ message.Modify ∷ message.Revoke ∷ []

-- the message that a word says
unfoldable pub message_of : List ℕ → Option Message
message_of word = find (λ m. bytes_eq (message_word m) word) messages

-- ---- which children what is done to a parent reaches

-- the word for a cascade
unfoldable pub cascade_word : Cascade → List ℕ
cascade_word cascade.NoCascade = codes "nocascade"
cascade_word cascade.Cascade = codes "cascade"
cascade_word cascade.Active = codes "active"
cascade_word cascade.UserOwned = codes "userowned"
cascade_word cascade.RemoveLink = codes "removelink"
cascade_word cascade.Restrict = codes "restrict"

-- the cascades of assigning, sharing, unsharing and reparenting
abbrev pub cascades : List Cascade
cascades = cascade.NoCascade ∷ cascade.Cascade ∷ cascade.Active ∷ cascade.UserOwned ∷ []

-- the cascades of deleting
abbrev pub delete_cascades : List Cascade
delete_cascades = cascade.Cascade ∷ cascade.RemoveLink ∷ cascade.Restrict ∷ []

-- the cascades
abbrev pub all_cascades : List Cascade
all_cascades = cascade.NoCascade ∷ cascade.Cascade ∷ cascade.Active ∷ cascade.UserOwned ∷ cascade.RemoveLink ∷ cascade.Restrict ∷ []

-- the cascade that a word says
unfoldable pub cascade_of : List ℕ → Option Cascade
cascade_of word = find (λ c. bytes_eq (cascade_word c) word) all_cascades

-- ---- what a rollup makes of values

-- the word for a kind of rollup
unfoldable pub rollup_word : RollupKind → List ℕ
rollup_word rollup.Sum = codes "sum"
rollup_word rollup.Count = codes "count"
rollup_word rollup.Min = codes "min"
rollup_word rollup.Max = codes "max"

-- the kinds of rollups
abbrev pub rollup_kinds : List RollupKind
rollup_kinds = rollup.Sum ∷ rollup.Count ∷ rollup.Min ∷ rollup.Max ∷ []

-- the kind of rollup that a word says
unfoldable pub rollup_kind_of : List ℕ → Option RollupKind
rollup_kind_of word = find (λ k. bytes_eq (rollup_word k) word) rollup_kinds

-- ---- what a privilege allows

-- the word for an action
unfoldable pub action_word : Action → List ℕ
action_word action.Create = codes "Create"
action_word action.Read = codes "Read"
action_word action.Write = codes "Write"
action_word action.Delete = codes "Delete"
action_word action.Append = codes "Append"
action_word action.AppendTo = codes "AppendTo"
action_word action.Assign = codes "Assign"
action_word action.Share = codes "Share"

-- the actions
abbrev pub actions : List Action
actions = action.Create ∷ action.Read ∷ action.Write ∷ action.Delete ∷ action.Append ∷ action.AppendTo ∷ action.Assign ∷ action.Share ∷ []

-- the action that a word says; `*`, which is every action, is the word of none
unfoldable pub action_of : List ℕ → Option Action
action_of word = find (λ a. bytes_eq (action_word a) word) actions

-- ---- the types of columns

-- the word for a type
unfoldable pub type_word : ColumnType → List ℕ
type_word type.Flag = codes "flag"
type_word type.Moment = codes "moment"
type_word type.Lookup = codes "lookup"
type_word type.Whole = codes "whole"
type_word type.Choice = codes "choice"
type_word type.Amount = codes "amount"
type_word type.Text = codes "text"
type_word type.Rollup = codes "rollup"

-- the types
abbrev pub types : List ColumnType
types = type.Flag ∷ type.Moment ∷ type.Lookup ∷ type.Whole ∷ type.Choice ∷ type.Amount ∷ type.Text ∷ type.Rollup ∷ []

-- the type that a word says
unfoldable pub type_of : List ℕ → Option ColumnType
type_of word = find (λ t. bytes_eq (type_word t) word) types
