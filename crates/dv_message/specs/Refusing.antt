-- How a denial is told.
use Rattle.std.specs.Prelude.{◌++◌, ℕ, List, codes, chars, encode_utf8_all}
use Rattle.dv_refusal.specs.declared.refusal.Refusal.{Refusal}
use Rattle.dv_refusal.specs.declared.refusal.Refusal.TheVariants as refusal
use Rattle.dv_schema.specs.declared.table.Table.{Table}
use Rattle.dv_schema.specs.Words.{action_word}
use Rattle.dv_access.specs.declared.denied.Denied.{Denied}
use Rattle.dv_access.specs.declared.denied.Why.{Why}
use Rattle.dv_access.specs.declared.denied.Why.TheVariants.{NoPrivilege, OutOfReach}

-- the privilege to do an action on a table: `prv`, the action, the table
abbrev pub privilege_name : List ℕ → List ℕ → List ℕ
privilege_name action table = chars (codes "prv" ++ action ++ encode_utf8_all table)

-- the words for why an action is denied
unfoldable pub why_word : Why → List ℕ
why_word NoPrivilege = codes "NoPrivilege"
why_word OutOfReach = codes "OutOfReach"

-- a denial, as it is told
unfoldable pub denied_as : Table → Denied → Refusal
denied_as table denied = refusal.Denied (privilege_name (action_word denied.action) table.name) (chars (why_word denied.why))
