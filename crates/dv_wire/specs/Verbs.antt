-- What a request asks is said by a word.
use Rattle.std.specs.Prelude.{ℕ, List, [], ◌∷◌, Bool, Option, codes, find, bytes_eq}
use Rattle.std.specs.Option.{is_some}
use Rattle.dv_wire.specs.declared.verb.Verb.{Verb}
use Rattle.dv_wire.specs.declared.verb.Verb.TheVariants as verb

-- the word for it
unfoldable pub verb_word : Verb → List ℕ
verb_word verb.Create = codes "create"
verb_word verb.Retrieve = codes "retrieve"
verb_word verb.Update = codes "update"
verb_word verb.Delete = codes "delete"
verb_word verb.Assign = codes "assign"
verb_word verb.Grant = codes "grant"
verb_word verb.Modify = codes "modify"
verb_word verb.Revoke = codes "revoke"
verb_word verb.Access = codes "access"
verb_word verb.Shares = codes "shares"
verb_word verb.Query = codes "query"
verb_word verb.Changes = codes "changes"
verb_word verb.Rollup = codes "rollup"
verb_word verb.WhoAmI = codes "whoami"
verb_word verb.RollupJob = codes "rollupjob"
verb_word verb.Trim = codes "trim"
verb_word verb.Multiple = codes "multiple"
verb_word verb.Transaction = codes "transaction"
verb_word verb.AddUnit = codes "addunit"
verb_word verb.MoveUnit = codes "moveunit"
verb_word verb.AddUser = codes "adduser"
verb_word verb.MoveUser = codes "moveuser"
verb_word verb.SetEnabled = codes "setenabled"
verb_word verb.AddTeam = codes "addteam"
verb_word verb.AddMember = codes "addmember"
verb_word verb.RemoveMember = codes "removemember"
verb_word verb.AddRole = codes "addrole"
verb_word verb.SetPrivileges = codes "setprivileges"
verb_word verb.GiveRole = codes "giverole"
verb_word verb.TakeRole = codes "takerole"

-- all that a request can ask
abbrev pub verbs : List Verb
verbs =
    verb.Create ∷ verb.Retrieve ∷ verb.Update ∷ verb.Delete ∷ verb.Assign ∷ verb.Grant ∷ verb.Modify ∷ verb.Revoke ∷ verb.Access ∷ verb.Shares
    ∷ verb.Query ∷ verb.Changes ∷ verb.Rollup ∷ verb.WhoAmI ∷ verb.RollupJob ∷ verb.Trim ∷ verb.Multiple ∷ verb.Transaction ∷ verb.AddUnit ∷ verb.MoveUnit
    ∷ verb.AddUser ∷ verb.MoveUser ∷ verb.SetEnabled ∷ verb.AddTeam ∷ verb.AddMember ∷ verb.RemoveMember ∷ verb.AddRole ∷ verb.SetPrivileges ∷ verb.GiveRole ∷ verb.TakeRole ∷ []

-- what a word asks
unfoldable pub verb_of : List ℕ → Option Verb
verb_of word = find (λ verb. bytes_eq (verb_word verb) word) verbs

-- whether a word is that of a message
unfoldable pub is_message : List ℕ → Bool
is_message word = is_some (verb_of word)
