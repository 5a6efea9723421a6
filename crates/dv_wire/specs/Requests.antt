-- The request that an object without a fault is. What stands for a member that is missing counts only for one that may be missing: of the others the walk has told a fault before.
use Rattle.std.specs.Prelude.{ℕ, ℤ, pos, List, map, option_map, option_and_then, unwrap_or, codes}
use Rattle.serde_json.specs.Data.{Data}
use Rattle.serde_json.specs.Find.{get}
use Rattle.dv_form.specs.Members.{at, says, names_of, flag_of, id_of_json, integer_of, text_of, raw_values_of, list_of}
use Rattle.dv_schema.specs.Reading.{role_of, entry_of}
use Rattle.dv_request.specs.declared.request.Request.{Request}
use Rattle.dv_request.specs.declared.request.Request.TheVariants.{Create, Retrieve, Update, Delete, Assign, Grant, Modify, Revoke, Access, Shares, Query, Changes, Rollup, WhoAmI, RollupJob, Trim, Multiple, Transaction, AddUnit, MoveUnit, AddUser, MoveUser, SetEnabled, AddTeam, AddMember, RemoveMember, AddRole, SetPrivileges, GiveRole, TakeRole}
use Rattle.dv_wire.specs.declared.verb.Verb.{Verb}
use Rattle.dv_wire.specs.declared.verb.Verb.TheVariants as verb
use Rattle.dv_wire.specs.Deep.{deep}
use Rattle.dv_wire.specs.Members.{str_at, integer_or, list_at, version_if, token_if}
use Rattle.dv_wire.specs.Queries.{query_of}
use Rattle.dv_wire.specs.Verbs.{verb_of}

-- how many changes are given at most, where the request doesn't say
abbrev pub most_changes : ℤ
most_changes = pos 5000

-- what a request asks
unfoldable pub verb_at : Data → Verb
verb_at d = unwrap_or (option_and_then verb_of (str_at (codes "do") d)) verb.WhoAmI

-- the request that asks this, with the requests in it
unfoldable pub request_for : Verb → Data → List Request → Request
request_for verb.Create d requests = Create (text_of (at "table" d)) (option_map id_of_json (get (codes "id") d)) (raw_values_of (at "values" d))
request_for verb.Retrieve d requests = Retrieve (text_of (at "table" d)) (id_of_json (at "id" d)) (option_map names_of (get (codes "columns") d))
request_for verb.Update d requests = Update (text_of (at "table" d)) (id_of_json (at "id" d)) (raw_values_of (at "values" d)) (version_if (codes "version") d)
request_for verb.Delete d requests = Delete (text_of (at "table" d)) (id_of_json (at "id" d)) (version_if (codes "version") d)
request_for verb.Assign d requests = Assign (text_of (at "table" d)) (id_of_json (at "id" d)) (id_of_json (at "owner" d))
request_for verb.Grant d requests = Grant (text_of (at "table" d)) (id_of_json (at "id" d)) (id_of_json (at "principal" d)) (integer_of (at "rights" d))
request_for verb.Modify d requests = Modify (text_of (at "table" d)) (id_of_json (at "id" d)) (id_of_json (at "principal" d)) (integer_of (at "rights" d))
request_for verb.Revoke d requests = Revoke (text_of (at "table" d)) (id_of_json (at "id" d)) (id_of_json (at "principal" d))
request_for verb.Access d requests = Access (text_of (at "table" d)) (id_of_json (at "id" d)) (option_map id_of_json (get (codes "user") d))
request_for verb.Shares d requests = Shares (text_of (at "table" d)) (id_of_json (at "id" d))
request_for verb.Query d requests = Query (query_of d)
request_for verb.Changes d requests = Changes (text_of (at "table" d)) (token_if (codes "token") d) (integer_or most_changes (codes "count") d)
request_for verb.Rollup d requests = Rollup (text_of (at "table" d)) (id_of_json (at "id" d)) (text_of (at "column" d))
request_for verb.WhoAmI d requests = WhoAmI
request_for verb.RollupJob d requests = RollupJob
request_for verb.Trim d requests = Trim (unwrap_or (version_if (codes "token") d) 0)
request_for verb.Multiple d requests = Multiple requests (flag_of (at "continue" d))
request_for verb.Transaction d requests = Transaction requests
request_for verb.AddUnit d requests = AddUnit (id_of_json (at "id" d)) (id_of_json (at "parent" d))
request_for verb.MoveUnit d requests = MoveUnit (id_of_json (at "unit" d)) (id_of_json (at "parent" d))
request_for verb.AddUser d requests = AddUser (id_of_json (at "id" d)) (id_of_json (at "unit" d))
request_for verb.MoveUser d requests = MoveUser (id_of_json (at "user" d)) (id_of_json (at "unit" d))
request_for verb.SetEnabled d requests = SetEnabled (id_of_json (at "user" d)) (flag_of (at "enabled" d))
request_for verb.AddTeam d requests = AddTeam (id_of_json (at "id" d)) (id_of_json (at "unit" d)) (says "access" (at "kind" d))
request_for verb.AddMember d requests = AddMember (id_of_json (at "team" d)) (id_of_json (at "user" d))
request_for verb.RemoveMember d requests = RemoveMember (id_of_json (at "team" d)) (id_of_json (at "user" d))
request_for verb.AddRole d requests = AddRole (role_of d)
request_for verb.SetPrivileges d requests = SetPrivileges (id_of_json (at "role" d)) (flag_of (at "manage" d)) (map entry_of (list_of (at "privileges" d)))
request_for verb.GiveRole d requests = GiveRole (id_of_json (at "role" d)) (id_of_json (at "to" d))
request_for verb.TakeRole d requests = TakeRole (id_of_json (at "role" d)) (id_of_json (at "to" d))

-- a request, given those in it
unfoldable pub request_step : Data → (List ℕ → List Request) → Request
request_step d inner = request_for (verb_at d) d (inner (codes "requests"))

unfoldable pub request_of : Data → Request
request_of d = deep request_step d

-- the requests in a batch
abbrev pub requests_at : Data → List Request
requests_at d = map request_of (list_at (codes "requests") d)
