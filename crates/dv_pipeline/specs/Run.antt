-- What one request on rows does: the world after it, and its reply or refusal.
use Rattle.std.specs.Prelude.{◌≡◌, ℕ, ℤ, IsTrue, List, Option, Some, None, Result, Ok, Err}
use Rattle.dv_value.specs.declared.id.Id.{Id}
use Rattle.dv_value.specs.declared.raw.Raw.{Raw}
use Rattle.dv_refusal.specs.declared.refusal.Refusal.{Refusal}
use Rattle.dv_refusal.specs.declared.refusal.Refusal.TheVariants as refusal
use Rattle.dv_schema.specs.declared.definition.Definition.{Definition}
use Rattle.dv_schema.specs.declared.table.Table.{Table}
use Rattle.dv_units.specs.Chart.{Chart}
use Rattle.dv_units.specs.Membership.{unit_of, is_in_team}
use Rattle.dv_access.specs.View.{AreExactly}
use Rattle.dv_roles.specs.State.{State}
use Rattle.dv_store.specs.World.{World}
use Rattle.dv_store.specs.Cursors.{told_of}
use Rattle.dv_query.specs.declared.query.Query.{Query}
use Rattle.dv_request.specs.declared.reply.Reply.{Reply}
use Rattle.dv_request.specs.declared.reply.Reply.TheVariants.{Caller}
use Rattle.dv_request.specs.declared.request.Request.{Request}
use Rattle.dv_request.specs.declared.request.Request.TheVariants as request
use Rattle.dv_message.specs.Scenes.{Setting, Targeted, table_at, aimed_at, IsRefused, OnRow}
use Rattle.dv_grant.specs.Retrieving.{RunsRetrieve}
use Rattle.dv_grant.specs.Accessing.{RunsAccess}
use Rattle.dv_grant.specs.Listing.{RunsShares}
use Rattle.dv_grant.specs.Granting.{RunsGrant, RunsModify}
use Rattle.dv_grant.specs.Revoking.{RunsRevoke}
use Rattle.dv_write.specs.Updating.{RunsUpdate}
use Rattle.dv_write.specs.Assigning.{RunsAssign}
use Rattle.dv_write.specs.Deleting.{RunsDelete}
use Rattle.dv_pipeline.specs.Requests.{start_fault}
use Rattle.dv_pipeline.specs.Creating.{Creating, RunsCreating}
use Rattle.dv_pipeline.specs.Querying.{Querying, Sight, sight_of, RunsQuerying}

-- the teams of a user, in ascending order, each once
abbrev pub AreTeams : Chart → Id → List Id → Type 0
AreTeams chart user teams = AreExactly (λ team. IsTrue (is_in_team chart user team)) teams

-- what a caller is told of itself: its business unit, and its teams in ascending order
abbrev pub TellsCaller : State → Id → Reply → Type 0
TellsCaller d user reply = (unit : Id) × (teams : List Id) × (unit_of d.chart user ≡ Some unit) × AreTeams d.chart user teams × (reply ≡ Caller user unit teams)

-- the creation of a row
unfoldable pub RunsCreation : Option (ℕ × Table) → Setting → World → List ℕ → Option Id → List (List ℕ × Raw) → World → Result Reply Refusal → Type 0
RunsCreation None s old name chosen values new outcome = IsRefused (refusal.UnknownTable name) old new outcome
RunsCreation (Some found) s old name chosen values new outcome =
    let c : Creating = record { setting = s; world = old; number = found.0; table = found.1; chosen = chosen; values = values } in
    RunsCreating c new outcome

-- A query. Of the world it depends on what the caller can see alone, and it changes nothing.
unfoldable pub RunsQuery : Option (ℕ × Table) → Sight → Definition → Query → Result Reply Refusal → Type 0
RunsQuery None sight definition query outcome = outcome ≡ Err (refusal.UnknownTable query.table)
RunsQuery (Some found) sight definition query outcome =
    let q : Querying = record { sight = sight; definition = definition; query = query; number = found.0; table = found.1 } in
    RunsQuerying q outcome

-- the row that a message names by its table's name and its id; a table that isn't there is told first
abbrev pub OnNamed : Setting → World → List ℕ → Id → World → Result Reply Refusal → (Targeted → Type 0) → Type 0
OnNamed s old name id new outcome Does = OnRow (aimed_at s old name id) name old new outcome Does

-- what a request that is served does
unfoldable pub Plays : Setting → World → Request → World → Result Reply Refusal → Type 0
Plays s old (request.Create name chosen values) new outcome = RunsCreation (table_at s.definition name) s old name chosen values new outcome
Plays s old (request.Retrieve name id names) new outcome = OnNamed s old name id new outcome (λ t. RunsRetrieve (record { target = t; names = names }) outcome × (new ≡ old))
Plays s old (request.Update name id values version) new outcome = OnNamed s old name id new outcome (λ t. RunsUpdate (record { target = t; values = values; version = version }) new outcome)
Plays s old (request.Delete name id version) new outcome = OnNamed s old name id new outcome (λ t. RunsDelete (record { target = t; version = version }) new outcome)
Plays s old (request.Assign name id owner) new outcome = OnNamed s old name id new outcome (λ t. RunsAssign (record { target = t; owner = owner }) new outcome)
Plays s old (request.Grant name id principal rights) new outcome = OnNamed s old name id new outcome (λ t. RunsGrant (record { target = t; principal = principal; rights = rights }) new outcome)
Plays s old (request.Modify name id principal rights) new outcome = OnNamed s old name id new outcome (λ t. RunsModify (record { target = t; principal = principal; rights = rights }) new outcome)
Plays s old (request.Revoke name id principal) new outcome = OnNamed s old name id new outcome (λ t. RunsRevoke (record { target = t; principal = principal }) new outcome)
Plays s old (request.Access name id user) new outcome = OnNamed s old name id new outcome (λ t. RunsAccess (record { target = t; user = user }) outcome × (new ≡ old))
Plays s old (request.Shares name id) new outcome = OnNamed s old name id new outcome (λ t. RunsShares t outcome × (new ≡ old))
Plays s old (request.Query query) new outcome = RunsQuery (table_at s.definition query.table) (sight_of s.directory (told_of old) s.user) s.definition query outcome × (new ≡ old)
Plays s old request.WhoAmI new outcome = ((reply : Reply) × (outcome ≡ Ok reply) × TellsCaller s.directory s.user reply) × (new ≡ old)
Plays s old other new outcome = IsRefused refusal.NotBuilt old new outcome

-- a request: what refuses it at the start does, or else it is served
unfoldable pub Starts : Option Refusal → World → World → Result Reply Refusal → Type 0 → Type 0
Starts (Some refusal) old new outcome served = IsRefused refusal old new outcome
Starts None old new outcome served = served

unfoldable pub Runs : Definition → State → World → Id → ℤ → Request → World → Result Reply Refusal → Type 0
Runs definition d old user moment request new outcome =
    let s : Setting = record { directory = d; definition = definition; user = user; moment = moment } in
    Starts (start_fault d user request) old new outcome (Plays s old request new outcome)
