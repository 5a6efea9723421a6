-- Which requests are served, and whom they are refused before anything else is asked.
use Rattle.std.specs.Prelude.{◌&&◌, pos, Bool, true, false, not, List, [], ◌∷◌, Option, Some, None, if◌then◌else◌}
use Rattle.std.specs.Option.{option_map, option_or}
use Rattle.std.specs.Ordering.{int_eq}
use Rattle.dv_value.specs.declared.id.Id.{Id}
use Rattle.dv_refusal.specs.declared.refusal.Refusal.{Refusal}
use Rattle.dv_refusal.specs.declared.refusal.Refusal.TheVariants as refusal
use Rattle.dv_units.specs.Chart.{at}
use Rattle.dv_roles.specs.State.{State}
use Rattle.dv_query.specs.declared.query.Query.{Query}
use Rattle.dv_query.specs.declared.query.Part.{Part}
use Rattle.dv_query.specs.declared.query.Part.TheVariants.{Top, Page}
use Rattle.dv_query.specs.declared.query.PageStart.TheVariants.{Number, Cookie}
use Rattle.dv_request.specs.declared.request.Request.{Request}
use Rattle.dv_request.specs.declared.request.Request.TheVariants as request

-- the first page of the largest size, where no total is asked for
unfoldable pub is_plain : Part → Bool
is_plain (Top count) = false
is_plain (Page size (Cookie cookie) total) = false
is_plain (Page size (Number number) total) = int_eq size (pos 5000) && int_eq number (pos 1) && not total

-- whether a list has nothing
abbrev pub is_nothing : {A : Type 0} → List A → Bool
is_nothing [] = true
is_nothing (x ∷ xs) = false

abbrev pub is_none : {A : Type 0} → Option A → Bool
is_none None = true
is_none (Some x) = false

-- whether a query asks for columns of all rows that the caller may read, and for nothing else
unfoldable pub is_plain_query : Query → Bool
is_plain_query q = is_none q.filter && is_nothing q.links && is_nothing q.orders && is_plain q.part

-- whether a request is served among those on rows
unfoldable pub is_built : Request → Bool
is_built (request.Create table id values) = true
is_built (request.Retrieve table id columns) = true
is_built (request.Update table id values version) = true
is_built (request.Delete table id version) = true
is_built (request.Assign table id owner) = true
is_built (request.Grant table id principal rights) = true
is_built (request.Modify table id principal rights) = true
is_built (request.Revoke table id principal) = true
is_built (request.Access table id user) = true
is_built (request.Shares table id) = true
is_built (request.Query query) = is_plain_query query
is_built request.WhoAmI = true
is_built _ = false

-- Whether a request may not be made as part of another: batches and messages of the directory may not. The others are on
-- rows, or ask who the caller is.
unfoldable pub is_apart : Request → Bool
is_apart (request.Create table id values) = false
is_apart (request.Retrieve table id columns) = false
is_apart (request.Update table id values version) = false
is_apart (request.Delete table id version) = false
is_apart (request.Assign table id owner) = false
is_apart (request.Grant table id principal rights) = false
is_apart (request.Modify table id principal rights) = false
is_apart (request.Revoke table id principal) = false
is_apart (request.Access table id user) = false
is_apart (request.Shares table id) = false
is_apart (request.Query query) = false
is_apart (request.Changes table token count) = false
is_apart (request.Rollup table id column) = false
is_apart request.WhoAmI = false
is_apart _ = true

-- why a caller may send no request: no user has its id, or the user is disabled
abbrev pub enabled_fault : Option Bool → Option Refusal
enabled_fault None = Some refusal.UnknownCaller
enabled_fault (Some true) = None
enabled_fault (Some false) = Some refusal.CallerDisabled

unfoldable pub caller_fault : State → Id → Option Refusal
caller_fault d user = enabled_fault (option_map (λ found. found.enabled) (at d.chart.users user))

-- why a request isn't served here: it stands apart, or it isn't built yet
unfoldable pub place_fault : Request → Option Refusal
place_fault request = if is_apart request then Some refusal.NotNested else if is_built request then None else Some refusal.NotBuilt

-- what refuses a request before its own checks
abbrev pub start_fault : State → Id → Request → Option Refusal
start_fault d user request = option_or (caller_fault d user) (place_fault request)
