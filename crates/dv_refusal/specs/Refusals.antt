-- Each refusal has a number, and is printed with it and with the members that say what it is about.
use Rattle.std.specs.Prelude.{ℕ, Option, Some, None, codes}
use Rattle.serde_json.specs.Data.{Data, number, unsigned, string, object, Members, no_members, member, put}
use Rattle.serde_json.specs.Find.{of_integer}
use Rattle.dv_value.specs.Printed.{text_data, id_data, version_data}
use Rattle.dv_refusal.specs.Whats.{what_word}
use Rattle.dv_refusal.specs.declared.refusal.Refusal.{Refusal}
use Rattle.dv_refusal.specs.declared.refusal.Refusal.TheVariants.{BadDefinition, BadStore, Malformed, UnknownCaller, CallerDisabled, UnknownTable, UnknownColumn, WrongType, NotWritable, OutOfRange, RequiredMissing, Denied, NotFound, IdTaken, VersionDiffers, ReservedId, Restricted, Circular, NotShareable, BadPrincipal, StepFailed, DepthExceeded, StepTurns, WorkLimit, BadQuery, AnswerLimit, BadCookie, TrackingOff, BadToken, TokenExpired, BatchLimit, NotNested, UnknownUnit, UnknownUser, UnknownTeam, UnknownRole, DirectoryIdTaken, UnitRule, TeamRule, RoleRule, LastAdmin, Limit, StoreFault, ClockFault, OutOfMemory, NotBuilt}

-- the number that callers know the refusal by
unfoldable pub number_of : Refusal → ℕ
number_of (BadDefinition kind place) = 1
number_of (BadStore key sheet) = 2
number_of (Malformed place) = 10
number_of UnknownCaller = 11
number_of CallerDisabled = 12
number_of (UnknownTable table) = 13
number_of (UnknownColumn column) = 14
number_of (WrongType column) = 15
number_of (NotWritable column) = 16
number_of (OutOfRange column) = 17
number_of (RequiredMissing column) = 18
number_of (Denied privilege why) = 20
number_of (NotFound id table) = 21
number_of IdTaken = 22
number_of (VersionDiffers kept) = 23
number_of ReservedId = 24
number_of (Restricted relationship) = 25
number_of (Circular relationship) = 26
number_of (NotShareable table) = 27
number_of BadPrincipal = 28
number_of (StepFailed code step text) = 29
number_of DepthExceeded = 30
number_of (StepTurns step) = 31
number_of WorkLimit = 32
number_of (BadQuery kind part) = 33
number_of AnswerLimit = 34
number_of BadCookie = 35
number_of TrackingOff = 36
number_of (BadToken counter) = 37
number_of (TokenExpired floor) = 38
number_of BatchLimit = 39
number_of NotNested = 40
number_of UnknownUnit = 41
number_of UnknownUser = 42
number_of UnknownTeam = 43
number_of UnknownRole = 44
number_of DirectoryIdTaken = 45
number_of (UnitRule why) = 46
number_of (TeamRule why) = 47
number_of (RoleRule why) = 48
number_of LastAdmin = 49
number_of (Limit what) = 50
number_of StoreFault = 60
number_of ClockFault = 61
number_of OutOfMemory = 62
number_of NotBuilt = 90

-- the members that say what it is about, in byte order
unfoldable pub details_of : Refusal → Members
details_of (BadDefinition kind place) = member (codes "kind") (text_data kind) (member (codes "place") (text_data place) no_members)
details_of (BadStore key sheet) = member (codes "key") (text_data key) (member (codes "sheet") (number (unsigned sheet)) no_members)
details_of (Malformed place) = member (codes "place") (text_data place) no_members
details_of UnknownCaller = no_members
details_of CallerDisabled = no_members
details_of (UnknownTable table) = member (codes "table") (text_data table) no_members
details_of (UnknownColumn column) = member (codes "column") (text_data column) no_members
details_of (WrongType column) = member (codes "column") (text_data column) no_members
details_of (NotWritable column) = member (codes "column") (text_data column) no_members
details_of (OutOfRange column) = member (codes "column") (text_data column) no_members
details_of (RequiredMissing column) = member (codes "column") (text_data column) no_members
details_of (Denied privilege why) = member (codes "privilege") (text_data privilege) (member (codes "why") (text_data why) no_members)
details_of (NotFound id table) = member (codes "id") (id_data id) (member (codes "table") (text_data table) no_members)
details_of IdTaken = no_members
details_of (VersionDiffers kept) = member (codes "kept") (version_data kept) no_members
details_of ReservedId = no_members
details_of (Restricted relationship) = member (codes "relationship") (text_data relationship) no_members
details_of (Circular relationship) = member (codes "relationship") (text_data relationship) no_members
details_of (NotShareable table) = member (codes "table") (text_data table) no_members
details_of BadPrincipal = no_members
details_of (StepFailed code step text) = member (codes "code") (number (of_integer code)) (member (codes "step") (number (unsigned step)) (member (codes "text") (text_data text) no_members))
details_of DepthExceeded = no_members
details_of (StepTurns step) = member (codes "step") (number (unsigned step)) no_members
details_of WorkLimit = no_members
details_of (BadQuery kind part) = member (codes "kind") (text_data kind) (member (codes "part") (text_data part) no_members)
details_of AnswerLimit = no_members
details_of BadCookie = no_members
details_of TrackingOff = no_members
details_of (BadToken counter) = member (codes "counter") (version_data counter) no_members
details_of (TokenExpired floor) = member (codes "floor") (version_data floor) no_members
details_of BatchLimit = no_members
details_of NotNested = no_members
details_of UnknownUnit = no_members
details_of UnknownUser = no_members
details_of UnknownTeam = no_members
details_of UnknownRole = no_members
details_of DirectoryIdTaken = no_members
details_of (UnitRule why) = member (codes "why") (text_data why) no_members
details_of (TeamRule why) = member (codes "why") (text_data why) no_members
details_of (RoleRule why) = member (codes "why") (text_data why) no_members
details_of LastAdmin = no_members
details_of (Limit what) = member (codes "what") (string (what_word what)) no_members
details_of StoreFault = no_members
details_of ClockFault = no_members
details_of OutOfMemory = no_members
details_of NotBuilt = no_members

-- the members of the refusal as JSON: its number at `nr`, among those that say what it is about
unfoldable pub refusal_members : Refusal → Members
refusal_members refusal = put (codes "nr") (number (unsigned (number_of refusal))) (details_of refusal)

-- the refusal as JSON
abbrev pub refusal_data : Refusal → Data
refusal_data refusal = object (refusal_members refusal)

-- the status of the HTTP answer that carries the refusal: none for the two that come before anyone is answered
unfoldable pub http_status_of : Refusal → Option ℕ
http_status_of (BadDefinition kind place) = None
http_status_of (BadStore key sheet) = None
http_status_of (Malformed place) = Some 400
http_status_of UnknownCaller = Some 403
http_status_of CallerDisabled = Some 403
http_status_of (UnknownTable table) = Some 404
http_status_of (UnknownColumn column) = Some 422
http_status_of (WrongType column) = Some 422
http_status_of (NotWritable column) = Some 422
http_status_of (OutOfRange column) = Some 422
http_status_of (RequiredMissing column) = Some 422
http_status_of (Denied privilege why) = Some 403
http_status_of (NotFound id table) = Some 404
http_status_of IdTaken = Some 409
http_status_of (VersionDiffers kept) = Some 412
http_status_of ReservedId = Some 422
http_status_of (Restricted relationship) = Some 409
http_status_of (Circular relationship) = Some 422
http_status_of (NotShareable table) = Some 422
http_status_of BadPrincipal = Some 422
http_status_of (StepFailed code step text) = Some 422
http_status_of DepthExceeded = Some 422
http_status_of (StepTurns step) = Some 422
http_status_of WorkLimit = Some 422
http_status_of (BadQuery kind part) = Some 422
http_status_of AnswerLimit = Some 422
http_status_of BadCookie = Some 422
http_status_of TrackingOff = Some 422
http_status_of (BadToken counter) = Some 422
http_status_of (TokenExpired floor) = Some 422
http_status_of BatchLimit = Some 422
http_status_of NotNested = Some 422
http_status_of UnknownUnit = Some 422
http_status_of UnknownUser = Some 422
http_status_of UnknownTeam = Some 422
http_status_of UnknownRole = Some 422
http_status_of DirectoryIdTaken = Some 422
http_status_of (UnitRule why) = Some 422
http_status_of (TeamRule why) = Some 422
http_status_of (RoleRule why) = Some 422
http_status_of LastAdmin = Some 422
http_status_of (Limit what) = Some 422
http_status_of StoreFault = Some 503
http_status_of ClockFault = Some 503
http_status_of OutOfMemory = Some 507
http_status_of NotBuilt = Some 501
