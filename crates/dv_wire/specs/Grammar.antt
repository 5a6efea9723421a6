-- What a request must look like. Each message has its line: its word, and its members in the order in which they are looked at.
use Rattle.std.specs.Prelude.{ℕ, List, [], ◌∷◌, ◌++◌, map, true, false, pos, Some, None, codes}
use Rattle.dv_form.specs.Forms.{Spelling, any_id, any_text, a_flag, any_integer, integer_from, word_among, any_raw, a_version, a_token, Form, value, raw_values, object_of, tuple_of, list_of, given, Member, Case, Schema}
use Rattle.dv_schema.specs.Limits.{deepest}
use Rattle.dv_schema.specs.Words.{action_word, actions}
use Rattle.dv_query.specs.Words.{join_word, joins, operator_word, operators}
use Rattle.dv_wire.specs.declared.grammar.Rule.{Rule}
use Rattle.dv_wire.specs.declared.grammar.Rule.TheVariants.{Request, Item, Body, Page, Filter, Condition, Link, Order}
use Rattle.dv_wire.specs.declared.verb.Verb.{Verb}
use Rattle.dv_wire.specs.declared.verb.Verb.TheVariants as verb
use Rattle.dv_wire.specs.Verbs.{verb_word, verbs}

-- a member that must be given, one that may be, and one that may be where another isn't
abbrev pub needs : List ℕ → Form Rule → Member Rule
needs name form = record { name = name; needed = true; form = form; excluded_by = [] }

abbrev pub may : List ℕ → Form Rule → Member Rule
may name form = record { name = name; needed = false; form = form; excluded_by = [] }

abbrev pub unless : List ℕ → List ℕ → Form Rule → Member Rule
unless other name form = record { name = name; needed = false; form = form; excluded_by = given other ∷ [] }

-- a message and its members
abbrev pub message : List ℕ → List (Member Rule) → Case Rule
message word members = record { word = word; members = members }

-- a schema whose members don't depend on a word
abbrev pub plain_schema : List (Member Rule) → Schema Rule
plain_schema members = record { members = members; decided_by = None; cases = [] }

-- a schema of the members of every message, whose further members hang on the word at `do`
abbrev pub schema_by_do : List (Member Rule) → List (Case Rule) → Schema Rule
schema_by_do members cases = record { members = members; decided_by = Some (codes "do"); cases = cases }

-- the values without parts
abbrev pub text : Form Rule
text = value any_text

abbrev pub id : Form Rule
id = value any_id

abbrev pub flag : Form Rule
flag = value a_flag

abbrev pub integer : Form Rule
integer = value any_integer

abbrev pub version : Form Rule
version = value a_version

abbrev pub token : Form Rule
token = value a_token

abbrev pub values : Form Rule
values = raw_values

abbrev pub names : Form Rule
names = list_of (value any_text) None

abbrev pub raws : Form Rule
raws = list_of (value any_raw) None

abbrev pub filter : Form Rule
filter = object_of Filter

abbrev pub filters : Form Rule
filters = list_of (object_of Filter) None

abbrev pub conditions : Form Rule
conditions = list_of (object_of Condition) None

abbrev pub links : Form Rule
links = list_of (object_of Link) None

abbrev pub orders : Form Rule
orders = list_of (object_of Order) None

abbrev pub page : Form Rule
page = object_of Page

abbrev pub requests : Form Rule
requests = list_of (object_of Item) None

-- an owner team or an access team
abbrev pub team_kind : Form Rule
team_kind = value (word_among (codes "owner" ∷ codes "access" ∷ []))

-- whether a role that is given to a team is for the team alone, or also for each of its members
abbrev pub inheritance : Form Rule
inheritance = value (word_among (codes "team" ∷ codes "direct" ∷ []))

-- whether all parts of a filter must hold or one is enough
abbrev pub all_or_any : Form Rule
all_or_any = value (word_among (codes "and" ∷ codes "or" ∷ []))

-- the ways to join
abbrev pub join : Form Rule
join = value (word_among (map join_word joins))

-- the operators
abbrev pub operator : Form Rule
operator = value (word_among (map operator_word operators))

-- an entry of a role: an action or all of them, a table or all of them, and a depth
abbrev pub entry : List Spelling
entry = word_among (map action_word actions ++ (codes "*" ∷ [])) ∷ any_text ∷ integer_from (pos 0) deepest ∷ []

abbrev pub privileges : Form Rule
privileges = list_of (tuple_of entry) None

-- the members of each message besides its word, in the order in which they are looked at
unfoldable pub members_for : Verb → List (Member Rule)
members_for verb.Create = needs (codes "table") text ∷ may (codes "id") id ∷ needs (codes "values") values ∷ []
members_for verb.Retrieve = needs (codes "table") text ∷ needs (codes "id") id ∷ may (codes "columns") names ∷ []
members_for verb.Update = needs (codes "table") text ∷ needs (codes "id") id ∷ needs (codes "values") values ∷ may (codes "version") version ∷ []
members_for verb.Delete = needs (codes "table") text ∷ needs (codes "id") id ∷ may (codes "version") version ∷ []
members_for verb.Assign = needs (codes "table") text ∷ needs (codes "id") id ∷ needs (codes "owner") id ∷ []
members_for verb.Grant = needs (codes "table") text ∷ needs (codes "id") id ∷ needs (codes "principal") id ∷ needs (codes "rights") integer ∷ []
members_for verb.Modify = needs (codes "table") text ∷ needs (codes "id") id ∷ needs (codes "principal") id ∷ needs (codes "rights") integer ∷ []
members_for verb.Revoke = needs (codes "table") text ∷ needs (codes "id") id ∷ needs (codes "principal") id ∷ []
members_for verb.Access = needs (codes "table") text ∷ needs (codes "id") id ∷ may (codes "user") id ∷ []
members_for verb.Shares = needs (codes "table") text ∷ needs (codes "id") id ∷ []
members_for verb.Query = needs (codes "table") text ∷ may (codes "columns") names ∷ may (codes "filter") filter ∷ may (codes "links") links ∷ may (codes "orders") orders ∷ unless (codes "page") (codes "top") integer ∷ may (codes "page") page ∷ []
members_for verb.Changes = needs (codes "table") text ∷ may (codes "token") token ∷ may (codes "count") integer ∷ []
members_for verb.Rollup = needs (codes "table") text ∷ needs (codes "id") id ∷ needs (codes "column") text ∷ []
members_for verb.WhoAmI = []
members_for verb.RollupJob = []
members_for verb.Trim = needs (codes "token") version ∷ []
members_for verb.Multiple = needs (codes "requests") requests ∷ may (codes "continue") flag ∷ []
members_for verb.Transaction = needs (codes "requests") requests ∷ []
members_for verb.AddUnit = needs (codes "id") id ∷ needs (codes "parent") id ∷ []
members_for verb.MoveUnit = needs (codes "unit") id ∷ needs (codes "parent") id ∷ []
members_for verb.AddUser = needs (codes "id") id ∷ needs (codes "unit") id ∷ []
members_for verb.MoveUser = needs (codes "user") id ∷ needs (codes "unit") id ∷ []
members_for verb.SetEnabled = needs (codes "user") id ∷ needs (codes "enabled") flag ∷ []
members_for verb.AddTeam = needs (codes "id") id ∷ needs (codes "unit") id ∷ needs (codes "kind") team_kind ∷ []
members_for verb.AddMember = needs (codes "team") id ∷ needs (codes "user") id ∷ []
members_for verb.RemoveMember = needs (codes "team") id ∷ needs (codes "user") id ∷ []
members_for verb.AddRole = needs (codes "id") id ∷ needs (codes "inheritance") inheritance ∷ may (codes "manage") flag ∷ needs (codes "privileges") privileges ∷ []
members_for verb.SetPrivileges = needs (codes "role") id ∷ may (codes "manage") flag ∷ needs (codes "privileges") privileges ∷ []
members_for verb.GiveRole = needs (codes "role") id ∷ needs (codes "to") id ∷ []
members_for verb.TakeRole = needs (codes "role") id ∷ needs (codes "to") id ∷ []

-- the messages, each with its word
unfoldable pub messages : List (Case Rule)
messages = map (λ v. message (verb_word v) (members_for v)) verbs

-- the words of the messages
abbrev pub message_word : Form Rule
message_word = value (word_among (map verb_word verbs))

-- a page
abbrev pub page_schema : Schema Rule
page_schema = plain_schema (may (codes "size") integer ∷ may (codes "number") integer ∷ unless (codes "number") (codes "cookie") text ∷ may (codes "total") flag ∷ [])

-- a filter
abbrev pub filter_schema : Schema Rule
filter_schema = plain_schema (may (codes "op") all_or_any ∷ may (codes "conditions") conditions ∷ may (codes "filters") filters ∷ [])

-- a condition
abbrev pub condition_schema : Schema Rule
condition_schema = plain_schema (needs (codes "column") text ∷ may (codes "link") text ∷ needs (codes "is") operator ∷ may (codes "values") raws ∷ [])

-- a link
abbrev pub link_schema : Schema Rule
link_schema = plain_schema (needs (codes "table") text ∷ needs (codes "from") text ∷ needs (codes "to") text ∷ may (codes "join") join ∷ may (codes "alias") text ∷ may (codes "columns") names ∷ may (codes "filter") filter ∷ may (codes "links") links ∷ [])

-- an order
abbrev pub order_schema : Schema Rule
order_schema = plain_schema (needs (codes "column") text ∷ may (codes "link") text ∷ may (codes "desc") flag ∷ [])

-- the schema of each object
unfoldable pub rules : Rule → Schema Rule
rules Request = schema_by_do (needs (codes "caller") id ∷ needs (codes "do") message_word ∷ []) messages
rules Item = schema_by_do (needs (codes "do") message_word ∷ []) messages
rules (Body verb) = plain_schema (members_for verb)
rules Page = page_schema
rules Filter = filter_schema
rules Condition = condition_schema
rules Link = link_schema
rules Order = order_schema
