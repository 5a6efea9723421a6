-- A reply is printed as JSON: what a success says stands under `ok`, a refusal under `refused`.
use Rattle.std.specs.Prelude.{ℕ, List, Bool, ℤ, Option, Some, None, map, codes}
use Rattle.serde_json.specs.Data.{Data, null, boolean, number, unsigned, string, array, object, Members, no_members, member, put}
use Rattle.serde_json.specs.Find.{of_integer}
use Rattle.serde_json.specs.View.{items_of}
use Rattle.dv_value.specs.Printed.{text_data, id_data, version_data, raw_data, values_data}
use Rattle.dv_refusal.specs.Refusals.{refusal_members}
use Rattle.dv_value.specs.Tokens.{token_text}
use Rattle.dv_value.specs.declared.id.Id.{Id}
use Rattle.dv_value.specs.declared.raw.Raw.{Raw}
use Rattle.dv_refusal.specs.declared.refusal.Refusal.{Refusal}
use Rattle.dv_value.specs.declared.token.Token.{Token}
use Rattle.dv_request.specs.declared.reply.Change.{Change}
use Rattle.dv_request.specs.declared.reply.Change.TheVariants.{Row, Removed}
use Rattle.dv_request.specs.declared.reply.Share.{Share}
use Rattle.dv_request.specs.declared.reply.Reply.{Reply}
use Rattle.dv_request.specs.declared.reply.Reply.TheOpen.{Reply-F}
use Rattle.dv_request.specs.declared.reply.Reply.TheFolds.{fold-Reply}

-- an object of one member
abbrev pub one : List ℕ → Data → Data
one name d = object (member name d no_members)

-- a success that says these members
abbrev pub ok : Members → Data
ok members = one (codes "ok") (object members)

-- a list
abbrev pub list_data : List Data → Data
list_data ds = array (items_of ds)

-- a truth value, a number or a text, or null where there is none
abbrev pub bool_or_null : Option Bool → Data
bool_or_null None = null
bool_or_null (Some flag) = boolean flag

abbrev pub number_or_null : Option ℕ → Data
number_or_null None = null
number_or_null (Some n) = number (unsigned n)

abbrev pub text_or_null : Option (List ℕ) → Data
text_or_null None = null
text_or_null (Some text) = text_data text

-- the rights that a principal was given on a row
unfoldable pub share_data : Share → Data
share_data share = object (member (codes "direct") (number (unsigned share.direct)) (member (codes "inherited") (number (unsigned share.inherited)) (member (codes "principal") (id_data share.principal) no_members)))

-- a row as it is now, or the id of a removed one with the version of its removal
unfoldable pub change_data : Change → Data
change_data (Row row) = one (codes "row") (values_data row)
change_data (Removed id version) = object (member (codes "removed") (id_data id) (member (codes "version") (version_data version) no_members))

-- what a page says
abbrev pub page_members : Data → Bool → Data → Option ℕ → Option Bool → Members
page_members rows more cookie total over =
    member (codes "cookie") cookie (member (codes "more") (boolean more) (member (codes "over") (bool_or_null over)
    (member (codes "rows") rows (member (codes "total") (number_or_null total) no_members))))

-- what a list of changes says
abbrev pub changes_members : Data → Bool → Token → Members
changes_members changes more token = member (codes "changes") changes (member (codes "more") (boolean more) (member (codes "token") (string (token_text token)) no_members))

-- what a calculated rollup says
abbrev pub rolled_members : ℤ → Raw → Members
rolled_members state value = member (codes "state") (number (of_integer state)) (member (codes "value") (raw_data value) no_members)

-- what a caller is told of itself
abbrev pub caller_members : Id → Id → Data → Members
caller_members user unit teams = member (codes "teams") teams (member (codes "unit") (id_data unit) (member (codes "user") (id_data user) no_members))

-- the members of a refusal, and in a transaction the place of the request that is refused
abbrev pub with_item : Option ℕ → Members → Members
with_item None members = members
with_item (Some item) members = put (codes "item") (number (unsigned item)) members

-- a refusal
unfoldable pub refused_data : Refusal → Option ℕ → Data
refused_data refusal item = one (codes "refused") (object (with_item item (refusal_members refusal)))

-- one reply, with the replies in it already printed
abbrev pub reply_step : Reply-F Data → Data
reply_step Reply-F.Done = ok no_members
reply_step (Reply-F.Created id) = ok (member (codes "id") (id_data id) no_members)
reply_step (Reply-F.Found row) = ok (member (codes "row") (values_data row) no_members)
reply_step (Reply-F.Rights rights) = ok (member (codes "rights") (number (unsigned rights)) no_members)
reply_step (Reply-F.Shares shares) = ok (member (codes "shares") (list_data (map share_data shares)) no_members)
reply_step (Reply-F.Page rows more cookie total over) = ok (page_members (list_data (map values_data rows)) more (text_or_null cookie) total over)
reply_step (Reply-F.Changes changes more token) = ok (changes_members (list_data (map change_data changes)) more token)
reply_step (Reply-F.Rolled state value) = ok (rolled_members state value)
reply_step (Reply-F.Calculated calculated) = ok (member (codes "calculated") (number (unsigned calculated)) no_members)
reply_step (Reply-F.Caller user unit teams) = ok (caller_members user unit (list_data (map id_data teams)))
reply_step (Reply-F.Replies replies) = ok (member (codes "replies") (list_data replies) no_members)
reply_step (Reply-F.Refused refusal item) = refused_data refusal item

-- a reply as JSON
unfoldable pub reply_data : Reply → Data
reply_data = fold-Reply Data reply_step
